-- The slots of a run of lowered code, and those that the machine keeps open.
use Rattle.std.proofs.Common.{◌≡◌, ◌≤◌, ◌<◌, ◌+◌, ℕ, List, [], Bool, true, false, Some, map, length}
use Rattle.std.specs.Prelude.{take, drop, slice_get, replicate, sum, unwrap_or, option_map}
use Rattle.std.specs.List.{flat_map}
use Rattle.count_machine_model.specs.declared.machine_steps.address.Address.{Address}
use Rattle.count_machine_model.specs.declared.machine_steps.address.OpenSlot.{OpenSlot}
use Rattle.count_machine_model.specs.holder_model.RunTyping.StorageForms.{FieldShapeIs}
use Rattle.holder_model_values.specs.RunValues.Cells as cells
use Rattle.holder_model_values.specs.RunValues.Cells.{Cell, cell_count, in_cells}
use Rattle.holder_model_values.specs.RunValues.Leaves.{leaves_of}
use Rattle.holder_model_values.specs.RunValues.Places.{OnStack, Place}
use Rattle.holder_model_values.specs.RunValues.Shapes.{Shape, Unknown}
use Rattle.holder_model_values.specs.RunValues.Values.{Value}
use Rattle.holder_model_values.specs.declared.run_values.leaf.Leaf.{Leaf}
use Rattle.sil_ast.specs.declared.decl.Storage.{Storage}
use Rattle.count_machine_model.specs.ReadyCode.Layout.{size_of}
use Rattle.holder_model_values.specs.ValueParts.inner.Paths.{IsPart, cells_before, leaves_before}
use Rattle.holder_model_values.specs.ValueParts.inner.Suits.{ClassTest, suits}

pub data Content : Type 0 where
  Gone : Content
  Empty : Content
  Full : (x : Value) → Content

-- a slot that was made: its shape, and what it has now
pub record Made : Type 0 where
  pub shape : Shape
  pub content : Content

abbrev pub cells_in : Shape → Content → List Cell
cells_in s Gone = replicate (cell_count s) cells.Gone
cells_in s Empty = replicate (cell_count s) cells.Empty
cells_in s (Full x) = (in_cells s).cells x

abbrev pub made_cells : Made → List Cell
made_cells x = cells_in x.shape x.content

-- the cells of all slots that were made
abbrev pub stack_of : List Made → List Cell
stack_of made = flat_map made_cells made

abbrev pub made_width : Made → ℕ
made_width x = cell_count x.shape

-- the first cell of the slot with a number
abbrev pub first_cell : List Made → ℕ → ℕ
first_cell made n = sum (map made_width (take n made))

abbrev pub is_open_content : Content → Bool
is_open_content Gone = false
is_open_content Empty = true
is_open_content (Full x) = true

abbrev pub is_full_content : Content → Bool
is_full_content Gone = false
is_full_content Empty = false
is_full_content (Full x) = true

abbrev pub is_open : Made → Bool
is_open x = is_open_content x.content

-- the slot that the machine keeps at an index is one that was made, and it has its leaves
pub record OpenIsRight (made : List Made) (slots : List OpenSlot) (leaves : List Leaf) (j : ℕ) (slot : OpenSlot) : Type 0 where
  pub of : Made
  pub there : slice_get made slot.serial ≡ Some of
  pub open_ : is_open of ≡ true
  pub within : slot.from + size_of of.shape ≤ length leaves
  pub before : (i : ℕ) (other : OpenSlot) → slice_get slots i ≡ Some other → j < i → (slot.serial < other.serial) × (slot.from + size_of of.shape ≤ other.from)
  pub full : is_full_content of.content ≡ slot.is_full
  pub holds : (x : Value) → of.content ≡ Full x → take (size_of of.shape) (drop slot.from leaves) ≡ leaves_of of.shape x

-- the slots of the machine are those that were made and aren't gone, in order
pub record SlotsAgree (test : ClassTest) (made : List Made) (slots : List OpenSlot) (leaves : List Leaf) : Type 0 where
  pub each : (j : ℕ) (slot : OpenSlot) → slice_get slots j ≡ Some slot → OpenIsRight made slots leaves j slot
  pub all : (k : ℕ) (x : Made) → slice_get made k ≡ Some x → is_open x ≡ true → (j : ℕ) × (slot : OpenSlot) × (slice_get slots j ≡ Some slot) × (slot.serial ≡ k)
  pub shapes : (k : ℕ) (x : Made) → slice_get made k ≡ Some x → (w : Storage) × FieldShapeIs w x.shape
  pub suit : (k : ℕ) (x : Made) (v : Value) → slice_get made k ≡ Some x → x.content ≡ Full v → suits test x.shape v ≡ true

-- the place of a whole slot

abbrev pub made_shape : Made → Shape
made_shape x = x.shape

abbrev pub shape_made : List Made → ℕ → Shape
shape_made made k = unwrap_or (option_map made_shape (slice_get made k)) Unknown

abbrev pub slot_place : List Made → OpenSlot → Place
slot_place made slot = record { home = OnStack; first = first_cell made slot.serial; shape = shape_made made slot.serial; is_part = false }

-- an address in a slot names this place
pub record NamesSlot (made : List Made) (slots : List OpenSlot) (index serial : ℕ) (a : Address) (p : Place) : Type 0 where
  pub of : Made
  pub there : slice_get made serial ≡ Some of
  pub path : List ℕ
  pub part : IsPart of.shape path p.shape
  pub home : p.home ≡ OnStack
  pub first : p.first ≡ first_cell made serial + cells_before of.shape path
  pub from : a.from ≡ leaves_before of.shape path
  pub parts : a.is_part ≡ p.is_part
  pub whole : p.is_part ≡ false → path ≡ []
  pub no_part : path ≡ [] → p.is_part ≡ false
  pub now : is_open of ≡ true → (slot : OpenSlot) × (slice_get slots index ≡ Some slot) × (slot.serial ≡ serial)

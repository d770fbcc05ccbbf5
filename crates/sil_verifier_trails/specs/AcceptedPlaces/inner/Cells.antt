-- What cells hold on the trails of an accepted function: each operation of the next item finds its cell as its row needs it, and leaves it so.
use Rattle.std.specs.Prelude.{◌≡◌, ◌<◌, ℕ, List, [], ◌∷◌, Bool, true, false, cond, ◌&&◌, ◌||◌, Contains, Option, Some, None, unwrap_or}
use Rattle.std.specs.List.{list_any}
use Rattle.argument_conventions.specs.declared.row.AddressRow.{AddressRow}
use Rattle.argument_conventions.specs.declared.row.Content.{Content}
use Rattle.argument_conventions.specs.declared.row.Content.TheVariants.{Empty, Full}
use Rattle.sil_verifier_values.specs.memory_rules_accesses.Locations.{cell_of, location_of, object_built}
use Rattle.sil_verifier_values.specs.memory_rules_accesses.Operations.{addresses_of, deallocates, operations_of}
use Rattle.sil_verifier_values.specs.memory_rules_accesses.Rows.{is_part}
use Rattle.sil_verifier_values.specs.memory_rules_accesses.Sources.{is_slot, is_trivial_at, source_at, sources_of}
use Rattle.sil_verifier_values.specs.memory_rules_accesses.declared.access.Operated.{Operated}
use Rattle.sil_verifier_values.specs.memory_rules_accesses.declared.access.Operation.{Operation}
use Rattle.sil_verifier_values.specs.memory_rules_accesses.declared.location.Cell.{Cell}
use Rattle.sil_verifier_values.specs.memory_rules_accesses.declared.location.Location.{Location}
use Rattle.sil_verifier_values.specs.memory_rules_accesses.declared.source.Source.{Source}
use Rattle.sil_verifier_values.specs.memory_rules_accesses.declared.source.Source.TheVariants as source
use Rattle.sil_verifier_values.specs.memory_rules_parts.Contents.{deallocation_mark, left_mark, operation_mark, same_cell}
use Rattle.sil_verifier_values.specs.memory_rules_parts.Parts.{whole_cell}
use Rattle.sil_verifier_values.specs.memory_rules_parts.Switches.{is_same}
use Rattle.sil_verifier_values.specs.memory_rules_parts.declared.part.Part.{Part}
use Rattle.sil_verifier_values.specs.memory_rules_parts.declared.part.Part.TheVariants.{Contents}
use Rattle.sil_verifier_trails.specs.RunTrails.inner.RunTrails.{GoesOn, IsRunTrail}
use Rattle.sil_verifier_trails.specs.RunTrails.inner.Switched.{finds}
use Rattle.sil_verifier_trails.specs.AcceptedMemory.inner.PartTrails.{IsPartOf, is_on}
use Rattle.sil_verifier_values.specs.inner.Known.{InAccepted}
use Rattle.sil_cfg_items.specs.Items.{item_defined}
use Rattle.sil_cfg_items.specs.Parts.{inst_at, item_inst}
use Rattle.sil_verifier_values.specs.ownership_kinds_chains.OwnershipChains.Facts.{has}
use Rattle.sil_verifier_values.specs.reach_engine_marks.declared.path_patterns.mark.Mark.{Mark}
use Rattle.sil_ast.specs.declared.function.Function.{Function}
use Rattle.sil_ast.specs.declared.inst.Inst.{Inst}
use Rattle.sil_ast.specs.declared.place.PointId.{PointId}
use Rattle.sil_ast.specs.declared.place.ValueId.{ValueId}
use Rattle.sil_cfg.specs.Returns.{is_return}
use Rattle.sil_cfg.specs.declared.item.Item.{Item}
use Rattle.sil_cfg.specs.declared.item.Item.TheVariants as item
use Rattle.sil_verifier_values.specs.sil_types_declarations.TypeDefinitions.Declarations.{Declarations}

-- ---- which cells are followed: those of slots, of arguments that nobody shares, and of the fields of new objects. All others are always full

abbrev pub field_part : Option ValueId → ℕ → Option Part
field_part None k = None
field_part (Some object) k = Some (Contents (record { subject = object; field = Some k }) false None)

abbrev pub part_by : List Source → ValueId → Source → Option Part
part_by sources root (source.Slot trivial) = Some (Contents (whole_cell root) trivial None)
part_by sources root (source.Argument row trivial) = cond row.shared None (Some (Contents (whole_cell root) trivial (Some row.after)))
part_by sources root (source.Object fields) = None
part_by sources root (source.Borrow of) = None
part_by sources root (source.Upcast of) = None
part_by sources root (source.Loan of) = None
part_by sources root (source.Field of k trivial) = field_part (object_built sources of) k
part_by sources root (source.Part of k) = None
part_by sources root source.Other = None

-- the part that follows what is at a root
abbrev pub part_at : Declarations → Function → ValueId → Option Part
part_at d f root = part_by (sources_of d f) root (source_at (sources_of d f) root)

-- that of a slot or an argument is one of the function's
abbrev pub AreRootsFollowed : Type 0
AreRootsFollowed = InAccepted (λ d f. (root : ValueId) (p : Part) → part_at d f root ≡ Some p
    → ((of : ValueId) (k : ℕ) (trivial : Bool) → source_at (sources_of d f) root ≡ source.Field of k trivial → ⊥) → IsPartOf d f p)

-- so is that of each field of a new object
abbrev pub AreFieldsFollowed : Type 0
AreFieldsFollowed = InAccepted (λ d f. (object : ValueId) (k fields : ℕ) → source_at (sources_of d f) object ≡ source.Object fields → k < fields
    → IsPartOf d f (Contents (record { subject = object; field = Some k }) false None))

-- ---- what is done at a cell

-- what an operation at a location needs of its cell, and how it leaves it
abbrev pub mark_at : Declarations → Function → Location → Operation → Mark
mark_at d f l o = operation_mark (is_trivial_at (sources_of d f) l.root) (is_part l) o

-- the part is as the mark needs it where the trail has come to, and behind the item as the mark turns it
pub record IsFoundSo (d : Declarations) (f : Function) (t : List Item) (i : Item) (p : Part) (mark : Mark) : Type 0 where
  pub on : Bool
  pub was : is_on d f p t ≡ Some on
  pub found : finds mark.needs on ≡ true
  pub left : is_on d f p (i ∷ t) ≡ Some (unwrap_or mark.turns on)

-- the instruction at the point does the operation, at this location
pub record IsDoneAt (d : Declarations) (f : Function) (p : PointId) (o : Operated) (l : Location) : Type 0 where
  pub inst : Inst
  pub is : inst_at f p ≡ Some inst
  pub among : Contains (operations_of inst) o
  pub at : location_of (sources_of d f) o.address ≡ Some l

-- each operation of the next item finds its cell so
abbrev pub AreOperationsRight : Type 0
AreOperationsRight = InAccepted (λ d f. (t : List Item) (p : PointId) → IsRunTrail f (item.Inst p ∷ t) → (o : Operated) (l : Location) → IsDoneAt d f p o l
    → (trivial : Bool) (left : Option Content) → IsPartOf d f (Contents (cell_of (sources_of d f) l.root) trivial left)
    → IsFoundSo d f t (item.Inst p) (Contents (cell_of (sources_of d f) l.root) trivial left) (mark_at d f l o.operation))

-- at a root that isn't followed each operation needs the cell full, and leaves it so
pub record NeedsFull (mark : Mark) : Type 0 where
  pub found : finds mark.needs true ≡ true
  pub left : unwrap_or mark.turns true ≡ true

abbrev pub AreOthersFull : Type 0
AreOthersFull = InAccepted (λ d f. (p : PointId) (o : Operated) (l : Location) → IsDoneAt d f p o l → part_at d f l.root ≡ None
    → NeedsFull (mark_at d f l o.operation))

-- ---- other items

abbrev pub is_at_cell : List Source → Cell → Option Location → Bool
is_at_cell sources cell None = false
is_at_cell sources cell (Some l) = same_cell (cell_of sources l.root) cell

-- the operation is one at the cell
abbrev pub operates_on : List Source → Cell → Operated → Bool
operates_on sources cell o = is_at_cell sources cell (location_of sources o.address)

-- the instruction operates on the cell, or deallocates its slot
abbrev pub touches : List Source → Cell → Option Inst → Bool
touches sources cell None = false
touches sources cell (Some x) =
    list_any (operates_on sources cell) (operations_of x) || (deallocates x && list_any (λ v. is_slot sources v && is_same v cell.subject) (addresses_of x))

-- what an item neither touches nor makes it leaves as it was
abbrev pub AreCellsKept : Type 0
AreCellsKept = InAccepted (λ d f. (t : List Item) (i : Item) → IsRunTrail f (i ∷ t) → (cell : Cell) (trivial : Bool) (left : Option Content)
    → IsPartOf d f (Contents cell trivial left) → touches (sources_of d f) cell (item_inst f i) ≡ false → has (item_defined f i) cell.subject.0 ≡ false
    → is_on d f (Contents cell trivial left) (i ∷ t) ≡ is_on d f (Contents cell trivial left) t)

-- a new slot is empty, and so are the fields of a new object
abbrev pub AreNewEmpty : Type 0
AreNewEmpty = InAccepted (λ d f. (t : List Item) (i : Item) → IsRunTrail f (i ∷ t) → (cell : Cell) (trivial : Bool)
    → IsPartOf d f (Contents cell trivial None) → has (item_defined f i) cell.subject.0 ≡ true
    → is_on d f (Contents cell trivial None) (i ∷ t) ≡ Some false)

-- a slot is empty where it is deallocated, unless it is of a trivial type
abbrev pub AreDeallocatedEmpty : Type 0
AreDeallocatedEmpty = InAccepted (λ d f. (t : List Item) (i : Item) → IsRunTrail f (i ∷ t) → (x : Inst) (slot : ValueId) (trivial : Bool)
    → item_inst f i ≡ Some x → deallocates x ≡ true → addresses_of x ≡ slot ∷ [] → source_at (sources_of d f) slot ≡ source.Slot trivial
    → IsFoundSo d f t i (Contents (whole_cell slot) trivial None) (deallocation_mark trivial))

-- ---- arguments

abbrev pub is_full : Content → Bool
is_full Empty = false
is_full Full = true

-- the entry is given an argument's place as its row says
abbrev pub AreGivenSo : Type 0
AreGivenSo = InAccepted (λ d f. (v : ValueId) (row : AddressRow) (trivial : Bool) → source_at (sources_of d f) v ≡ source.Argument row trivial
    → row.shared ≡ false → has (item_defined f item.Entry) v.0 ≡ true
    → is_on d f (Contents (whole_cell v) trivial (Some row.after)) (item.Entry ∷ []) ≡ Some (is_full row.before))

-- no other item makes an argument of the entry
abbrev pub AreArgumentsMadeOnce : Type 0
AreArgumentsMadeOnce = InAccepted (λ d f. (t : List Item) (i : Item) → IsRunTrail f (i ∷ t) → GoesOn t → (v : ValueId) (row : AddressRow) (trivial : Bool)
    → source_at (sources_of d f) v ≡ source.Argument row trivial → has (item_defined f i) v.0 ≡ false)

-- where the next item returns, each cell is as its convention asks
abbrev pub AreReturnedSo : Type 0
AreReturnedSo = InAccepted (λ d f. (t : List Item) (i : Item) → IsRunTrail f (i ∷ t) → is_return f i ≡ true
    → (cell : Cell) (trivial : Bool) (left : Option Content) (mark : Mark) → IsPartOf d f (Contents cell trivial left) → left_mark trivial left ≡ Some mark
    → (on : Bool) × (is_on d f (Contents cell trivial left) t ≡ Some on) × (finds mark.needs on ≡ true))

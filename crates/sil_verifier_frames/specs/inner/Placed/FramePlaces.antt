-- The places of a frame: what its roots name, what is in their cells, and which of them it has lent.
use Rattle.std.specs.Prelude.{◌≡◌, ◌+◌, ◌==◌, ◌&&◌, ℕ, List, [], ◌∷◌, Bool, true, false, not, Some, slice_get}
use Rattle.std.specs.List.{list_any}
use Rattle.sil_verifier_trails.specs.AcceptedTrails.inner.Bases.{IsAsMade}
use Rattle.holder_model_laws.specs.memory_rules_accesses.Locations.{location_of}
use Rattle.holder_model_laws.specs.memory_rules_accesses.Rows.{is_part}
use Rattle.holder_model_laws.specs.memory_rules_accesses.Sources.{source_at, sources_of}
use Rattle.holder_model_laws.specs.memory_rules_accesses.declared.location.Location.{Location}
use Rattle.holder_model_laws.specs.memory_rules_accesses.declared.source.Source.{Source}
use Rattle.holder_model_laws.specs.memory_rules_accesses.declared.source.Source.TheVariants as source
use Rattle.sil_verifier_trails.specs.AcceptedPlaces.inner.Stacks.{slots_on}
use Rattle.argument_conventions.specs.declared.row.AddressRow.{AddressRow}
use Rattle.holder_model_laws.specs.holder_model.Data.{AddressOf}
use Rattle.holder_model_laws.specs.holder_model.Frames.{Entry, Frame, LentPlace, datum_in, entry_at}
use Rattle.holder_model_laws.specs.holder_model.States.{Drops, Finishes, Runs, Task}
use Rattle.holder_model_laws.specs.HolderLaws.inner.Cells.Cells.{AreApart, IsCell, IsInside, cell_at, has_cell}
use Rattle.holder_model_values.specs.RunValues.Memory.{Memory}
use Rattle.holder_model_values.specs.RunValues.Places.{OnStack, Place}
use Rattle.sil_ast.specs.declared.function.Function.{Function}
use Rattle.sil_ast.specs.declared.module.Module.{Module}
use Rattle.sil_ast.specs.declared.place.ValueId.{ValueId}
use Rattle.sil_types_declarations.specs.TypeDefinitions.Declarations.{Declarations, declarations_of}
use Rattle.holder_model_values.specs.ValueParts.inner.Paths.{IsPart, cells_before}
use Rattle.sil_verifier_frames.specs.inner.Placed.Roots.{IsThere, is_full_on, is_shared}

-- the value's entry is the address of this place
abbrev pub Names : List Entry → ValueId → Place → Type 0
Names entries v p = datum_in (entry_at entries v) ≡ Some (AddressOf p)

-- the place has the cell, and is lent so that nobody shares it
abbrev pub lends : ℕ → LentPlace → Bool
lends n l = not l.row.shared && has_cell l.place n

abbrev pub is_lent : List LentPlace → ℕ → Bool
is_lent lent n = list_any (lends n) lent

-- the place is the part of another one at this path
pub record IsPartAt (whole : Place) (path : List ℕ) (p : Place) : Type 0 where
  pub home : p.home ≡ whole.home
  pub shape : IsPart whole.shape path p.shape
  pub first : p.first ≡ whole.first + cells_before whole.shape path
  pub part : p.is_part ≡ true

-- addresses of fields, and of what lies in fields, name no place on the stack
abbrev pub AreFieldsInside : List Source → List Entry → Type 0
AreFieldsInside sources entries = (v : ValueId) (l : Location) → location_of sources v ≡ Some l → (of : ValueId) (k : ℕ) (trivial : Bool)
    → source_at sources l.root ≡ source.Field of k trivial → (p : Place) → Names entries v p → p.home ≡ OnStack → ⊥

-- the slots of a frame are named by these values, one by one, and none is a part
abbrev pub AreSlotsOf : List Entry → List ValueId → List Place → Type 0
AreSlotsOf entries [] [] = Unit {0}
AreSlotsOf entries [] (p ∷ ps) = ⊥
AreSlotsOf entries (v ∷ vs) [] = ⊥
AreSlotsOf entries (v ∷ vs) (p ∷ ps) = Names entries v p × (p.is_part ≡ false) × AreSlotsOf entries vs ps

module _ (d : Declarations) (f : Function) where
  -- the frame has lent the cell wherever one of its roots has it: it keeps it nowhere for itself
  abbrev pub Frees : Frame → ℕ → Type 0
  Frees frame n = (v : ValueId) (p : Place) → IsThere d f frame.trail v → Names frame.entries v p → has_cell p n ≡ true → is_lent frame.lent n ≡ true

module _ (m : Module) where
  -- no frame among the tasks keeps the cell for itself
  abbrev pub IsFree : List (Task Frame) → ℕ → Type 0
  IsFree [] n = Unit {0}
  IsFree (Runs frame ∷ rest) n = ((f : Function) → slice_get m.functions frame.function.0 ≡ Some f → Frees (declarations_of m) f frame n) × IsFree rest n
  IsFree (Drops references ∷ rest) n = IsFree rest n
  IsFree (Finishes deinits o ∷ rest) n = IsFree rest n

module _ (m : Module) (memory : Memory) where
  -- the root names a place on the stack, whose cells are there
  pub record IsNamed (entries : List Entry) (v : ValueId) : Type 0 where
    pub place : Place
    pub names : Names entries v place
    pub home : place.home ≡ OnStack
    pub inside : IsInside memory place

  -- what a frame of the function holds over these tasks
  pub record HoldsPlaces (f : Function) (frame : Frame) (rest : List (Task Frame)) : Type 0 where
    -- each root that is there names a place
    pub named : (v : ValueId) → IsThere (declarations_of m) f frame.trail v → IsNamed frame.entries v
    -- whose cells are full or empty as the trail says, but for those that are lent
    pub cells : (v : ValueId) → IsThere (declarations_of m) f frame.trail v → (p : Place) → Names frame.entries v p
        → (on : Bool) → is_full_on (declarations_of m) f v frame.trail ≡ Some on
        → (n : ℕ) → has_cell p n ≡ true → is_lent frame.lent n ≡ false → IsCell on (cell_at memory OnStack n)
    -- the places of two roots that aren't both shared are apart
    pub apart : (v w : ValueId) → IsThere (declarations_of m) f frame.trail v → IsThere (declarations_of m) f frame.trail w → (v.0 == w.0) ≡ false
        → (is_shared (declarations_of m) f v && is_shared (declarations_of m) f w) ≡ false
        → (p q : Place) → Names frame.entries v p → Names frame.entries w q → AreApart p q
    -- and of one that isn't shared no frame below keeps a cell for itself
    pub free : (v : ValueId) → IsThere (declarations_of m) f frame.trail v → is_shared (declarations_of m) f v ≡ false → (p : Place) → Names frame.entries v p
        → (n : ℕ) → has_cell p n ≡ true → IsFree m rest n
    -- an address names the part at its location, while its root is the one at which it was named
    pub parts : (v : ValueId) (l : Location) → location_of (sources_of (declarations_of m) f) v ≡ Some l → is_part l ≡ true
        → IsAsMade f frame.trail l.root v
        → (whole p : Place) → Names frame.entries l.root whole → Names frame.entries v p → IsPartAt whole l.path p
    pub fields : AreFieldsInside (sources_of (declarations_of m) f) frame.entries
    -- the place of an argument is a whole one
    pub handed : (v : ValueId) (row : AddressRow) (trivial : Bool) → source_at (sources_of (declarations_of m) f) v ≡ source.Argument row trivial
        → (p : Place) → Names frame.entries v p → p.is_part ≡ false
    -- the slots are those that are allocated, the newest first
    pub slots : AreSlotsOf frame.entries (slots_on (declarations_of m) f frame.trail) frame.slots

-- Guards: why an object that a lent entry names is held. By an Owned value, by what called the function, by what an open scope borrows,
-- or by a cell that an open scope lends.
use Rattle.std.specs.Prelude.{◌≡◌, ◌⊎◌, ◌<◌, ℕ, List, Bool, true, length, Ok, Some, slice_get}
use Rattle.sil_ast.specs.Blocks.{args_of}
use Rattle.sil_ast.specs.declared.decl.Storage.TheVariants as storage
use Rattle.sil_ast.specs.declared.function.Function.{Function}
use Rattle.sil_ast.specs.declared.place.ObjectId.{ObjectId}
use Rattle.sil_ast.specs.declared.place.ValueId.{ValueId}
use Rattle.sil_cfg.specs.declared.item.Item.{Item}
use Rattle.sil_types_declarations.specs.TypeDefinitions.Declarations.{Declarations}
use Rattle.holder_model_values.specs.RunValues.Cells.{Keeps}
use Rattle.holder_model_values.specs.RunValues.Memory.{Memory}
use Rattle.holder_model_values.specs.RunValues.Values.{Value, references_of}
use Rattle.numbered_form.specs.ValueTables.Borrows.{is_borrow}
use Rattle.sil_verifier_frames.specs.holder_model.Data.{Datum, references_in}
use Rattle.sil_verifier_frames.specs.holder_model.Frames.{Entry, Gone, Held, Lent, entry_at, made_entry}
use Rattle.sil_verifier_frames.specs.holder_model.Holders.{of_references, one_object}
use Rattle.sil_verifier_frames.specs.sil_verifier_trails.AcceptedTrails.inner.Bases.{IsBaseOf}
use Rattle.sil_verifier_frames.specs.sil_verifier_trails.AcceptedTrails.inner.Defined.{makes}
use Rattle.sil_verifier_frames.specs.sil_verifier_trails.AcceptedTrails.inner.Lives.{BorrowsFrom}
use Rattle.sil_verifier_frames.specs.sil_verifier_trails.RunTrails.inner.Since.{is_none_since}
use Rattle.sil_verifier_frames.specs.sil_verifier_values.inner.Known.{kind_at}

-- the object stands among the references
abbrev pub IsNamed : ObjectId → List ObjectId → Type 0
IsNamed o os = 0 < of_references (one_object o) os

abbrev pub IsThere : Entry → Type 0
IsThere e = e ≡ Gone → ⊥

-- an argument of the entry
abbrev pub IsArgument : Function → ValueId → Type 0
IsArgument f v = v.0 < length (args_of f 0)

-- the cell of a slot keeps the value strongly
abbrev pub KeepsAt : Memory → ℕ → Value → Type 0
KeepsAt m k y = slice_get m.stack k ≡ Some (Keeps storage.Strong y)

-- which cells a scope lends, by their numbers: only those of slots are lent
abbrev pub Lending : Type 0
Lending = ValueId → ℕ → Bool

module _ (d : Declarations) (f : Function) where
  -- each entry was made as the kind of its value asks, or isn't there
  abbrev pub AreOfKinds : List Entry → Type 0
  AreOfKinds entries = (v : ValueId) → (entry_at entries v ≡ Gone) ⊎ ((x : Datum) × (made_entry (kind_at d f v) x ≡ Ok (entry_at entries v)))

  module _ (lends : Lending) (m : Memory) (entries : List Entry) where
    -- the object is held while this value stays
    pub data Guard (o : ObjectId) : ValueId → Type 0 where
      owner : (b : ValueId) (x : Datum) → entry_at entries b ≡ Held x → IsNamed o (references_in x) → Guard o b
      argument : (b : ValueId) (x : Datum) → IsArgument f b → entry_at entries b ≡ Lent x → IsNamed o (references_in x) → Guard o b
      scope : (s b : ValueId) (x : Datum) → is_borrow f s ≡ true → entry_at entries s ≡ Lent x → BorrowsFrom d f s b → Guard o b → Guard o s
      loan : (s : ValueId) (x : Datum) (k : ℕ) (y : Value) → is_borrow f s ≡ true → entry_at entries s ≡ Lent x → lends s k ≡ true
          → KeepsAt m k y → IsNamed o (references_of y) → Guard o s

    -- one of its bases guards what the value names
    pub record IsGuarded (o : ObjectId) (v : ValueId) : Type 0 where
      pub base : ValueId
      pub is_base : IsBaseOf d f base v
      pub guard : Guard o base

    -- each base of the value is there, and hasn't begun anew since the value was made
    abbrev pub IsCurrent : List Item → ValueId → Type 0
    IsCurrent t v = (b : ValueId) → IsBaseOf d f b v → IsThere (entry_at entries b) × (is_none_since (makes f b) (makes f v) t ≡ true)

    -- what a lent entry names is guarded while its bases stay
    abbrev pub AreLentGuarded : List Item → Type 0
    AreLentGuarded t = (v : ValueId) (x : Datum) → entry_at entries v ≡ Lent x → IsCurrent t v → (o : ObjectId) → IsNamed o (references_in x) → IsGuarded o v

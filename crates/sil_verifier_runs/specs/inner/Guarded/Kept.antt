-- What keeps guards, and what it says: a guarded object isn't dead.
use Rattle.std.specs.Prelude.{◌≡◌, ◌⊎◌, ◌<◌, ◌+◌, ℕ, List, ◌∷◌, true, false, Ok, Err, Some, slice_get}
use Rattle.sil_ast.specs.declared.decl.Storage.TheVariants as storage
use Rattle.sil_ast.specs.declared.function.Function.{Function}
use Rattle.sil_ast.specs.declared.module.Module.{Module}
use Rattle.sil_ast.specs.declared.place.ObjectId.{ObjectId}
use Rattle.sil_ast.specs.declared.place.ValueId.{ValueId}
use Rattle.sil_cfg.specs.declared.item.Item.{Item}
use Rattle.sil_cfg_items.specs.Items.{item_defined}
use Rattle.sil_cfg_items.specs.declared.taken.Taken.{Taken}
use Rattle.numbered_form.specs.Lists.{Each}
use Rattle.sil_types_declarations.specs.TypeDefinitions.Declarations.{Declarations, declarations_of}
use Rattle.holder_model_values.specs.RunValues.Memory.{Memory, is_dead}
use Rattle.holder_model_values.specs.RunValues.Values.{Value, references_of}
use Rattle.numbered_form.specs.ValueTables.Borrows.{is_borrow}
use Rattle.sil_verifier_frames.specs.sil_verifier_trails.AcceptedTrails.inner.Bases.{IsBaseOf}
use Rattle.sil_verifier_frames.specs.sil_verifier_trails.AcceptedTrails.inner.Defined.{makes}
use Rattle.sil_verifier_frames.specs.sil_verifier_trails.AcceptedTrails.inner.Lives.{BorrowsFrom}
use Rattle.sil_verifier_frames.specs.ownership_kinds_origins.Facts.{facts_in}
use Rattle.sil_verifier_frames.specs.sil_verifier_values.inner.Known.{kind_at}
use Rattle.sil_verifier_frames.specs.holder_model.Data.{Datum, references_in}
use Rattle.sil_verifier_frames.specs.holder_model.Faults.{NamesDead}
use Rattle.sil_verifier_frames.specs.holder_model.Frames.{Entry, Frame, Held, Lent, entry_at, made_entry, operands_of, results_put, without_ended}
use Rattle.sil_verifier_frames.specs.holder_model.Holders.{in_memory, one_object}
use Rattle.sil_verifier_frames.specs.holder_model.HolderStates.{HolderState}
use Rattle.sil_verifier_frames.specs.holder_model.States.{Runs, Task}
use Rattle.sil_verifier_frames.specs.holder_model_laws.HolderLaws.inner.Counts.Taking.{in_entries}
use Rattle.sil_verifier_runs.specs.inner.Guarded.Guards.{AreLentGuarded, AreOfKinds, Guard, IsArgument, IsCurrent, IsNamed, IsThere, KeepsAt, Lending}
use Rattle.sil_verifier_runs.specs.inner.Guarded.GuardedStates.{IsGuardedIn, IsGuardedState, Loans}

-- a scope, or an argument of the entry: what is lent and guards
abbrev pub IsAnchor : Function → ValueId → Type 0
IsAnchor f v = (is_borrow f v ≡ true) ⊎ IsArgument f v

-- ---- guards stay where what they rest on does

module _ (d : Declarations) (f : Function) (lends lends' : Lending) (m m' : Memory) (entries now : List Entry) where
  -- of what may guard, all that is there still is as it was; what an open scope borrows is there still, and what it lends is kept
  pub record StayAnchored : Type 0 where
    pub held : (v : ValueId) (x : Datum) → entry_at entries v ≡ Held x → IsThere (entry_at now v) → entry_at now v ≡ Held x
    pub lent : (v : ValueId) (x : Datum) → IsAnchor f v → entry_at entries v ≡ Lent x → IsThere (entry_at now v) → entry_at now v ≡ Lent x
    pub borrowed : (s b : ValueId) (x : Datum) → is_borrow f s ≡ true → entry_at entries s ≡ Lent x → IsThere (entry_at now s) → BorrowsFrom d f s b
        → IsThere (entry_at entries b) → IsThere (entry_at now b)
    pub lending : (s : ValueId) (x : Datum) (k : ℕ) (y : Value) → is_borrow f s ≡ true → entry_at entries s ≡ Lent x → IsThere (entry_at now s)
        → lends s k ≡ true → KeepsAt m k y → (lends' s k ≡ true) × KeepsAt m' k y

abbrev pub AreGuardsKept : Type 0
AreGuardsKept = (d : Declarations) (f : Function) (lends lends' : Lending) (m m' : Memory) (entries now : List Entry)
    → StayAnchored d f lends lends' m m' entries now
    → (o : ObjectId) (b : ValueId) → Guard d f lends m entries o b → IsThere (entry_at now b) → Guard d f lends' m' now o b

-- ---- what is guarded has a strong holder, or comes from an argument

pub data IsHeldSomehow (f : Function) (m : Memory) (entries : List Entry) (o : ObjectId) : Type 0 where
  here : 0 < in_entries (one_object o) entries + in_memory (one_object o) storage.Strong m → IsHeldSomehow f m entries o
  from_argument : (a : ValueId) (x : Datum) → IsArgument f a → entry_at entries a ≡ Lent x → IsNamed o (references_in x) → IsHeldSomehow f m entries o

abbrev pub HaveGuardedHolders : Type 0
HaveGuardedHolders = (d : Declarations) (f : Function) (lends : Lending) (m : Memory) (entries : List Entry) (o : ObjectId) (b : ValueId)
    → Guard d f lends m entries o b → IsHeldSomehow f m entries o

-- so what is guarded in the frame that goes on isn't dead
abbrev pub AreGuardedAlive : Type 0
AreGuardedAlive = (m : Module) (loans : Loans) (s : HolderState) (frame : Frame) (rest : List (Task Frame)) (o : ObjectId) → IsGuardedState m loans s
    → s.tasks ≡ Runs frame ∷ rest → IsGuardedIn m loans s.memory frame o → is_dead s.memory o ≡ false

-- ---- operands

-- an operand whose bases are there, as they were when it was made, is guarded in all that it names
abbrev pub AreOperandsGuarded : Type 0
AreOperandsGuarded = (d : Declarations) (f : Function) (lends : Lending) (m : Memory) (entries : List Entry) (t : List Item) (v : ValueId) (x : Datum)
    (o : ObjectId)
    → AreLentGuarded d f lends m entries t → IsCurrent d f lends m entries t v
    → (entry_at entries v ≡ Held x) ⊎ (entry_at entries v ≡ Lent x) → IsNamed o (references_in x)
    → (b : ValueId) × Guard d f lends m entries o b

-- and names no dead object
abbrev pub AreOperandsAlive : Type 0
AreOperandsAlive = (m : Module) (loans : Loans) (s : HolderState) (frame : Frame) (rest : List (Task Frame)) (f : Function) (ts : List Taken)
    → IsGuardedState m loans s
    → s.tasks ≡ Runs frame ∷ rest → slice_get m.functions frame.function.0 ≡ Some f
    → Each (λ (x : Taken). IsCurrent (declarations_of m) f (loans f frame) s.memory frame.entries frame.trail x.value) ts
    → operands_of (facts_in (declarations_of m) f) s.memory frame.entries ts ≡ Err NamesDead → ⊥

-- ---- an item

-- behind the ends of an item lent entries are guarded still, where what open scopes borrow doesn't end
abbrev pub AreGuardedLeft : Type 0
AreGuardedLeft = (d : Declarations) (f : Function) (lends : Lending) (m : Memory) (entries left : List Entry) (t : List Item) (ts : List Taken)
    → AreOfKinds d f entries → AreLentGuarded d f lends m entries t → without_ended (facts_in d f) ts entries ≡ Ok left
    → ((s b : ValueId) (x : Datum) → is_borrow f s ≡ true → entry_at entries s ≡ Lent x → IsThere (entry_at left s) → BorrowsFrom d f s b
    → IsThere (entry_at entries b) → IsThere (entry_at left b))
    → AreOfKinds d f left × AreLentGuarded d f lends m left t

module _ (d : Declarations) (f : Function) (lends lends' : Lending) (m m' : Memory) (left : List Entry) (o : ObjectId) where
  -- why what a new lent entry names is guarded
  pub data IsNewlyGuarded (v : ValueId) : Type 0 where
    by_caller : IsArgument f v → IsBaseOf d f v v → IsNewlyGuarded v
    borrows : (b : ValueId) → is_borrow f v ≡ true → IsBaseOf d f v v → BorrowsFrom d f v b → Guard d f lends m left o b → IsNewlyGuarded v
    lends_cell : (k : ℕ) (y : Value) → is_borrow f v ≡ true → IsBaseOf d f v v → lends' v k ≡ true → KeepsAt m' k y
        → IsNamed o (references_of y) → IsNewlyGuarded v
    by_base : (b : ValueId) → IsBaseOf d f b v → Guard d f lends m left o b → IsNewlyGuarded v

-- how an item's results are put where entries are guarded: no scope that is open, and no argument, begins anew; what open scopes lend is kept;
-- and what is lent anew is guarded
pub record ArePutRight (d : Declarations) (f : Function) (lends lends' : Lending) (m m' : Memory) (i : Item) (xs : List Datum)
    (left : List Entry) : Type 0 where
  pub anchors : (v : ValueId) (x : Datum) → IsAnchor f v → entry_at left v ≡ Lent x → makes f v i ≡ false
  pub lending : (s : ValueId) (x : Datum) (k : ℕ) (y : Value) → is_borrow f s ≡ true → entry_at left s ≡ Lent x → lends s k ≡ true
      → KeepsAt m k y → (lends' s k ≡ true) × KeepsAt m' k y
  pub made : (n : ℕ) (v : ValueId) (x : Datum) (o : ObjectId) → slice_get (item_defined f i) n ≡ Some v → slice_get xs n ≡ Some x
      → made_entry (kind_at d f v) x ≡ Ok (Lent x) → IsNamed o (references_in x) → IsNewlyGuarded d f lends lends' m m' left o v

-- behind an item, then, lent entries are guarded along the longer trail
abbrev pub AreGuardedBehind : Type 0
AreGuardedBehind = (d : Declarations) (f : Function) (lends lends' : Lending) (m m' : Memory) (left behind : List Entry) (t : List Item) (i : Item)
    (xs : List Datum)
    → AreOfKinds d f left → AreLentGuarded d f lends m left t → results_put (facts_in d f) (item_defined f i) xs left ≡ Ok behind
    → ArePutRight d f lends lends' m m' i xs left
    → AreOfKinds d f behind × AreLentGuarded d f lends' m' behind (i ∷ t)

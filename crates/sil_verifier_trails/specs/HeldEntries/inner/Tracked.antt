-- Entries that go along with the marks of a trail: an Owned value's holds while the value is held, and a scope's is lent while the scope is open.
use Rattle.std.specs.Prelude.{◌≡◌, ◌⊎◌, List, ◌∷◌, ◌++◌, Bool, true, false, Option, Some, option_map}
use Rattle.std.specs.List.{list_any}
use Rattle.sil_verifier_trails.specs.AcceptedTrails.inner.Accepted.{IsAcceptedIn}
use Rattle.sil_verifier_trails.specs.AcceptedTrails.inner.Bases.{IsBaseOf}
use Rattle.sil_verifier_trails.specs.AcceptedTrails.inner.Lives as lives
use Rattle.sil_verifier_trails.specs.AcceptedTrails.inner.Lives.{IsOwnedIn, IsScopeIn, is_open}
use Rattle.sil_verifier_trails.specs.AcceptedTrails.inner.Passing.{is_use, left_by}
use Rattle.sil_verifier_values.specs.holder_model.Data.{Datum}
use Rattle.sil_verifier_values.specs.holder_model.Frames.{Entry, Gone, Held, Lent, ends, entry_at, is_held}
use Rattle.sil_cfg_items.specs.Items.{item_defined, item_taken}
use Rattle.sil_cfg_items.specs.declared.taken.Taken.{Taken}
use Rattle.sil_verifier_values.specs.ownership_kinds_origins.Facts.{facts_in}
use Rattle.sil_verifier_trails.specs.RunTrails.inner.RunTrails.{IsTurnedTrail}
use Rattle.sil_ast.specs.declared.function.Function.{Function}
use Rattle.sil_ast.specs.declared.place.ValueId.{ValueId}
use Rattle.sil_cfg.specs.Returns.{is_return}
use Rattle.sil_cfg.specs.declared.item.Item.{Item}
use Rattle.sil_verifier_values.specs.sil_types_declarations.TypeDefinitions.Declarations.{Declarations}
use Rattle.sil_verifier_trails.specs.HeldEntries.inner.Entries.{AreEnded, AreMade, Begin, MayEnd}

-- the entry is of the form while the value is on, and gone while it is off
abbrev pub IsWhile : (Datum → Entry) → Bool → Entry → Type 0
IsWhile form true e = (x : Datum) × (e ≡ form x)
IsWhile form false e = e ≡ Gone

abbrev pub HoldsWhile : Bool → Entry → Type 0
HoldsWhile on e = IsWhile Held on e

abbrev pub LendsWhile : Bool → Entry → Type 0
LendsWhile on e = IsWhile Lent on e

-- a scope that is its own base, as all are
pub record IsOwnScope (d : Declarations) (f : Function) (s : ValueId) : Type 0 where
  pub scope : IsScopeIn d f s
  pub own : IsBaseOf d f s s

module _ (d : Declarations) (f : Function) where
  -- the entries go along with what is held and open
  pub record AreTrackedBy (held opened : ValueId → Option Bool) (entries : List Entry) : Type 0 where
    pub owned : (v : ValueId) → IsOwnedIn d f v → (on : Bool) → held v ≡ Some on → HoldsWhile on (entry_at entries v)
    pub scopes : (s : ValueId) → IsOwnScope d f s → (on : Bool) → opened s ≡ Some on → LendsWhile on (entry_at entries s)

  -- behind a trail
  abbrev pub AreTracked : List Item → List Entry → Type 0
  AreTracked t entries = AreTrackedBy (λ v. lives.is_held d f v t) (λ s. is_open d f s t) entries

  -- and behind the ends of the next item
  abbrev pub AreTrackedLeft : List Item → Item → List Entry → Type 0
  AreTrackedLeft t i left = AreTrackedBy (λ v. option_map (left_by (facts_in d f) v f i) (lives.is_held d f v t))
      (λ s. option_map (left_by (facts_in d f) s f i) (is_open d f s t)) left

  -- what an item ends is an Owned value or a scope
  abbrev pub EndsWhatMayEnd : Item → Type 0
  EndsWhatMayEnd i = (front rest : List Taken) (x : Taken) → item_taken f i ≡ front ++ x ∷ rest → ends (facts_in d f) x ≡ true
      → IsOwnedIn d f x.value ⊎ IsOwnScope d f x.value

-- the operands that the next item ends are there, and behind its ends the entries go along still
abbrev pub MayEndWhereTracked : Type 0
MayEndWhereTracked = (d : Declarations) (f : Function) → IsAcceptedIn d f → (t : List Item) (i : Item) → IsTurnedTrail f (i ∷ t) → EndsWhatMayEnd d f i
    → (entries : List Entry) → AreTracked d f t entries → MayEnd (facts_in d f) (item_taken f i) entries
    × ((left : List Entry) → AreEnded (facts_in d f) (item_taken f i) entries left → AreTrackedLeft d f t i left)

-- behind the ends, the Owned values and scopes that the item uses are there
abbrev pub AreThereWhereUsed : Type 0
AreThereWhereUsed = (d : Declarations) (f : Function) → IsAcceptedIn d f → (t : List Item) (i : Item) → IsTurnedTrail f (i ∷ t)
    → (left : List Entry) → AreTrackedLeft d f t i left
    → ((v : ValueId) → IsOwnedIn d f v → list_any (is_use (facts_in d f) v) (item_taken f i) ≡ true → HoldsWhile true (entry_at left v))
    × ((s : ValueId) → IsOwnScope d f s → list_any (is_use (facts_in d f) s) (item_taken f i) ≡ true → LendsWhile true (entry_at left s))

-- behind its results they go along with the longer trail
abbrev pub AreTrackedBehind : Type 0
AreTrackedBehind = (d : Declarations) (f : Function) → IsAcceptedIn d f → (t : List Item) (i : Item) → IsTurnedTrail f (i ∷ t)
    → (xs : List Datum) (es left : List Entry) → AreTrackedLeft d f t i left → AreMade (facts_in d f) (item_defined f i) xs es
    → (put : Begin (facts_in d f) (item_defined f i) xs es left) → AreTracked d f (i ∷ t) put.behind

-- behind the ends of a `return` no Owned value is held
abbrev pub NoneHeldAtReturn : Type 0
NoneHeldAtReturn = (d : Declarations) (f : Function) → IsAcceptedIn d f → (t : List Item) (i : Item) → IsTurnedTrail f (i ∷ t) → is_return f i ≡ true
    → (left : List Entry) → AreTrackedLeft d f t i left → (v : ValueId) → IsOwnedIn d f v → is_held (entry_at left v) ≡ false

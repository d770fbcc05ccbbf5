-- The bases of values, on the trails of an accepted function: those of an operand are as they were when the operand was made,
-- and those of what an open scope borrows stay held, or open, as long as the scope is.
use Rattle.std.specs.Prelude.{◌≡◌, ◌⊎◌, List, ◌∷◌, Bool, true, Some}
use Rattle.std.specs.List.{list_any}
use Rattle.sil_cfg_items.specs.Items.{item_taken}
use Rattle.sil_cfg_items.specs.declared.taken.Taken.{Taken}
use Rattle.numbered_form.specs.Lists.{Each}
use Rattle.sil_verifier_values.specs.ownership_kinds_chains.OwnershipChains.Facts.{has, known_or}
use Rattle.sil_verifier_values.specs.ownership_kinds_origins.Facts.{facts_in}
use Rattle.sil_ast.specs.declared.function.Function.{Function}
use Rattle.sil_ast.specs.declared.place.ValueId.{ValueId}
use Rattle.sil_cfg.specs.Items.{IsItem, flow_of}
use Rattle.sil_cfg.specs.declared.item.Item.{Item}
use Rattle.sil_cfg.specs.inner.Splice.{Stop, is_at}
use Rattle.sil_verifier_values.specs.sil_types_declarations.TypeDefinitions.Declarations.{Declarations}
use Rattle.sil_verifier_trails.specs.RunTrails.inner.RunTrails.{IsTurnedTrail}
use Rattle.sil_verifier_trails.specs.RunTrails.inner.Since.{is_none_since}
use Rattle.sil_verifier_trails.specs.AcceptedTrails.inner.Accepted.{IsAcceptedIn}
use Rattle.sil_verifier_trails.specs.AcceptedTrails.inner.Defined.{IsDefinedOn, makes}
use Rattle.sil_verifier_trails.specs.AcceptedTrails.inner.Lives.{BorrowsFrom, IsOwnedIn, IsScopeIn, is_held, is_open}
use Rattle.sil_verifier_trails.specs.AcceptedTrails.inner.Passing.{is_use}

-- the one is a base of the other
abbrev pub IsBaseOf : Declarations → Function → ValueId → ValueId → Type 0
IsBaseOf d f b v = has (known_or (facts_in d f) v).bases b.0 ≡ true

-- ---- what the laws ask of the function, which numbered form and typing give

-- the operand has this base
abbrev pub rests_on : Declarations → Function → ValueId → Taken → Bool
rests_on d f b x = has (known_or (facts_in d f) x.value).bases b.0

-- a value's bases are itself, and bases of what the item takes that makes it
abbrev pub HasBasesOfTaken : Declarations → Function → Type 0
HasBasesOfTaken d f = (i : Item) (v b : ValueId) → IsItem f i → makes f v i ≡ true → IsBaseOf d f b v
    → (b.0 ≡ v.0) ⊎ (list_any (rests_on d f b) (item_taken f i) ≡ true)

-- a value is made by one item, or by all edges into one block
abbrev pub MakesAtStops : Function → Type 0
MakesAtStops f = (v : ValueId) (j : Item) → IsItem f j → makes f v j ≡ true
    → (s : Stop) × ((i : Item) → IsItem f i → makes f v i ≡ is_at (flow_of f) s i)

-- what opens a scope uses what the scope borrows from
abbrev pub UsesBorrowed : Declarations → Function → Type 0
UsesBorrowed d f = (s b : ValueId) (i : Item) → IsItem f i → makes f s i ≡ true → BorrowsFrom d f s b
    → list_any (is_use (facts_in d f) b) (item_taken f i) ≡ true

-- ---- operands

-- the base was made when the value was or before, and not anew since
pub record IsAsMade (f : Function) (t : List Item) (b v : ValueId) : Type 0 where
  pub defined : IsDefinedOn f t b
  pub since : is_none_since (makes f b) (makes f v) t ≡ true

-- so is each base of what the next item takes
abbrev pub HasBasesAsMade : Declarations → Function → List Item → Taken → Type 0
HasBasesAsMade d f t x = (b : ValueId) → IsBaseOf d f b x.value → IsAsMade f t b x.value

abbrev pub AreBasesAsMade : Type 0
AreBasesAsMade = (d : Declarations) (f : Function) → IsAcceptedIn d f → HasBasesOfTaken d f → MakesAtStops f
    → (t : List Item) (i : Item) → IsTurnedTrail f (i ∷ t) → Each (HasBasesAsMade d f t) (item_taken f i)

-- ---- open scopes

-- an Owned value that an open scope borrows is held, and is the one that was borrowed
abbrev pub AreBorrowedHeld : Type 0
AreBorrowedHeld = (d : Declarations) (f : Function) → IsAcceptedIn d f → UsesBorrowed d f → (s b : ValueId) → IsScopeIn d f s → IsOwnedIn d f b
    → BorrowsFrom d f s b → (t : List Item) → IsTurnedTrail f t → is_open d f s t ≡ Some true
    → (is_held d f b t ≡ Some true) × (is_none_since (makes f b) (makes f s) t ≡ true)

-- a scope from which an open one borrows is open, and is the one from which it borrowed
abbrev pub AreBorrowedOpen : Type 0
AreBorrowedOpen = (d : Declarations) (f : Function) → IsAcceptedIn d f → UsesBorrowed d f → (s b : ValueId) → IsScopeIn d f s → IsScopeIn d f b
    → IsBaseOf d f b b → BorrowsFrom d f s b → (t : List Item) → IsTurnedTrail f t → is_open d f s t ≡ Some true
    → (is_open d f b t ≡ Some true) × (is_none_since (makes f b) (makes f s) t ≡ true)

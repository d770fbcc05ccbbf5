-- Which slots an item touches.
use Rattle.std.specs.Prelude.{◌≡◌, ◌≢◌, ℕ, ◌<◌, ◌==◌, ◌⊎◌, ◌++◌, ◌∷◌, [], List, length, get_or, All, Contains, Bool, false, Option, Some, None}
use Rattle.std.specs.List.{list_any}
use Rattle.std.specs.List.Sorted.{IsStrictlyIncreasing}
use Rattle.sil_ast.specs.declared.place.ValueId.{ValueId}
use Rattle.memory_rules_accesses.specs.declared.access.Access.{Access}
use Rattle.memory_rules_accesses.specs.declared.access.Access.TheVariants.{Ends, Begins, Allocates, Deallocates, Given, Does, Mentions}

-- the slot that an access allocates or deallocates
abbrev pub slot_in : Access → Option ℕ
slot_in (Ends v) = None
slot_in (Begins v) = None
slot_in (Allocates v) = Some v.0
slot_in (Deallocates v) = Some v.0
slot_in (Given v content) = None
slot_in (Does x) = None
slot_in (Mentions v a) = None

abbrev pub is_in : ℕ → Option ℕ → Bool
is_in n None = false
is_in n (Some m) = m == n

abbrev pub has_slot : ValueId → List Access → Bool
has_slot v accesses = list_any (λ x. is_in v.0 (slot_in x)) accesses

-- the access's slot is put in by its place, or it isn't one of these
abbrev pub IsPut : List ValueId → Access → List ℕ → List ℕ → Type 0
IsPut slots access old new =
    ((place : ℕ) × (place < length slots) × ((k : ℕ) (d : ValueId) → k < length slots → slot_in access ≡ Some (get_or slots k d).0 → k ≡ place)
    × (new ≡ old ++ place ∷ []))
    ⊎ (((k : ℕ) (d : ValueId) → k < length slots → slot_in access ≡ Some (get_or slots k d).0 → ⊥) × (new ≡ old))

-- where a value with this number stands among the slots
abbrev pub IsPlaceOf : List ValueId → ℕ → Option ℕ → Type 0
IsPlaceOf slots value None = (k : ℕ) (d : ValueId) → k < length slots → (get_or slots k d).0 ≢ value
IsPlaceOf slots value (Some place) = (place < length slots) × ((k : ℕ) (d : ValueId) → k < length slots → (get_or slots k d).0 ≡ value → k ≡ place)

-- a slot whose place isn't one of these is in none of the accesses
abbrev pub HasTouched : List ValueId → List Access → List ℕ → Type 0
HasTouched slots accesses places = (u : ℕ) (d : ValueId) → u < length slots → (Contains places u → ⊥)
    → All (λ x. slot_in x ≢ Some (get_or slots u d).0) accesses

-- numbers below the count, each below the next
pub record IsRising (count : ℕ) (places : List ℕ) : Type 0 where
  pub ascending : IsStrictlyIncreasing places
  pub below : All (λ u. u < count) places

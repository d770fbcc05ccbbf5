-- How two lists in ascending order are put together.
use Rattle.std.specs.Prelude.{◌≡◌, ◌⊎◌, ℕ, ◌+◌, ◌<◌, List, length, slice_index_or}
use Rattle.sil_ast.specs.declared.place.ValueId.{ValueId}
use Rattle.ownership_kinds_chains.specs.declared.ownership_chains.bases.Turn.{Turn}
use Rattle.ownership_kinds_chains.specs.OwnershipChains.Facts.{value_of}

abbrev pub at : List ValueId → ℕ → ValueId
at values i = slice_index_or values i (value_of 0)

-- the next of one list comes before the next of the other, if there is one, and is taken
pub record IsFirst (one : List ValueId) (i : ℕ) (other : List ValueId) (j : ℕ) (value : ValueId) : Type 0 where
  pub there : i < length one
  pub value_is : value ≡ at one i
  pub before : j < length other → value.0 < (at other j).0

-- the next of both is the same
pub record AreSame (one : List ValueId) (i : ℕ) (other : List ValueId) (j : ℕ) (value : ValueId) : Type 0 where
  pub one_there : i < length one
  pub other_there : j < length other
  pub is_one : value ≡ at one i
  pub is_other : value ≡ at other j

-- of two lists that have i and j values taken, the lesser next one is taken, or both
abbrev pub IsTurn : List ValueId → ℕ → List ValueId → ℕ → Turn → Type 0
IsTurn one i other j t =
    (IsFirst one i other j t.value × (t.one ≡ i + 1) × (t.other ≡ j)) ⊎
    ((IsFirst other j one i t.value × (t.one ≡ i) × (t.other ≡ j + 1)) ⊎
    (AreSame one i other j t.value × (t.one ≡ i + 1) × (t.other ≡ j + 1)))

-- Ranks of numbers, by which many can be seen to be on no ring.
use Rattle.std.specs.Prelude.{ℕ, ◌<◌, ◌≤◌, List, length, slice_index, All}
use Rattle.number_tables.specs.ContainmentOrder.Chains.{Graph, parts_of}

-- no part has a lower rank than its whole
abbrev pub NeverFall : Graph → List ℕ → Type 0
NeverFall graph ranks = (v : ℕ) → v < length graph → All (λ w. slice_index ranks v ≤ slice_index ranks w) (parts_of graph v)

-- each part of the number has a higher rank
abbrev pub Rises : Graph → List ℕ → ℕ → Type 0
Rises graph ranks v = All (λ w. slice_index ranks v < slice_index ranks w) (parts_of graph v)

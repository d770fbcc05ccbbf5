-- An order of all numbers in which parts stand before wholes.
use Rattle.std.specs.Prelude.{ℕ, ◌<◌, ◌≤◌, List, length, take, slice_index, All, Contains}
use Rattle.number_tables.specs.ContainmentOrder.Chains.{Graph, parts_of}

-- the parts of each number stand before it
abbrev pub ArePartsBefore : Graph → List ℕ → Type 0
ArePartsBefore graph order = (i : ℕ) → i < length order → All (Contains (take i order)) (parts_of graph (slice_index order i))

-- every number stands in the order, once, behind its parts
pub record IsOrder (graph : Graph) (order : List ℕ) : Type 0 where
  pub all : (v : ℕ) → v < length graph → Contains order v
  pub inside : All (λ v. v < length graph) order
  pub parts : ArePartsBefore graph order
  pub once : length order ≤ length graph

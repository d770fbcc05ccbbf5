-- Chains of containment, and rings of them. A graph has, for each number, the numbers of its parts.
use Rattle.std.specs.Prelude.{ℕ, ◌<◌, List, [], length, slice_index_or, All, Contains}

abbrev pub Graph : Type 0
Graph = List (List ℕ)

-- the parts of a number
abbrev pub parts_of : Graph → ℕ → List ℕ
parts_of graph v = slice_index_or graph v []

-- a chain of one step or more leads from a number to one that it holds, directly or through others
pub data Chain (graph : Graph) : ℕ → ℕ → Type 0 where
  one : (v w : ℕ) → Contains (parts_of graph v) w → Chain graph v w
  more : (v u w : ℕ) → Contains (parts_of graph v) u → Chain graph u w → Chain graph v w

-- a chain returns to the number at which it began
abbrev pub IsCyclic : Graph → ℕ → Type 0
IsCyclic graph v = Chain graph v v

-- no number is on a ring
abbrev pub HasNoRing : Graph → Type 0
HasNoRing graph = (v : ℕ) → IsCyclic graph v → ⊥

-- each part is a number of the graph
abbrev pub IsInRange : Graph → Type 0
IsInRange graph = (v : ℕ) → v < length graph → All (λ w. w < length graph) (parts_of graph v)

-- the number is on a ring, and none before it is
pub record IsFirstCyclic (graph : Graph) (v : ℕ) : Type 0 where
  pub inside : v < length graph
  pub cyclic : IsCyclic graph v
  pub first : (w : ℕ) → w < v → IsCyclic graph w → ⊥

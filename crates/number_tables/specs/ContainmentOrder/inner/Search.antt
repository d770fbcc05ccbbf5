-- A search along chains, with marks for the numbers that it has met.
use Rattle.std.specs.Prelude.{◌≡◌, ◌⊎◌, ◌↔◌, ℕ, ◌+◌, ◌<◌, List, ◌++◌, length, get_or, All, Contains, Bool, true, false, not, count_by}
use Rattle.number_tables.specs.ContainmentOrder.Chains.{Graph, parts_of, Chain}

abbrev pub IsMarked : List Bool → ℕ → Type 0
IsMarked marks v = get_or marks v false ≡ true

-- exactly the numbers that a chain from this one leads to are marked
abbrev pub AreReached : Graph → ℕ → List Bool → Type 0
AreReached graph from marks = (v : ℕ) → v < length graph → IsMarked marks v ↔ Chain graph from v

-- the parts were marked, and those that were new were put on the stack
pub record Visits (parts : List ℕ) (marks : List Bool) (stack : List ℕ) (marks' : List Bool) (stack' : List ℕ) : Type 0 where
  pub size : length marks' ≡ length marks
  pub kept : (v : ℕ) → IsMarked marks v → IsMarked marks' v
  pub all : All (IsMarked marks') parts
  pub only : (v : ℕ) → IsMarked marks' v → IsMarked marks v ⊎ Contains parts v
  pub more : List ℕ
  pub grows : stack' ≡ stack ++ more
  pub new : (v : ℕ) → IsMarked marks' v → IsMarked marks v ⊎ Contains more v
  pub marked : All (IsMarked marks') more
  pub room : count_by not marks' + length stack' ≡ count_by not marks + length stack

-- what is marked is reached, and the parts of what is marked are marked, but for what is on the stack
pub record Searches (graph : Graph) (from : ℕ) (marks : List Bool) (stack : List ℕ) : Type 0 where
  pub size : length marks ≡ length graph
  pub sound : (v : ℕ) → IsMarked marks v → Chain graph from v
  pub begun : All (IsMarked marks) (parts_of graph from)
  pub closed : (v : ℕ) → IsMarked marks v → Contains stack v ⊎ All (IsMarked marks) (parts_of graph v)
  pub waits : All (IsMarked marks) stack

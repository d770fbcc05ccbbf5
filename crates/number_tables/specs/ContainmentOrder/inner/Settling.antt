-- How an order grows: a number is placed once all of its parts are.
use Rattle.std.specs.Prelude.{◌≡◌, ℕ, ◌+◌, ◌<◌, List, length, get_or, All, Contains, Bool, true, false, not, count_by}
use Rattle.std.specs.List.{list_all}
use Rattle.number_tables.specs.ContainmentOrder.Chains.{Graph, parts_of}
use Rattle.number_tables.specs.ContainmentOrder.inner.Order.{ArePartsBefore}
use Rattle.number_tables.specs.ContainmentOrder.inner.Search.{IsMarked}

abbrev pub is_marked : List Bool → ℕ → Bool
is_marked marks v = get_or marks v false

-- the numbers in the order are marked, and no others
pub record Settles (graph : Graph) (marks : List Bool) (order : List ℕ) : Type 0 where
  pub size : length marks ≡ length graph
  pub placed : (v : ℕ) → IsMarked marks v → Contains order v
  pub marked : All (IsMarked marks) order
  pub parts : ArePartsBefore graph order
  pub count : count_by not marks + length order ≡ length graph

-- the number is placed, or one of its parts isn't
abbrev pub IsStuck : Graph → List Bool → ℕ → Type 0
IsStuck graph marks v = is_marked marks v ≡ false → list_all (is_marked marks) (parts_of graph v) ≡ false

-- whether more is marked than before, after a look at one number
abbrev pub Places : Graph → List Bool → List Bool → ℕ → Bool → Type 0
Places graph old new v true = count_by not new < count_by not old
Places graph old new v false = (new ≡ old) × IsStuck graph old v

-- whether more is marked than before, after a look at the numbers below n
abbrev pub Sweeps : Graph → List Bool → List Bool → ℕ → Bool → Type 0
Sweeps graph old new n true = count_by not new < count_by not old
Sweeps graph old new n false = (new ≡ old) × ((v : ℕ) → v < n → IsStuck graph old v)

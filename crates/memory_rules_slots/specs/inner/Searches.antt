-- What searches of pairs of slots find.
use Rattle.std.specs.Prelude.{◌≡◌, ◌⊎◌, ℕ, ◌+◌, ◌<◌, ◌≤◌, List, length, All, Contains, AllPairs, Option, Some, None}
use Rattle.sil_ast.specs.declared.place.EdgeId.{EdgeId}
use Rattle.sil_ast.specs.declared.place.ValueId.{ValueId}
use Rattle.sil_cfg.specs.Layout.{Layout}
use Rattle.sil_cfg.specs.Flow.{numbered}
use Rattle.reach_engine.specs.inner.Reach.{ReachesFirst, ReachesPoint}
use Rattle.reach_engine.specs.inner.Search.{IsClean}
use Rattle.memory_rules_accesses.specs.declared.access.Access.{Access}
use Rattle.memory_rules_accesses.specs.declared.source.Source.{Source}
use Rattle.memory_rules_slots.specs.inner.Automaton.{pair_step}
use Rattle.memory_rules_slots.specs.Pairs.{IsSlot}
use Rattle.memory_rules_slots.specs.declared.crossing.Crossing.{Crossing}
use Rattle.memory_rules_slots.specs.Order.{crossing_code}

-- the slots among the values with numbers below n, in ascending order
pub record AreSlots (sources : List Source) (n : ℕ) (slots : List ValueId) : Type 0 where
  pub each : All (IsSlot sources) slots
  pub all : (v : ValueId) → v.0 < n → IsSlot sources v → Contains slots v
  pub below : All (λ v. v.0 < n) slots
  pub ascending : AllPairs (λ a b. a.0 < b.0) slots

-- no walk breaks the order of the two
abbrev pub IsUncrossed : Layout → (ℕ → List Access) → ValueId → ValueId → Type 0
IsUncrossed g accesses first second = IsClean (numbered g) (pair_step accesses first second)

-- each walk that breaks it has n edges at least
abbrev pub IsFar : Layout → (ℕ → List Access) → ValueId → ℕ → ValueId → Type 0
IsFar g accesses first n second = (w : List EdgeId) (code item : ℕ) → ReachesFirst (numbered g) (pair_step accesses first second) w code item → n ≤ length w

-- the walk breaks the order of the two at the point, and none with fewer edges does
pub record IsPairCrossing (g : Layout) (accesses : ℕ → List Access) (first second : ValueId) (c : Crossing) : Type 0 where
  pub first_is : c.first ≡ first
  pub other_is : c.other ≡ second
  pub reaches : ReachesPoint g (pair_step accesses first second) c.walk crossing_code c.point
  pub far : IsFar g accesses first (length c.walk) second

abbrev pub IsPairSearched : Layout → (ℕ → List Access) → ValueId → ValueId → Option Crossing → Type 0
IsPairSearched g accesses first second None = IsUncrossed g accesses first second
IsPairSearched g accesses first second (Some c) = IsPairCrossing g accesses first second c

-- of those of the slots that cross the first one, this one has the fewest edges, and of these it is the least
pub record IsNearestCrossing (g : Layout) (accesses : ℕ → List Access) (first : ValueId) (slots : List ValueId) (c : Crossing) : Type 0 where
  pub first_is : c.first ≡ first
  pub other : Contains slots c.other
  pub reaches : ReachesPoint g (pair_step accesses first c.other) c.walk crossing_code c.point
  pub far : All (IsFar g accesses first (length c.walk)) slots
  pub farther : All (λ b. b.0 < c.other.0 → IsFar g accesses first (length c.walk + 1) b) slots

abbrev pub IsNearest : Layout → (ℕ → List Access) → ValueId → List ValueId → Option Crossing → Type 0
IsNearest g accesses first slots None = All (IsUncrossed g accesses first) slots
IsNearest g accesses first slots (Some c) = IsNearestCrossing g accesses first slots c

-- the one with fewer edges, or else the one before
abbrev pub IsNearer : Option Crossing → Option Crossing → Option Crossing → Type 0
IsNearer None next result = result ≡ next
IsNearer (Some best) None result = result ≡ Some best
IsNearer (Some best) (Some next) result = ((length next.walk < length best.walk) × (result ≡ Some next))
    ⊎ ((length best.walk ≤ length next.walk) × (result ≡ Some best))

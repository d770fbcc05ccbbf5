-- How the idle slots are kept in a list.
use Rattle.std.specs.Prelude.{◌≡◌, ℕ, List, cond, length, eqb, count_by}
use Rattle.weak_unowned.specs.Sides.{idle_count, is_idle_at}
use Rattle.weak_unowned.specs.declared.side.SlotSides.{SlotSides}

-- each idle slot stands in the list once, and nothing else does
pub record AreIdleSlots (slots : List SlotSides) (idle : List ℕ) : Type 0 where
  pub each : (o : ℕ) → count_by (eqb o) idle ≡ cond (is_idle_at slots o) 1 0
  pub count : length idle ≡ idle_count slots

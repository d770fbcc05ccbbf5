use Rattle.memory_rules_slots.proofs.first.crossing_in_doubt.Goals as goal
use Rattle.memory_rules_slots.proofs.first.crossing_in_doubt.Goals.{else-has-via-then-has+else-has-2, else-has-via-else-has}

pub returns-else-has : goal.returns-else-has
returns-else-has c = elim c.else-has.branch [
  | else-has-via-then-has+else-has-2 w ↦ c.requires.never (w.has-then-has.ensures.0 w.if-has-2.false)
  | else-has-via-else-has w ↦ c.requires.trusted (c.has.ensures.0 w.if-has.false)
]

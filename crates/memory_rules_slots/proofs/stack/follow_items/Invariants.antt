use Rattle.std.proofs.Common.{take}
use Rattle.memory_rules_accesses.specs.reach_engine_marks.PathPatterns.inner.Reads.{accesses_at}
use Rattle.memory_rules_slots.specs.inner.Followed.{ArePassed}
use Rattle.memory_rules_slots.proofs.stack.follow_items.Given as goal

abbrev pub invariant-loop-item : goal.invariant-loop-item
invariant-loop-item l = ArePassed l.sources l.ranks (accesses_at l.accesses) l.initial.stack.items (take l.item-index l.items) l.stack.items l.initial.doubts l.doubts

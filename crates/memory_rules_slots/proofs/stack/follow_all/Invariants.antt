use Rattle.std.proofs.Common.{take}
use Rattle.memory_rules_slots.specs.inner.Followed.{AreFollowed}
use Rattle.memory_rules_slots.proofs.stack.follow_all.Given as goal

abbrev pub invariant-loop-access : goal.invariant-loop-access
invariant-loop-access l = AreFollowed l.sources l.ranks l.initial.stack.items (take l.access-index l.accesses) l.stack.items l.initial.doubts l.doubts

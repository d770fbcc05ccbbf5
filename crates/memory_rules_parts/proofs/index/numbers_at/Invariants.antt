use Rattle.std.proofs.Common.{take}
use Rattle.memory_rules_parts.specs.inner.Index.{HasAll}
use Rattle.memory_rules_parts.proofs.index.numbers_at.Given as goal

abbrev pub invariant-loop-key : goal.invariant-loop-key
invariant-loop-key l = HasAll l.rows (take l.key-index l.keys) l.numbers.items

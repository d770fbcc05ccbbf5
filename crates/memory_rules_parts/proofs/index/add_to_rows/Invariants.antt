use Rattle.std.proofs.Common.{take}
use Rattle.memory_rules_parts.specs.inner.Index.{HasRows}
use Rattle.memory_rules_parts.proofs.index.add_to_rows.Given as goal

abbrev pub invariant-loop-key : goal.invariant-loop-key
invariant-loop-key l = HasRows l.initial.rows.items l.rows.items (take l.key-index l.keys) l.number

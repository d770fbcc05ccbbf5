use Rattle.std.proofs.Common.{◌≡◌, ◌++◌}
use Rattle.argument_conventions.specs.Arguments.{arguments_of}
use Rattle.memory_rules_accesses.specs.Sources.{entry_sources}
use Rattle.memory_rules_accesses.proofs.sources.add_given.Given as goal

abbrev pub invariant-loop-n : goal.invariant-loop-n
invariant-loop-n l = l.sources.items ≡ l.initial.sources.items ++ entry_sources l.table (arguments_of l.signature) l.n

-- The members so far stand in the text, with a comma between two.
use Rattle.std.proofs.Common.{◌≡◌, ◌++◌}
use Rattle.module_runner_report.specs.inner.Layers.{types_in}
use Rattle.module_runner_report.proofs.Members.{so_far}
use Rattle.module_runner_report.proofs.values.+write.Given as goal

abbrev pub invariant-push_members-loop-i : goal.invariant-push_members-loop-i
invariant-push_members-loop-i l = l.out.items ≡ l.initial.out.items ++ so_far l.names.table.now l.names.left.now (types_in l.types) l.members l.i

-- The objects so far stand in the text, each on its line.
use Rattle.std.proofs.Common.{◌≡◌, ◌++◌, take}
use Rattle.std.specs.List.{flat_map}
use Rattle.holder_model.specs.RunReport.ReportLines.{object_line}
use Rattle.module_runner_report.proofs.lines.push_left.Given as goal

abbrev pub invariant-loop-object : goal.invariant-loop-object
invariant-loop-object l = l.out.items ≡ l.initial.out.items ++ flat_map object_line (take l.object-index l.left)

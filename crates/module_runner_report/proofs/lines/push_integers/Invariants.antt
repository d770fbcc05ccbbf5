-- The integers so far stand in the text, with a comma between two.
use Rattle.std.proofs.Common.{◌≡◌, ◌++◌, take}
use Rattle.std.specs.Fmt.{signed_decimal}
use Rattle.sil_printer.specs.Words.{listed}
use Rattle.module_runner_report.proofs.lines.push_integers.Given as goal

abbrev pub invariant-loop-i : goal.invariant-loop-i
invariant-loop-i l = l.out.items ≡ l.initial.out.items ++ listed signed_decimal (take l.i l.numbers)

-- The copies of the functions so far.
use Rattle.std.proofs.Common.{◌≡◌, take}
use Rattle.std.specs.List.{sum_by}
use Rattle.module_runner.specs.copy_pairing_model.Counts.{copies_of_function}
use Rattle.sil_command.proofs.copies.copies_in.Given as goal

abbrev pub invariant-loop-function : goal.invariant-loop-function
invariant-loop-function l = l.count ≡ sum_by copies_of_function (take l.function-index l.functions)

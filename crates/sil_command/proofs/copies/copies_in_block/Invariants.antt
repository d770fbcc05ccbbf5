-- The copies among the instructions so far.
use Rattle.std.proofs.Common.{◌≡◌, take}
use Rattle.std.specs.List.{count_by}
use Rattle.module_runner.specs.copy_pairing_model.Counts as counts
use Rattle.sil_command.proofs.copies.copies_in_block.Given as goal

abbrev pub invariant-loop-inst : goal.invariant-loop-inst
invariant-loop-inst l = l.count ≡ count_by counts.copies (take l.inst-index l.insts)

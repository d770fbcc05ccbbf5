-- The copies of the blocks so far.
use Rattle.std.proofs.Common.{◌≡◌, take}
use Rattle.std.specs.List.{sum_by}
use Rattle.module_runner.specs.copy_pairing_model.Counts.{copies_of_block}
use Rattle.sil_command.proofs.copies.copies_in_function.Given as goal

abbrev pub invariant-loop-block : goal.invariant-loop-block
invariant-loop-block l = l.count ≡ sum_by copies_of_block (take l.block-index l.blocks)

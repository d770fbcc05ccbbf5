use Rattle.std.proofs.Common.{◌≡◌, ◌≤◌, ◌+◌, ◌++◌, drop, length, take}
use Rattle.numbered_form.specs.Insts.{insts_in}
use Rattle.ownership_lowering_model.specs.LoweredBlocks.{blocks_become}
use Rattle.ownership_lowering_model.specs.Numbers.{renumbered}
use Rattle.ownership_lowering_functions.specs.ValueRenumbering.inner.NewNumbers.{number_in}
use Rattle.ownership_lowering_functions.proofs.function_lowering.blocks.lower_blocks.Given as goal

abbrev pub invariant-loop-block : goal.invariant-loop-block
invariant-loop-block l = record {
  room : l.spare + length (insts_in (drop l.block-index l.initial.blocks)) ≤ l.initial.spare + length (insts_in l.initial.blocks);
  lowered : take l.block-index l.blocks ++ renumbered (number_in l.numbers) (blocks_become l.table l.renamings l.spare (drop l.block-index l.initial.blocks))
      ≡ renumbered (number_in l.numbers) (blocks_become l.table l.renamings l.initial.spare l.initial.blocks);
  rest : drop l.block-index l.blocks ≡ drop l.block-index l.initial.blocks;
}

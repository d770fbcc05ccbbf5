use Rattle.std.proofs.Common.{◌≡◌, ◌++◌, ◌+◌, ◌≤◌, drop, length}
use Rattle.numbered_form.specs.Insts.{insts_in}
use Rattle.numbered_form.specs.Numbering.{values_of}
use Rattle.ownership_lowering_model.specs.LoweredBlocks.{blocks_become}
use Rattle.ownership_lowering_functions.proofs.function_lowering.defined.defined_values.Given as goal

abbrev pub invariant-loop-block : goal.invariant-loop-block
invariant-loop-block l = record {
  room : l.spare + length (insts_in (drop l.block-index l.blocks)) ≤ l.initial.spare + length (insts_in l.blocks);
  defined : l.values ++ values_of (blocks_become l.table l.renamings l.spare (drop l.block-index l.blocks))
      ≡ values_of (blocks_become l.table l.renamings l.initial.spare l.blocks);
}

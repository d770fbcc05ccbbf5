use Rattle.std.proofs.Common.{◌≡◌, ◌+◌, ◌++◌, List, length, map}
use Rattle.std.specs.Vec.Iter.{into_iter_items}
use Rattle.ownership_kinds_chains.specs.declared.ownership_chains.definition.Definition.{Definition}
use Rattle.ownership_lowering_model.specs.LoweredBlocks.{insts_become}
use Rattle.ownership_lowering_model.specs.Numbers.{renumbered_inst}
use Rattle.ownership_lowering_functions.specs.ValueRenumbering.inner.NewNumbers.{number_in}
use Rattle.ownership_lowering_functions.proofs.function_lowering.blocks.lowered_insts.Given as goal

abbrev pub invariant-loop-inst : goal.invariant-loop-inst
invariant-loop-inst l = record {
  room : l.initial.spare + length l.fn.insts ≡ l.spare + length (into_iter_items l.inst-iterator);
  lowered : (renamings : List Definition) → map (renumbered_inst (number_in l.numbers)) (insts_become l.table renamings l.initial.spare l.fn.insts)
      ≡ l.lowered ++ map (renumbered_inst (number_in l.numbers)) (insts_become l.table renamings l.spare (into_iter_items l.inst-iterator));
}

use Rattle.std.proofs.Common.{◌≡◌, ◌++◌, ◌+◌, List, drop}
use Rattle.ownership_kinds_chains.specs.declared.ownership_chains.definition.Definition.{Definition}
use Rattle.ownership_lowering_model.specs.LoweredBlocks.{insts_become}
use Rattle.ownership_lowering_functions.specs.FunctionLowering.inner.Drafts.{told_insts}
use Rattle.ownership_lowering_functions.proofs.function_lowering.drafting.draft_insts.Given as goal

abbrev pub invariant-loop-inst : goal.invariant-loop-inst
invariant-loop-inst l = record {
  next : l.spare ≡ l.initial.spare + l.inst-index;
  drafted : (renamings : List Definition) →
      told_insts l.drafts ++ insts_become l.table renamings l.spare (drop l.inst-index l.insts) ≡ insts_become l.table renamings l.initial.spare l.insts;
}

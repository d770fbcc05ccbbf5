use Rattle.std.proofs.Common.{◌≡◌, ◌++◌, drop, map, take}
use Rattle.ownership_lowering_model.specs.LoweredModules.{lowered_function}
use Rattle.ownership_lowering_functions.specs.FunctionLowering.inner.Lowerable.{AreLowerable}
use Rattle.ownership_lowering_functions.proofs.function_lowering.functions.lower_functions.Given as goal

abbrev pub invariant-loop-f : goal.invariant-loop-f
invariant-loop-f l = record {
  lowerable : AreLowerable (drop l.f-index l.initial.functions);
  lowered : take l.f-index l.functions ++ map (lowered_function l.table) (drop l.f-index l.initial.functions) ≡ map (lowered_function l.table) l.initial.functions;
  rest : drop l.f-index l.functions ≡ drop l.f-index l.initial.functions;
}

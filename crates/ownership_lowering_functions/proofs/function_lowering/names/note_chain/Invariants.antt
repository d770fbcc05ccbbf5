use Rattle.std.proofs.Common.{◌≡◌, ◌<◌}
use Rattle.ownership_lowering_model.specs.Names.{stands_for}
use Rattle.ownership_lowering_functions.specs.FunctionLowering.inner.Standing.{AreRight, AreStillNoted, IsNoted}
use Rattle.ownership_lowering_functions.proofs.function_lowering.names.note_chain.Given as goal

abbrev pub invariant-loop : goal.invariant-loop
invariant-loop l = record {
  same : stands_for l.renamings l.at ≡ l.fn.end;
  begun : 0 < l.counter → IsNoted l.noted l.fn.value;
  unmoved : l.counter ≡ 0 → l.at ≡ l.fn.value;
  right : AreRight l.renamings l.noted;
  stays : AreStillNoted l.initial.noted l.noted;
}

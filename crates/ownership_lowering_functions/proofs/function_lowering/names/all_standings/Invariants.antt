use Rattle.std.proofs.Common.{◌≡◌, ◌<◌, length, true}
use Rattle.sil_ast.specs.declared.place.ValueId.{ValueId}
use Rattle.ownership_lowering_model.specs.Names.{is_other_name}
use Rattle.ownership_lowering_functions.specs.FunctionLowering.inner.Standing.{AreRight, IsNoted}
use Rattle.ownership_lowering_functions.proofs.function_lowering.names.all_standings.Given as goal

abbrev pub invariant-loop-number : goal.invariant-loop-number
invariant-loop-number l = record {
  size : length l.noted.items ≡ length l.renamings;
  right : AreRight l.renamings l.noted.items;
  noted : (v : ValueId) → v.0 < l.number → is_other_name l.renamings v ≡ true → IsNoted l.noted.items v;
}

use Rattle.std.proofs.Common.{◌≡◌, ℕ, ◌+◌, length}
use Rattle.ownership_lowering_model.specs.Names as names
use Rattle.ownership_lowering_model.specs.Names.{stands_within}
use Rattle.ownership_lowering_functions.proofs.function_lowering.names.stands_for.Given as goal

abbrev pub invariant-loop : goal.invariant-loop
invariant-loop l = record {
  within : (k : ℕ) → l.counter + k ≡ length l.renamings → stands_within l.renamings k l.at ≡ names.stands_for l.renamings l.fn.value;
  same : names.stands_for l.renamings l.at ≡ names.stands_for l.renamings l.fn.value;
}

use Rattle.std.proofs.Common.{◌≡◌, ◌++◌, take, drop}
use Rattle.std.specs.Prelude.{map}
use Rattle.copy_pairing_model.specs.Rewritten.{lent_inst}
use Rattle.copy_pairing_search.proofs.copy_rewriting.blocks.lend_insts.Given as goal

abbrev pub invariant-loop-k : goal.invariant-loop-k
invariant-loop-k l = l.insts.items ≡ map (lent_inst l.value) (take l.k l.initial.insts.items) ++ drop l.k l.initial.insts.items

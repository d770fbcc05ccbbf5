use Rattle.std.proofs.Common.{◌≡◌, ◌++◌, take, drop}
use Rattle.std.specs.Prelude.{map}
use Rattle.copy_pairing_model.specs.Rewritten.{lent_block}
use Rattle.copy_pairing_search.proofs.copy_rewriting.functions.lend_blocks.Given as goal

abbrev pub invariant-loop-b : goal.invariant-loop-b
invariant-loop-b l = l.blocks.items ≡ map (lent_block l.value) (take l.b l.initial.blocks.items) ++ drop l.b l.initial.blocks.items

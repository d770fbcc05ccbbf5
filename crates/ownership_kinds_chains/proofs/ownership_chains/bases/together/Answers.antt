use Rattle.std.proofs.Common.{◌∙◌}
use Rattle.ownership_kinds_chains.specs.OwnershipChains.Facts.{told_at, value_of}
use Rattle.ownership_kinds_chains.proofs.OwnershipChains.Together.{together_none, together_more, together_all}
use Rattle.ownership_kinds_chains.proofs.ownership_chains.bases.together.Goals as goal

pub loop-operand-init : goal.loop-operand-init
loop-operand-init c count ok = c.new-all.ensures ∙ together_none count (told_at c.args.table.now) c.args.only_guaranteed

pub loop-operand-preserved : goal.loop-operand-preserved
loop-operand-preserved c count ok =
    together_more count (told_at c.args.table.now) c.args.only_guaranteed c.args.operands.now c.loop-operand.operand-index (value_of 0) c.loop-operand.all c.handed_on-handed.result.now c.in_ok-all.all
    c.loop-operand-test.true ok c.handed_on-handed.ensures (c.loop-operand.invariant count ok) (λ p q one other. c.in_ok-all.ensures count p q (c.as_slice.ensures ∙ one) other)

pub returns : goal.returns
returns c count ok = together_all count (told_at c.args.table.now) c.args.only_guaranteed c.args.operands.now c.loop-operand.operand-index c.loop-operand.all c.loop-operand-test.false
    (c.loop-operand.invariant count ok)

use Rattle.std.proofs.Common.{◌<◌, arith, subst}
use Rattle.std.specs.Prelude.{All}
use Rattle.std.proofs.lemmas.List.{take_all}
use Rattle.std.proofs.lemmas.List.Elements.{All-more}
use Rattle.ownership_kinds_chains.specs.OwnershipChains.Facts.{value_of}
use Rattle.ownership_kinds_chains.proofs.ownership_chains.order.are_before.Goals as goal

pub loop-value-preserved : goal.loop-value-preserved
loop-value-preserved c =
    All-more (λ w. w.0 < c.args.number) c.args.values.now c.loop-value.value-index (value_of 0) c.loop-value-test.true c.loop-value.invariant (omega arith)

pub returns : goal.returns
returns c = subst (All (λ w. w.0 < c.args.number)) (take_all c.loop-value.value-index c.args.values.now c.loop-value-test.false) c.loop-value.invariant

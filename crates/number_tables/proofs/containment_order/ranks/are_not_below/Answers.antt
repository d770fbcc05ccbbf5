use Rattle.std.proofs.Common.{◌≤◌, get_or, arith, subst}
use Rattle.std.specs.Prelude.{All}
use Rattle.std.proofs.lemmas.List.{take_all}
use Rattle.std.proofs.lemmas.List.Elements.{All-more}
use Rattle.number_tables.proofs.containment_order.ranks.are_not_below.Goals as goal

pub loop-part-preserved : goal.loop-part-preserved
loop-part-preserved c =
    All-more (λ w. c.args.rank ≤ get_or c.args.ranks.now w 0) c.args.parts.now c.loop-part.part-index 0 c.loop-part-test.true c.loop-part.invariant
    (omega (arith, c.rank_of.ensures, c.if-rank_of-rank.false))

pub returns : goal.returns
returns c = subst (All (λ w. c.args.rank ≤ get_or c.args.ranks.now w 0)) (take_all c.loop-part.part-index c.args.parts.now c.loop-part-test.false) c.loop-part.invariant

use Rattle.std.proofs.Common.{subst}
use Rattle.std.specs.Bool.{OnTrue}
use Rattle.number_tables.specs.ContainmentOrder.inner.Ranks.{NeverFall}
use Rattle.number_tables.proofs.ContainmentOrder.RingLemmas.{rising_off}
use Rattle.number_tables.proofs.containment_order.rings.is_on_ring.Goals as goal

pub returns-then-rises : goal.returns-then-rises
returns-then-rises c =
    let ranked = subst (λ b. OnTrue b (NeverFall c.args.graph.now c.args.ranks.now)) c.if-are_ranked.true c.requires.ranked in
    (λ t. absurd (cc), λ h. absurd (rising_off c.args.graph.now c.args.ranks.now ranked c.args.value c.if-rises.ensures h))

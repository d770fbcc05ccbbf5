use Rattle.std.proofs.Common.{sym, subst}
use Rattle.ownership_kinds_chains.proofs.OwnershipChains.Listed.{Merges, merges_more, merges_over}
use Rattle.ownership_kinds_chains.proofs.ownership_chains.bases.union.Goals as goal

pub loop-i-preserved : goal.loop-i-preserved
loop-i-preserved c count p q one other =
    subst (Merges count p q c.args.one.now c.next_turn-turn.result.one c.args.other.now c.next_turn-turn.result.other) (sym c.in_ok-push.ensures.ok)
    (merges_more count p q c.args.one.now c.loop-i.i c.args.other.now c.loop-i.j c.loop-i.all (c.loop-i.invariant count p q one other) c.next_turn-turn.result c.next_turn-turn.ensures)

pub returns : goal.returns
returns c count p q one other =
    merges_over count p q c.args.one.now c.loop-i.i c.args.other.now c.loop-i.j c.loop-i.all c.if-i-one.false c.if-j-other.false (c.loop-i.invariant count p q one other)

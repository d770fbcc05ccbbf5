use Rattle.std.proofs.Common.{subst, sym, None}
use Rattle.std.specs.Prelude.{IfNone}
use Rattle.ownership_kinds_chains.specs.OwnershipChains.Facts.{told_at}
use Rattle.ownership_kinds_chains.specs.OwnershipChains.inner.Outcome.{AreAll, KnowsAllButRings, IsTold}
use Rattle.ownership_kinds_chains.proofs.OwnershipChains.Enough.{exact_told}
use Rattle.ownership_kinds_chains.proofs.OwnershipChains.RingLemmas.{all_unless, just_unknown}
use Rattle.ownership_kinds_chains.proofs.ownership_chains.outcome.kinds_of.Goals as goal

-- where the values are in order
pub returns-then-are_in_order-clause-all : goal.returns-then-are_in_order-clause-all
returns-then-are_in_order-clause-all c =
    subst (AreAll c.args.defs.now) (sym c.from_vec.ensures)
    (all_unless c.args.defs.now c.in_ok-table.table.items None c.requires c.in_ok-table.ensures.exact c.in_ok-table.ensures.stuck c.if-are_in_order.ensures)

pub returns-then-are_in_order-clause-unknown : goal.returns-then-are_in_order-clause-unknown
returns-then-are_in_order-clause-unknown c =
    subst (KnowsAllButRings c.args.defs.now) (sym c.from_vec.ensures) (just_unknown c.args.defs.now c.in_ok-table.table.items c.requires c.in_ok-table.ensures.exact c.in_ok-table.ensures.stuck)

pub returns-then-are_in_order-clause-told : goal.returns-then-are_in_order-clause-told
returns-then-are_in_order-clause-told c =
    subst (λ t. IsTold c.args.defs.now (told_at t)) (sym c.from_vec.ensures) (exact_told c.args.defs.now (told_at c.in_ok-table.table.items) c.requires c.in_ok-table.ensures.exact)

-- where they aren't
pub returns-clause-all : goal.returns-clause-all
returns-clause-all c =
    subst (λ t. IfNone c.in_ok-rings.rings.first (AreAll c.args.defs.now t)) (sym c.from_vec-2.ensures)
    (all_unless c.args.defs.now c.in_ok-table-2.table.items c.in_ok-rings.rings.first c.requires c.in_ok-table-2.ensures.exact c.in_ok-table-2.ensures.stuck c.in_ok-rings.ensures.none)

pub returns-clause-unknown : goal.returns-clause-unknown
returns-clause-unknown c =
    subst (KnowsAllButRings c.args.defs.now) (sym c.from_vec-2.ensures)
    (just_unknown c.args.defs.now c.in_ok-table-2.table.items c.requires c.in_ok-table-2.ensures.exact c.in_ok-table-2.ensures.stuck)

pub returns-clause-told : goal.returns-clause-told
returns-clause-told c =
    subst (λ t. IsTold c.args.defs.now (told_at t)) (sym c.from_vec-2.ensures) (exact_told c.args.defs.now (told_at c.in_ok-table-2.table.items) c.requires c.in_ok-table-2.ensures.exact)

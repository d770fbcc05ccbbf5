use Rattle.std.proofs.Common.{length, sym, ap, ◌∙◌, subst}
use Rattle.ownership_kinds_chains.specs.OwnershipChains.Facts.{told_at}
use Rattle.ownership_kinds_chains.specs.OwnershipChains.inner.Outcome.{IsExact}
use Rattle.ownership_kinds_chains.specs.OwnershipChains.inner.Settling.{AreStuck}
use Rattle.ownership_kinds_chains.proofs.OwnershipChains.Settled.{nothing_at, written_back}
use Rattle.ownership_kinds_chains.proofs.ownership_chains.settle.all_facts.Goals as goal

pub settle-requires-clause-none : goal.settle-requires-clause-none
settle-requires-clause-none c = λ v. ap (λ t. told_at t v) (c.as_mut_slice.ensures.value ∙ c.loop.invariant) ∙ nothing_at c.loop.counter v.0

pub returns-clause-exact : goal.returns-clause-exact
returns-clause-exact c =
    subst (λ t. IsExact c.args.defs.now (told_at t)) (sym (written_back c.loop.table.len c.settle.new.table c.loop.table.items (c.settle.auto.table ∙ ap length c.as_mut_slice.ensures.value)
    (sym c.as_mut_slice.ensures.len ∙ ap length c.as_mut_slice.ensures.value)))
    c.in_ok-settle.ensures.exact

pub returns-clause-stuck : goal.returns-clause-stuck
returns-clause-stuck c =
    subst (λ t. AreStuck c.args.defs.now (told_at t) (length c.args.defs.now)) (sym (written_back c.loop.table.len c.settle.new.table c.loop.table.items
    (c.settle.auto.table ∙ ap length c.as_mut_slice.ensures.value) (sym c.as_mut_slice.ensures.len ∙ ap length c.as_mut_slice.ensures.value)))
    c.in_ok-settle.ensures.stuck

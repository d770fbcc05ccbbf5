use Rattle.std.proofs.Common.{◌∙◌, subst, sym}
use Rattle.std.specs.Prelude.{IfNone, IfSome}
use Rattle.ownership_kinds_chains.specs.OwnershipChains.Chains.{HasNoRing, IsFirstCyclic}
use Rattle.ownership_kinds_chains.proofs.OwnershipChains.NumberLemmas.{first_fits, first_value, graph_in_range, no_value}
use Rattle.ownership_kinds_chains.proofs.ownership_chains.rings.order_and_ring.Goals as goal

pub rings_of-requires : goal.rings_of-requires
rings_of-requires c = graph_in_range c.args.defs.now c.as_slice.result.now (c.as_slice.ensures ∙ c.in_ok-graph.ensures) c.requires

pub value_at-requires : goal.value_at-requires
value_at-requires c = first_fits c.args.defs.now c.as_slice.result.now (c.as_slice.ensures ∙ c.in_ok-graph.ensures) c.requires c.in_ok-rings.rings.first c.in_ok-rings.ensures.some

pub returns-clause-some : goal.returns-clause-some
returns-clause-some c =
    subst (λ o. IfSome o (IsFirstCyclic c.args.defs.now)) (sym c.value_at.ensures)
    (first_value c.args.defs.now c.as_slice.result.now (c.as_slice.ensures ∙ c.in_ok-graph.ensures) c.in_ok-rings.rings.first c.in_ok-rings.ensures.some)

pub returns-clause-none : goal.returns-clause-none
returns-clause-none c =
    subst (λ o. IfNone o (HasNoRing c.args.defs.now)) (sym c.value_at.ensures)
    (no_value c.args.defs.now c.as_slice.result.now (c.as_slice.ensures ∙ c.in_ok-graph.ensures) c.in_ok-rings.rings.first c.in_ok-rings.ensures.none)

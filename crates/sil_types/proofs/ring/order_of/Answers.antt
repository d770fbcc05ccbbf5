use Rattle.std.proofs.Common.{◌-◌, subst, ap, ◌∙◌, length}
use Rattle.number_tables.specs.ContainmentOrder.Chains.{IsFirstCyclic}
use Rattle.number_tables.specs.ContainmentOrder.inner.Outcome.{IsFound}
use Rattle.sil_rules.specs.declared.rule.Rule.TheVariants.{InfiniteType}
use Rattle.sil_types_declarations.specs.TypeDefinitions.Contained.{containment}
use Rattle.sil_types_declarations.specs.TypeDefinitions.Declarations.{swift_structs}
use Rattle.sil_types.specs.Refusals.{IsRule}
use Rattle.sil_types.proofs.FirstRefusals.{first_ring, refused_rule}
use Rattle.sil_types.proofs.ring.order_of.Goals as goal

pub returns-clause-err : goal.returns-clause-err
returns-clause-err c =
    let m = c.args.m.now in
    let place = c.in-Ring.place in
    let graph = c.as_slice.ensures ∙ c.in_ok-graph.ensures.graph ∙ ap containment c.requires.table in
    let first = subst (λ g. IsFirstCyclic g place) graph (subst (IsFound c.as_slice.result.now) c.in-Ring.is c.in_ok-order.ensures) in
    let number = c.saturating_sub-item.ensures ∙ ap (λ n. place - n) (c.imported.ensures ∙ ap (λ d. length (swift_structs d.swift)) c.requires.table) in
    refused_rule m InfiniteType (place - length (swift_structs m.imports.swift)) c.refused.result (subst (λ n. IsRule InfiniteType n c.refused.result) number c.refused.ensures)
    (first_ring m c.in_ok-check_items-in-Ring.ensures.ok place first)

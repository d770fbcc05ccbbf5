use Rattle.std.proofs.Common.{◌≡◌, sym, ◌∙◌, subst, set, true}
use Rattle.std.specs.List.{list_all}
use Rattle.number_tables.specs.ContainmentOrder.Chains.{parts_of}
use Rattle.number_tables.specs.ContainmentOrder.inner.Settling.{Settles, is_marked}
use Rattle.number_tables.proofs.ContainmentOrder.Chaining.{parts_are}
use Rattle.number_tables.proofs.ContainmentOrder.Settled.{settles_push}
use Rattle.number_tables.proofs.containment_order.settle.place.Goals as goal

pub returns-clause-settles : goal.returns-clause-settles
returns-clause-settles c =
    let are = c.as_slice.ensures ∙ parts_are c.args.graph.now c.args.value c.index-graph-value.result c.index-graph-value.is c.requires.value in
    let parts : list_all (is_marked c.args.marks.now) (parts_of c.args.graph.now c.args.value) ≡ true =
    subst (λ ps. list_all (is_marked c.args.marks.now) ps ≡ true) are (sym c.are_marked.ensures ∙ c.if-not-are_marked.false) in
    subst (Settles c.args.graph.now (set c.args.marks.now c.args.value true)) (sym c.in_ok-push.ensures.items)
    (settles_push c.args.graph.now c.args.marks.now c.args.order.now.items c.args.value c.requires.value c.requires.settles c.if-marks-value.false parts)

use Rattle.std.proofs.Common.{subst, sym, ◌∙◌, length, ◌<◌, ℕ}
use Rattle.std.specs.Prelude.{All}
use Rattle.number_tables.specs.ContainmentOrder.inner.Search.{Visits}
use Rattle.number_tables.proofs.ContainmentOrder.Chaining.{parts_are}
use Rattle.number_tables.proofs.containment_order.search.visit_parts.Goals as goal

pub visit-requires : goal.visit-requires
visit-requires c =
    let is = c.as_slice.ensures ∙ parts_are c.args.graph.now c.args.value c.index-graph-value.result c.index-graph-value.is c.requires.value in
    subst (λ (n : ℕ). All (λ w. w < n) c.as_slice.result.now) (sym c.requires.size) (subst (All (λ w. w < length c.args.graph.now)) (sym is) (c.requires.range c.args.value c.requires.value))

pub returns : goal.returns
returns c =
    let is = c.as_slice.ensures ∙ parts_are c.args.graph.now c.args.value c.index-graph-value.result c.index-graph-value.is c.requires.value in
    subst (λ parts. Visits parts c.args.marks.now c.args.stack.now.items c.visit.new.marks c.visit.new.stack.items) is c.in_ok-visit.ensures

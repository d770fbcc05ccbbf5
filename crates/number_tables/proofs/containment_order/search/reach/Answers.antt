use Rattle.std.proofs.Common.{subst, sym, ◌∙◌}
use Rattle.number_tables.specs.ContainmentOrder.inner.Search.{Visits}
use Rattle.number_tables.specs.ContainmentOrder.Chains.{parts_of}
use Rattle.number_tables.proofs.ContainmentOrder.Chaining.{searches_begun, searches_more, searches_over, waiting_inside}
use Rattle.number_tables.proofs.containment_order.search.reach.Goals as goal

pub loop-value-init : goal.loop-value-init
loop-value-init c =
    searches_begun c.args.graph.now c.args.from c.args.marks.now c.visit_parts.new.marks c.visit_parts.new.stack.items c.requires.size c.requires.none
    (subst (λ s. Visits (parts_of c.args.graph.now c.args.from) c.args.marks.now s c.visit_parts.new.marks c.visit_parts.new.stack.items) c.new-stack.ensures.items c.in_ok-visit_parts.ensures)

pub loop-value-preserved : goal.loop-value-preserved
loop-value-preserved c =
    searches_more c.args.graph.now c.args.from c.loop-value.marks c.pop.new.self.items c.in-Some.value c.loop-value.stack.items c.visit_parts-in-Some.new.marks c.visit_parts-in-Some.new.stack.items
    c.in-Some.ensures.items c.loop-value.invariant c.in_ok-visit_parts-2.ensures

pub returns : goal.returns
returns c = searches_over c.args.graph.now c.args.from c.loop-value.marks c.loop-value.stack.items (sym c.loop-value.stack.ok.0 ∙ c.in_default.ensures.cases.0) c.loop-value.invariant

pub visit_parts-requires-in-Some-clause-value : goal.visit_parts-requires-in-Some-clause-value
visit_parts-requires-in-Some-clause-value c =
    waiting_inside c.args.graph.now c.args.from c.loop-value.marks c.loop-value.stack.items c.pop.new.self.items c.in-Some.value c.in-Some.ensures.items c.loop-value.invariant

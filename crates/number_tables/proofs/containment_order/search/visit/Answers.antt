use Rattle.std.proofs.Common.{subst, ap, ◌∙◌, arith, length, get_or, take, ◌<◌, ◌≡◌, ◌+◌}
use Rattle.std.proofs.lemmas.List.{take_all}
use Rattle.number_tables.specs.ContainmentOrder.inner.Search.{Visits}
use Rattle.number_tables.proofs.ContainmentOrder.Chaining.{visit_skip, visit_push, visits_same}
use Rattle.number_tables.proofs.containment_order.search.visit.Goals as goal
use Rattle.number_tables.proofs.containment_order.search.visit.Goals.{then-not-marks-part+in_ok-push, else-not-marks-part}

pub loop-part-preserved : goal.loop-part-preserved
loop-part-preserved c =
    let ops = c.args.parts.now in
    let i = c.loop-part.part-index in
    elim c.if-not-marks-part.branch [
      | then-not-marks-part+in_ok-push w ↦
          let bound : get_or ops i 0 < length c.args.marks.now = c.requires i 0 c.loop-part-test.true in
          let size : length c.loop-part.marks ≡ length c.args.marks.now = c.loop-part.invariant.size in
          visits_same (take (i + 1) ops) c.args.marks.now c.args.stack.now.items c.if-not-marks-part.marks _ c.if-not-marks-part.stack.items _ w.marks-is
          (ap (λ v. v.items) w.stack-is ∙ w.in_ok-push.ensures.items)
          (visit_push ops c.args.marks.now c.args.stack.now.items c.loop-part.marks c.loop-part.stack.items i 0 c.loop-part-test.true (omega arith) c.loop-part.invariant w.if-not-marks-part.true)
      | else-not-marks-part w ↦
          visits_same (take (i + 1) ops) c.args.marks.now c.args.stack.now.items c.if-not-marks-part.marks _ c.if-not-marks-part.stack.items _ w.marks-is (ap (λ v. v.items) w.stack-is)
          (visit_skip ops c.args.marks.now c.args.stack.now.items c.loop-part.marks c.loop-part.stack.items i 0 c.loop-part-test.true c.loop-part.invariant w.if-not-marks-part.false)
    ]

pub returns : goal.returns
returns c =
    subst (λ ops. Visits ops c.args.marks.now c.args.stack.now.items c.loop-part.marks c.loop-part.stack.items) (take_all c.loop-part.part-index c.args.parts.now c.loop-part-test.false)
    c.loop-part.invariant

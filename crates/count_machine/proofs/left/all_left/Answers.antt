use Rattle.std.proofs.Common.{◌≡◌, ◌∙◌, true, false}
use Rattle.count_heap.specs.HeapModel.HeapViews.{is_unfreed}
use Rattle.holder_model.specs.Outcomes.{object_number}
use Rattle.count_machine.proofs.Leaving.{freed_next, left_next}
use Rattle.count_machine.proofs.left.all_left.Goals as goal
use Rattle.count_machine.proofs.left.all_left.Goals.{then-is_unfreed+in_ok-next+in_ok-push, else-is_unfreed}

pub loop-number-preserved : goal.loop-number-preserved
loop-number-preserved c =
    let h = c.args.heap.now in
    let n = c.loop-number.number in
    elim c.if-is_unfreed.branch [
      | then-is_unfreed+in_ok-next+in_ok-push w ↦
          let unfreed : is_unfreed h (object_number n) ≡ true = cc in
          left_next h n c.loop-number.left c.if-is_unfreed.left w.in_ok-next.next c.loop-number.invariant unfreed w.in_ok-next.ensures
          (w.left-is ∙ w.in_ok-push.ensures.ok)
      | else-is_unfreed w ↦
          let freed : is_unfreed h (object_number n) ≡ false = cc in
          freed_next h n c.loop-number.left c.if-is_unfreed.left c.loop-number.invariant freed w.left-is
    ]

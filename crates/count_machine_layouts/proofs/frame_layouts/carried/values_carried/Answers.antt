use Rattle.std.proofs.Common.{◌≡◌, ◌++◌, refl, sym, ap, ◌∙◌}
use Rattle.std.specs.Option.{option_to_list}
use Rattle.std.proofs.lemmas.List.{append-nil}
use Rattle.count_machine_layouts.specs.FrameLayouts.inner.Carried.{value_between, values_between}
use Rattle.count_machine_layouts.proofs.FrameLayouts.Carrying.{ends, values_meant, one_more}
use Rattle.count_machine_layouts.proofs.frame_layouts.carried.values_carried.Goals as goal
use Rattle.count_machine_layouts.proofs.frame_layouts.carried.values_carried.Goals.{in-Some+in_ok-push, in_default}

added : (c : goal.Joined-value_carried) → c.match-value_carried.values ≡ c.loop-k.values ++ option_to_list c.value_carried.result
added c = elim c.match-value_carried.branch [
  | in-Some+in_ok-push w ↦ w.values-is ∙ w.in_ok-push.ensures.ok ∙ ap (λ x. c.loop-k.values ++ option_to_list x) (sym w.in-Some.is)
  | in_default w ↦ w.values-is ∙ sym (append-nil c.loop-k.values) ∙ ap (λ x. c.loop-k.values ++ option_to_list x) (sym w.in_default.is)
]

pub loop-k-preserved : goal.loop-k-preserved
loop-k-preserved c =
    let from = c.args.from.now in
    let to = c.args.to.now in
    one_more (value_between from to) (λ o. refl) c.args.operands.now c.args.args.now c.loop-k.k c.index-operands-k.result
    c.value_carried.result c.loop-k.values c.match-value_carried.values
    (values_between from to c.args.operands.now c.args.args.now) c.loop-k-test.true c.index-operands-k.is
    (c.value_carried.ensures ∙ ap (value_between from to c.index-operands-k.result) c.arg_at.ensures) (added c) c.loop-k.invariant

pub returns : goal.returns
returns c = λ d f g is_from is_to.
    let from = c.args.from.now in
    let to = c.args.to.now in
    ends (value_between from to) c.args.operands.now c.args.args.now c.loop-k.k c.loop-k.values
    (values_between from to c.args.operands.now c.args.args.now) c.loop-k-test.false c.loop-k.invariant
    ∙ values_meant d f g from to is_from is_to c.args.operands.now c.args.args.now

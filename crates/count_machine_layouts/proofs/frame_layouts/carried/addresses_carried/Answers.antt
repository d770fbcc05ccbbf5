use Rattle.std.proofs.Common.{◌≡◌, ◌++◌, refl, sym, ap, ◌∙◌}
use Rattle.std.specs.Option.{option_to_list}
use Rattle.std.proofs.lemmas.List.{append-nil}
use Rattle.count_machine_layouts.specs.FrameLayouts.inner.Carried.{address_between, addresses_between}
use Rattle.count_machine_layouts.proofs.FrameLayouts.Carrying.{ends, addresses_meant, one_more}
use Rattle.count_machine_layouts.proofs.frame_layouts.carried.addresses_carried.Goals as goal
use Rattle.count_machine_layouts.proofs.frame_layouts.carried.addresses_carried.Goals.{in-Some+in_ok-push, in_default}

added : (c : goal.Joined-address_carried) → c.match-address_carried.addresses ≡ c.loop-k.addresses ++ option_to_list c.address_carried.result
added c = elim c.match-address_carried.branch [
  | in-Some+in_ok-push w ↦ w.addresses-is ∙ w.in_ok-push.ensures.ok ∙ ap (λ x. c.loop-k.addresses ++ option_to_list x) (sym w.in-Some.is)
  | in_default w ↦ w.addresses-is ∙ sym (append-nil c.loop-k.addresses) ∙ ap (λ x. c.loop-k.addresses ++ option_to_list x) (sym w.in_default.is)
]

pub loop-k-preserved : goal.loop-k-preserved
loop-k-preserved c =
    let from = c.args.from.now in
    let to = c.args.to.now in
    one_more (address_between from to) (λ o. refl) c.args.operands.now c.args.args.now c.loop-k.k
    c.index-operands-k.result c.address_carried.result c.loop-k.addresses c.match-address_carried.addresses
    (addresses_between from to c.args.operands.now c.args.args.now) c.loop-k-test.true c.index-operands-k.is
    (c.address_carried.ensures ∙ ap (address_between from to c.index-operands-k.result) c.arg_at.ensures) (added c) c.loop-k.invariant

pub returns : goal.returns
returns c = λ d f g is_from is_to.
    let from = c.args.from.now in
    let to = c.args.to.now in
    ends (address_between from to) c.args.operands.now c.args.args.now c.loop-k.k c.loop-k.addresses
    (addresses_between from to c.args.operands.now c.args.args.now) c.loop-k-test.false c.loop-k.invariant
    ∙ addresses_meant d f g from to is_from is_to c.args.operands.now c.args.args.now

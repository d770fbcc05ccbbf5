use Rattle.std.proofs.Common.{◌≡◌, ap, ◌∙◌, Some}
use Rattle.holder_model.specs.Effects.{part_number}
use Rattle.count_machine_ready.proofs.MadeGroups.{member_made}
use Rattle.count_machine_ready.proofs.ops.member.Goals as goal

pub returns : goal.returns
returns c =
    let has = c.requires.has.has in
    let ty : Some c.in-Some-Some.ty.now ≡ Some has.ty = c.in-Some-Some.ensures ∙ has.of in
    let place : Some c.in-Some-Some.place ≡ Some has.place = c.in-Some-Some.ensures'
    ∙ ap (λ d. part_number d c.args.inst.now) c.requires.body.table ∙ has.number in
    member_made c.args.body.now.m.now c.args.body.now.function.now c.args.inst.now c.requires.has c.operand.result
    c.first_result.result c.in-Some-Some.ty.now c.in-Some-Some.place c.leaf_offset.result c.local.result c.local-in-Some-Some.result
    (cc) (cc) c.leaf_offset.ensures c.operand.ensures c.first_result.ensures c.local.ensures c.local-in-Some-Some.ensures

use Rattle.std.proofs.Common.{◌≡◌, ap, ◌∙◌, Some}
use Rattle.holder_model.specs.memory_rules_accesses.Sources.{member_place}
use Rattle.count_machine_ready.proofs.MadeGroups.{field_address_made}
use Rattle.count_machine_ready.proofs.ops.field_address.Goals as goal

pub returns : goal.returns
returns c =
    let has = c.requires.has.has in
    let place : Some c.in-Some.field ≡ Some has.place = c.in-Some.ensures
    ∙ ap (λ d. member_place d c.args.inst.now.member) c.requires.body.table ∙ has.member in
    field_address_made c.args.body.now.m.now c.args.body.now.function.now c.args.inst.now c.requires.has
    c.operand.result c.first_result.result c.in-Some.field c.local.result c.address.result (cc)
    c.operand.ensures c.first_result.ensures c.local.ensures c.address.ensures

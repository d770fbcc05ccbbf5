use Rattle.std.proofs.Common.{ap, ◌∙◌, map}
use Rattle.holder_model.specs.RunTyping.EndForms.{value_in}
use Rattle.count_machine_ready.specs.inner.Bodies.{local}
use Rattle.count_machine_ready.proofs.MadeGroups.{group_made}
use Rattle.count_machine_ready.proofs.ops.group.Goals as goal

pub returns : goal.returns
returns c =
    group_made c.args.body.now.m.now c.args.body.now.function.now c.args.inst.now c.requires.has c.first_result.result c.in_ok-locals_of.field-0 c.local.result
    (c.in_ok-locals_of.ensures ∙ ap (λ os. map (local c.args.body.now) (map value_in os)) c.as_slice.ensures) c.first_result.ensures c.local.ensures

use Rattle.std.proofs.Common.{ap, ◌∙◌, map}
use Rattle.holder_model.specs.RunTyping.EndForms.{value_in}
use Rattle.count_machine_ready.specs.inner.Bodies.{local}
use Rattle.count_machine_ready.proofs.MadeCalls.{call_out_made}
use Rattle.count_machine_ready.proofs.calls.call_out.Goals as goal

pub returns : goal.returns
returns c =
    call_out_made c.args.body.now.m.now c.args.body.now.function.now c.args.inst.now c.requires.does c.args.function
    c.requires.call.0 c.requires.call.1 c.requires.call.2
    c.first_result.result c.in_ok-values_of.field-0 c.in_ok-args.args c.local.result (c.in_ok-values_of.ensures ∙ ap (map value_in) c.as_slice.ensures)
    (c.in_ok-args.ensures ∙ ap (λ os. map (local c.args.body.now) (map value_in os)) c.args_of.ensures) c.first_result.ensures c.local.ensures

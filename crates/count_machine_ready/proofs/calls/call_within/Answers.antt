use Rattle.std.proofs.Common.{◌≡◌, ap, ap₂, ◌∙◌, get_or, map}
use Rattle.sil_cfg_items.specs.Items.{arg_value}
use Rattle.holder_model.specs.RunTyping.EndForms.{value_in}
use Rattle.count_machine_model.specs.ReadyCode.Layout.{addresses_carried, values_carried}
use Rattle.sil_types_declarations.specs.TypeDefinitions.Declarations.{Declarations, declarations_of}
use Rattle.count_machine_layouts.specs.FrameLayouts.inner.Layouts.{layout_of}
use Rattle.count_machine_ready.proofs.Callees.{callee_inside, callee_layout}
use Rattle.count_machine_ready.proofs.MadeCalls.{call_made}
use Rattle.count_machine_ready.proofs.calls.call_within.Goals as goal

pub bounds-body-function : goal.bounds-body-function
bounds-body-function c = callee_inside c.args.body.now c.requires.body c.args.inst.now c.args.function c.args.callee.now c.requires.call

pub returns : goal.returns
returns c =
    let m = c.args.body.now.m.now in
    let f = c.args.body.now.function.now in
    let g = c.args.callee.now in
    let d : Declarations = declarations_of m in
    let to : get_or c.args.body.now.layouts.now c.args.function.0 c.index-body-function.result ≡ layout_of d g =
    callee_layout c.args.body.now c.requires.body c.args.inst.now c.args.function g c.index-body-function.result c.requires.call in
    call_made m f c.args.inst.now c.requires.does c.args.function g c.requires.call c.requires.bodied
    c.first_result.result c.in_ok-values_of.field-0 c.in_ok-values.values
    c.in_ok-addresses.addresses c.local.result
    (c.in_ok-values_of.ensures ∙ ap (map value_in) c.as_slice.ensures)
    (c.in_ok-values.ensures d f g c.requires.body.layout to
    ∙ ap₂ (λ os xs. values_carried d f g (map value_in os) (map arg_value xs)) c.args_of-operands.ensures c.args_of-args.ensures)
    (c.in_ok-addresses.ensures d f g c.requires.body.layout to
    ∙ ap₂ (λ os xs. addresses_carried d f g (map value_in os) (map arg_value xs)) c.args_of-operands.ensures c.args_of-args.ensures)
    c.first_result.ensures c.local.ensures

use Rattle.std.proofs.Common.{sym, ap, ap₂, ◌∙◌}
use Rattle.std.specs.Prelude.{option_map}
use Rattle.sil_ast.specs.declared.member.Member.{Member}
use Rattle.holder_model.specs.ModuleShapes.{case_place}
use Rattle.holder_model_values.specs.RunValues.Shapes.{shape_of}
use Rattle.sil_types_declarations.specs.TypeDefinitions.Lookups.{payload_of}
use Rattle.count_machine_ready.specs.inner.Bodies.{declared}
use Rattle.count_machine_ready.proofs.EnumCases.{case_named, place_in}
use Rattle.count_machine_ready.proofs.edges.case_named.Goals as goal

pub returns-in-Some-payload : goal.returns-in-Some-payload
returns-in-Some-payload c =
    let ty = c.args.ty.now in
    let m = c.args.body.now.m.now in
    let runnable = c.requires.body.runnable in
    ap (option_map place_in) c.in-Some-payload.ensures
    ∙ ap₂ (λ d (n : Member). option_map place_in (payload_of d ty n.name)) c.requires.body.table c.get.ensures
    ∙ case_named m runnable ty c.requires.kind c.in-Some.member
    ∙ ap (case_place (shape_of (declared c.args.body.now) ty)) (sym c.in-Some.is)

pub returns-in-None-payload : goal.returns-in-None-payload
returns-in-None-payload c =
    let ty = c.args.ty.now in
    let m = c.args.body.now.m.now in
    let runnable = c.requires.body.runnable in
    ap (option_map place_in) c.in-None-payload.ensures
    ∙ ap₂ (λ d (n : Member). option_map place_in (payload_of d ty n.name)) c.requires.body.table c.get.ensures
    ∙ case_named m runnable ty c.requires.kind c.in-Some.member
    ∙ ap (case_place (shape_of (declared c.args.body.now) ty)) (sym c.in-Some.is)

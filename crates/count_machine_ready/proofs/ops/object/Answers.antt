use Rattle.std.proofs.Common.{◌≡◌, sym, ap, ◌∙◌, Some}
use Rattle.std.specs.Prelude.{option_and_then}
use Rattle.sil_ast.specs.declared.type_name.TypeName.{out-TypeName}
use Rattle.sil_ast.specs.declared.type_name.TypeName.TheVariants as type
use Rattle.sil_types.specs.Typing.Shapes.{name_in}
use Rattle.sil_types_declarations.specs.TypeDefinitions.Declarations.{declarations_of}
use Rattle.sil_types_declarations.specs.TypeDefinitions.Lookups.{class_place}
use Rattle.count_machine_ready.proofs.ClassPlaces.{class_of_type}
use Rattle.count_machine_ready.proofs.MadeGroups.{object_made}
use Rattle.count_machine_ready.proofs.ops.object.Goals as goal

pub returns : goal.returns
returns c =
    let has = c.requires.has.has in
    let ty : c.in-Some.ty ≡ type.Named has.class = (let e : Some c.in-Some.ty ≡ Some (type.Named has.class) = sym c.in-Some.is ∙ has.ty in cc) in
    object_made c.args.body.now.m.now c.args.body.now.function.now c.args.inst.now c.requires.has
    c.in-Some-class_index.class c.first_result.result c.local.result
    (class_of_type (declarations_of c.args.body.now.m.now) c.in-Some.ty has.class c.in-Some-class_index.class ty
    (c.in-Some-class_index.ensures ∙ ap (λ d. option_and_then (class_place d) (name_in (out-TypeName c.in-Some.ty))) c.requires.body.table))
    c.first_result.ensures c.local.ensures

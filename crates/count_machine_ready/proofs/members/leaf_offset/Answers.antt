use Rattle.std.proofs.Common.{◌≤◌, sym, ap, ◌∙◌, subst, map}
use Rattle.std.specs.Prelude.{sum}
use Rattle.sil_rules.specs.declared.limits.TheConstants.{LEAVES}
use Rattle.sil_types.specs.Typing.Shapes.{field_type, fields_of_struct}
use Rattle.sil_types_declarations.specs.TypeDefinitions.Declarations.{declarations_of}
use Rattle.sil_types_declarations.specs.TypeDefinitions.Measures.{leaves_of}
use Rattle.count_machine_ready.proofs.Offsets.{memberless_offset, struct_offset, struct_within, tuple_offset, tuple_within}
use Rattle.count_machine_ready.proofs.members.leaf_offset.Goals as goal

pub leaves_of_fields-requires : goal.leaves_of_fields-requires
leaves_of_fields-requires c =
    subst (λ d. sum (map (leaves_of d) (map field_type c.front.result.now)) ≤ LEAVES) (sym c.requires.body.table)
    (struct_within c.args.body.now.m.now c.requires.body.runnable c.args.ty.now c.in-Some.fields.now c.front.result.now c.args.place c.requires.size
    (ap (λ d. fields_of_struct d c.args.ty.now) (sym c.requires.body.table) ∙ sym c.in-Some.ensures) c.front.ensures)

pub returns-in-Some : goal.returns-in-Some
returns-in-Some c =
    c.leaves_of_fields.ensures ∙ ap (λ d. sum (map (leaves_of d) (map field_type c.front.result.now))) c.requires.body.table
    ∙ struct_offset c.args.body.now.m.now c.requires.body.runnable c.args.ty.now c.in-Some.fields.now c.front.result.now c.args.place
    (ap (λ d. fields_of_struct d c.args.ty.now) (sym c.requires.body.table) ∙ sym c.in-Some.ensures) c.front.ensures

pub leaves_of_types-requires : goal.leaves_of_types-requires
leaves_of_types-requires c =
    subst (λ d. sum (map (leaves_of d) c.front-in-Some-elements.result.now) ≤ LEAVES) (sym c.requires.body.table)
    (tuple_within c.args.body.now.m.now c.requires.body.runnable c.args.ty.now c.in-Some-elements.types.now
    c.front-in-Some-elements.result.now c.args.place c.requires.size
    (sym c.in-Some-elements.ensures) c.front-in-Some-elements.ensures)

pub returns-in-Some-elements : goal.returns-in-Some-elements
returns-in-Some-elements c =
    c.leaves_of_types.ensures ∙ ap (λ d. sum (map (leaves_of d) c.front-in-Some-elements.result.now)) c.requires.body.table
    ∙ tuple_offset c.args.body.now.m.now c.requires.body.runnable c.args.ty.now c.in-Some-elements.types.now
    c.front-in-Some-elements.result.now c.args.place c.requires.size
    (sym c.in-Some-elements.ensures) c.front-in-Some-elements.ensures

pub returns-in-None-elements : goal.returns-in-None-elements
returns-in-None-elements c =
    memberless_offset (declarations_of c.args.body.now.m.now) c.args.ty.now c.args.place
    (ap (λ d. fields_of_struct d c.args.ty.now) (sym c.requires.body.table) ∙ sym c.in-None.ensures) (sym c.in-None-elements.ensures)

use Rattle.std.proofs.Common.{sym, subst, Contains}
use Rattle.numbered_form.specs.Names.{field_name}
use Rattle.sil_types_declarations.proofs.TypeDeclarations.Names.{once_before}
use Rattle.sil_types_declarations.proofs.type_declarations.build.field_names.Goals as goal

pub add-requires : goal.add-requires
add-requires c =
    subst (λ names. Contains names (field_name c.field-item.result) → ⊥) (sym c.loop-field.invariant)
    (once_before field_name c.args.fields.now c.loop-field.field-index c.field-item.result c.requires c.loop-field-test.true c.field-item.is)

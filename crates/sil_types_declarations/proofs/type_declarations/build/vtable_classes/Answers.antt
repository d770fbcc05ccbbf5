use Rattle.std.proofs.Common.{sym, subst, Contains}
use Rattle.numbered_form.specs.Names.{class_name}
use Rattle.sil_types_declarations.proofs.TypeDeclarations.Names.{once_before}
use Rattle.sil_types_declarations.proofs.type_declarations.build.vtable_classes.Goals as goal

pub add-requires : goal.add-requires
add-requires c =
    subst (λ names. Contains names (class_name c.vtable-item.result) → ⊥) (sym c.loop-vtable.invariant)
    (once_before class_name c.args.vtables.now c.loop-vtable.vtable-index c.vtable-item.result c.requires c.loop-vtable-test.true c.vtable-item.is)

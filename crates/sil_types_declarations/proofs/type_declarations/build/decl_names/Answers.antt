use Rattle.std.proofs.Common.{sym, subst, Contains}
use Rattle.numbered_form.specs.Names.{decl_name}
use Rattle.sil_types_declarations.proofs.TypeDeclarations.Names.{once_before}
use Rattle.sil_types_declarations.proofs.type_declarations.build.decl_names.Goals as goal

pub add-requires : goal.add-requires
add-requires c =
    subst (λ name. Contains c.loop-decl.names name → ⊥) (sym c.name_of.ensures)
    (subst (λ names. Contains names (decl_name c.decl-item.result) → ⊥) (sym c.loop-decl.invariant)
    (once_before decl_name c.args.decls.now c.loop-decl.decl-index c.decl-item.result c.requires c.loop-decl-test.true c.decl-item.is))

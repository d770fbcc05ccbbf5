use Rattle.std.proofs.Common.{sym, subst, Contains}
use Rattle.numbered_form.specs.Names.{case_name}
use Rattle.sil_types_declarations.proofs.TypeDeclarations.Names.{once_before}
use Rattle.sil_types_declarations.proofs.type_declarations.build.case_names.Goals as goal

pub add-requires : goal.add-requires
add-requires c =
    subst (λ names. Contains names (case_name c.case-item.result) → ⊥) (sym c.loop-case.invariant)
    (once_before case_name c.args.cases.now c.loop-case.case-index c.case-item.result c.requires c.loop-case-test.true c.case-item.is)

use Rattle.std.proofs.Common.{sym, subst, ap, ◌∙◌, ◌++◌, map}
use Rattle.numbered_form.specs.Names.{AreOnce, decl_name}
use Rattle.sil_types_declarations.specs.TypeDefinitions.Declarations.{swift_structs}
use Rattle.sil_types_declarations.proofs.TypeDeclarations.Names.{names_once}
use Rattle.sil_types_declarations.proofs.type_declarations.table.DeclarationTable.build.Goals as goal

pub decl_names-requires : goal.decl_names-requires
decl_names-requires c =
    let all = c.as_slice-2.ensures ∙ c.in_ok-all.ensures ∙ ap (λ ds. swift_structs c.args.m.now.imports.swift ++ ds) c.as_slice.ensures in
    subst (λ ds. AreOnce (map decl_name ds)) (sym all) (names_once c.args.m.now.imports.swift c.args.m.now.decls c.requires.once.declarations)

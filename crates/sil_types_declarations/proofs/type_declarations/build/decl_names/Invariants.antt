use Rattle.std.proofs.Common.{◌≡◌, take, map}
use Rattle.numbered_form.specs.Names.{decl_name}
use Rattle.sil_types_declarations.proofs.type_declarations.build.decl_names.Given as goal

abbrev pub invariant-loop-decl : goal.invariant-loop-decl
invariant-loop-decl l = l.names ≡ map decl_name (take l.decl-index l.decls)

use Rattle.std.proofs.Common.{◌≡◌, ◌++◌, take}
use Rattle.sil_types_declarations.specs.TypeDefinitions.Declarations.{swift_structs}
use Rattle.sil_types_declarations.proofs.type_declarations.build.all_decls.Given as goal

abbrev pub invariant-loop-decl : goal.invariant-loop-decl
invariant-loop-decl l = l.all ≡ swift_structs l.swift ++ take l.decl-index l.text

-- How a table keeps the structs of `Swift` and those of the text in one list.
use Rattle.std.specs.Prelude.{◌≡◌, List, ◌++◌, Bool, length, drop}
use Rattle.sil_ast.specs.declared.decl.Decl.{Decl}
use Rattle.sil_types_declarations.specs.TypeDefinitions.Declarations.{swift_structs}

-- the declarations of the text, behind those of `Swift`
abbrev pub in_text : Bool → List Decl → List Decl
in_text swift all = drop (length (swift_structs swift)) all

-- the list begins with the structs of `Swift`
abbrev pub IsSplit : Bool → List Decl → Type 0
IsSplit swift all = all ≡ swift_structs swift ++ in_text swift all

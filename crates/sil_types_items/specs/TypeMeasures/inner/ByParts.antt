-- What the measures of types keep to, with no number of declarations that are looked through.
use Rattle.std.specs.Prelude.{◌≡◌, Some, map}
use Rattle.sil_ast.specs.declared.decl.Decl.{Decl}
use Rattle.sil_ast.specs.declared.type_name.TypeName.TheVariants as type
use Rattle.sil_types_declarations.specs.numbered_form.Names.{Name}
use Rattle.sil_types_declarations.specs.TypeDefinitions.Contained.{held_types}
use Rattle.sil_types_declarations.specs.TypeDefinitions.Declarations.{Declarations, decl_of}
use Rattle.sil_types_declarations.specs.TypeDefinitions.Measures.{from_held, measure_of}

-- the measure of each declared type is made of those of the types that it holds
abbrev pub AreByParts : Declarations → Type 0
AreByParts d = (name : Name) (x : Decl) → decl_of d name ≡ Some x → measure_of d (type.Named name) ≡ from_held x (map (measure_of d) (held_types x))

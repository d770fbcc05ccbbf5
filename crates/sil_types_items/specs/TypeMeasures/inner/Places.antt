-- The places of the declarations that a type is made of.
use Rattle.std.specs.Prelude.{ℕ, List}
use Rattle.std.specs.List.{flat_map}
use Rattle.sil_ast.specs.declared.type_name.TypeName.{TypeName}
use Rattle.sil_types_declarations.specs.numbered_form.Names.{Name}
use Rattle.sil_types_declarations.specs.TypeDefinitions.Contained.{names_in, place_list}

abbrev pub places_in : List Name → TypeName → List ℕ
places_in names t = flat_map (place_list names) (names_in t)

-- Which declarations hold values of which others, with no class between, and which classes inherit from which.
use Rattle.std.specs.Prelude.{ℕ, List, [], ◌∷◌, ◌++◌, Option, map, cond}
use Rattle.std.specs.List.{flat_map}
use Rattle.std.specs.Option.{option_to_list}
use Rattle.sil_ast.specs.declared.decl.Case.{Case}
use Rattle.sil_ast.specs.declared.decl.Decl.{Decl}
use Rattle.sil_ast.specs.declared.decl.Decl.TheVariants.{Struct, Enum, Class}
use Rattle.sil_ast.specs.declared.decl.Field.{Field}
use Rattle.sil_ast.specs.declared.type_name.TypeName.{TypeName, fold-TypeName}
use Rattle.sil_ast.specs.declared.type_name.TypeName.TheOpen.{TypeName-F, Int, Named, Optional, Tuple, Weak, Unowned, Address}
use Rattle.numbered_form.specs.Names.{Name, superclass_in}
use Rattle.sil_types_declarations.specs.TypeDefinitions.Declarations.{Declarations, all_decls, all_names, is_class, place_of}

abbrev pub itself : List Name → List Name
itself names = names

abbrev pub names_over : TypeName-F (List Name) → List Name
names_over (Int width) = []
names_over (Named name) = name ∷ []
names_over (Optional names) = names
names_over (Tuple parts) = flat_map itself parts
names_over (Weak names) = names
names_over (Unowned names) = names
names_over (Address names) = names

-- the names that a type is made of
abbrev pub names_in : TypeName → List Name
names_in = fold-TypeName (List Name) names_over

abbrev pub field_type : Field → TypeName
field_type f = f.ty

abbrev pub payload_types : Case → List TypeName
payload_types c = option_to_list c.payload

-- the types whose values a value of the declared type holds within itself: a class's fields lie in an object elsewhere
abbrev pub held_types : Decl → List TypeName
held_types (Struct name fields) = map field_type fields
held_types (Enum name cases) = flat_map payload_types cases
held_types (Class name superclass fields) = []

abbrev pub held_names : Decl → List Name
held_names d = flat_map names_in (held_types d)

abbrev pub place_list : List Name → Name → List ℕ
place_list names name = option_to_list (place_of names name)

-- the declarations that a declaration holds, by their places
abbrev pub held_places : List Name → Decl → List ℕ
held_places names d = flat_map (place_list names) (held_names d)

abbrev pub class_list : Declarations → Name → List ℕ
class_list d name = cond (is_class d name) (place_list (all_names d) name) []

-- the superclass of a class, by its place, where it is a class
abbrev pub superclass_places : Declarations → Decl → List ℕ
superclass_places d x = flat_map (class_list d) (option_to_list (superclass_in x))

-- the declarations that a declaration holds or inherits from
abbrev pub lower_places : Declarations → Decl → List ℕ
lower_places d x = superclass_places d x ++ held_places (all_names d) x

-- for each declaration the places of those that it holds or inherits from. From a class only classes follow, so that a ring is one of structs and
-- enums, each of which holds the next, or one of classes, each of which inherits from the next
abbrev pub containment : Declarations → List (List ℕ)
containment d = map (lower_places d) (all_decls d)

-- What look-ups give: fields, payloads, deinitialisers, and classes by their places.
use Rattle.std.specs.Prelude.{ℕ, ◌+◌, ◌-◌, ◌++◌, List, [], ◌∷◌, Option, Some, None, map}
use Rattle.std.specs.Prelude.{slice_get, option_map, cond, if◌then◌else◌, ◌==◌, length}
use Rattle.sil_ast.specs.declared.decl.Case.{Case}
use Rattle.sil_ast.specs.declared.decl.Decl.{Decl}
use Rattle.sil_ast.specs.declared.decl.Decl.TheVariants.{Struct, Enum, Class}
use Rattle.sil_ast.specs.declared.decl.Field.{Field}
use Rattle.sil_ast.specs.declared.place.FuncId.{FuncId}
use Rattle.sil_ast.specs.declared.type_name.TypeName.{TypeName, out-TypeName}
use Rattle.sil_ast.specs.declared.type_name.TypeName.TheOpen.{TypeName-F, Int, Named, Optional, Tuple, Weak, Unowned, Address}
use Rattle.sil_ast.specs.declared.vtable.Vtable.{Vtable}
use Rattle.numbered_form.specs.Names.{Name, decl_name, field_name, case_name, class_name}
use Rattle.sil_types_declarations.specs.TypeDefinitions.Declarations.{Declarations, all_names, ancestors_of, at_place, decl_of, is_class, is_class_decl}
use Rattle.sil_types_declarations.specs.TypeDefinitions.Declarations.{optional_cases, place_of, swift_structs}

abbrev pub decl_fields : Option Decl → List Field
decl_fields None = []
decl_fields (Some (Struct name fields)) = fields
decl_fields (Some (Enum name cases)) = []
decl_fields (Some (Class name superclass fields)) = fields

abbrev pub decl_cases : Option Decl → List Case
decl_cases None = []
decl_cases (Some (Struct name fields)) = []
decl_cases (Some (Enum name cases)) = cases
decl_cases (Some (Class name superclass fields)) = []

-- the fields that a struct or class declares itself
abbrev pub own_fields : Declarations → Name → List Field
own_fields d owner = decl_fields (decl_of d owner)

-- those of classes of which each is the superclass of the one before: the last one's come first
abbrev pub chain_fields : Declarations → List Name → List Field
chain_fields d [] = []
chain_fields d (class ∷ above) = chain_fields d above ++ own_fields d class

-- the fields of a class's ancestors
abbrev pub inherited_fields : Declarations → Name → List Field
inherited_fields d owner = chain_fields d (ancestors_of d owner)

-- the fields of a struct or class: those of a class's ancestors, the root's first, and then its own
abbrev pub fields_of : Declarations → Name → List Field
fields_of d owner = inherited_fields d owner ++ own_fields d owner

-- the cases of an enum that the text declares
abbrev pub cases_of : Declarations → Name → List Case
cases_of d owner = decl_cases (decl_of d owner)

-- a field, with its place among all fields of its owner
pub record FoundField : Type 0 where
  pub place : ℕ
  pub field : Field

abbrev pub field_at_place : ℕ → List Field → Option ℕ → Option FoundField
field_at_place before fields None = None
field_at_place before fields (Some place) = option_map (λ f. record { place = before + place; field = f }) (slice_get fields place)

-- the field with this name that a struct or class declares itself. Its place is behind the inherited ones
abbrev pub field_of : Declarations → Name → Name → Option FoundField
field_of d owner name = field_at_place (length (inherited_fields d owner)) (own_fields d owner) (place_of (map field_name (own_fields d owner)) name)

-- the field of a struct or class at a place
abbrev pub field_at : Declarations → Name → ℕ → Option Field
field_at d owner place = slice_get (fields_of d owner) place

-- a case's place, and its payload if it has one
pub record Payload : Type 0 where
  pub place : ℕ
  pub ty : Option TypeName

abbrev pub case_payload : Case → Option TypeName
case_payload c = c.payload

abbrev pub payload_at : List Case → Option ℕ → Option Payload
payload_at cases None = None
payload_at cases (Some place) = option_map (λ c. record { place = place; ty = case_payload c }) (slice_get cases place)

abbrev pub optional_payload : TypeName → Option ℕ → Option Payload
optional_payload target None = None
optional_payload target (Some place) = Some (record { place = place; ty = cond (place == 0) None (Some target) })

-- the case with this name of an enum that the text declares
abbrev pub declared_payload : Declarations → Name → Name → Option Payload
declared_payload d owner name = payload_at (cases_of d owner) (place_of (map case_name (cases_of d owner)) name)

-- by the type's outermost layer: `none` and `some` of an Optional, or a case of a declared enum
abbrev pub payload_in : Declarations → Name → TypeName-F TypeName → Option Payload
payload_in d name (Int width) = None
payload_in d name (Named owner) = declared_payload d owner name
payload_in d name (Optional target) = optional_payload target (place_of optional_cases name)
payload_in d name (Tuple parts) = None
payload_in d name (Weak target) = None
payload_in d name (Unowned target) = None
payload_in d name (Address target) = None

-- the case with this name of an enum type
abbrev pub payload_of : Declarations → TypeName → Name → Option Payload
payload_of d t name = payload_in d name (out-TypeName t)

abbrev pub entry_function : Vtable → Option FuncId
entry_function v = option_map (λ e. e.function) v.entry

abbrev pub deinit_in : Option Vtable → Option FuncId
deinit_in None = None
deinit_in (Some v) = entry_function v

-- the deinitialiser that the vtable of a class names
abbrev pub deinit_of : Declarations → Name → Option FuncId
deinit_of d class = deinit_in (at_place d.vtables (place_of (map class_name d.vtables) class))

abbrev pub class_named : Option Decl → Option Name
class_named None = None
class_named (Some d) = cond (is_class_decl d) (Some (decl_name d)) None

-- the name of the class at a place among the declarations of the text
abbrev pub class_at : Declarations → ℕ → Option Name
class_at d place = class_named (slice_get d.decls place)

-- the place of the class with this name among the declarations of the text
abbrev pub class_place : Declarations → Name → Option ℕ
class_place d name = cond (is_class d name) (option_map (λ place. place - length (swift_structs d.swift)) (place_of (all_names d) name)) None

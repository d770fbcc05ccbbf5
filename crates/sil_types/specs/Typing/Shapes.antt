-- What a type is: an object's, an address, storage, a bit, an enum; and what stands behind or within it.
use Rattle.std.specs.Prelude.{ℕ, ℤ, pos, negsuc, List, Bool, true, false, not, ◌&&◌, ◌==◌, Option, Some, None}
use Rattle.std.specs.Prelude.{is_some, option_map, option_and_then, slice_get, length, if◌then◌else◌, codes}
use Rattle.std.specs.Str.{bytes_eq}
use Rattle.sil_ast.specs.declared.decl.Decl.{Decl}
use Rattle.sil_ast.specs.declared.decl.Decl.TheVariants.{Struct, Enum, Class}
use Rattle.sil_ast.specs.declared.decl.Field.{Field}
use Rattle.sil_ast.specs.declared.decl.Storage.{Storage}
use Rattle.sil_ast.specs.declared.decl.Storage.TheVariants as storage
use Rattle.sil_ast.specs.declared.member.Member.{Member}
use Rattle.sil_ast.specs.declared.type_name.TypeName.{TypeName, out-TypeName}
use Rattle.sil_ast.specs.declared.type_name.TypeName.TheOpen.{TypeName-F, Int, Named, Optional, Tuple, Weak, Unowned, Address}
use Rattle.sil_ast.specs.declared.type_name.TypeName.TheVariants as type
use Rattle.sil_types_declarations.specs.numbered_form.Names.{Name}
use Rattle.sil_types_declarations.specs.TypeDefinitions.Declarations.{Declarations, decl_of, optional_cases}
use Rattle.sil_types_declarations.specs.TypeDefinitions.Lookups.{FoundField, Payload, field_of, payload_of}
use Rattle.sil_types_declarations.specs.TypeDefinitions.Measures.{is_trivial}

-- the value, where it passes the test
abbrev pub where_it : {A : Type 0} → (A → Bool) → Option A → Option A
where_it test None = None
where_it test (Some x) = if test x then Some x else None

abbrev pub is_object_layer : TypeName-F TypeName → Bool
is_object_layer (Weak inner) = false
is_object_layer (Unowned inner) = false
is_object_layer (Address inner) = false
is_object_layer _ = true

-- an object's type is neither an address nor weak or unowned storage
abbrev pub is_object : TypeName → Bool
is_object t = is_object_layer (out-TypeName t)

-- an object's type that holds a reference
abbrev pub is_nontrivial : Declarations → TypeName → Bool
is_nontrivial d t = is_object t && not (is_trivial d t)

-- an object's type that holds none
abbrev pub is_trivial_object : Declarations → TypeName → Bool
is_trivial_object d t = is_object t && is_trivial d t

abbrev pub is_storage_layer : TypeName-F TypeName → Bool
is_storage_layer (Weak inner) = true
is_storage_layer (Unowned inner) = true
is_storage_layer _ = false

-- weak or unowned storage
abbrev pub is_storage : TypeName → Bool
is_storage t = is_storage_layer (out-TypeName t)

abbrev pub is_integer_layer : TypeName-F TypeName → Bool
is_integer_layer (Int width) = true
is_integer_layer _ = false

-- a builtin integer
abbrev pub is_integer : TypeName → Bool
is_integer t = is_integer_layer (out-TypeName t)

abbrev pub is_bit_layer : TypeName-F TypeName → Bool
is_bit_layer (Int width) = width == 1
is_bit_layer _ = false

-- `Builtin.Int1`
abbrev pub is_bit : TypeName → Bool
is_bit t = is_bit_layer (out-TypeName t)

abbrev pub target_in : TypeName-F TypeName → Option TypeName
target_in (Address inner) = Some inner
target_in _ = None

-- the type at an address
abbrev pub target : TypeName → Option TypeName
target t = target_in (out-TypeName t)

abbrev pub is_address : TypeName → Bool
is_address t = is_some (target t)

abbrev pub weak_in : TypeName-F TypeName → Option TypeName
weak_in (Weak inner) = Some inner
weak_in _ = None

-- the type of what weak storage gives
abbrev pub in_weak : TypeName → Option TypeName
in_weak t = weak_in (out-TypeName t)

abbrev pub unowned_in : TypeName-F TypeName → Option TypeName
unowned_in (Unowned inner) = Some inner
unowned_in _ = None

-- the type of what unowned storage gives
abbrev pub in_unowned : TypeName → Option TypeName
in_unowned t = unowned_in (out-TypeName t)

-- the object's type at an address
abbrev pub object_at : TypeName → Option TypeName
object_at t = where_it is_object (target t)

-- the type of what weak storage at an address gives
abbrev pub weak_at : TypeName → Option TypeName
weak_at t = option_and_then in_weak (target t)

-- the type of what unowned storage at an address gives
abbrev pub unowned_at : TypeName → Option TypeName
unowned_at t = option_and_then in_unowned (target t)

abbrev pub elements_in : TypeName-F TypeName → Option (List TypeName)
elements_in (Tuple parts) = Some parts
elements_in _ = None

-- the elements of a tuple
abbrev pub elements : TypeName → Option (List TypeName)
elements t = elements_in (out-TypeName t)

abbrev pub element_at : List TypeName → Option ℤ → Option TypeName
element_at ts None = None
element_at ts (Some (pos n)) = slice_get ts n
element_at ts (Some (negsuc n)) = None

-- the element of a tuple with a number
abbrev pub element_of : Option ℤ → TypeName → Option TypeName
element_of number t = option_and_then (λ ts. element_at ts number) (elements t)

-- a declaration's fields, where it is a struct
abbrev pub struct_fields : Decl → Option (List Field)
struct_fields (Struct name fields) = Some fields
struct_fields (Enum name cases) = None
struct_fields (Class name superclass fields) = None

-- a declaration's fields, where it is a class
abbrev pub class_fields : Decl → Option (List Field)
class_fields (Struct name fields) = None
class_fields (Enum name cases) = None
class_fields (Class name superclass fields) = Some fields

abbrev pub name_in : TypeName-F TypeName → Option Name
name_in (Named name) = Some name
name_in _ = None

-- what declares a type that is a name
abbrev pub decl_of_type : Declarations → TypeName → Option Decl
decl_of_type d t = option_and_then (decl_of d) (name_in (out-TypeName t))

-- the fields of a type that is a struct
abbrev pub fields_of_struct : Declarations → TypeName → Option (List Field)
fields_of_struct d t = option_and_then struct_fields (decl_of_type d t)

abbrev pub field_type : Field → TypeName
field_type f = f.ty

abbrev pub stored_as : Storage → TypeName → TypeName
stored_as storage.Strong t = t
stored_as storage.Weak t = type.Weak t
stored_as storage.Unowned t = type.Unowned t

-- the type of the address of an object's field: of a weak or unowned field that of its storage
abbrev pub field_address : Field → TypeName
field_address f = type.Address (stored_as f.storage f.ty)

abbrev pub found_field : FoundField → Field
found_field f = f.field

-- the type is the name in front of the member's
abbrev pub is_owner_layer : Name → TypeName-F TypeName → Bool
is_owner_layer owner (Named name) = bytes_eq name owner
is_owner_layer owner _ = false

abbrev pub is_owner : Member → TypeName → Bool
is_owner m t = is_owner_layer m.owner (out-TypeName t)

abbrev pub field_named : Declarations → Member → Option Field
field_named d m = option_map found_field (field_of d m.owner m.name)

-- the field `#S.f` of a type that is the struct S
abbrev pub struct_field : Declarations → Member → TypeName → Option Field
struct_field d m t = if is_owner m t && is_some (fields_of_struct d t) then field_named d m else None

abbrev pub fields_of_class : Declarations → TypeName → Option (List Field)
fields_of_class d t = option_and_then class_fields (decl_of_type d t)

-- the field `#C.f` of a type that is the class C
abbrev pub class_field : Declarations → Member → TypeName → Option Field
class_field d m t = if is_owner m t && is_some (fields_of_class d t) then field_named d m else None

abbrev pub declared_cases : Decl → Option ℕ
declared_cases (Struct name fields) = None
declared_cases (Enum name cases) = Some (length cases)
declared_cases (Class name superclass fields) = None

abbrev pub case_count_in : Declarations → TypeName-F TypeName → Option ℕ
case_count_in d (Named name) = option_and_then declared_cases (decl_of d name)
case_count_in d (Optional inner) = Some (length optional_cases)
case_count_in d _ = None

-- how many cases a type has that is an enum
abbrev pub case_count : Declarations → TypeName → Option ℕ
case_count d t = case_count_in d (out-TypeName t)

abbrev pub is_enum : Declarations → TypeName → Bool
is_enum d t = is_some (case_count d t)

abbrev pub is_case_owner_layer : Name → TypeName-F TypeName → Bool
is_case_owner_layer owner (Named name) = bytes_eq name owner
is_case_owner_layer owner (Optional inner) = bytes_eq owner (codes "Optional")
is_case_owner_layer owner _ = false

-- the case `#E.c` of a type that is the enum E, with its place and its payload
abbrev pub case_in : Declarations → Member → TypeName → Option Payload
case_in d m t = if is_case_owner_layer m.owner (out-TypeName t) then payload_of d t m.name else None

-- What a module declares, and what a name finds there.
use Rattle.std.specs.Prelude.{ℕ, zero, suc, List, [], ◌∷◌, ◌++◌, Bool, true, false, ◌&&◌, Option, Some, None, map}
use Rattle.std.specs.Prelude.{position, slice_get, is_some, option_map, codes, if◌then◌else◌}
use Rattle.std.specs.List.{list_any}
use Rattle.std.specs.Str.{bytes_eq}
use Rattle.sil_ast.specs.declared.decl.Decl.{Decl}
use Rattle.sil_ast.specs.declared.decl.Decl.TheVariants.{Struct, Enum, Class}
use Rattle.sil_ast.specs.declared.decl.Storage.TheVariants.{Strong}
use Rattle.sil_ast.specs.declared.module.Module.{Module}
use Rattle.sil_ast.specs.declared.type_name.TypeName.TheVariants as type
use Rattle.sil_ast.specs.declared.vtable.Vtable.{Vtable}
use Rattle.sil_rules.specs.declared.limits.TheConstants.{DEPTH}
use Rattle.numbered_form.specs.Names.{Name, decl_name, member_names, superclass_in}

-- what a module declares, with whether it imports `Swift`
pub record Declarations : Type 0 where
  pub swift : Bool
  pub decls : List Decl
  pub vtables : List Vtable

abbrev pub declarations_of : Module → Declarations
declarations_of m = record { swift = m.imports.swift; decls = m.decls; vtables = m.vtables }

-- `struct NAME { var _value: Builtin.IntN }`
abbrev pub integer_struct : Name → ℕ → Decl
integer_struct name width = Struct name (record { name = codes "_value"; storage = Strong; ty = type.Int width } ∷ [])

-- the structs that come with `import Swift`
abbrev pub swift_structs : Bool → List Decl
swift_structs true = integer_struct (codes "Int") 64 ∷ integer_struct (codes "Bool") 1 ∷ []
swift_structs false = []

-- all declarations that a name may find: those of `Swift`, then those of the text
abbrev pub all_decls : Declarations → List Decl
all_decls d = swift_structs d.swift ++ d.decls

abbrev pub all_names : Declarations → List Name
all_names d = map decl_name (all_decls d)

-- where a name stands first among names
abbrev pub place_of : List Name → Name → Option ℕ
place_of names name = position (bytes_eq name) names

-- what stands at a place, where there is one
abbrev pub at_place : {A : Type 0} → List A → Option ℕ → Option A
at_place xs None = None
at_place xs (Some i) = slice_get xs i

-- the struct, enum or class with this name
abbrev pub decl_of : Declarations → Name → Option Decl
decl_of d name = at_place (all_decls d) (place_of (all_names d) name)

abbrev pub is_class_decl : Decl → Bool
is_class_decl (Struct name fields) = false
is_class_decl (Enum name cases) = false
is_class_decl (Class name superclass fields) = true

abbrev pub is_class_found : Option Decl → Bool
is_class_found None = false
is_class_found (Some d) = is_class_decl d

-- the name is that of a class
abbrev pub is_class : Declarations → Name → Bool
is_class d name = is_class_found (decl_of d name)

abbrev pub superclass_found : Option Decl → Option Name
superclass_found None = None
superclass_found (Some d) = superclass_in d

-- the superclass of the class with this name, where it has one
abbrev pub superclass_of : Declarations → Name → Option Name
superclass_of d class = superclass_found (decl_of d class)

-- a class and those above it, each the superclass of the one before: so many at most
abbrev pub chain : Declarations → ℕ → Option Name → List Name
chain d zero class = []
chain d (suc n) None = []
chain d (suc n) (Some class) = class ∷ chain d n (superclass_of d class)

-- more than n classes stand in the chain that begins with this one
abbrev pub is_longer : Declarations → ℕ → Option Name → Bool
is_longer d n None = false
is_longer d zero (Some class) = true
is_longer d (suc n) (Some class) = is_longer d n (superclass_of d class)

-- the ancestors of a class, the nearest first: all of them, where no chain is longer than the limit on depth
unfoldable pub ancestors_of : Declarations → Name → List Name
ancestors_of d class = chain d DEPTH (superclass_of d class)

-- the other one is an ancestor of the class
abbrev pub inherits : Declarations → Name → Name → Bool
inherits d class other = list_any (bytes_eq other) (ancestors_of d class)

-- the cases of the enum `Optional` that comes with `import Swift`
abbrev pub optional_cases : List Name
optional_cases = codes "none" ∷ codes "some" ∷ []

-- the word names the enum `Optional` of `Swift`
abbrev pub is_swift_optional : Declarations → Name → Bool
is_swift_optional d name = d.swift && bytes_eq name (codes "Optional")

-- the names of the fields or cases of what a name finds, where it finds something
abbrev pub members_of : Declarations → Name → Option (List Name)
members_of d owner = if is_swift_optional d owner then Some optional_cases else option_map member_names (decl_of d owner)

abbrev pub has_name : Name → Option (List Name) → Bool
has_name name None = false
has_name name (Some names) = is_some (place_of names name)

-- the name is that of a field or case of the owner
abbrev pub has_member : Declarations → Name → Name → Bool
has_member d owner name = has_name name (members_of d owner)

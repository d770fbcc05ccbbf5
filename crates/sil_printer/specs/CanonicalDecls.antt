-- Declarations of types: a first line, a line for each member, and the closing brace.
use Rattle.std.specs.Prelude.{ℕ, List, [], ◌++◌, if◌then◌else◌, codes, Option, Some, None}
use Rattle.sil_ast.specs.declared.type_name.TypeName.{TypeName}
use Rattle.sil_ast.specs.declared.decl.Case.{Case}
use Rattle.sil_ast.specs.declared.decl.Decl.{Decl}
use Rattle.sil_ast.specs.declared.decl.Decl.TheVariants.{Struct, Enum, Class}
use Rattle.sil_ast.specs.declared.decl.Field.{Field}
use Rattle.sil_ast.specs.declared.decl.Storage.{Storage}
use Rattle.sil_ast.specs.declared.decl.Storage.TheVariants.{Strong, Weak, Unowned}
use Rattle.sil_printer.specs.Words.{line, opening, indented, if_there}
use Rattle.sil_printer.specs.CanonicalTypes.{type_text, is_several}

abbrev pub storage_text : Storage → List ℕ
storage_text Strong = []
storage_text Weak = codes "weak "
storage_text Unowned = codes "unowned "

-- `var f: T`, `weak var f: T` or `unowned var f: T`
abbrev pub field_text : Field → List ℕ
field_text f = storage_text f.storage ++ codes "var " ++ f.name ++ codes ": " ++ type_text f.ty

-- a tuple of two or more has its own parentheses, and any other payload is put in some
abbrev pub payload_text : TypeName → List ℕ
payload_text ty = if is_several ty then type_text ty else codes "(" ++ type_text ty ++ codes ")"

-- `case c`, `case c(T)`, `case c(A, B)` or `case c(())`
abbrev pub case_text : Case → List ℕ
case_text c = codes "case " ++ c.name ++ if_there [] payload_text c.payload

-- `struct Pair {`, the lines of the members, and `}`
abbrev pub braced : {A : Type 0} → List ℕ → List ℕ → (A → List ℕ) → List A → List ℕ
braced word name text members = opening word name ++ indented text members ++ line (codes "}")

-- the name of a class, with its superclass: `Leaf : Node`
abbrev pub heading : List ℕ → Option (List ℕ) → List ℕ
heading name None = name
heading name (Some superclass) = name ++ codes " : " ++ superclass

abbrev pub decl_text : Decl → List ℕ
decl_text (Struct name fields) = braced (codes "struct ") name field_text fields
decl_text (Enum name cases) = braced (codes "enum ") name case_text cases
decl_text (Class name superclass fields) = braced (codes "class ") (heading name superclass) field_text fields

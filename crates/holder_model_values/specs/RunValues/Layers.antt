-- Types layer by layer, through what a module declares: whatever is told of a type is told of one layer by what is told of those below it.
use Rattle.std.specs.Prelude.{ℕ, zero, suc, List, [], ◌∷◌, Option, Some, None, map, option_map, length, codes}
use Rattle.sil_ast.specs.declared.decl.Case.{Case}
use Rattle.sil_ast.specs.declared.decl.Decl.{Decl}
use Rattle.sil_ast.specs.declared.decl.Decl.TheVariants as decl
use Rattle.sil_ast.specs.declared.decl.Field.{Field}
use Rattle.sil_ast.specs.declared.decl.Storage.{Storage}
use Rattle.sil_ast.specs.declared.decl.Storage.TheVariants as storage
use Rattle.sil_ast.specs.declared.type_name.TypeName.{TypeName, fold-TypeName}
use Rattle.sil_ast.specs.declared.type_name.TypeName.TheOpen.{TypeName-F, Int, Named, Optional, Weak, Unowned, Address}
use Rattle.sil_ast.specs.declared.type_name.TypeName.TheOpen as layer
use Rattle.sil_types_declarations.specs.numbered_form.Names.{Name}
use Rattle.sil_types_declarations.specs.TypeDefinitions.Declarations.{Declarations, all_decls, decl_of}

-- a case of an enum, with what is told of its payload if it has one
pub record CaseLayer (A : Type 0) : Type 0 where
  pub name : Name
  pub payload : Option A

-- the outermost layer of a type, with what is told of the types in it. A name that isn't declared, an address, and a type that lies deeper than
-- is looked are all unknown
pub data Layer (A : Type 0) : Type 0 where
  Integer : (width : ℕ) → Layer A
  Reference : (class : Name) → Layer A
  Struct : (name : Name) (fields : List A) → Layer A
  Tuple : (elements : List A) → Layer A
  Enum : (name : Name) (cases : List (CaseLayer A)) → Layer A
  Stored : (storage : Storage) (inner : A) → Layer A
  Unknown : Layer A

module _ {A : Type 0} (tell : Layer A → A) where
  abbrev pub plain_case : Name → CaseLayer A
  plain_case name = record { name = name; payload = None }

  abbrev pub full_case : Name → A → CaseLayer A
  full_case name x = record { name = name; payload = Some x }

  abbrev pub optional_layer : A → Layer A
  optional_layer x = Enum (codes "Optional") (plain_case (codes "none") ∷ full_case (codes "some") x ∷ [])

  abbrev pub over : (Name → A) → TypeName-F A → A
  over named (Int width) = tell (Integer width)
  over named (Named name) = named name
  over named (Optional x) = tell (optional_layer x)
  over named (layer.Tuple xs) = tell (Tuple xs)
  over named (Weak x) = tell (Stored storage.Weak x)
  over named (Unowned x) = tell (Stored storage.Unowned x)
  over named (Address x) = tell Unknown

  -- a type, by what is told of the names in it
  abbrev pub type_with : (Name → A) → TypeName → A
  type_with named = fold-TypeName A (over named)

  abbrev pub field_with : (Name → A) → Field → A
  field_with named f = type_with named f.ty

  abbrev pub case_with : (Name → A) → Case → CaseLayer A
  case_with named c = record { name = c.name; payload = option_map (type_with named) c.payload }

  abbrev pub decl_with : (Name → A) → Option Decl → A
  decl_with named None = tell Unknown
  decl_with named (Some (decl.Struct name fields)) = tell (Struct name (map (field_with named) fields))
  decl_with named (Some (decl.Enum name cases)) = tell (Enum name (map (case_with named) cases))
  decl_with named (Some (decl.Class name superclass fields)) = tell (Reference name)

  -- what a name stands for, through so many declarations at most
  abbrev pub named_within : Declarations → ℕ → Name → A
  named_within d zero name = tell Unknown
  named_within d (suc n) name = decl_with (named_within d n) (decl_of d name)

  -- a finite type is seen whole through as many declarations as there are
  abbrev pub told : Declarations → TypeName → A
  told d t = type_with (named_within d (length (all_decls d))) t

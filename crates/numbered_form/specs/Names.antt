-- Names and texts have a spelling, and no name is given twice. The names in types are in `Types`.
use Rattle.std.specs.Prelude.{ℕ, List, [], ◌∷◌, ◌++◌, ⊤, length, map, Contains, Bool, false, not, ◌&&◌, nat_le, IsTrue, IfSome, Option, None}
use Rattle.std.specs.List.{list_all}
use Rattle.sil_ast.specs.declared.decl.Case.{Case}
use Rattle.sil_ast.specs.declared.decl.Decl.{Decl}
use Rattle.sil_ast.specs.declared.decl.Decl.TheVariants.{Struct, Enum, Class}
use Rattle.sil_ast.specs.declared.decl.Field.{Field}
use Rattle.sil_ast.specs.declared.function.Function.{Function}
use Rattle.sil_ast.specs.declared.inst.Edge.{Edge}
use Rattle.sil_ast.specs.declared.inst.Inst.{Inst}
use Rattle.sil_ast.specs.declared.member.Member.{Member}
use Rattle.sil_ast.specs.declared.module.Module.{Module}
use Rattle.sil_ast.specs.declared.vtable.Vtable.{Vtable}
use Rattle.sil_ast.specs.Imports.{reserved}
use Rattle.sil_ast.specs.TextBytes.Bytes.{is_word_start, is_name_byte, is_text_byte}
use Rattle.sil_rules.specs.declared.limits.TheConstants.{NAME_BYTES}
use Rattle.numbered_form.specs.Lists.{Each, is_empty}
use Rattle.numbered_form.specs.Insts.{EachInst}

-- a name, without its sigil
abbrev pub Name : Type 0
Name = List ℕ

-- a name isn't longer than the limit
abbrev pub is_short : Name → Bool
is_short name = nat_le (length name) NAME_BYTES

-- the bytes of a word
abbrev pub is_word : Name → Bool
is_word [] = false
is_word (b ∷ bs) = is_word_start b && list_all is_name_byte bs && is_short (b ∷ bs)

-- what stands behind `@`
abbrev pub is_at_name : Name → Bool
is_at_name name = not (is_empty name) && list_all is_name_byte name && is_short name

-- what stands between quotes
abbrev pub is_quotable : List ℕ → Bool
is_quotable text = list_all is_text_byte text

abbrev pub IsWord : Name → Type 0
IsWord name = IsTrue (is_word name)

abbrev pub decl_name : Decl → Name
decl_name (Struct name fields) = name
decl_name (Enum name cases) = name
decl_name (Class name superclass fields) = name

abbrev pub field_name : Field → Name
field_name f = f.name

abbrev pub case_name : Case → Name
case_name c = c.name

abbrev pub member_names : Decl → List Name
member_names (Struct name fields) = map field_name fields
member_names (Enum name cases) = map case_name cases
member_names (Class name superclass fields) = map field_name fields

abbrev pub function_name : Function → Name
function_name f = f.name

abbrev pub class_name : Vtable → Name
class_name v = v.class_name

-- the superclass that a class names
abbrev pub superclass_in : Decl → Option Name
superclass_in (Struct name fields) = None
superclass_in (Enum name cases) = None
superclass_in (Class name superclass fields) = superclass

pub record IsDeclSpelled (d : Decl) : Type 0 where
  pub name : IsWord (decl_name d)
  pub superclass : IfSome (superclass_in d) IsWord
  pub members : Each IsWord (member_names d)

pub record IsFunctionSpelled (f : Function) : Type 0 where
  pub name : IsTrue (is_at_name f.name)
  pub attributes : Each IsWord f.attributes

pub record IsVtableSpelled (v : Vtable) : Type 0 where
  pub name : IsWord v.class_name
  pub owner : IfSome v.entry (λ e. IsWord e.owner)

pub record IsMemberSpelled (r : Member) : Type 0 where
  pub owner : IsWord r.owner
  pub name : IsWord r.name

abbrev pub IsEdgeSpelled : Edge → Type 0
IsEdgeSpelled e = IfSome e.case_of IsMemberSpelled

pub record IsInstSpelled (i : Inst) : Type 0 where
  pub member : IfSome i.member IsMemberSpelled
  pub text : IfSome i.text (λ text. IsTrue (is_quotable text))
  pub debug : IfSome i.debug.name (λ text. IsTrue (is_quotable text))
  pub edges : Each IsEdgeSpelled i.edges

-- every name and text has a spelling
pub record AreNamesSpelled (m : Module) : Type 0 where
  pub declarations : Each IsDeclSpelled m.decls
  pub functions : Each IsFunctionSpelled m.functions
  pub vtables : Each IsVtableSpelled m.vtables
  pub insts : EachInst IsInstSpelled m

-- no name stands twice
abbrev pub AreOnce : List Name → Type 0
AreOnce [] = ⊤
AreOnce (x ∷ xs) = (Contains xs x → ⊥) × AreOnce xs

abbrev pub AreMembersOnce : Decl → Type 0
AreMembersOnce d = AreOnce (member_names d)

-- no name is given twice
pub record AreNamesOnce (m : Module) : Type 0 where
  pub declarations : AreOnce (reserved m.imports ++ map decl_name m.decls)
  pub members : Each AreMembersOnce m.decls
  pub functions : AreOnce (map function_name m.functions)
  pub vtables : AreOnce (map class_name m.vtables)

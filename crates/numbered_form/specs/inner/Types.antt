-- Every type that a module mentions is written as the grammar writes types, with `*` only where that has it, and behind at most
-- one of the words that the grammar has for it.
use Rattle.std.specs.Prelude.{ℕ, ◌≤◌, List, Bool, false, not, ◌&&◌, ◌||◌, ◌==◌, nat_le, length, IsTrue, IfSome}
use Rattle.std.specs.List.{list_all}
use Rattle.sil_ast.specs.TypeName.{depth_of}
use Rattle.sil_ast.specs.declared.decl.Case.{Case}
use Rattle.sil_ast.specs.declared.decl.Decl.{Decl}
use Rattle.sil_ast.specs.declared.decl.Decl.TheVariants as decl
use Rattle.sil_ast.specs.declared.decl.Field.{Field}
use Rattle.sil_ast.specs.declared.function.Block.{Block}
use Rattle.sil_ast.specs.declared.function.BlockArg.{BlockArg}
use Rattle.sil_ast.specs.declared.function.Function.{Function}
use Rattle.sil_ast.specs.declared.inst.Edge.{Edge}
use Rattle.sil_ast.specs.declared.inst.Inst.{Inst}
use Rattle.sil_ast.specs.declared.module.Module.{Module}
use Rattle.sil_ast.specs.declared.operands.Operand.{Operand}
use Rattle.sil_ast.specs.declared.signature.Given.{Given}
use Rattle.sil_ast.specs.declared.signature.Param.{Param}
use Rattle.sil_ast.specs.declared.signature.Signature.{Signature}
use Rattle.sil_ast.specs.declared.type_name.TypeName.{TypeName, fold-TypeName, out-TypeName}
use Rattle.sil_ast.specs.declared.type_name.TypeName.TheOpen.{TypeName-F, Int, Named, Optional, Tuple, Weak, Unowned, Address}
use Rattle.sil_rules.specs.declared.limits.TheConstants.{ARGUMENTS, DEPTH}
use Rattle.numbered_form.specs.Lists.{Each}
use Rattle.numbered_form.specs.Names.{is_word}
use Rattle.numbered_form.specs.Insts.{EachInBlock}

-- the widths of builtin integers
abbrev pub is_width : ℕ → Bool
is_width w = w == 1 || w == 8 || w == 16 || w == 32 || w == 64

abbrev pub same : Bool → Bool
same b = b

-- a tuple never has one element: in parentheses one type is itself
abbrev pub is_tuple : List Bool → Bool
is_tuple elements = not (length elements == 1) && nat_le (length elements) ARGUMENTS && list_all same elements

-- a type whose parts are written so, or not, as told in their places
abbrev pub is_written : TypeName-F Bool → Bool
is_written (Int width) = is_width width
is_written (Named name) = is_word name
is_written (Optional target) = target
is_written (Tuple elements) = is_tuple elements
is_written (Weak target) = target
is_written (Unowned target) = target
is_written (Address target) = false

-- the type is written without `*`
abbrev pub is_plain_type : TypeName → Bool
is_plain_type = fold-TypeName Bool is_written

-- the type is written with one `*` in front, or without
abbrev pub is_placed_at : TypeName → TypeName-F TypeName → Bool
is_placed_at t (Address target) = is_plain_type target
is_placed_at t other = is_plain_type t

abbrev pub is_placed_type : TypeName → Bool
is_placed_type t = is_placed_at t (out-TypeName t)

-- a type where no `*` may stand, no deeper than the limit
pub record IsPlainType (t : TypeName) : Type 0 where
  pub written : IsTrue (is_plain_type t)
  pub depth : depth_of t ≤ DEPTH

-- a type where one `*` may stand, no deeper than the limit
pub record IsPlacedType (t : TypeName) : Type 0 where
  pub written : IsTrue (is_placed_type t)
  pub depth : depth_of t ≤ DEPTH

abbrev pub HasFieldType : Field → Type 0
HasFieldType f = IsPlainType f.ty

abbrev pub HasPayloadType : Case → Type 0
HasPayloadType c = IfSome c.payload IsPlainType

abbrev pub HasDeclTypes : Decl → Type 0
HasDeclTypes (decl.Struct name fields) = Each HasFieldType fields
HasDeclTypes (decl.Enum name cases) = Each HasPayloadType cases
HasDeclTypes (decl.Class name superclass fields) = Each HasFieldType fields

abbrev pub HasParamType : Param → Type 0
HasParamType p = IsPlainType p.ty

-- a result: `@owned`, `@out` or neither stands before its type, and not both
pub record IsGivenWritten (r : Given) : Type 0 where
  pub word : IsTrue (not (r.owned && r.out))
  pub ty : IsPlainType r.ty

pub record HasSignatureTypes (s : Signature) : Type 0 where
  pub params : Each HasParamType s.params
  pub results : Each IsGivenWritten s.results

abbrev pub HasOperandType : Operand → Type 0
HasOperandType o = IfSome o.ty IsPlacedType

abbrev pub HasArgType : BlockArg → Type 0
HasArgType a = IsPlacedType a.ty

abbrev pub HasEdgeTypes : Edge → Type 0
HasEdgeTypes e = Each HasOperandType e.args

pub record HasInstTypes (i : Inst) : Type 0 where
  pub ty : IfSome i.ty IsPlainType
  pub signature : IfSome i.signature HasSignatureTypes
  pub operands : Each HasOperandType i.operands
  pub edges : Each HasEdgeTypes i.edges

pub record HasBlockTypes (b : Block) : Type 0 where
  pub args : Each HasArgType b.args
  pub insts : EachInBlock HasInstTypes b

pub record HasFunctionTypes (f : Function) : Type 0 where
  pub signature : HasSignatureTypes f.signature
  pub blocks : Each HasBlockTypes f.blocks

pub record AreTypesWritten (m : Module) : Type 0 where
  pub declarations : Each HasDeclTypes m.decls
  pub functions : Each HasFunctionTypes m.functions

-- Instructions: the results, the mnemonic, and the parts of the form, each behind what parts it from the one before.
use Rattle.std.specs.Prelude.{ℕ, List, [], ◌∷◌, ◌++◌, drop, Option, Some, None, if◌then◌else◌, ◌&&◌, codes, decimal, slice_get}
use Rattle.std.specs.Fmt.{signed_decimal}
use Rattle.sil_ast.specs.declared.debug.Binding.{Binding}
use Rattle.sil_ast.specs.declared.debug.Binding.TheVariants.{Let, Var}
use Rattle.sil_ast.specs.declared.debug.Debug.{Debug}
use Rattle.instruction_table.specs.declared.entries.Detail.{Detail}
use Rattle.instruction_table.specs.declared.entries.Detail.TheVariants as detail
use Rattle.instruction_table.specs.declared.entries.Ending.{Ending}
use Rattle.instruction_table.specs.declared.entries.Ending.TheVariants as ending
use Rattle.instruction_table.specs.declared.forms.Part.{Part}
use Rattle.instruction_table.specs.declared.forms.Part.TheVariants as part
use Rattle.sil_ast.specs.declared.function.Function.{Function}
use Rattle.sil_ast.specs.declared.inst.Edge.{Edge}
use Rattle.sil_ast.specs.declared.inst.Inst.{Inst}
use Rattle.sil_ast.specs.declared.inst.Qualifier.{Qualifier}
use Rattle.sil_ast.specs.declared.inst.Qualifier.TheVariants.{Plain, Copy, Take, Trivial, Init, Assign}
use Rattle.sil_ast.specs.declared.member.Member.{Member}
use Rattle.instruction_table.specs.declared.op.Op.{Op}
use Rattle.sil_ast.specs.declared.operands.Operand.{Operand}
use Rattle.sil_ast.specs.declared.place.FuncId.{FuncId}
use Rattle.sil_ast.specs.declared.place.ValueId.{ValueId}
use Rattle.sil_ast.specs.declared.signature.Signature.{Signature}
use Rattle.sil_ast.specs.declared.type_name.TypeName.{TypeName}
use Rattle.instruction_table.specs.Forms.{detail_of, ending_of, has_result_list, is_item, mnemonic_of, parts_of}
use Rattle.sil_printer.specs.Words.{quote, listed, in_parens, parens_if_any, if_there, if_set}
use Rattle.sil_printer.specs.CanonicalTypes.{type_text}
use Rattle.sil_printer.specs.CanonicalSignatures.{signature_text}

-- `%1`
abbrev pub value_text : ValueId → List ℕ
value_text v = codes "%" ++ decimal v.0

-- `bb1`
abbrev pub block_name : ℕ → List ℕ
block_name k = codes "bb" ++ decimal k

-- `$T` and `$@convention(thin) () -> ()`
abbrev pub type_word : TypeName → List ℕ
type_word ty = codes "$" ++ type_text ty

abbrev pub signature_word : Signature → List ℕ
signature_word s = codes "$" ++ signature_text s

-- `%a : $T`, and `%a`
abbrev pub typed_text : Operand → List ℕ
typed_text o = value_text o.value ++ if_there (codes " : ") type_word o.ty

abbrev pub bare_text : Operand → List ℕ
bare_text o = value_text o.value

-- `"text"`
abbrev pub quoted : List ℕ → List ℕ
quoted text = quote ++ text ++ quote

-- `@f`, by the place of the function in its module
abbrev pub function_name : List Function → FuncId → List ℕ
function_name functions f = if_there (codes "@") (λ function. function.name) (slice_get functions f.0)

-- `#T.m`, and `#E.c!enumelt`
abbrev pub field_name : Member → List ℕ
field_name m = codes "#" ++ m.owner ++ codes "." ++ m.name

abbrev pub case_name : Member → List ℕ
case_name m = field_name m ++ codes "!enumelt"

abbrev pub member_by : Detail → Member → List ℕ
member_by detail.Case m = case_name m
member_by detail.Field m = field_name m
member_by detail.NoDetail m = field_name m
member_by detail.Literal m = field_name m
member_by detail.Element m = field_name m
member_by detail.Operation m = field_name m
member_by detail.Message m = field_name m

-- a case, or a field
abbrev pub member_text : Op → Member → List ℕ
member_text o m = member_by (detail_of o) m

abbrev pub qualifier_text : Qualifier → List ℕ
qualifier_text Plain = []
qualifier_text Copy = codes " [copy]"
qualifier_text Take = codes " [take]"
qualifier_text Trivial = codes " [trivial]"
qualifier_text Init = codes " [init]"
qualifier_text Assign = codes " [assign]"

abbrev pub flags_text : Inst → List ℕ
flags_text i = if_set (codes " [lexical]") i.lexical ++ if_set (codes " [var_decl]") i.var_decl

abbrev pub binding_text : Binding → List ℕ
binding_text Let = codes "let"
binding_text Var = codes "var"

-- `, let, name "x", argno 1, expr op_deref`
abbrev pub debug_text : Debug → List ℕ
debug_text d =
    if_there (codes ", ") binding_text d.binding
    ++ if_there (codes ", name ") quoted d.name
    ++ if_there (codes ", argno ") decimal d.argno
    ++ if_set (codes ", expr op_deref") d.deref

-- `default ` before a block that goes with no case, where others do
abbrev pub default_word : Ending → List ℕ
default_word ending.Cases = codes "default "
default_word ending.Inside = []
default_word ending.OneBranch = []
default_word ending.TwoBranches = []
default_word ending.Return = []
default_word ending.Unreachable = []

-- `case #E.c!enumelt: ` and `default ` before a block of `switch_enum`
abbrev pub edge_word : Op → Option Member → List ℕ
edge_word o (Some m) = codes "case " ++ case_name m ++ codes ": "
edge_word o None = default_word (ending_of o)

abbrev pub edge_text : Op → Edge → List ℕ
edge_text o e = edge_word o e.case_of ++ block_name e.block.0 ++ parens_if_any typed_text e.args

-- what stands before a part, behind the part before it or the mnemonic: a colon, nothing, a comma or a space
abbrev pub gap : Option Part → Part → List ℕ
gap before part.ResultType = codes " : "
gap before part.SignatureWord = codes " : "
gap before part.BareArgs = []
gap (Some part.Text) part.TypedArgs = []
gap (Some before) here = if is_item before && is_item here then codes ", " else codes " "
gap None here = codes " "

-- the operands that a part leaves to those behind it
abbrev pub operands_after : Part → List Operand → List Operand
operands_after part.Typed os = drop 1 os
operands_after part.Bare os = drop 1 os
operands_after other os = os

-- a part behind its gap: of the instruction, and of the operands that the parts before it left
abbrev pub part_text : List Function → Inst → List Operand → List ℕ → Part → List ℕ
part_text functions i os lead part.Flags = flags_text i
part_text functions i os lead part.Qualifier = qualifier_text i.qualifier
part_text functions i os lead part.Typed = if_there lead typed_text (slice_get os 0)
part_text functions i os lead part.Bare = if_there lead bare_text (slice_get os 0)
part_text functions i os lead part.To = lead ++ codes "to"
part_text functions i os lead part.TypeWord = if_there lead type_word i.ty
part_text functions i os lead part.Member = if_there lead (member_text i.op) i.member
part_text functions i os lead part.Number = if_there lead signed_decimal i.number
part_text functions i os lead part.Text = if_there lead quoted i.text
part_text functions i os lead part.Callee = if_there lead (function_name functions) i.function
part_text functions i os lead part.BareArgs = lead ++ in_parens bare_text os
part_text functions i os lead part.TypedArgs = lead ++ in_parens typed_text os
part_text functions i os lead part.ResultType = if_there lead type_word i.ty
part_text functions i os lead part.SignatureWord = if_there lead signature_word i.signature
part_text functions i os lead part.Debug = debug_text i.debug
part_text functions i os lead part.Edges = lead ++ listed (edge_text i.op) i.edges

abbrev pub parts_text : List Function → Inst → Option Part → List Operand → List Part → List ℕ
parts_text functions i before os [] = []
parts_text functions i before os (here ∷ others) =
    part_text functions i os (gap before here) here ++ parts_text functions i (Some here) (operands_after here os) others

-- `%1 = `, `(%1, %2) = `, or nothing
abbrev pub results_text : Op → List ValueId → List ℕ
results_text o [] = []
results_text o (v ∷ []) = (if has_result_list o then in_parens value_text (v ∷ []) else value_text v) ++ codes " = "
results_text o (v ∷ w ∷ vs) = in_parens value_text (v ∷ w ∷ vs) ++ codes " = "

abbrev pub inst_text : List Function → Inst → List ℕ
inst_text functions i =
    results_text i.op i.results ++ mnemonic_of i.op ++ parts_text functions i None i.operands (parts_of i.op)

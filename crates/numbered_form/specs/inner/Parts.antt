-- Each instruction has just the parts of its row in the table of instructions.
use Rattle.std.specs.Prelude.{◌≡◌, List, [], ◌∷◌, length, Bool, true, false, not, ◌&&◌, ◌||◌, ◌==◌, if◌then◌else◌, is_some, is_none, IsTrue, IsFalse}
use Rattle.std.specs.List.{list_any, list_all}
use Rattle.instruction_table.specs.Forms.{ending_of, has_one_result, is_terminator, may_lack_operand, parts_of, words_of}
use Rattle.sil_ast.specs.declared.debug.Debug.{Debug}
use Rattle.instruction_table.specs.declared.entries.Ending.{Ending}
use Rattle.instruction_table.specs.declared.entries.Ending.TheVariants as ending
use Rattle.instruction_table.specs.declared.entries.Words.{Words}
use Rattle.instruction_table.specs.declared.entries.Words.TheVariants as words
use Rattle.instruction_table.specs.declared.forms.Part.{Part}
use Rattle.instruction_table.specs.declared.forms.Part.TheVariants as part
use Rattle.sil_ast.specs.declared.function.Block.{Block}
use Rattle.sil_ast.specs.declared.function.Function.{Function}
use Rattle.sil_ast.specs.declared.inst.Edge.{Edge}
use Rattle.sil_ast.specs.declared.inst.Inst.{Inst}
use Rattle.sil_ast.specs.declared.inst.Qualifier.{Qualifier}
use Rattle.sil_ast.specs.declared.inst.Qualifier.TheVariants as qualifier
use Rattle.sil_ast.specs.declared.module.Module.{Module}
use Rattle.instruction_table.specs.declared.op.Op.{Op}
use Rattle.sil_ast.specs.declared.operands.Operand.{Operand}
use Rattle.sil_ast.specs.declared.place.ValueId.{ValueId}
use Rattle.numbered_form.specs.Lists.{Each, is_empty}

-- some part of the row passes the test
abbrev pub row_has : (Part → Bool) → Op → Bool
row_has test o = list_any test (parts_of o)

abbrev pub is_type : Part → Bool
is_type part.TypeWord = true
is_type part.ResultType = true
is_type _ = false

abbrev pub is_signature : Part → Bool
is_signature part.SignatureWord = true
is_signature _ = false

abbrev pub is_callee : Part → Bool
is_callee part.Callee = true
is_callee _ = false

abbrev pub is_member : Part → Bool
is_member part.Member = true
is_member _ = false

abbrev pub is_number : Part → Bool
is_number part.Number = true
is_number _ = false

abbrev pub is_text : Part → Bool
is_text part.Text = true
is_text _ = false

abbrev pub is_flags : Part → Bool
is_flags part.Flags = true
is_flags _ = false

abbrev pub is_debug : Part → Bool
is_debug part.Debug = true
is_debug _ = false

-- nothing is said for a debugger
abbrev pub is_silent : Debug → Bool
is_silent d = is_none d.binding && is_none d.name && is_none d.argno && not d.deref

abbrev pub is_plain : Qualifier → Bool
is_plain qualifier.Plain = true
is_plain _ = false

abbrev pub is_plain_or_take : Qualifier → Bool
is_plain_or_take qualifier.Plain = true
is_plain_or_take qualifier.Take = true
is_plain_or_take _ = false

abbrev pub is_plain_or_init : Qualifier → Bool
is_plain_or_init qualifier.Plain = true
is_plain_or_init qualifier.Init = true
is_plain_or_init _ = false

abbrev pub is_among : Words → Qualifier → Bool
is_among words.NoWord q = is_plain q
is_among words.AnyWord q = true
is_among words.TakeWord q = is_plain_or_take q
is_among words.InitWord q = is_plain_or_init q

-- the qualifier may stand in the row
abbrev pub may_have : Op → Qualifier → Bool
may_have o q = is_among (words_of o) q

abbrev pub is_typed : Operand → Bool
is_typed o = is_some o.ty

abbrev pub is_bare : Operand → Bool
is_bare o = is_none o.ty

-- the first operand passes the test, and those behind it pass the rest
abbrev pub first_then : (Operand → Bool) → (List Operand → Bool) → List Operand → Bool
first_then test rest [] = false
first_then test rest (o ∷ os) = test o && rest os

-- the operands begin with those of the part, where those of the parts behind it pass the rest. Behind a list of arguments stand none
abbrev pub are_of_part : Part → (List Operand → Bool) → List Operand → Bool
are_of_part part.Typed rest os = first_then is_typed rest os
are_of_part part.Bare rest os = first_then is_bare rest os
are_of_part part.TypedArgs rest os = list_all is_typed os
are_of_part part.BareArgs rest os = list_all is_bare os
are_of_part _ rest os = rest os

-- the operands are those of the parts, from left to right
abbrev pub are_of_parts : List Part → List Operand → Bool
are_of_parts [] os = is_empty os
are_of_parts (p ∷ ps) os = are_of_part p (are_of_parts ps) os

-- the operands are those of the row. The value of `enum` is left out where the case has no payload
abbrev pub has_operands : Op → List Operand → Bool
has_operands o os = are_of_parts (parts_of o) os || (may_lack_operand o && is_empty os)

-- `bb1`, or `bb1(%a : $T)`
abbrev pub is_branch : Edge → Bool
is_branch e = is_none e.case_of && list_all is_typed e.args

-- `case #E.c!enumelt: bb1`
abbrev pub is_case : Edge → Bool
is_case e = is_some e.case_of && is_empty e.args

-- `default bb1`
abbrev pub is_default : Edge → Bool
is_default e = is_none e.case_of && is_empty e.args

-- cases, and then at most one default
abbrev pub are_cases : List Edge → Bool
are_cases [] = true
are_cases (e ∷ es) = if is_case e then are_cases es else (is_default e && is_empty es)

abbrev pub are_edges_by : Ending → List Edge → Bool
are_edges_by ending.Inside es = is_empty es
are_edges_by ending.OneBranch es = length es == 1 && list_all is_branch es
are_edges_by ending.TwoBranches es = length es == 2 && list_all is_branch es
are_edges_by ending.Cases es = not (is_empty es) && are_cases es
are_edges_by ending.Return es = is_empty es
are_edges_by ending.Unreachable es = is_empty es

abbrev pub has_edges : Op → List Edge → Bool
has_edges o es = are_edges_by (ending_of o) es

-- the one result of a row is there. How many there must be is a question of types
abbrev pub has_results : Op → List ValueId → Bool
has_results o rs = not (has_one_result o && is_empty rs)

-- the instruction has just the parts of its row
pub record HasItsParts (i : Inst) : Type 0 where
  pub ty : is_some i.ty ≡ row_has is_type i.op
  pub signature : is_some i.signature ≡ row_has is_signature i.op
  pub function : is_some i.function ≡ row_has is_callee i.op
  pub member : is_some i.member ≡ row_has is_member i.op
  pub number : is_some i.number ≡ row_has is_number i.op
  pub text : is_some i.text ≡ row_has is_text i.op
  pub qualifier : IsTrue (may_have i.op i.qualifier)
  pub flags : IsTrue (row_has is_flags i.op || not (i.lexical || i.var_decl))
  pub debug : IsTrue (row_has is_debug i.op || is_silent i.debug)
  pub operands : IsTrue (has_operands i.op i.operands)
  pub edges : IsTrue (has_edges i.op i.edges)
  pub results : IsTrue (has_results i.op i.results)

-- an instruction that ends no block
pub record IsInside (i : Inst) : Type 0 where
  pub goes_on : IsFalse (is_terminator i.op)
  pub parts : HasItsParts i

-- an instruction that ends a block, without results
pub record IsTerminator (i : Inst) : Type 0 where
  pub ends : IsTrue (is_terminator i.op)
  pub no_results : i.results ≡ []
  pub parts : HasItsParts i

pub record BlockHasParts (b : Block) : Type 0 where
  pub insts : Each IsInside b.insts
  pub terminator : IsTerminator b.terminator

abbrev pub FunctionHasParts : Function → Type 0
FunctionHasParts f = Each BlockHasParts f.blocks

abbrev pub HaveTheirParts : Module → Type 0
HaveTheirParts m = Each FunctionHasParts m.functions

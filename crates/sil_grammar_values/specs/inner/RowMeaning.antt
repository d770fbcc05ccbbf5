-- What the row of an instruction stands for: its parts from left to right, each put where the instruction has it.
use Rattle.std.specs.Prelude.{◌-◌, ◌+◌, ℕ, List, [], ◌∷◌, ◌++◌, length, map, Bool, true, false, Option, Some, None, ℤ, pos}
use Rattle.std.specs.Option.{option_map}
use Rattle.instruction_table.specs.Forms.{detail_of, ending_of, may_lack_operand, parts_of}
use Rattle.instruction_table.specs.declared.entries.Detail.{Detail}
use Rattle.instruction_table.specs.declared.entries.Detail.TheVariants as detail
use Rattle.instruction_table.specs.declared.entries.Ending.{Ending}
use Rattle.instruction_table.specs.declared.entries.Ending.TheVariants as ending
use Rattle.instruction_table.specs.declared.forms.Part.{Part}
use Rattle.instruction_table.specs.declared.forms.Part.TheVariants as form
use Rattle.instruction_table.specs.declared.op.Op.{Op}
use Rattle.sil_ast.specs.declared.type_name.TypeName.{TypeName}
use Rattle.sil_grammar_tables.specs.Rows.{comma_behind, symbols_of}
use Rattle.sil_rules.specs.declared.limits.TheConstants.{ARGUMENTS}
use Rattle.sil_grammar_tree.specs.WrittenNumbers.Numbers.{literal_of, small_of}
use Rattle.sil_grammar_values.specs.inner.Parts.{part, place_at, text_at}
use Rattle.sil_grammar_values.specs.Types.{width_of}
use Rattle.sil_grammar_values.specs.Values.{bare_inst, debug_of, edge_of, edges_of, flags_of, member_of, operand_of}
use Rattle.sil_grammar_values.specs.Values.{operands_of, qualifier_of, signature_of, token_of, tokens_of, type_of}
use Rattle.sil_grammar_values.specs.declared.value.Value.{Value}
use Rattle.sil_grammar_tree.specs.declared.written_tree.written_declarations.WrittenToken.{WrittenToken}
use Rattle.sil_grammar_tree.specs.declared.written_tree.written_instructions.WrittenEdge.{WrittenEdge}
use Rattle.sil_grammar_tree.specs.declared.written_tree.written_instructions.WrittenInst.{WrittenInst}
use Rattle.sil_grammar_tree.specs.declared.written_tree.written_instructions.WrittenOperand.{WrittenOperand}

abbrev pub bare_operand : WrittenToken → WrittenOperand
bare_operand name = record { name = name; ty = None }

-- an element's number is less than the limit on elements
abbrev pub element_of : List ℕ → Option ℤ
element_of spelling = option_map pos (small_of (ARGUMENTS - 1) spelling)

-- a number: a literal of the width of the type before it, or that of an element
abbrev pub number_by : Detail → Option TypeName → List ℕ → Option ℤ
number_by detail.Literal (Some t) spelling = literal_of (width_of t) spelling
number_by detail.Element t spelling = element_of spelling
number_by _ t spelling = None

-- an operand with its type, or one that may be left out
abbrev pub typed_by : Bool → Value → List WrittenOperand
typed_by true value = operands_of value
typed_by false value = operand_of value ∷ []

-- one block, two with a comma between them, or cases and a default
abbrev pub edges_at : Ending → ℕ → List Value → List WrittenEdge
edges_at ending.OneBranch at parts = edge_of (part at parts) ∷ []
edges_at ending.TwoBranches at parts = edge_of (part at parts) ∷ edge_of (part (at + 2) parts) ∷ []
edges_at ending.Cases at parts = edges_of (part at parts)
edges_at _ at parts = []

-- an instruction with one part more, which begins at this place of the body
abbrev pub with_part : Op → Part → ℕ → List Value → WrittenInst → WrittenInst
with_part o form.Flags at parts i = record i { lexical = (flags_of (part at parts)).lexical; var_decl = (flags_of (part at parts)).var_decl }
with_part o form.Qualifier at parts i = record i { qualifier = qualifier_of (part at parts) }
with_part o form.Typed at parts i = record i { operands = i.operands ++ typed_by (may_lack_operand o) (part at parts) }
with_part o form.Bare at parts i = record i { operands = i.operands ++ bare_operand (token_of (part at parts)) ∷ [] }
with_part o form.To at parts i = i
with_part o form.TypeWord at parts i = record i { ty = Some (type_of (part (at + 1) parts)).ty }
with_part o form.Member at parts i = record i { member = Some (member_of (part at parts)) }
with_part o form.Number at parts i = record i { number = number_by (detail_of o) i.ty (text_at at parts) }
with_part o form.Text at parts i = record i { text = Some (text_at at parts) }
with_part o form.Callee at parts i = record i { function = Some (token_of (part at parts)) }
with_part o form.BareArgs at parts i = record i { operands = i.operands ++ map bare_operand (tokens_of (part (at + 1) parts)) }
with_part o form.TypedArgs at parts i = record i { operands = i.operands ++ operands_of (part (at + 1) parts) }
with_part o form.ResultType at parts i = record i { ty = Some (type_of (part (at + 2) parts)).ty }
with_part o form.SignatureWord at parts i = record i { signature = Some (signature_of (part (at + 2) parts)) }
with_part o form.Debug at parts i = record i { debug = debug_of (part at parts) }
with_part o form.Edges at parts i = record i { edges = edges_at (ending_of o) at parts }

-- where the part behind this one begins
abbrev pub behind_part : Op → Part → List Part → ℕ → ℕ
behind_part o here others at = at + (length (symbols_of o here) + length (comma_behind o here others))

-- an instruction with these parts more, of which the first begins at this place
abbrev pub with_parts : Op → List Part → ℕ → List Value → WrittenInst → WrittenInst
with_parts o [] at parts i = i
with_parts o (here ∷ others) at parts i = with_parts o others (behind_part o here others at) parts (with_part o here at parts i)

-- an instruction of which nothing is written but its mnemonic
abbrev pub begun : Op → List Value → WrittenInst
begun o parts = bare_inst o (place_at 0 parts)

-- the instruction that a row writes: its mnemonic, and its parts
abbrev pub row : Op → List Value → WrittenInst
row o parts = with_parts o (parts_of o) 1 parts (begun o parts)

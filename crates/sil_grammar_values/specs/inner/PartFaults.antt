-- The first fault in a part of a text by itself: its lists, its numbers, and its types that become too deep.
use Rattle.std.specs.Prelude.{ℕ, ◌-◌, List, [], ◌∷◌, Option, Some, None, if◌then◌else◌, ◌==◌, nat_lt, map}
use Rattle.std.specs.List.{flat_map}
use Rattle.sil_ast.specs.declared.place.Place.{Place}
use Rattle.sil_ast.specs.declared.type_name.TypeName.{TypeName}
use Rattle.sil_grammar_tables.specs.declared.grammar.Production.{Production}
use Rattle.sil_grammar_tables.specs.declared.grammar.Production.TheVariants as p
use Rattle.sil_grammar_tree.specs.WrittenNumbers.Numbers.{small_of}
use Rattle.sil_grammar_tree.specs.declared.written_tree.fault.Fault.{Fault}
use Rattle.sil_grammar_tree.specs.declared.written_tree.fault.FaultKind.TheVariants.{Limit}
use Rattle.sil_rules.specs.declared.limits.TheConstants.{ARGUMENTS, BLOCKS, DECLARATIONS, DEPTH, FUNCTIONS, INSTRUCTIONS, MEMBERS, VALUES}
use Rattle.sil_rules.specs.declared.limit_word.LimitWord.TheVariants as limit
use Rattle.sil_grammar_values.specs.declared.value.Value.{Value}
use Rattle.sil_grammar_tree.specs.declared.written_tree.written_declarations.WrittenToken.{WrittenToken}
use Rattle.sil_grammar_tree.specs.declared.written_tree.written_functions.WrittenBlock.{WrittenBlock}
use Rattle.sil_grammar_tree.specs.declared.written_tree.written_module.WrittenItem.{WrittenItem}
use Rattle.sil_grammar_values.specs.declared.written_types.TypeList.{TypeList}
use Rattle.sil_grammar_tree.specs.WrittenTree.Faults.{earlier, fault, out_of_range, passed}
use Rattle.instruction_table.specs.Forms.{detail_of, parts_of}
use Rattle.instruction_table.specs.declared.forms.Part.{Part}
use Rattle.instruction_table.specs.declared.forms.Part.TheVariants as form
use Rattle.instruction_table.specs.declared.op.Op.{Op}
use Rattle.sil_grammar_tree.specs.declared.written_tree.written_instructions.WrittenInst.{WrittenInst}
use Rattle.sil_grammar_values.specs.inner.Parts.{part, place_at, text_at}
use Rattle.sil_grammar_values.specs.inner.RowMeaning.{begun, behind_part, number_by, with_part}
use Rattle.sil_grammar_tree.specs.WrittenTree.Places.{arg_place, attribute_places, case_place, decl_names, field_place, function_names}
use Rattle.sil_grammar_tree.specs.WrittenTree.Places.{label_place, mnemonics_of, operand_place, token_place, values_of_block}
use Rattle.sil_grammar_values.specs.Types.{in_parens, type_before}
use Rattle.sil_grammar_values.specs.Values.{args_of, blocks_of, cases_of, fields_of, givens_of, items_of, questions_of}
use Rattle.sil_grammar_values.specs.Values.{operands_of, params_of, tokens_of, type_of, types_of}

-- a type that is one level deeper than one at the limit
abbrev pub too_deep : ℕ → Place → Option Fault
too_deep depth last = if depth == DEPTH then Some (fault (Limit limit.Depth) last) else None

-- a type with some `?` behind it, of which each ends a type of its own
abbrev pub too_many_questions : ℕ → List Place → Option Fault
too_many_questions depth questions = if nat_lt DEPTH depth then None else passed limit.Depth (DEPTH - depth) questions

-- types between two parentheses: one alone is no tuple
abbrev pub too_deep_among : List TypeName → ℕ → Place → Option Fault
too_deep_among (t ∷ []) depth last = None
too_deep_among types depth last = too_deep depth last

abbrev pub tuple_fault : TypeList → Place → Option Fault
tuple_fault list last = earlier (passed limit.Arguments ARGUMENTS list.firsts) (too_deep_among list.types list.depth last)

abbrev pub module_fault : List WrittenItem → Option Fault
module_fault items = earlier
    (passed limit.Declarations DECLARATIONS (map token_place (flat_map decl_names items)))
    (passed limit.Functions FUNCTIONS (map token_place (flat_map function_names items)))

abbrev pub body_fault : List WrittenBlock → Option Fault
body_fault blocks = earlier
    (passed limit.Blocks BLOCKS (map label_place blocks))
    (earlier
    (passed limit.Instructions INSTRUCTIONS (flat_map mnemonics_of blocks))
    (passed limit.Values VALUES (flat_map values_of_block blocks)))

abbrev pub function_fault : List WrittenToken → List WrittenBlock → Option Fault
function_fault attributes blocks = earlier (passed limit.Arguments ARGUMENTS (attribute_places attributes)) (body_fault blocks)

-- an instruction's operands that become too many, or its number that is out of range
abbrev pub fault_of_part : Op → Part → ℕ → List Value → WrittenInst → Option Fault
fault_of_part o form.Number at parts i = out_of_range (number_by (detail_of o) i.ty (text_at at parts)) (place_at at parts)
fault_of_part o form.BareArgs at parts i = passed limit.Arguments ARGUMENTS (map operand_place (with_part o form.BareArgs at parts i).operands)
fault_of_part o form.TypedArgs at parts i = passed limit.Arguments ARGUMENTS (map operand_place (with_part o form.TypedArgs at parts i).operands)
fault_of_part o _ at parts i = None

-- the first fault in these parts, or the one that was found before
abbrev pub parts_fault : Op → List Part → ℕ → List Value → WrittenInst → Option Fault → Option Fault
parts_fault o [] at parts i found = found
parts_fault o (here ∷ others) at parts i found =
    parts_fault o others (behind_part o here others at) parts (with_part o here at parts i) (earlier found (fault_of_part o here at parts i))

abbrev pub row_fault : Op → List Value → Option Fault
row_fault o parts = parts_fault o (parts_of o) 1 parts (begun o parts) None

unfoldable pub part_fault : Production → List Value → Option Fault
part_fault p.WholeModule parts = module_fault (items_of (part 2 parts))
part_fault p.FinalClass parts = passed limit.Members MEMBERS (map field_place (fields_of (part 5 parts)))
part_fault p.PlainClass parts = passed limit.Members MEMBERS (map field_place (fields_of (part 4 parts)))
part_fault p.StructItem parts = passed limit.Members MEMBERS (map field_place (fields_of (part 3 parts)))
part_fault p.EnumItem parts = passed limit.Members MEMBERS (map case_place (cases_of (part 3 parts)))
part_fault p.FunctionItem parts = function_fault (tokens_of (part 2 parts)) (blocks_of (part 7 parts))
part_fault p.PayloadSome parts = tuple_fault (type_before (type_of (part 1 parts)) (types_of (part 2 parts))) (place_at 3 parts)
part_fault p.ParenType parts = earlier
    (tuple_fault (types_of (part 1 parts)) (place_at 2 parts))
    (too_many_questions (in_parens (place_at 0 parts) (types_of (part 1 parts)) (place_at 2 parts)).depth (questions_of (part 3 parts)))
part_fault p.BaseOpen parts = too_many_questions (type_of (part 0 parts)).depth (questions_of (part 1 parts))
part_fault p.WeakOpen parts = too_deep (type_of (part 1 parts)).depth (type_of (part 1 parts)).last
part_fault p.UnownedOpen parts = too_deep (type_of (part 1 parts)).depth (type_of (part 1 parts)).last
part_fault p.OptionalOf parts = too_deep (type_of (part 1 parts)).depth (place_at 2 parts)
part_fault p.WholeFunctionType parts = earlier
    (passed limit.Arguments ARGUMENTS (params_of (part 5 parts)).firsts)
    (passed limit.Arguments ARGUMENTS (givens_of (part 8 parts)).firsts)
part_fault p.WholeBlock parts = passed limit.Arguments ARGUMENTS (map arg_place (args_of (part 1 parts)))
part_fault p.InstNames parts = passed limit.Arguments ARGUMENTS (map token_place (tokens_of (part 1 parts)))
part_fault (p.Row o) parts = row_fault o parts
part_fault p.WholeEdge parts = passed limit.Arguments ARGUMENTS (map operand_place (operands_of (part 1 parts)))
part_fault p.DebugNumber parts = out_of_range (small_of 65535 (text_at 1 parts)) (place_at 1 parts)
part_fault _ parts = None

-- What is at fault in each production of the grammar by itself, by what the parts of its body stand for: one line for each
-- production that can be at fault. Which fault stands first in a list counts only for faults at one place and of one rank.
use Rattle.std.specs.Prelude.{◌≡◌, ℕ, List, [], ◌∷◌, ◌++◌, map}
use Rattle.std.specs.List.{flat_map}
use Rattle.instruction_table.specs.Forms.{parts_of}
use Rattle.sil_ast.specs.declared.place.Place.{Place}
use Rattle.sil_ast.specs.declared.type_name.TypeName.{TypeName}
use Rattle.sil_rules.specs.declared.limit_word.LimitWord.TheVariants as limit
use Rattle.sil_rules.specs.declared.limits.TheConstants.{ARGUMENTS, BLOCKS, DECLARATIONS, FUNCTIONS, INSTRUCTIONS, MEMBERS, VALUES}
use Rattle.sil_grammar_tables.specs.declared.grammar.Production.{Production}
use Rattle.sil_grammar_tables.specs.declared.grammar.Production.TheVariants as p
use Rattle.sil_grammar_values.specs.Opened.{PartTypes, PartValue}
use Rattle.sil_grammar_values.specs.Types.{deeper, in_parens, type_before}
use Rattle.sil_grammar_values.specs.Values.{bare_inst}
use Rattle.sil_grammar_values.specs.Variants as v
use Rattle.sil_grammar_tree.specs.WrittenNumbers.Numbers.{small_of}
use Rattle.sil_grammar_tree.specs.WrittenTree.Places.{arg_place, attribute_places, case_place, decl_names, field_place, function_names}
use Rattle.sil_grammar_tree.specs.WrittenTree.Places.{label_place, mnemonics_of, operand_place, token_place, values_of_block}
use Rattle.sil_grammar_tree.specs.declared.written_tree.fault.Fault.{Fault}
use Rattle.sil_grammar_tree.specs.declared.written_tree.written_instructions.WrittenInst.{WrittenInst}
use Rattle.sil_grammar.specs.SpelledPartsLaws.Limits.{no_number, past, too_deep}
use Rattle.sil_grammar.specs.SpelledPartsLaws.RowParts.{IsRow}

-- each `?` ends a type that is one level deeper
abbrev pub question_faults : ℕ → List Place → List Fault
question_faults depth [] = []
question_faults depth (question ∷ questions) = too_deep depth question ++ question_faults (deeper depth) questions

-- one type in parentheses is that type, and others are a tuple, which is one level deeper
abbrev pub level_faults : List TypeName → ℕ → Place → List Fault
level_faults (t ∷ []) depth last = []
level_faults types depth last = too_deep depth last

abbrev pub parens_faults : PartTypes → Place → List Fault
parens_faults list last = past limit.Arguments ARGUMENTS list.firsts ++ level_faults list.types list.depth last

unfoldable pub AreFaultsOf : Production → List PartValue → List Fault → Type 0
-- declarations and functions of a module
AreFaultsOf p.WholeModule (_ ∷ _ ∷ v.Items items ∷ []) faults =
    faults ≡ past limit.Declarations DECLARATIONS (map token_place (flat_map decl_names items))
    ++ past limit.Functions FUNCTIONS (map token_place (flat_map function_names items))
-- members of a declaration
AreFaultsOf p.FinalClass (_ ∷ _ ∷ _ ∷ _ ∷ _ ∷ v.Fields fields ∷ _ ∷ []) faults = faults ≡ past limit.Members MEMBERS (map field_place fields)
AreFaultsOf p.PlainClass (_ ∷ _ ∷ _ ∷ _ ∷ v.Fields fields ∷ _ ∷ []) faults = faults ≡ past limit.Members MEMBERS (map field_place fields)
AreFaultsOf p.StructItem (_ ∷ _ ∷ _ ∷ v.Fields fields ∷ _ ∷ []) faults = faults ≡ past limit.Members MEMBERS (map field_place fields)
AreFaultsOf p.EnumItem (_ ∷ _ ∷ _ ∷ v.Cases cases ∷ _ ∷ []) faults = faults ≡ past limit.Members MEMBERS (map case_place cases)
-- attributes of a function, its blocks, and its instructions and values in all blocks
AreFaultsOf p.FunctionItem (_ ∷ _ ∷ v.Tokens attributes ∷ _ ∷ _ ∷ _ ∷ _ ∷ v.Blocks blocks ∷ []) faults =
    faults ≡ past limit.Arguments ARGUMENTS (attribute_places attributes)
    ++ past limit.Blocks BLOCKS (map label_place blocks)
    ++ past limit.Instructions INSTRUCTIONS (flat_map mnemonics_of blocks)
    ++ past limit.Values VALUES (flat_map values_of_block blocks)
-- types between parentheses, and levels of types
AreFaultsOf p.PayloadSome (_ ∷ v.Type t ∷ v.Types others ∷ v.Token right ∷ []) faults = faults ≡ parens_faults (type_before t others) right.place
AreFaultsOf p.ParenType (v.Token left ∷ v.Types types ∷ v.Token right ∷ v.Questions questions ∷ []) faults =
    faults ≡ parens_faults types right.place ++ question_faults (in_parens left.place types right.place).depth questions
AreFaultsOf p.BaseOpen (v.Type t ∷ v.Questions questions ∷ []) faults = faults ≡ question_faults t.depth questions
AreFaultsOf p.WeakOpen (_ ∷ v.Type t ∷ []) faults = faults ≡ too_deep t.depth t.last
AreFaultsOf p.UnownedOpen (_ ∷ v.Type t ∷ []) faults = faults ≡ too_deep t.depth t.last
AreFaultsOf p.OptionalOf (_ ∷ v.Type t ∷ v.Token right ∷ []) faults = faults ≡ too_deep t.depth right.place
-- parameters and results of a function's type
AreFaultsOf p.WholeFunctionType (_ ∷ _ ∷ _ ∷ _ ∷ _ ∷ v.Params params ∷ _ ∷ _ ∷ v.Givens results ∷ []) faults =
    faults ≡ past limit.Arguments ARGUMENTS params.firsts ++ past limit.Arguments ARGUMENTS results.firsts
-- arguments of a block, results and parts of an instruction, arguments of an edge
AreFaultsOf p.WholeBlock (_ ∷ v.Args args ∷ _ ∷ _ ∷ []) faults = faults ≡ past limit.Arguments ARGUMENTS (map arg_place args)
AreFaultsOf p.InstNames (_ ∷ v.Tokens names ∷ _ ∷ _ ∷ _ ∷ []) faults = faults ≡ past limit.Arguments ARGUMENTS (map token_place names)
AreFaultsOf (p.Row o) (v.Token mnemonic ∷ parts) faults = (inst : WrittenInst) × IsRow o (parts_of o) parts (bare_inst o mnemonic.place) inst faults
AreFaultsOf p.WholeEdge (_ ∷ v.Operands args ∷ []) faults = faults ≡ past limit.Arguments ARGUMENTS (map operand_place args)
-- the number of an argument for a debugger
AreFaultsOf p.DebugNumber (_ ∷ v.Token spelling ∷ _ ∷ []) faults = faults ≡ no_number (small_of 65535 spelling.text) spelling.place
-- no other production is at fault by itself
AreFaultsOf _ _ faults = faults ≡ []

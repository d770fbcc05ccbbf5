-- Numbers and limits: which number a spelling writes, and what is at fault where a limit is passed or a number is out of
-- range. What is at fault is a list of one fault, or of none.
use Rattle.std.specs.Prelude.{◌-◌, ℕ, List, [], ◌∷◌, Option, Some, None, ℤ, pos, if◌then◌else◌, ◌==◌}
use Rattle.std.specs.Option.{option_map, option_to_list}
use Rattle.instruction_table.specs.declared.entries.Detail.{Detail}
use Rattle.instruction_table.specs.declared.entries.Detail.TheVariants as detail
use Rattle.sil_ast.specs.declared.place.Place.{Place}
use Rattle.sil_ast.specs.declared.type_name.TypeName.{TypeName, out-TypeName}
use Rattle.sil_ast.specs.declared.type_name.TypeName.TheOpen as level
use Rattle.sil_ast.specs.declared.type_name.TypeName.TheOpen.{TypeName-F}
use Rattle.sil_rules.specs.declared.limit_word.LimitWord.{LimitWord}
use Rattle.sil_rules.specs.declared.limit_word.LimitWord.TheVariants as limit
use Rattle.sil_rules.specs.declared.limits.TheConstants.{ARGUMENTS, DEPTH}
use Rattle.sil_grammar_tree.specs.WrittenNumbers.Numbers.{literal_of, small_of}
use Rattle.sil_grammar_tree.specs.declared.written_tree.fault.Fault.{Fault}
use Rattle.sil_grammar_tree.specs.declared.written_tree.fault.FaultKind.TheVariants.{Limit}
use Rattle.sil_grammar_tree.specs.WrittenTree.Faults.{fault, out_of_range, passed}

-- where a list is longer than the limit allows, the first of its tokens behind those that are allowed
abbrev pub past : LimitWord → ℕ → List Place → List Fault
past what most places = option_to_list (passed what most places)

-- where a type is of the limit's depth, the last token of the one around it
abbrev pub too_deep : ℕ → Place → List Fault
too_deep depth last = if depth == DEPTH then fault (Limit limit.Depth) last ∷ [] else []

-- where a spelling writes no number of its range, its token
abbrev pub no_number : {A : Type 0} → Option A → Place → List Fault
no_number number place = option_to_list (out_of_range number place)

-- the bits of a literal of a type: those of a builtin integer, and 64 of any other type
abbrev pub bits_over : {A : Type 0} → TypeName-F A → ℕ
bits_over (level.Int width) = width
bits_over _ = 64

abbrev pub bits_of : TypeName → ℕ
bits_of t = bits_over (out-TypeName t)

-- the number of an instruction, if it is in its range: a literal of the width of the type before it, or a tuple's element
unfoldable pub number_of : Detail → Option TypeName → List ℕ → Option ℤ
number_of detail.Literal (Some t) spelling = literal_of (bits_of t) spelling
number_of detail.Element _ spelling = option_map pos (small_of (ARGUMENTS - 1) spelling)
number_of _ _ _ = None

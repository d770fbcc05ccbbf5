-- 202: how many results an instruction names.
use Rattle.std.specs.Prelude.{ℕ, Bool, true, not, ◌==◌, Some, None, length}
use Rattle.sil_ast.specs.instruction_table.Forms.{results_of}
use Rattle.sil_ast.specs.instruction_table.declared.entries.Results.{Results}
use Rattle.sil_ast.specs.instruction_table.declared.entries.Results.TheVariants.{NoResult, OneResult, ResultList}
use Rattle.sil_ast.specs.declared.inst.Inst.{Inst}
use Rattle.sil_types_declarations.specs.TypeDefinitions.Declarations.{Declarations}
use Rattle.sil_types.specs.Typing.RowTypes.{MadeTypes, row_types}

-- as many as the row gives; where what it asks of types isn't kept, there is no number to compare with
abbrev pub is_count_of : MadeTypes → ℕ → Bool
is_count_of None n = true
is_count_of (Some types) n = length types == n

abbrev pub is_count_by : Results → MadeTypes → ℕ → Bool
is_count_by NoResult given n = n == 0
is_count_by OneResult given n = n == 1
is_count_by ResultList given n = is_count_of given n

-- 202: the number of result names isn't that of the row
abbrev pub has_wrong_result_count : Declarations → Inst → Bool
has_wrong_result_count d i = not (is_count_by (results_of i.op) (row_types d i) (length i.results))

-- Values that lowering makes another name of an operand: copies, moves, borrows, and the arguments of defaults.
use Rattle.std.specs.Prelude.{ℕ, List, [], ◌∷◌, Bool, false, Option, Some, None, map, length, replicate, slice_index_or, cond}
use Rattle.instruction_table.specs.Forms.{number_of}
use Rattle.sil_ast.specs.declared.function.BlockArg.{BlockArg}
use Rattle.sil_ast.specs.declared.function.Function.{Function}
use Rattle.sil_ast.specs.declared.inst.Inst.{Inst}
use Rattle.instruction_table.specs.declared.op.Op.{Op}
use Rattle.sil_ast.specs.declared.place.ValueId.{ValueId}
use Rattle.ownership_kinds_chains.specs.declared.ownership_chains.definition.Definition.{Definition}
use Rattle.ownership_kinds_chains.specs.declared.ownership_chains.definition.Origin.TheVariants as origin
use Rattle.ownership_kinds_origins.specs.Origins.{defined}
use Rattle.numbered_form.specs.ValueTables.FirstValue.{value_of}
use Rattle.numbered_form.specs.ValueTables.ValueRows.{value_rows}
use Rattle.ownership_kinds_origins.specs.Switched.{switch_to}
use Rattle.ownership_kinds_origins.specs.declared.renaming.TheConstants.{RENAMINGS}
use Rattle.ownership_kinds_origins.specs.declared.switched.Switched.{Switched}

-- its result is lowered to another name for its operand
abbrev pub renames : Op → Bool
renames o = slice_index_or RENAMINGS (number_of o) false

abbrev pub renamed : List ValueId → Definition
renamed operands = defined origin.Plain operands

abbrev pub result_renamings : Inst → List Definition
result_renamings i = replicate (length i.results) (renamed (cond (renames i.op) (map value_of i.operands) []))

abbrev pub default_operand : Option Switched → List ValueId
default_operand None = []
default_operand (Some s) = cond s.is_default (s.operand ∷ []) []

abbrev pub arg_renaming : Option Switched → BlockArg → Definition
arg_renaming s a = renamed (default_operand s)

abbrev pub arg_renamings : Function → ℕ → List BlockArg → List Definition
arg_renamings f n args = map (arg_renaming (switch_to f n)) args

-- the values that each value is another name of, by the values' numbers
abbrev pub renamings_of : Function → List Definition
renamings_of f = value_rows (arg_renamings f) result_renamings f

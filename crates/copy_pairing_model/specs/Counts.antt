-- How many copies a module has.
use Rattle.std.specs.Prelude.{ℕ, Bool}
use Rattle.std.specs.List.{count_by, sum_by}
use Rattle.instruction_table.specs.declared.op.Op.TheVariants.{CopyValue}
use Rattle.sil_ast.specs.declared.function.Block.{Block}
use Rattle.sil_ast.specs.declared.function.Function.{Function}
use Rattle.sil_ast.specs.declared.inst.Inst.{Inst}
use Rattle.sil_ast.specs.declared.module.Module.{Module}
use Rattle.copy_pairing_model.specs.Copies.{is_op}

-- the instruction is `copy_value`
abbrev pub copies : Inst → Bool
copies i = is_op CopyValue i

abbrev pub copies_of_block : Block → ℕ
copies_of_block b = count_by copies b.insts

abbrev pub copies_of_function : Function → ℕ
copies_of_function f = sum_by copies_of_block f.blocks

-- how many `copy_value` the module has
abbrev pub copies_of : Module → ℕ
copies_of m = sum_by copies_of_function m.functions

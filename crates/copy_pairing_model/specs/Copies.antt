-- What copies a value, and what destroys one.
use Rattle.std.specs.Prelude.{◌≡◌, [], ◌∷◌, Bool, true, ◌==◌, Some}
use Rattle.instruction_table.specs.Forms.{number_of}
use Rattle.instruction_table.specs.declared.op.Op.{Op}
use Rattle.instruction_table.specs.declared.op.Op.TheVariants as op
use Rattle.sil_ast.specs.declared.function.Function.{Function}
use Rattle.sil_ast.specs.declared.inst.Inst.{Inst}
use Rattle.sil_ast.specs.declared.operands.Operand.{Operand}
use Rattle.sil_ast.specs.declared.place.PointId.{PointId}
use Rattle.sil_ast.specs.declared.place.ValueId.{ValueId}
use Rattle.sil_cfg_items.specs.Parts.{inst_at}

abbrev pub is_op : Op → Inst → Bool
is_op o i = number_of i.op == number_of o

-- the instruction is `c = copy_value v`
pub record Copies (i : Inst) (c v : ValueId) : Type 0 where
  pub copies : is_op op.CopyValue i ≡ true
  pub result : i.results ≡ c ∷ []
  pub operand : Operand
  pub operands : i.operands ≡ operand ∷ []
  pub copied : operand.value ≡ v

-- the instruction is `destroy_value v`
pub record Destroys (i : Inst) (v : ValueId) : Type 0 where
  pub destroys : is_op op.DestroyValue i ≡ true
  pub operand : Operand
  pub operands : i.operands ≡ operand ∷ []
  pub destroyed : operand.value ≡ v

-- such an instruction stands at the point

pub record IsCopy (f : Function) (p : PointId) (c v : ValueId) : Type 0 where
  pub inst : Inst
  pub stands : inst_at f p ≡ Some inst
  pub copies : Copies inst c v

pub record IsDestroy (f : Function) (p : PointId) (v : ValueId) : Type 0 where
  pub inst : Inst
  pub stands : inst_at f p ≡ Some inst
  pub destroys : Destroys inst v

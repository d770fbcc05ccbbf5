-- The value of an instruction's first operand.
use Rattle.std.specs.Prelude.{Option, option_map, slice_get}
use Rattle.sil_ast.specs.declared.inst.Inst.{Inst}
use Rattle.sil_ast.specs.declared.operands.Operand.{Operand}
use Rattle.sil_ast.specs.declared.place.ValueId.{ValueId}

abbrev pub value_of : Operand → ValueId
value_of o = o.value

-- none where the instruction has no operands
abbrev pub first_value : Inst → Option ValueId
first_value i = option_map value_of (slice_get i.operands 0)

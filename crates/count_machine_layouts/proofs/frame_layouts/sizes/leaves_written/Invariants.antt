use Rattle.std.proofs.Common.{◌≡◌, ◌+◌, drop, map}
use Rattle.std.specs.Prelude.{sum}
use Rattle.sil_types.specs.Typing.RowTypes.{all_written}
use Rattle.sil_types_declarations.specs.TypeDefinitions.Measures.{leaves_of}
use Rattle.count_machine_layouts.proofs.frame_layouts.sizes.leaves_written.Given as goal

abbrev pub invariant-loop-operand : goal.invariant-loop-operand
invariant-loop-operand l = l.leaves + sum (map (leaves_of l.table) (all_written (drop l.operand-index l.operands)))
    ≡ sum (map (leaves_of l.table) (all_written l.operands))

use Rattle.std.proofs.Common.{◌≡◌, drop}
use Rattle.std.specs.List.{list_all}
use Rattle.sil_types.specs.Typing.OperandTypes.{edge_is_as_written}
use Rattle.type_check_values.specs.TypingValues.inner.Told.{types_told}
use Rattle.type_check_values.proofs.typing_values.operands.edges_are_as_written.Given as goal

abbrev pub invariant-loop-edge : goal.invariant-loop-edge
invariant-loop-edge l = list_all (edge_is_as_written (types_told l.types)) l.edges ≡ list_all (edge_is_as_written (types_told l.types)) (drop l.edge-index l.edges)

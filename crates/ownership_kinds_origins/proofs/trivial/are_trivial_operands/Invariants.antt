use Rattle.std.proofs.Common.{◌≡◌, take, true}
use Rattle.std.specs.List.{list_all}
use Rattle.sil_types.specs.sil_types_declarations.TypeDefinitions.Measures.{is_trivial}
use Rattle.sil_types.specs.Typing.RowTypes.{types_of}
use Rattle.ownership_kinds_origins.proofs.trivial.are_trivial_operands.Given as goal

abbrev pub invariant-loop-operand : goal.invariant-loop-operand
invariant-loop-operand l = list_all (λ o. list_all (is_trivial l.table) (types_of o)) (take l.operand-index l.operands) ≡ true

use Rattle.std.proofs.Common.{◌≡◌, drop}
use Rattle.std.specs.List.{list_all}
use Rattle.sil_types.specs.Typing.EdgeRules.{has_block_types}
use Rattle.type_check_values.proofs.typing_signatures.edges.have_block_types.Given as goal

abbrev pub invariant-loop-edge : goal.invariant-loop-edge
invariant-loop-edge l = list_all (has_block_types l.f) (drop l.edge-index l.edges) ≡ list_all (has_block_types l.f) l.edges

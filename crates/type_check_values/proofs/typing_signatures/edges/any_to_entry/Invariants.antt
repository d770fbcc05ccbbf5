use Rattle.std.proofs.Common.{◌≡◌, drop}
use Rattle.std.specs.List.{list_any}
use Rattle.sil_types.specs.Typing.EdgeRules.{is_to_entry}
use Rattle.type_check_values.proofs.typing_signatures.edges.any_to_entry.Given as goal

abbrev pub invariant-loop-edge : goal.invariant-loop-edge
invariant-loop-edge l = list_any is_to_entry (drop l.edge-index l.edges) ≡ list_any is_to_entry l.edges

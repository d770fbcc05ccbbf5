use Rattle.std.proofs.Common.{◌≡◌, ◌++◌, map, take, drop}
use Rattle.ownership_lowering_model.specs.Numbers.{renumbered_edge}
use Rattle.ownership_lowering_functions.specs.ValueRenumbering.inner.NewNumbers.{number_in}
use Rattle.ownership_lowering_functions.proofs.value_renumbering.renumbering.renumber_edges.Given as goal

abbrev pub invariant-loop-edge : goal.invariant-loop-edge
invariant-loop-edge l = l.edges ≡ map (renumbered_edge (number_in l.numbers)) (take l.edge-index l.initial.edges) ++ drop l.edge-index l.initial.edges

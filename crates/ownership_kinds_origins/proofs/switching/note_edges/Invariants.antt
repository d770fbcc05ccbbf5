use Rattle.std.proofs.Common.{take}
use Rattle.std.specs.List.{filter_map}
use Rattle.ownership_kinds_origins.specs.Switched.{edge_to}
use Rattle.ownership_kinds_origins.specs.inner.Tables.{Adds}
use Rattle.ownership_kinds_origins.proofs.switching.note_edges.Given as goal

abbrev pub invariant-loop-edge : goal.invariant-loop-edge
invariant-loop-edge l = Adds (λ n. filter_map (edge_to n l.switch) (take l.edge-index l.edges)) l.initial.table l.table

use Rattle.std.proofs.Common.{◌≡◌, ◌++◌, map}
use Rattle.std.specs.Vec.Iter.{into_iter_items}
use Rattle.sil_grammar_names.specs.NameResolution.inner.FirstFaults.{known_in, with_edges}
use Rattle.sil_grammar_names.specs.NameResolution.Resolved.{resolved_edge}
use Rattle.sil_grammar_names.proofs.name_resolution.resolved_code.resolve_edges.Given as goal

abbrev pub ghost-resolve_edge : goal.ghost-resolve_edge
ghost-resolve_edge g a = g.s

abbrev pub invariant-loop-edge : goal.invariant-loop-edge
invariant-loop-edge g l = record {
  resolved : map (resolved_edge g.s) l.fn.edges ≡ l.resolved ++ map (resolved_edge g.s) (into_iter_items l.edge-iterator);
  faults : with_edges (known_in l.tables.functions.now l.tables.blocks.now l.tables.values.now) l.initial.faults l.fn.edges
      ≡ with_edges (known_in l.tables.functions.now l.tables.blocks.now l.tables.values.now) l.faults (into_iter_items l.edge-iterator);
}

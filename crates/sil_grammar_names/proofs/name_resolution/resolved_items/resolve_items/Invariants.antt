use Rattle.std.proofs.Common.{◌≡◌}
use Rattle.std.specs.Vec.Iter.{into_iter_items}
use Rattle.sil_grammar_names.specs.NameResolution.inner.FirstFaults.{with_faults}
use Rattle.sil_grammar_names.specs.NameResolution.inner.Items.{with_items}
use Rattle.sil_grammar_names.specs.NameScopes.inner.Symbols.{names_in}
use Rattle.sil_grammar_names.proofs.name_resolution.resolved_items.resolve_items.Given as goal

abbrev pub ghost-resolve_item : goal.ghost-resolve_item
ghost-resolve_item g a = g.names

abbrev pub invariant-loop-item : goal.invariant-loop-item
invariant-loop-item g l = record {
  items : with_items g.names l.initial.whole l.fn.items ≡ with_items g.names l.whole (into_iter_items l.item-iterator);
  faults : with_faults (names_in l.functions) l.initial.faults l.fn.items ≡ with_faults (names_in l.functions) l.faults (into_iter_items l.item-iterator);
}

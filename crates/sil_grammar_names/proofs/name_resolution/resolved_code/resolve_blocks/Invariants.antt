use Rattle.std.proofs.Common.{◌≡◌, ◌++◌}
use Rattle.std.specs.List.{flat_map}
use Rattle.std.specs.Vec.Iter.{into_iter_items}
use Rattle.sil_grammar_names.specs.NameResolution.inner.FirstFaults.{known_in, with_code}
use Rattle.sil_grammar_names.specs.NameScopes.Names.{code_of}
use Rattle.sil_grammar_names.specs.NameResolution.Resolved.{resolved_blocks}
use Rattle.sil_grammar_names.proofs.name_resolution.resolved_code.resolve_blocks.Given as goal

abbrev pub ghost-add_block : goal.ghost-add_block
ghost-add_block g a = g.s

abbrev pub invariant-loop-block : goal.invariant-loop-block
invariant-loop-block g l = record {
  resolved : resolved_blocks g.s 0 l.fn.blocks ≡ l.resolved ++ resolved_blocks g.s l.next (into_iter_items l.block-iterator);
  faults : with_code (known_in l.tables.functions.now l.tables.blocks.now l.tables.values.now) l.initial.faults (flat_map code_of l.fn.blocks)
      ≡ with_code (known_in l.tables.functions.now l.tables.blocks.now l.tables.values.now) l.faults (flat_map code_of (into_iter_items l.block-iterator));
}

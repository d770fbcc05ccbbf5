use Rattle.std.proofs.Common.{◌≡◌, ◌+◌, ◌++◌, length}
use Rattle.std.specs.List.{flat_map}
use Rattle.std.specs.Vec.Iter.{into_iter_items}
use Rattle.sil_grammar_names.specs.NameResolution.inner.FirstFaults.{known_in, with_code}
use Rattle.sil_grammar_names.specs.NameResolution.Resolved.{defined_by_inst, resolved_insts}
use Rattle.sil_grammar_names.proofs.name_resolution.resolved_code.resolve_insts.Given as goal

abbrev pub ghost-add_inst : goal.ghost-add_inst
ghost-add_inst g a = g.s

abbrev pub invariant-loop-inst : goal.invariant-loop-inst
invariant-loop-inst g l = record {
  resolved : resolved_insts g.s l.initial.next l.fn.insts ≡ l.resolved ++ resolved_insts g.s l.next (into_iter_items l.inst-iterator);
  next : l.initial.next + length (flat_map defined_by_inst l.fn.insts) ≡ l.next + length (flat_map defined_by_inst (into_iter_items l.inst-iterator));
  faults : with_code (known_in l.tables.functions.now l.tables.blocks.now l.tables.values.now) l.initial.faults l.fn.insts
      ≡ with_code (known_in l.tables.functions.now l.tables.blocks.now l.tables.values.now) l.faults (into_iter_items l.inst-iterator);
}

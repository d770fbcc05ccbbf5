use Rattle.std.proofs.Common.{◌≡◌, ◌++◌, map}
use Rattle.std.specs.Vec.Iter.{into_iter_items}
use Rattle.sil_grammar_tree.specs.WrittenTree.Faults.{earlier}
use Rattle.sil_grammar_names.specs.NameScopes.Names.{operand_name}
use Rattle.sil_grammar_names.specs.NameResolution.Resolved.{resolved_operand}
use Rattle.sil_grammar_names.specs.NameScopes.inner.Symbols.{names_in, unknown_of}
use Rattle.sil_grammar_names.proofs.name_resolution.resolved_code.resolve_edge_args.Given as goal

abbrev pub ghost-resolve_operand : goal.ghost-resolve_operand
ghost-resolve_operand g a = g.s

abbrev pub invariant-loop-operand : goal.invariant-loop-operand
invariant-loop-operand g l = record {
  resolved : map (resolved_operand g.s) l.fn.operands ≡ l.resolved ++ map (resolved_operand g.s) (into_iter_items l.operand-iterator);
  unknown : earlier l.initial.unknown (unknown_of (names_in l.values) (map operand_name l.fn.operands))
      ≡ earlier l.unknown (unknown_of (names_in l.values) (map operand_name (into_iter_items l.operand-iterator)));
}

use Rattle.std.proofs.Common.{◌≡◌, drop}
use Rattle.std.specs.List.{list_any, flat_map}
use Rattle.sil_types_declarations.specs.TypeDefinitions.Mentions.{in_edge}
use Rattle.sil_types_items.proofs.type_mentions.insts.any_in_edges.Given as goal

abbrev pub invariant-loop-edge : goal.invariant-loop-edge
invariant-loop-edge g l = list_any (g.T.MentionTest.holds l.test) (flat_map in_edge (drop l.edge-index l.edges)) ≡ list_any (g.T.MentionTest.holds l.test) (flat_map in_edge l.edges)

use Rattle.std.proofs.Common.{◌≡◌, drop}
use Rattle.std.specs.List.{list_any, flat_map}
use Rattle.sil_types_declarations.specs.TypeDefinitions.Mentions.{edge_members}
use Rattle.sil_types_items.proofs.type_mentions.members.any_in_edges.Given as goal

abbrev pub invariant-loop-edge : goal.invariant-loop-edge
invariant-loop-edge g l = list_any (g.T.MemberTest.fails l.test) (flat_map edge_members (drop l.edge-index l.edges)) ≡ list_any (g.T.MemberTest.fails l.test) (flat_map edge_members l.edges)

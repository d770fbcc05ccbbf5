use Rattle.std.proofs.Common.{◌≡◌, drop, map}
use Rattle.std.specs.List.{list_any}
use Rattle.sil_types_declarations.specs.TypeDefinitions.Mentions.{in_result}
use Rattle.sil_types_items.proofs.type_mentions.decls.any_in_results.Given as goal

abbrev pub invariant-loop-given : goal.invariant-loop-given
invariant-loop-given g l = list_any (g.T.MentionTest.holds l.test) (map in_result (drop l.given-index l.results)) ≡ list_any (g.T.MentionTest.holds l.test) (map in_result l.results)

use Rattle.std.proofs.Common.{◌≡◌, drop}
use Rattle.std.specs.List.{list_any, flat_map}
use Rattle.sil_types_declarations.specs.TypeDefinitions.Mentions.{in_case}
use Rattle.sil_types_items.proofs.type_mentions.decls.any_in_cases.Given as goal

abbrev pub invariant-loop-case : goal.invariant-loop-case
invariant-loop-case g l = list_any (g.T.MentionTest.holds l.test) (flat_map in_case (drop l.case-index l.cases)) ≡ list_any (g.T.MentionTest.holds l.test) (flat_map in_case l.cases)

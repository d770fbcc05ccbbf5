use Rattle.std.proofs.Common.{◌≡◌, drop, map}
use Rattle.std.specs.List.{list_any}
use Rattle.sil_types_declarations.specs.TypeDefinitions.Mentions.{in_param}
use Rattle.sil_types_items.proofs.type_mentions.decls.any_in_params.Given as goal

abbrev pub invariant-loop-param : goal.invariant-loop-param
invariant-loop-param g l = list_any (g.T.MentionTest.holds l.test) (map in_param (drop l.param-index l.params)) ≡ list_any (g.T.MentionTest.holds l.test) (map in_param l.params)

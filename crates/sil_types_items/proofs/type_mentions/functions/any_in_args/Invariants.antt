use Rattle.std.proofs.Common.{◌≡◌, drop, map}
use Rattle.std.specs.List.{list_any}
use Rattle.sil_types_declarations.specs.TypeDefinitions.Mentions.{in_arg}
use Rattle.sil_types_items.proofs.type_mentions.functions.any_in_args.Given as goal

abbrev pub invariant-loop-arg : goal.invariant-loop-arg
invariant-loop-arg g l = list_any (g.T.MentionTest.holds l.test) (map in_arg (drop l.arg-index l.args)) ≡ list_any (g.T.MentionTest.holds l.test) (map in_arg l.args)

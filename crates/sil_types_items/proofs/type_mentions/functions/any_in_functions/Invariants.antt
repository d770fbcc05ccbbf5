use Rattle.std.proofs.Common.{◌≡◌, drop}
use Rattle.std.specs.List.{list_any, flat_map}
use Rattle.sil_types_declarations.specs.TypeDefinitions.Mentions.{in_function}
use Rattle.sil_types_items.proofs.type_mentions.functions.any_in_functions.Given as goal

abbrev pub invariant-loop-function : goal.invariant-loop-function
invariant-loop-function g l = list_any (g.T.MentionTest.holds l.test) (flat_map in_function (drop l.function-index l.functions))
    ≡ list_any (g.T.MentionTest.holds l.test) (flat_map in_function l.functions)

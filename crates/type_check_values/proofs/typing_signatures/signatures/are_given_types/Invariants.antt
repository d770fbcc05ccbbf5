use Rattle.std.proofs.Common.{◌≡◌, drop, map}
use Rattle.sil_types.specs.sil_types_declarations.TypeDefinitions.Mentions.{direct_types}
use Rattle.sil_types.specs.Typing.Same.{all_pairs, applied, is_same_type}
use Rattle.type_check_values.proofs.typing_signatures.signatures.are_given_types.Given as goal

abbrev pub invariant-loop-ty : goal.invariant-loop-ty
invariant-loop-ty l =
    all_pairs applied (map is_same_type (direct_types l.rest)) (drop l.ty-index l.types)
    ≡ all_pairs applied (map is_same_type (direct_types l.results)) l.types

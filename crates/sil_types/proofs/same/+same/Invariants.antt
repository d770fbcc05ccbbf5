-- The pairs so far are the same types.
use Rattle.std.proofs.Common.{◌≡◌, drop, map}
use Rattle.sil_types.specs.Typing.Same.{all_pairs, applied, is_same_type}
use Rattle.sil_types.proofs.same.+same.Given as goal

abbrev pub invariant-same_types-loop-i : goal.invariant-same_types-loop-i
invariant-same_types-loop-i l =
    (all_pairs is_same_type l.a l.b ≡ all_pairs is_same_type (drop l.i l.a) (drop l.i l.b))
    × (all_pairs applied (map is_same_type l.a) l.b ≡ all_pairs applied (map is_same_type (drop l.i l.a)) (drop l.i l.b))

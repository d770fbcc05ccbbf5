-- What a builtin operation gives, in the words of the code.
use Rattle.std.specs.Prelude.{ℕ, ◌*◌, ℤ, pos, ◌-ℤ◌, int_lt, List, [], ◌∷◌, cond}
use Rattle.std.specs.Int.{int_rem_euclid}
use Rattle.holder_model_values.specs.declared.run_values.leaf.Leaf.{Leaf}
use Rattle.holder_model_values.specs.declared.run_values.leaf.Leaf.TheVariants as leaf
use Rattle.count_machine_leaves.specs.declared.leaf_windows.computing.Computed.{Computed}
use Rattle.count_machine_leaves.specs.declared.leaf_windows.computing.Computed.TheVariants as computed

abbrev pub leaves_of : Computed → List Leaf
leaves_of (computed.One n) = leaf.Int n ∷ []
leaves_of (computed.Two n m) = leaf.Int n ∷ leaf.Int m ∷ []

-- the signed residue of a modulus, which is twice a number
abbrev pub signed_by : ℕ → ℤ → ℤ
signed_by h n =
    cond (int_lt (int_rem_euclid n (pos (2 * h))) (pos h)) (int_rem_euclid n (pos (2 * h))) (int_rem_euclid n (pos (2 * h)) -ℤ pos (2 * h))

use Rattle.std.proofs.Common.{ℤ, [], ◌∷◌, ap, ◌∙◌, SFits, w64}
use Rattle.std.proofs.lemmas.Int.{to_z-of_z}
use Rattle.std.proofs.lemmas.Nat.{and_mod, or_lt, or_mod, xor_lt, xor_mod}
use Rattle.std.specs.Int.Bits.{and_lt}
use Rattle.std.specs.Prelude.{bit_and, bit_or, bit_xor}
use Rattle.holder_model_values.specs.declared.run_values.leaf.Leaf.TheVariants as leaf
use Rattle.count_machine_leaves.proofs.LeafWindows.Bitwise.{bits_bound, combined_is}
use Rattle.count_machine_leaves.proofs.LeafWindows.Overflow.{width_has}
use Rattle.count_machine_leaves.proofs.leaf_windows.computing.compute_builtin.Goals as goal

pub returns-in-And : goal.returns-in-And
returns-in-And c =
    let w = width_has c.args.width in
    let fits : SFits w64 c.narrow.result = record { sfits = c.narrow.type_inv } in
    let short = and_lt 64 _ _ (bits_bound c.args.a c.ranges.a) (bits_bound c.args.b c.ranges.b) in
    let is = c.narrow.ensures ∙ combined_is _ w.0 w.1 w.2 bit_and and_mod c.args.a c.args.b c.ranges.a c.ranges.b short in
    rw c.in-And.is (simp to_z-of_z (ap (λ (z : ℤ). leaf.Int z ∷ []) is))

pub returns-in-Or : goal.returns-in-Or
returns-in-Or c =
    let w = width_has c.args.width in
    let fits : SFits w64 c.narrow-in-Or.result = record { sfits = c.narrow-in-Or.type_inv } in
    let short = or_lt 64 _ _ (bits_bound c.args.a c.ranges.a) (bits_bound c.args.b c.ranges.b) in
    let is = c.narrow-in-Or.ensures ∙ combined_is _ w.0 w.1 w.2 bit_or or_mod c.args.a c.args.b c.ranges.a c.ranges.b short in
    rw c.in-Or.is (simp to_z-of_z (ap (λ (z : ℤ). leaf.Int z ∷ []) is))

pub returns-in-Xor : goal.returns-in-Xor
returns-in-Xor c =
    let w = width_has c.args.width in
    let fits : SFits w64 c.narrow-in-Xor.result = record { sfits = c.narrow-in-Xor.type_inv } in
    let short = xor_lt 64 _ _ (bits_bound c.args.a c.ranges.a) (bits_bound c.args.b c.ranges.b) in
    let is = c.narrow-in-Xor.ensures ∙ combined_is _ w.0 w.1 w.2 bit_xor xor_mod c.args.a c.args.b c.ranges.a c.ranges.b short in
    rw c.in-Xor.is (simp to_z-of_z (ap (λ (z : ℤ). leaf.Int z ∷ []) is))

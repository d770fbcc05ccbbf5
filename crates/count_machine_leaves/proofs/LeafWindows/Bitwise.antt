-- Bits of 64 are combined, and then those of a width.
use Rattle.std.proofs.Common.{◌≡◌, ℕ, suc, ◌-◌, ◌<◌, ◌%◌, ◌^◌, refl, sym, ap, subst, ◌∙◌, arith, SFits, w64, ℤ, pos, to_z, of_z}
use Rattle.std.proofs.Math.Nat.{mod-mod}
use Rattle.std.specs.Int.{int_rem_euclid}
use Rattle.std.specs.Prelude.{negsuc}
use Rattle.count_machine_model.specs.holder_model.Builtins.{magnitude, signed, unsigned}
use Rattle.count_machine_leaves.proofs.LeafWindows.Residues.{HasModulus, back, half, rest, rest_back, rest_is, whole}

-- a number from 0 on, as a signed one
pub of_bits : (u : ℕ) → u < whole → to_z w64 u ≡ back half whole u
of_bits u h = grind arith

pub bits_bound : (z : ℤ) → SFits w64 z → of_z w64 z < whole
bits_bound (pos a) h = omega (arith, h.sfits)
bits_bound (negsuc a) h = omega arith

magnitude_is : (w m : ℕ) (z : ℤ) → m ≡ 2 ^ w → magnitude (unsigned w z) ≡ rest m z
magnitude_is w m z e = ap (λ k. magnitude (int_rem_euclid z (pos k))) (sym e) ∙ ap magnitude (rest_is m z)

module _ (w h m : ℕ) (it : HasModulus w h m) where
  rest_bits : (z : ℤ) → SFits w64 z → rest m z ≡ of_z w64 z % m
  rest_bits (pos a) h = refl
  rest_bits (negsuc a) h =
      let u = whole - suc a in
      let turned : whole - suc u ≡ a = omega (arith, h.sfits) in
      ap (λ k. m - 1 - k % m) (sym turned) ∙ it.turns u (omega arith)

  -- bit by bit, at the modulus
  pub combined_is : (f : ℕ → ℕ → ℕ) → ((a b k : ℕ) → f a b % 2 ^ k ≡ f (a % 2 ^ k) (b % 2 ^ k)) → (x y : ℤ) → SFits w64 x → SFits w64 y →
      f (of_z w64 x) (of_z w64 y) < whole →
      signed w (to_z w64 (f (of_z w64 x) (of_z w64 y))) ≡ signed w (pos (f (magnitude (unsigned w x)) (magnitude (unsigned w y))))
  combined_is f mods x y fits fits' short =
      let all = f (of_z w64 x) (of_z w64 y) in
      let few = f (magnitude (unsigned w x)) (magnitude (unsigned w y)) in
      let e : m ≡ 2 ^ w = it.modulus_is in
      let left : magnitude (unsigned w x) ≡ of_z w64 x % m = magnitude_is w m x e ∙ rest_bits x fits in
      let right : magnitude (unsigned w y) ≡ of_z w64 y % m = magnitude_is w m y e ∙ rest_bits y fits' in
      let here : all % m ≡ f (of_z w64 x % m) (of_z w64 y % m) =
      subst (λ k. all % k ≡ f (of_z w64 x % k) (of_z w64 y % k)) (sym e) (mods (of_z w64 x) (of_z w64 y) w) in
      let both : few ≡ all % m = ap (λ k. f k (magnitude (unsigned w y))) left ∙ ap (f (of_z w64 x % m)) right ∙ sym here in
      let same : few % m ≡ all % m = ap (λ k. k % m) both ∙ mod-mod all m in
      it.signed_is (to_z w64 all)
      ∙ ap (back h m) (ap (rest m) (of_bits all short) ∙ rest_back w h m it all short ∙ sym same)
      ∙ sym (it.signed_is (pos few))

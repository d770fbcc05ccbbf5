-- Signed residues: of 64 bits, and of fewer. A width has its modulus, and the half of it.
use Rattle.std.proofs.Common.{◌≡◌, ℕ, suc, ◌+◌, ◌-◌, ◌<◌, ◌≤◌, ◌%◌, ◌^◌, refl, sym, ap, subst, ◌∙◌, inl, inr, arith, ℤ, pos, ◌-ℤ◌}
use Rattle.std.proofs.Math.Nat.{mod-eq_of_lt}
use Rattle.std.proofs.lemmas.Bool.{cases_lt}
use Rattle.std.specs.Int.{int_rem_euclid}
use Rattle.std.specs.Prelude.{negsuc, Bool, true, cond, int_le, int_lt, ◌&&◌}
use Rattle.count_machine_model.specs.holder_model.Builtins.{signed}
use Rattle.numbered_form.specs.inner.Literals.{is_residue}

-- the residue from 0 on
abbrev pub rest : ℕ → ℤ → ℕ
rest m (pos a) = a % m
rest m (negsuc a) = m - 1 - a % m

-- the signed one
abbrev pub back : ℕ → ℕ → ℕ → ℤ
back h m u = cond (int_lt (pos u) (pos h)) (pos u) (pos u -ℤ pos m)

pub rest_is : (m : ℕ) (n : ℤ) → int_rem_euclid n (pos m) ≡ pos (rest m n)
rest_is m (pos a) = refl
rest_is m (negsuc a) = refl

back_small : (h m u : ℕ) → u < h → back h m u ≡ pos u
back_small h m u k = grind arith

back_large : (h m u : ℕ) → h ≤ u → u < m → back h m u ≡ negsuc (m - suc u)
back_large h m u k l = grind arith

pub rest-bound : (m : ℕ) (n : ℤ) → 0 < m → rest m n < m
rest-bound m (pos a) h = omega arith
rest-bound m (negsuc a) h = omega arith

-- from -h on and below h
abbrev pub is_within : ℕ → ℤ → Bool
is_within h n = int_le (negsuc (h - 1)) n && int_lt n (pos h)

pub within_pos : (h a : ℕ) → is_within h (pos a) ≡ true → a < h
within_pos h a w = grind arith

pub within_negsuc : (h a : ℕ) → 0 < h → is_within h (negsuc a) ≡ true → a < h
within_negsuc h a s w = grind arith

pub pos_within : (h a : ℕ) → a < h → is_within h (pos a) ≡ true
pos_within h a w = grind arith

pub negsuc_within : (h a : ℕ) → a < h → is_within h (negsuc a) ≡ true
negsuc_within h a w = grind arith

-- such a number is its own residue
pub back_same : (h m : ℕ) (n : ℤ) → m ≡ h + h → 0 < h → is_within h n ≡ true → back h m (rest m n) ≡ n
back_same h m (pos a) e s w =
    let below = within_pos h a w in
    rw (mod-eq_of_lt {n = a} {m = m} (omega arith)) (back_small h m a below)
back_same h m (negsuc a) e s w =
    let below = within_negsuc h a s w in
    let large = back_large h m (m - 1 - a) (omega arith) (omega arith) in
    let same : m - suc (m - 1 - a) ≡ a = omega arith in
    rw (mod-eq_of_lt {n = a} {m = m} (omega arith)) (large ∙ ap negsuc same)

-- and no other one is
back_within : (h m u : ℕ) → m ≡ h + h → u < m → is_within h (back h m u) ≡ true
back_within h m u e l = elim (cases_lt u h) as (λ _. is_within h (back h m u) ≡ true) [
  | inl k ↦ rw (back_small h m u k) (pos_within h u k)
  | inr k ↦ rw (back_large h m u k l) (negsuc_within h (m - suc u) (omega arith))
]

pub same_back : (h m : ℕ) (n : ℤ) → m ≡ h + h → 0 < h → back h m (rest m n) ≡ n → is_within h n ≡ true
same_back h m n e s is = subst (λ (z : ℤ). is_within h z ≡ true) is (back_within h m (rest m n) e (rest-bound m n (omega arith)))

-- of 64 bits

abbrev pub whole : ℕ
whole = 18446744073709551616

abbrev pub half : ℕ
half = 9223372036854775808

-- what a width has to do with its modulus, and that is part of 64 bits
pub record HasModulus (w h m : ℕ) : Type 0 where
  pub signed_is : (z : ℤ) → signed w z ≡ back h m (rest m z)
  pub within_is : (z : ℤ) → is_residue w z ≡ is_within h z
  pub double : m ≡ h + h
  pub some : 0 < h
  pub most : h ≤ half
  pub modulus_is : m ≡ 2 ^ w
  pub folds : (a : ℕ) → a % whole % m ≡ a % m
  pub turns : (a : ℕ) → a < whole → m - 1 - (whole - suc a) % m ≡ a % m

signed_by : (h m : ℕ) (z : ℤ) → cond (int_lt (int_rem_euclid z (pos m)) (pos h)) (int_rem_euclid z (pos m)) (int_rem_euclid z (pos m) -ℤ pos m) ≡ back h m (rest m z)
signed_by h m z = ap (λ u. cond (int_lt u (pos h)) u (u -ℤ pos m)) (rest_is m z)

pub one_bit : HasModulus 1 1 2
one_bit = record {
  signed_is = signed_by 1 2;
  within_is = λ z. refl;
  double = refl;
  some = omega arith;
  most = omega arith;
  modulus_is = refl;
  folds = λ a. omega arith;
  turns = λ a h. omega arith;
}

pub eight_bits : HasModulus 8 128 256
eight_bits = record {
  signed_is = signed_by 128 256;
  within_is = λ z. refl;
  double = refl;
  some = omega arith;
  most = omega arith;
  modulus_is = refl;
  folds = λ a. omega arith;
  turns = λ a h. omega arith;
}

pub sixteen_bits : HasModulus 16 32768 65536
sixteen_bits = record {
  signed_is = signed_by 32768 65536;
  within_is = λ z. refl;
  double = refl;
  some = omega arith;
  most = omega arith;
  modulus_is = refl;
  folds = λ a. omega arith;
  turns = λ a h. omega arith;
}

pub thirty_two_bits : HasModulus 32 2147483648 4294967296
thirty_two_bits = record {
  signed_is = signed_by 2147483648 4294967296;
  within_is = λ z. refl;
  double = refl;
  some = omega arith;
  most = omega arith;
  modulus_is = refl;
  folds = λ a. omega arith;
  turns = λ a h. omega arith;
}

pub sixty_four_bits : HasModulus 64 half whole
sixty_four_bits = record {
  signed_is = signed_by half whole;
  within_is = λ z. refl;
  double = refl;
  some = omega arith;
  most = omega arith;
  modulus_is = refl;
  folds = λ a. omega arith;
  turns = λ a h. omega arith;
}

module _ (w h m : ℕ) (it : HasModulus w h m) where
  folded : (n : ℤ) → rest whole n % m ≡ rest m n
  folded (pos a) = it.folds a
  folded (negsuc a) =
      let u = whole - 1 - a % whole in
      let short : u < whole = omega arith in
      let turned : whole - suc u ≡ a % whole = omega arith in
      sym (it.turns u short) ∙ ap (λ k. m - 1 - k) (ap (λ k. k % m) turned ∙ it.folds a)

  pub rest_back : (u : ℕ) → u < whole → rest m (back half whole u) ≡ u % m
  rest_back u short = elim (cases_lt u half) as (λ _. rest m (back half whole u) ≡ u % m) [
    | inl k ↦ rw (back_small half whole u k) refl
    | inr k ↦ rw (back_large half whole u k short) (it.turns u short)
  ]

  rest_twice : (n : ℤ) → rest m (back half whole (rest whole n)) ≡ rest m n
  rest_twice n = rest_back (rest whole n) (rest-bound whole n (omega arith)) ∙ folded n

  -- the residue of that of 64 bits is that of the number
  pub signed_twice : (n : ℤ) → signed w (signed 64 n) ≡ signed w n
  signed_twice n =
      it.signed_is (signed 64 n)
      ∙ ap (back h m) (ap (rest m) (sixty_four_bits.signed_is n) ∙ rest_twice n)
      ∙ sym (it.signed_is n)

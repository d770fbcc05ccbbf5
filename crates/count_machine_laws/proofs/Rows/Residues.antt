-- What builtin operations give is in the range of its width.
use Rattle.std.proofs.Common.{◌≡◌, ◌<◌, ◌+◌, ◌-◌, ◌%◌, ◌∙◌, ℕ, ℤ, pos, negsuc, neg_ℤ, ◌-ℤ◌, Bool, true, false, cond, refl, ap, arith}
use Rattle.std.proofs.lemmas.Int.{ints}
use Rattle.std.proofs.lemmas.Bool.{and_from}
use Rattle.std.specs.Prelude.{◌&&◌, int_le, int_lt, nat_lt}
use Rattle.std.specs.Int.{int_rem_euclid}
use Rattle.instruction_table.specs.declared.builtin_names.names.Width.{Width}
use Rattle.instruction_table.specs.declared.builtin_names.names.Width.TheVariants as width
use Rattle.count_machine_model.specs.holder_model.Builtins.{bit, signed}
use Rattle.numbered_form.specs.inner.Literals.{is_residue}
use Rattle.sil_types.specs.Typing.Builtins.{bits}

low_enough : (h m k : ℕ) → m ≡ h + h → k < m → nat_lt k h ≡ false → int_le (neg_ℤ (pos h)) (pos k -ℤ pos m) ≡ true
low_enough h m k e lt not_low = grind (arith, ints)

below_half : (h m k : ℕ) → m ≡ h + h → k < m → nat_lt k h ≡ false → int_lt (pos k -ℤ pos m) (pos h) ≡ true
below_half h m k e lt not_low = grind (arith, ints)

above_half : (h k : ℕ) → int_le (neg_ℤ (pos h)) (pos k) ≡ true
above_half h k = grind (arith, ints)

-- a residue from 0 on, and the signed one
by_half : (h m k : ℕ) → m ≡ h + h → k < m → (b : Bool) → nat_lt k h ≡ b
    → (int_le (neg_ℤ (pos h)) (cond b (pos k) (pos k -ℤ pos m)) && int_lt (cond b (pos k) (pos k -ℤ pos m)) (pos h)) ≡ true
by_half h m k e lt true low = and_from (int_le (neg_ℤ (pos h)) (pos k)) (nat_lt k h) (above_half h k) low
by_half h m k e lt false high =
    and_from (int_le (neg_ℤ (pos h)) (pos k -ℤ pos m)) (int_lt (pos k -ℤ pos m) (pos h)) (low_enough h m k e lt high) (below_half h m k e lt high)

abbrev signed_by : ℕ → ℕ → ℤ → ℤ
signed_by h m u = cond (int_lt u (pos h)) u (u -ℤ pos m)

abbrev is_within : ℕ → ℤ → Bool
is_within h n = int_le (neg_ℤ (pos h)) n && int_lt n (pos h)

rem_below : (m : ℕ) → 0 < m → (z : ℤ) → (k : ℕ) × (int_rem_euclid z (pos m) ≡ pos k) × (k < m)
rem_below m some (pos a) = (a % m, refl, omega arith)
rem_below m some (negsuc a) = (m - 1 - a % m, refl, omega arith)

signed_within : (h m : ℕ) → m ≡ h + h → 0 < m → (z : ℤ) → is_within h (signed_by h m (int_rem_euclid z (pos m))) ≡ true
signed_within h m e some z =
    let k = rem_below m some z in
    ap (λ u. is_within h (signed_by h m u)) k.1 ∙ by_half h m k.0 e k.2 (nat_lt k.0 h) refl

-- a signed number of a width
pub signed_is_residue : (w : Width) (n : ℤ) → is_residue (bits w) (signed (bits w) n) ≡ true
signed_is_residue width.Int1 n = signed_within 1 2 refl (omega arith) n
signed_is_residue width.Int8 n = signed_within 128 256 refl (omega arith) n
signed_is_residue width.Int16 n = signed_within 32768 65536 refl (omega arith) n
signed_is_residue width.Int32 n = signed_within 2147483648 4294967296 refl (omega arith) n
signed_is_residue width.Int64 n = signed_within 9223372036854775808 18446744073709551616 refl (omega arith) n

pub bit_is_residue : (b : Bool) → is_residue 1 (bit b) ≡ true
bit_is_residue true = refl
bit_is_residue false = refl

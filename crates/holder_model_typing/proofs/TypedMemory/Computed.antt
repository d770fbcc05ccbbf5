-- What builtin operations give suits the shape that their operands ask for.
use Rattle.std.proofs.Common.{◌≡◌, ◌<◌, ◌≤◌, ◌+◌, ◌-◌, ◌%◌, ◌∙◌, ℕ, ℤ, pos, negsuc, neg_ℤ, ◌-ℤ◌}
use Rattle.std.proofs.Common.{List, [], ◌∷◌, Bool, true, false, Option, Some, cond, length, map, refl, ap, subst, arith}
use Rattle.std.proofs.lemmas.Int.{ints}
use Rattle.std.proofs.lemmas.Bool.{and_from, and_parts, false≢true}
use Rattle.std.specs.Prelude.{◌&&◌, bit_and, bit_or, bit_xor, int_le, int_lt, nat_lt, option_and_then}
use Rattle.std.specs.Int.{int_rem_euclid}
use Rattle.instruction_table.specs.declared.builtin_names.names.Operation.{Operation}
use Rattle.instruction_table.specs.declared.builtin_names.names.Operation.TheVariants as o
use Rattle.instruction_table.specs.declared.builtin_names.names.Width.{Width}
use Rattle.instruction_table.specs.declared.builtin_names.names.Width.TheVariants as width
use Rattle.numbered_form.specs.inner.Literals.{is_residue}
use Rattle.holder_model.specs.holder_model_values.RunValues.inner.Fits.{fit_each}
use Rattle.holder_model.specs.holder_model_values.RunValues.Shapes.{Integer}
use Rattle.holder_model.specs.holder_model_values.RunValues.Values.{Value, grouped, integer_of}
use Rattle.holder_model.specs.holder_model_values.RunValues.Values as value
use Rattle.holder_model.specs.holder_model_values.ValueParts.inner.Suits.{ClassTest, suits}
use Rattle.holder_model.proofs.holder_model_values.ValueParts.Plain.{suits_integer}
use Rattle.holder_model.specs.Builtins.{bit, builtin_value, combined, computed, computed_by, magnitude, signed, unsigned}
use Rattle.holder_model.specs.Data.{all_of, with_first}
use Rattle.holder_model.specs.sil_types.Typing.Builtins.{Builtin, Sort, bits, builtin_named, combining, comparing, overflowing, sort_of}
use Rattle.holder_model.specs.RunTyping.RowForms.{computed_shape, operand_shapes, shape_by, shapes_by}

-- a residue from 0 on, and the signed one

low_enough : (h m k : ℕ) → m ≡ h + h → k < m → nat_lt k h ≡ false → int_le (neg_ℤ (pos h)) (pos k -ℤ pos m) ≡ true
low_enough h m k e lt not_low = grind (arith, ints)

below_half : (h m k : ℕ) → m ≡ h + h → k < m → nat_lt k h ≡ false → int_lt (pos k -ℤ pos m) (pos h) ≡ true
below_half h m k e lt not_low = grind (arith, ints)

above_half : (h k : ℕ) → int_le (neg_ℤ (pos h)) (pos k) ≡ true
above_half h k = grind (arith, ints)

abbrev is_within : ℕ → ℤ → Bool
is_within h n = int_le (neg_ℤ (pos h)) n && int_lt n (pos h)

by_half : (h m k : ℕ) → m ≡ h + h → k < m → (b : Bool) → nat_lt k h ≡ b → is_within h (cond b (pos k) (pos k -ℤ pos m)) ≡ true
by_half h m k e lt true low = and_from (int_le (neg_ℤ (pos h)) (pos k)) (nat_lt k h) (above_half h k) low
by_half h m k e lt false high =
    and_from (int_le (neg_ℤ (pos h)) (pos k -ℤ pos m)) (int_lt (pos k -ℤ pos m) (pos h)) (low_enough h m k e lt high) (below_half h m k e lt high)

rem_below : (m : ℕ) → 0 < m → (z : ℤ) → (k : ℕ) × (int_rem_euclid z (pos m) ≡ pos k) × (k < m)
rem_below m some (pos a) = (a % m, refl, omega arith)
rem_below m some (negsuc a) = (m - 1 - a % m, refl, omega arith)

abbrev signed_by : ℕ → ℕ → ℤ → ℤ
signed_by h m u = cond (int_lt u (pos h)) u (u -ℤ pos m)

signed_within : (h m : ℕ) → m ≡ h + h → 0 < m → (z : ℤ) → is_within h (signed_by h m (int_rem_euclid z (pos m))) ≡ true
signed_within h m e some z =
    let k = rem_below m some z in
    ap (λ u. is_within h (signed_by h m u)) k.1 ∙ by_half h m k.0 e k.2 (nat_lt k.0 h) refl

pub signed_is_residue : (w : Width) (n : ℤ) → is_residue (bits w) (signed (bits w) n) ≡ true
signed_is_residue width.Int1 n = signed_within 1 2 refl (omega arith) n
signed_is_residue width.Int8 n = signed_within 128 256 refl (omega arith) n
signed_is_residue width.Int16 n = signed_within 32768 65536 refl (omega arith) n
signed_is_residue width.Int32 n = signed_within 2147483648 4294967296 refl (omega arith) n
signed_is_residue width.Int64 n = signed_within 9223372036854775808 18446744073709551616 refl (omega arith) n

pub bit_is_residue : (b : Bool) → is_residue 1 (bit b) ≡ true
bit_is_residue true = refl
bit_is_residue false = refl

-- the operands are integers

abbrev widths_by : Sort → ℕ → List ℕ
widths_by overflowing w = w ∷ w ∷ 1 ∷ []
widths_by comparing w = w ∷ w ∷ []
widths_by combining w = w ∷ w ∷ []

shapes_by_width : (x : Sort) (w : ℕ) → shapes_by x w ≡ map Integer (widths_by x w)
shapes_by_width overflowing w = refl
shapes_by_width comparing w = refl
shapes_by_width combining w = refl

two_or_more : (x : Sort) (w : ℕ) → 2 ≤ length (widths_by x w)
two_or_more overflowing w = omega arith
two_or_more comparing w = omega arith
two_or_more combining w = omega arith

computed_of_two : (b : Builtin) (ns : List ℤ) → 2 ≤ length ns → (x : ℤ) × (y : ℤ) × (computed b ns ≡ Some (computed_by b.operation (bits b.width) x y))
computed_of_two b [] le = absurd (omega arith)
computed_of_two b (x ∷ []) le = absurd (omega arith)
computed_of_two b (x ∷ y ∷ ns) le = (x, y, refl)

module _ (test : ClassTest) where
  pub integers_in : (ws : List ℕ) (vs : List Value) → fit_each (map (suits test) (map Integer ws)) vs ≡ true
      → (ns : List ℤ) × (all_of integer_of vs ≡ Some ns) × (length ns ≡ length ws)
  integers_in [] [] h = ([], refl, refl)
  integers_in [] (v ∷ vs) h = absurd (false≢true h)
  integers_in (w ∷ ws) [] h = absurd (false≢true h)
  integers_in (w ∷ ws) (v ∷ vs) h =
      let parts = and_parts (suits test (Integer w) v) (fit_each (map (suits test) (map Integer ws)) vs) h in
      let n = suits_integer test w v parts.0 in
      let others = integers_in ws vs parts.1 in (
        n.0 ∷ others.0,
        ap (λ x. with_first (integer_of x) (all_of integer_of vs)) n.1 ∙ ap (with_first (Some n.0)) others.1,
        omega (arith, others.2),
      )

  -- what is computed

  module _ (w : Width) where
    computed_int : (f : ℕ → ℕ → ℕ) (a b : ℤ) → suits test (shape_by combining (bits w)) (combined (bits w) f a b) ≡ true
    computed_int f a b = signed_is_residue w (pos (f (magnitude (unsigned (bits w) a)) (magnitude (unsigned (bits w) b))))

    computed_pair : (n : ℤ) (b : Bool) → suits test (shape_by overflowing (bits w)) (grouped (value.Int (signed (bits w) n) ∷ value.Int (bit b) ∷ [])) ≡ true
    computed_pair n b = and_from _ _ (signed_is_residue w n) (and_from _ _ (bit_is_residue b) refl)

    pub computed_suits : (x : Operation) (a b : ℤ) → suits test (shape_by (sort_of x) (bits w)) (computed_by x (bits w) a b) ≡ true
    computed_suits o.AddWithOverflow a b = computed_pair _ _
    computed_suits o.SubWithOverflow a b = computed_pair _ _
    computed_suits o.MulWithOverflow a b = computed_pair _ _
    computed_suits o.Equal a b = bit_is_residue _
    computed_suits o.NotEqual a b = bit_is_residue _
    computed_suits o.Less a b = bit_is_residue _
    computed_suits o.LessOrEqual a b = bit_is_residue _
    computed_suits o.Greater a b = bit_is_residue _
    computed_suits o.GreaterOrEqual a b = bit_is_residue _
    computed_suits o.And a b = computed_int bit_and a b
    computed_suits o.Or a b = computed_int bit_or a b
    computed_suits o.Xor a b = computed_int bit_xor a b

  -- a builtin operation on operands that suit gives a value, and it suits
  pub builtin_gives : (text : Option (List ℕ)) (b : Builtin) (vs : List Value) → option_and_then builtin_named text ≡ Some b → fit_each (map (suits test) (operand_shapes b)) vs ≡ true
      → (x : Value) × (option_and_then (builtin_value text) (all_of integer_of vs) ≡ Some x) × (suits test (computed_shape b) x ≡ true)
  builtin_gives text b vs named h = given (integers_in ws vs (subst (λ ss. fit_each (map (suits test) ss) vs ≡ true) (shapes_by_width (sort_of b.operation) (bits b.width)) h))
    where
      ws : List ℕ
      ws = widths_by (sort_of b.operation) (bits b.width)

      given : (ns : List ℤ) × (all_of integer_of vs ≡ Some ns) × (length ns ≡ length ws)
          → (x : Value) × (option_and_then (builtin_value text) (all_of integer_of vs) ≡ Some x) × (suits test (computed_shape b) x ≡ true)
      given (ns, are, long) =
          let many : 2 ≤ length ws = two_or_more (sort_of b.operation) (bits b.width) in
          let of = computed_of_two b ns (omega (arith, long, many)) in
          let read : option_and_then (builtin_value text) (all_of integer_of vs) ≡ builtin_value text ns = ap (option_and_then (builtin_value text)) are in
          let told : builtin_value text ns ≡ computed b ns = ap (option_and_then (λ c. computed c ns)) named in
          (computed_by b.operation (bits b.width) of.0 of.1, read ∙ told ∙ of.2, computed_suits b.width b.operation of.0 of.1)

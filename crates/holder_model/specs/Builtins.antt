-- What the builtin operations give.
use Rattle.std.specs.Prelude.{ℕ, ◌-◌, ◌^◌, ℤ, pos, neg_ℤ, ◌+ℤ◌, ◌-ℤ◌, ◌*ℤ◌, int_lt, int_le, List, [], ◌∷◌, Bool, true, false, not, ◌&&◌, cond}
use Rattle.std.specs.Prelude.{Option, Some, None, option_and_then, bit_and, bit_or, bit_xor}
use Rattle.std.specs.Int.{int_rem_euclid}
use Rattle.instruction_table.specs.declared.builtin_names.names.Operation.{Operation}
use Rattle.instruction_table.specs.declared.builtin_names.names.Operation.TheVariants as o
use Rattle.ownership_kinds_origins.specs.numbered_form.inner.Literals.{is_residue}
use Rattle.holder_model_values.specs.RunValues.Values as value
use Rattle.holder_model_values.specs.RunValues.Values.{Value, grouped}
use Rattle.ownership_kinds_origins.specs.sil_types.Typing.Builtins.{Builtin, bits, builtin_named}

abbrev pub modulus : ℕ → ℤ
modulus width = pos (2 ^ width)

-- the number as a residue from 0 on, and as a signed one
abbrev pub unsigned : ℕ → ℤ → ℤ
unsigned width n = int_rem_euclid n (modulus width)

abbrev pub signed : ℕ → ℤ → ℤ
signed width n = cond (int_lt (unsigned width n) (pos (2 ^ (width - 1)))) (unsigned width n) (unsigned width n -ℤ modulus width)

-- a set bit is -1, and a clear one is 0
abbrev pub bit : Bool → ℤ
bit true = neg_ℤ (pos 1)
bit false = pos 0

abbrev pub is_set : ℤ → Bool
is_set n = int_lt n (pos 0)

abbrev pub same_number : ℤ → ℤ → Bool
same_number a b = int_le a b && int_le b a

-- the exact result in the width, and whether it isn't in range
abbrev pub overflowing : ℕ → ℤ → Value
overflowing width n = grouped (value.Int (signed width n) ∷ value.Int (bit (not (is_residue width n))) ∷ [])

abbrev pub compared : Bool → Value
compared b = value.Int (bit b)

-- bit by bit, on the numbers from 0 on that have these bits
abbrev pub magnitude : ℤ → ℕ
magnitude (pos n) = n
magnitude n = 0

abbrev pub combined : ℕ → (ℕ → ℕ → ℕ) → ℤ → ℤ → Value
combined width bits a b = value.Int (signed width (pos (bits (magnitude (unsigned width a)) (magnitude (unsigned width b)))))

abbrev pub computed_by : Operation → ℕ → ℤ → ℤ → Value
computed_by o.AddWithOverflow w a b = overflowing w (a +ℤ b)
computed_by o.SubWithOverflow w a b = overflowing w (a -ℤ b)
computed_by o.MulWithOverflow w a b = overflowing w (a *ℤ b)
computed_by o.Equal w a b = compared (same_number a b)
computed_by o.NotEqual w a b = compared (not (same_number a b))
computed_by o.Less w a b = compared (int_lt a b)
computed_by o.LessOrEqual w a b = compared (int_le a b)
computed_by o.Greater w a b = compared (int_lt b a)
computed_by o.GreaterOrEqual w a b = compared (int_le b a)
computed_by o.And w a b = combined w bit_and a b
computed_by o.Or w a b = combined w bit_or a b
computed_by o.Xor w a b = combined w bit_xor a b

-- of the first two operands; a third one changes nothing
abbrev pub computed : Builtin → List ℤ → Option Value
computed b [] = None
computed b (x ∷ []) = None
computed b (x ∷ y ∷ rest) = Some (computed_by b.operation (bits b.width) x y)

abbrev pub builtin_value : Option (List ℕ) → List ℤ → Option Value
builtin_value name xs = option_and_then (λ b. computed b xs) (option_and_then builtin_named name)

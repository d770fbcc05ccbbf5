-- What builtin operations give, as leaves.
use Rattle.std.specs.Prelude.{ℕ, ℤ, pos, ◌+ℤ◌, ◌-ℤ◌, ◌*ℤ◌, int_lt, int_le, List, [], ◌∷◌, Bool, not, map, bit_and, bit_or, bit_xor}
use Rattle.instruction_table.specs.declared.builtin_names.names.Operation as builtin
use Rattle.instruction_table.specs.declared.builtin_names.names.Operation.TheVariants as o
use Rattle.holder_model.specs.Builtins.{bit, magnitude, same_number, signed, unsigned}
use Rattle.numbered_form.specs.inner.Literals.{is_residue}
use Rattle.holder_model.specs.holder_model_values.declared.run_values.leaf.Leaf.{Leaf}
use Rattle.holder_model.specs.holder_model_values.declared.run_values.leaf.Leaf.TheVariants as leaf

-- the integers that a builtin operation gives, one leaf each
abbrev pub ints : List ℤ → List Leaf
ints ns = map (λ n. leaf.Int n) ns

abbrev pub overflow_leaves : ℕ → ℤ → List Leaf
overflow_leaves w n = ints (signed w n ∷ bit (not (is_residue w n)) ∷ [])

abbrev pub bit_leaves : Bool → List Leaf
bit_leaves b = ints (bit b ∷ [])

abbrev pub combined_leaves : ℕ → (ℕ → ℕ → ℕ) → ℤ → ℤ → List Leaf
combined_leaves w f a b = ints (signed w (pos (f (magnitude (unsigned w a)) (magnitude (unsigned w b)))) ∷ [])

abbrev pub computed_leaves : builtin.Operation → ℕ → ℤ → ℤ → List Leaf
computed_leaves o.AddWithOverflow w a b = overflow_leaves w (a +ℤ b)
computed_leaves o.SubWithOverflow w a b = overflow_leaves w (a -ℤ b)
computed_leaves o.MulWithOverflow w a b = overflow_leaves w (a *ℤ b)
computed_leaves o.Equal w a b = bit_leaves (same_number a b)
computed_leaves o.NotEqual w a b = bit_leaves (not (same_number a b))
computed_leaves o.Less w a b = bit_leaves (int_lt a b)
computed_leaves o.LessOrEqual w a b = bit_leaves (int_le a b)
computed_leaves o.Greater w a b = bit_leaves (int_lt b a)
computed_leaves o.GreaterOrEqual w a b = bit_leaves (int_le b a)
computed_leaves o.And w a b = combined_leaves w bit_and a b
computed_leaves o.Or w a b = combined_leaves w bit_or a b
computed_leaves o.Xor w a b = combined_leaves w bit_xor a b

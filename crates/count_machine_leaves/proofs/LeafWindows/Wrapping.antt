-- What wraps in 64 bits, and what doesn't fit there.
use Rattle.std.proofs.Common.{◌≡◌, ◌-◌, ◌%◌, refl, sym, ◌∙◌, arith, SFits, w64, ℤ, pos}
use Rattle.std.specs.Bool.{FalseIff}
use Rattle.std.specs.Int.{int_wrap}
use Rattle.std.specs.Prelude.{negsuc, Bool, true, false, not}
use Rattle.count_machine_model.specs.holder_model.Builtins.{signed}
use Rattle.numbered_form.specs.inner.Literals.{is_residue}
use Rattle.count_machine_leaves.proofs.LeafWindows.Bitwise.{of_bits}
use Rattle.count_machine_leaves.proofs.LeafWindows.Residues.{half, is_within, negsuc_within, pos_within, whole, within_negsuc, within_pos}

pub wrap_is : (z : ℤ) → int_wrap w64 z ≡ signed 64 z
unfolding int_wrap
wrap_is (pos a) = of_bits (a % whole) (omega arith)
wrap_is (negsuc a) = of_bits (whole - 1 - a % whole) (omega arith)

fits_within : (z : ℤ) → SFits w64 z → is_within half z ≡ true
fits_within (pos a) h = pos_within half a (omega (arith, h.sfits))
fits_within (negsuc a) h = negsuc_within half a (omega (arith, h.sfits))

within_fits : (z : ℤ) → is_within half z ≡ true → SFits w64 z
within_fits (pos a) w = record { sfits = within_pos half a w }
within_fits (negsuc a) w = record { sfits = within_negsuc half a (omega arith) w }

by_test : (lost b : Bool) (z : ℤ) → is_within half z ≡ b → FalseIff lost (SFits w64 z) → lost ≡ not b
by_test true true z e f = absurd (f (within_fits z e))
by_test true false z e f = refl
by_test false true z e f = refl
by_test false false z e f = sym e ∙ fits_within z f

pub lost_is : (lost : Bool) (z : ℤ) → FalseIff lost (SFits w64 z) → lost ≡ not (is_residue 64 z)
lost_is lost z f = by_test lost (is_within half z) z refl f

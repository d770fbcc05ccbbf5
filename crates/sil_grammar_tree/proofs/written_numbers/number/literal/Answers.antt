-- Each part of the number line has its lemma; the value is the spelling's own wherever a literal is given.
use Rattle.std.proofs.Common.{◌≡◌, ◌+◌, ◌-◌, ◌^◌, arith, ap, sym, subst, ◌∙◌, ℤ, pos, neg_ℤ, ◌-ℤ◌, ◌≤ℤ◌, ◌<ℤ◌, Some, to_z, of_z, w64, FitsSigned}
use Rattle.std.specs.Int.{w128}
use Rattle.std.proofs.lemmas.Int.{ints, to_z-of_z}
use Rattle.sil_grammar_tree.specs.WrittenNumbers.Numbers.{value_of}
use Rattle.sil_grammar_tree.proofs.WrittenNumbers.Residues.{literal_by-small, literal_by-large, rest_fits, half_some, half_doubled, half_small, mag_below, uncapped}
use Rattle.sil_grammar_tree.proofs.written_numbers.number.literal.Goals as goal

-- the difference as the program computes it
difference_is : (a b : ℤ) → FitsSigned w128 a → FitsSigned w128 b → FitsSigned w128 (a -ℤ b)
    → to_z w128 (of_z w128 (to_z w128 (of_z w128 a) -ℤ to_z w128 (of_z w128 b))) ≡ a -ℤ b
difference_is a b f g h = rw (to_z-of_z w128 a f, to_z-of_z w128 b g) (to_z-of_z w128 (a -ℤ b) h)

pub overflow_cast-result-then-value-modulus : goal.overflow_cast-result-then-value-modulus
overflow_cast-result-then-value-modulus c =
    let half = 2 ^ (c.args.width - 1) in
    let double = half_doubled c.args.width c.requires.some in
    let value = c.value-value.result in
    let modulus = c.power_of_two-modulus.result in
    let both = rest_fits half value modulus (omega (arith, ints)) (half_small c.args.width c.requires.fits) (omega (arith, ints)) (omega (arith, ints)) in
    let is = difference_is value modulus (record { sfits = c.value-value.type_inv }) (record { sfits = c.power_of_two-modulus.type_inv }) both.1 in
    subst (FitsSigned w64) (sym is) both.0

pub returns-then-value-half-2 : goal.returns-then-value-half-2
returns-then-value-half-2 c =
    let half = 2 ^ (c.args.width - 1) in
    let double = half_doubled c.args.width c.requires.some in
    let fits = half_small c.args.width c.requires.fits in
    let value = c.value-value.result in
    let v = value_of c.args.spelling.now in
    let below = pos 0 -ℤ c.power_of_two-half.result in
    let flips : FitsSigned w128 below = record { sfits = mag_below (2 ^ 127) below (omega (arith, ints)) (omega (arith, ints)) } in
    let low : neg_ℤ (pos half) ≤ℤ value = omega (arith, ints) in
    let high : value <ℤ pos half = omega (arith, ints) in
    let same = uncapped v value half c.value-value.ensures fits low (omega (arith, ints)) in
    let shown : to_z w64 (of_z w64 (to_z w128 (of_z w128 value))) ≡ v = omega (arith, ints) in
    ap Some shown ∙ sym (literal_by-small half (2 ^ c.args.width) v (half_some c.args.width) double (omega (arith, ints)) (omega (arith, ints)))

pub returns-then-value-modulus : goal.returns-then-value-modulus
returns-then-value-modulus c =
    let half = 2 ^ (c.args.width - 1) in
    let double = half_doubled c.args.width c.requires.some in
    let fits = half_small c.args.width c.requires.fits in
    let value = c.value-value.result in
    let modulus = c.power_of_two-modulus.result in
    let v = value_of c.args.spelling.now in
    let low : pos half ≤ℤ value = omega (arith, ints) in
    let high : value <ℤ pos (half + half) = omega (arith, ints) in
    let same = uncapped v value half c.value-value.ensures fits (omega (arith, ints)) high in
    let both = rest_fits half value modulus (omega (arith, ints)) fits low (omega (arith, ints)) in
    let is = difference_is value modulus (record { sfits = c.value-value.type_inv }) (record { sfits = c.power_of_two-modulus.type_inv }) both.1 in
    let narrow = both.0 in
    let kept : to_z w64 (of_z w64 (value -ℤ modulus)) ≡ v -ℤ pos (2 ^ c.args.width) = omega (arith, ints) in
    ap (λ z. Some (to_z w64 (of_z w64 z))) is ∙ ap Some kept ∙ sym (literal_by-large half (2 ^ c.args.width) v (half_some c.args.width) double (omega (arith, ints)) (omega (arith, ints)))

-- What `value_of` gives for a printed number, for the laws of reading back.
use Rattle.std.proofs.Common.{◌≡◌, ℕ, suc, ◌-◌, ◌^◌, ◌<◌, get_or, false, refl, ap, ◌∙◌, arith, ℤ, pos, negsuc, neg_ℤ, true}
use Rattle.std.specs.Prelude.{fold, nat_le}
use Rattle.std.specs.Fmt.{decimal, signed_decimal}
use Rattle.std.specs.Int.{IsInRange}
use Rattle.std.specs.Str.Parse.{AllDigits, starts_with_minus}
use Rattle.std.proofs.lemmas.Fmt.{digits_decimal, digits_value-decimal, decimal_nonempty}
use Rattle.std.proofs.lemmas.Str.Parse.{IsNumeralModel, FoldsDigits, numerals_by_fold, tells_digits, digit_at}
use Rattle.std.proofs.lemmas.Bool.Decides.{nat_tests}
use Rattle.sil_grammar_tree.specs.WrittenNumbers.Numbers.{next_number, number_of, value_of, literal_from, up_to}
use Rattle.sil_grammar_tree.specs.WrittenNumbers.inner.Laws.{ReadsPrintedLiterals, ReadsPrintedNumbers}
use Rattle.sil_grammar_tree.proofs.WrittenNumbers.Residues.{literal_by-small, mag_below, half_some, half_doubled, half_small}
use lib.Signed.{mag}

folds_digits : FoldsDigits (fold next_number)
folds_digits = record { empty = λ n. refl; more = λ n c cs h. refl }

own : IsNumeralModel (AllDigits 10) number_of
own = numerals_by_fold (AllDigits 10) tells_digits (fold next_number) folds_digits

unsigned_first : (n : ℕ) → n < 2 ^ 64 → starts_with_minus (decimal n) ≡ false
unsigned_first n small =
    let digit : IsInRange 48 57 (get_or (decimal n) 0 0) = digit_at (decimal n) 0 (digits_decimal own n small) (decimal_nonempty n small) in
    grind (arith, nat_tests)

pub value_of-decimal : (n : ℕ) → n < 2 ^ 64 → value_of (decimal n) ≡ pos n
value_of-decimal n small = rw (unsigned_first n small) (ap pos (digits_value-decimal own n small))

pub value_of-signed_decimal : (number : ℤ) → mag number < 2 ^ 63 → value_of (signed_decimal number) ≡ number
value_of-signed_decimal (pos n) small = value_of-decimal n (omega arith)
value_of-signed_decimal (negsuc n) small = ap (λ m. neg_ℤ (pos m)) (digits_value-decimal own (suc n) (omega arith))

pub printed_literal : ReadsPrintedLiterals
printed_literal width number some fits signed =
    let small_enough : mag number < 2 ^ 63 = omega (arith, mag_below (2 ^ (width - 1)) number signed.0 signed.1, half_small width fits) in
    let e = value_of-signed_decimal number small_enough in
    ap (literal_from width) e ∙ literal_by-small (2 ^ (width - 1)) (2 ^ width) number (half_some width) (half_doubled width some) signed.0 signed.1

pub printed_number : ReadsPrintedNumbers
printed_number largest number fits within =
    let e = value_of-decimal number (omega arith) in
    let test : nat_le number largest ≡ true = grind (arith, nat_tests) in
    ap (up_to largest) e ∙ rw test refl

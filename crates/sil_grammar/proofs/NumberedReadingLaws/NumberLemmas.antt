-- Numbers that have a value in their range.
use Rattle.std.proofs.Common.{◌≡◌, ℕ, ◌^◌, ◌-◌, ◌<◌, ◌≤◌, if◌then◌else◌, refl, arith, ℤ, pos, negsuc, neg_ℤ, ◌≤ℤ◌, ◌<ℤ◌, Some}
use Rattle.std.proofs.Common.{None, Bool, true, false, List, is_some, IfSome, IsTrue, subst, nat_le, leb-true}
use Rattle.std.specs.Prelude.{Option, int_lt, int_le}
use Rattle.std.specs.Option.{option_map}
use Rattle.std.proofs.lemmas.Int.{ints}
use Rattle.std.proofs.lemmas.Bool.Decides.{nat_tests}
use Rattle.sil_ast.specs.declared.place.Place.{Place}
use Rattle.sil_ast.specs.declared.type_name.TypeName.{TypeName}
use Rattle.sil_grammar_tree.specs.WrittenNumbers.Numbers.{literal_of, small_of, up_to, value_of}
use Rattle.sil_grammar_tree.proofs.WrittenNumbers.Residues.{literal_is_signed, half_some, half_doubled}
use Rattle.sil_grammar_tree.specs.WrittenTree.Faults.{out_of_range}
use Rattle.sil_grammar_values.specs.inner.RowMeaning.{element_of}
use Rattle.sil_grammar_values.specs.Types.{width_of}
use Rattle.numbered_form.specs.inner.Literals.{is_element_number, is_residue, literal_width}
use Rattle.numbered_form.specs.inner.Types.{is_plain_type}
use Rattle.sil_grammar.proofs.NumberedReadingLaws.ListsAndFaults.{both}
use Rattle.sil_grammar.proofs.NumberedReadingLaws.TypeLemmas.{literal_width_is}

le_true : (a b : ℤ) → a ≤ℤ b → int_le a b ≡ true
le_true (pos a) (pos b) h = let k : a ≤ b = omega (arith, ints) in grind (arith, nat_tests)
le_true (pos a) (negsuc b) h = absurd (omega (arith, ints))
le_true (negsuc a) (pos b) h = refl
le_true (negsuc a) (negsuc b) h = let k : b ≤ a = omega (arith, ints) in grind (arith, nat_tests)

lt_true : (a b : ℤ) → a <ℤ b → int_lt a b ≡ true
lt_true (pos a) (pos b) h = let k : a < b = omega (arith, ints) in grind (arith, nat_tests)
lt_true (pos a) (negsuc b) h = absurd (omega (arith, ints))
lt_true (negsuc a) (pos b) h = refl
lt_true (negsuc a) (negsuc b) h = let k : b < a = omega (arith, ints) in grind (arith, nat_tests)

residue : (width : ℕ) (spelling : List ℕ) (number : ℤ) → 1 ≤ width → literal_of width spelling ≡ Some number → is_residue width number ≡ true
residue width spelling number some is =
    let half : ℕ = 2 ^ (width - 1) in
    let r = literal_is_signed half (2 ^ width) (value_of spelling) number (half_some width) (half_doubled width some) is in
    both (int_le (neg_ℤ (pos half)) number) (int_lt number (pos half)) (le_true (neg_ℤ (pos half)) number r.0) (lt_true number (pos half) r.1)

pub record IsGoodLiteral (t : TypeName) (number : Option ℤ) : Type 0 where
  pub there : is_some number ≡ true
  pub residue : IfSome number (λ n. IsTrue (is_residue (literal_width (Some t)) n))

literal_cases : (t : TypeName) (spelling : List ℕ) (place : Place) (number : Option ℤ) → is_plain_type t ≡ true
    → literal_of (width_of t) spelling ≡ number → out_of_range number place ≡ None → IsGoodLiteral t number
literal_cases t spelling place None plain is e = absurd (cc)
literal_cases t spelling place (Some n) plain is e =
    let w = literal_width_is t plain in
    record { there = refl; residue = subst (λ (width : ℕ). is_residue width n ≡ true) w.0 (residue (width_of t) spelling n w.1 is) }

pub good_literal : (t : TypeName) (spelling : List ℕ) (place : Place) → is_plain_type t ≡ true
    → out_of_range (literal_of (width_of t) spelling) place ≡ None → IsGoodLiteral t (literal_of (width_of t) spelling)
good_literal t spelling place plain e = literal_cases t spelling place (literal_of (width_of t) spelling) plain refl e

pub record IsGoodElement (number : Option ℤ) : Type 0 where
  pub there : is_some number ≡ true
  pub small : IfSome number (λ n. IsTrue (is_element_number n))

up_to_cases : (largest m n : ℕ) (fits : Bool) → nat_le m largest ≡ fits → (if fits then Some m else None) ≡ Some n → n ≤ largest
up_to_cases largest m n true t e = let same : m ≡ n = cc in let h : m ≤ largest = leb-true m largest t in omega arith
up_to_cases largest m n false t e = absurd (cc)

up_to_is : (largest : ℕ) (value : ℤ) (n : ℕ) → up_to largest value ≡ Some n → n ≤ largest
up_to_is largest (pos m) n e = up_to_cases largest m n (nat_le m largest) refl e
up_to_is largest (negsuc m) n e = absurd (cc)

-- a number that was read is up to the largest
small_cases : (largest : ℕ) (value : ℤ) (small : Option ℕ) → up_to largest value ≡ small → IfSome small (λ n. n ≤ largest)
small_cases largest value None is = tt
small_cases largest value (Some n) is = up_to_is largest value n is

pub good_small : (largest : ℕ) (spelling : List ℕ) → IfSome (small_of largest spelling) (λ n. n ≤ largest)
good_small largest spelling = small_cases largest (value_of spelling) (small_of largest spelling) refl

element_cases : (value : ℤ) (place : Place) (small : Option ℕ) → up_to 63 value ≡ small → out_of_range (option_map pos small) place ≡ None → IsGoodElement (option_map pos small)
element_cases value place None is e = absurd (cc)
element_cases value place (Some n) is e = record {
  there = refl;
  small = both (int_le (pos 0) (pos n)) (int_le (pos n) (pos 63))
      (le_true (pos 0) (pos n) (omega (arith, ints))) (le_true (pos n) (pos 63) (let h : n ≤ 63 = up_to_is 63 value n is in omega (arith, ints)));
}

pub good_element : (spelling : List ℕ) (place : Place) → out_of_range (element_of spelling) place ≡ None → IsGoodElement (element_of spelling)
good_element spelling place e = element_cases (value_of spelling) place (small_of 63 spelling) refl e

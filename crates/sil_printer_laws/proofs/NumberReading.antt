-- The printed numbers of instructions are in their ranges.
use Rattle.std.proofs.Common.{◌≡◌, ℕ, ◌-◌, ◌^◌, ◌<◌, ◌≤◌, Option, Some, None, true, IsTrue, ap, sym, subst, arith, ℤ, pos, negsuc, neg_ℤ, ◌≤ℤ◌, ◌<ℤ◌, decimal, true≢false}
use Rattle.std.specs.Fmt.{signed_decimal}
use Rattle.std.specs.Option.{option_map}
use Rattle.std.specs.Prelude.{int_le, int_lt}
use Rattle.std.proofs.lemmas.Bool.Decides.{nat_tests}
use Rattle.std.proofs.lemmas.Int.{ints}
use Rattle.std.proofs.lemmas.Bool.{and_parts}
use lib.Signed.{mag}
use Rattle.sil_ast.specs.declared.place.Place.{Place}
use Rattle.sil_ast.specs.declared.type_name.TypeName.{TypeName, out-TypeName}
use Rattle.sil_ast.specs.declared.type_name.TypeName.TheOpen as level
use Rattle.sil_grammar_tree.proofs.WrittenNumbers.Printed.{printed_literal, printed_number}
use Rattle.sil_grammar_tree.proofs.WrittenNumbers.Residues.{half_small, mag_below}
use Rattle.sil_grammar_tree.specs.WrittenNumbers.inner.Laws.{IsSigned}
use Rattle.sil_grammar_tree.specs.WrittenNumbers.Numbers.{literal_of}
use Rattle.sil_grammar_tree.specs.WrittenTree.Faults.{out_of_range}
use Rattle.sil_grammar_values.specs.inner.RowMeaning.{element_of}
use Rattle.sil_grammar_values.specs.Types.{width_in_range, width_of, width_over}
use Rattle.numbered_form.specs.inner.Literals.{is_element_number, is_residue, literal_width}
use Rattle.numbered_form.specs.inner.Types.{IsPlainType}
use Rattle.sil_grammar.proofs.NumberedReadingLaws.TypeLemmas.{literal_width_is}

le_holds : (a b : ℤ) → int_le a b ≡ true → a ≤ℤ b
le_holds (pos a) (pos b) h = let k : a ≤ b = grind (arith, nat_tests) in omega (arith, ints)
le_holds (pos a) (negsuc b) h = absurd (true≢false (sym h))
le_holds (negsuc a) (pos b) h = omega (arith, ints)
le_holds (negsuc a) (negsuc b) h = let k : b ≤ a = grind (arith, nat_tests) in omega (arith, ints)

lt_holds : (a b : ℤ) → int_lt a b ≡ true → a <ℤ b
lt_holds (pos a) (pos b) h = let k : a < b = grind (arith, nat_tests) in omega (arith, ints)
lt_holds (pos a) (negsuc b) h = absurd (true≢false (sym h))
lt_holds (negsuc a) (pos b) h = omega (arith, ints)
lt_holds (negsuc a) (negsuc b) h = let k : b < a = grind (arith, nat_tests) in omega (arith, ints)

is_signed : (width : ℕ) (n : ℤ) → IsTrue (is_residue width n) → IsSigned width n
is_signed width n h =
    let low : ℤ = neg_ℤ (pos (2 ^ (width - 1))) in
    let high : ℤ = pos (2 ^ (width - 1)) in
    (le_holds low n (and_parts (int_le low n) (int_lt n high) h).0, lt_holds n high (and_parts (int_le low n) (int_lt n high) h).1)

-- no literal has more than 64 bits
width_at_most : (width : ℕ) → width_in_range width ≤ 64
width_at_most width = grind (arith, nat_tests)

layer_at_most : (layer : level.TypeName-F TypeName) → width_over layer ≤ 64
layer_at_most (level.Int width) = width_at_most width
layer_at_most _ = omega arith

-- the number as its text reads at a width
pub record ReadsLiteral (width : ℕ) (n : ℤ) : Type 0 where
  pub small : mag n < 2 ^ 63
  pub reads : literal_of width (signed_decimal n) ≡ Some n

pub literal_reads : (t : TypeName) (n : ℤ) → IsPlainType t → IsTrue (is_residue (literal_width (Some t)) n) → ReadsLiteral (width_of t) n
literal_reads t n plain residue =
    let w = literal_width_is t plain.written in
    let few : width_of t ≤ 64 = layer_at_most (out-TypeName t) in
    let signed : IsSigned (width_of t) n = is_signed (width_of t) n (subst (λ (width : ℕ). IsTrue (is_residue width n)) (sym w.0) residue) in
    record {
      small = omega (arith, mag_below (2 ^ (width_of t - 1)) n signed.0 signed.1, half_small (width_of t) few);
      reads = printed_literal (width_of t) n w.1 few signed;
    }

-- a number that has a value in its range is no fault
pub in_range : {A : Type 0} (o : Option A) (x : A) (place : Place) → o ≡ Some x → out_of_range o place ≡ None
in_range o x place e = ap (λ o. out_of_range o place) e

-- the number of an element, as its text reads
pub record ReadsElement (n : ℤ) : Type 0 where
  pub small : mag n < 2 ^ 63
  pub reads : element_of (signed_decimal n) ≡ Some n
  pub faultless : (place : Place) → out_of_range (element_of (signed_decimal n)) place ≡ None

pub element_reads : (n : ℤ) → IsTrue (is_element_number n) → ReadsElement n
element_reads (pos n) h =
    let high : pos n ≤ℤ pos 63 = le_holds (pos n) (pos 63) (and_parts (int_le (pos 0) (pos n)) (int_le (pos n) (pos 63)) h).1 in
    let few : n ≤ 63 = omega (arith, ints) in
    let e : element_of (decimal n) ≡ Some (pos n) = ap (option_map pos) (printed_number 63 n (omega arith) few) in
    record { small = omega arith; reads = e; faultless = λ place. in_range (element_of (decimal n)) (pos n) place e }
element_reads (negsuc n) h = absurd (true≢false (sym h))

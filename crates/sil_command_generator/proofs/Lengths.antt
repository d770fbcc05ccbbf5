-- The text of the generated module is short enough to be read.
use Rattle.std.proofs.Common.{◌≡◌, ◌∙◌, ℕ, zero, suc, ◌+◌, ◌*◌, ◌<◌, ◌≤◌, List, [], ◌∷◌, ◌++◌, length, map, codes, decimal, refl, sym, ap, subst, arith, leb-true, length-append}
use Rattle.std.specs.List.{flat_map, range_with_len}
use Rattle.std.proofs.lemmas.List.Concat.{flat_map-append}
use Rattle.std.proofs.lemmas.Fmt.{length-decimal-le}
use Rattle.sil_ast.specs.declared.function.Function.{Function}
use Rattle.sil_ast.specs.declared.inst.Inst.{Inst}
use Rattle.sil_printer.specs.CanonicalFunctions.{function_text}
use Rattle.sil_printer.specs.CanonicalInsts.{inst_text}
use Rattle.sil_printer.specs.Words.{each_behind, indented, line, line_feed}
use Rattle.sil_command_generator.specs.GeneratedModules.{call_of, functions_of, main}
use Rattle.sil_command_generator.specs.WorkFunctions.{empty_tuple, return_of, work}
use Rattle.sil_command_generator.specs.inner.Heads.{head_text}
use Rattle.sil_command_generator.specs.inner.Laws.{AreGeneratedShort}
use Rattle.sil_command_generator.proofs.FoundFunctions.{found}
use Rattle.sil_command_generator.proofs.FunctionTexts.{call_is, end_is, work_is, work_pieces}
use Rattle.sil_command_generator.proofs.HeadLines.{head_is, head_lines}
use Rattle.sil_command_generator.proofs.MainTexts.{main_head, main_is, whole}
use Rattle.sil_command_generator.proofs.WorkLines.{work_lines, work_text}

digits_few : (n : ℕ) → n ≤ 1000 → length (decimal n) ≤ 4
digits_few n low = length-decimal-le 4 n (omega arith) (omega (arith, low)) (omega (arith, low))

three : (a b c : List ℕ) → length (a ++ b ++ c) ≡ length a + length b + length c
three a b c = omega (arith, length-append (a ++ b) c, length-append a b)

five : (a b c d e : List ℕ) → length (a ++ b ++ c ++ d ++ e) ≡ length a + length b + length c + length d + length e
five a b c d e = omega (arith, three (a ++ b ++ c) d e, three a b c)

nine : (a b c d e f g h i : List ℕ)
    → length (a ++ b ++ c ++ d ++ e ++ f ++ g ++ h ++ i) ≡ length a + length b + length c + length d + length e + length f + length g + length h + length i
nine a b c d e f g h i = omega (arith, five (a ++ b ++ c ++ d ++ e) f g h i, five a b c d e)

-- ---- a function that does the work

abbrev before_number : List ℕ
before_number = line_feed ++ codes "sil [ossa] @work"

abbrev behind_number : List ℕ
behind_number = codes " : " ++ codes "$@convention(thin) () -> ()" ++ codes " {" ++ line_feed

abbrev brace : List ℕ
brace = line (codes "}")

work_length : (fs : List Function) (k : ℕ) → k ≤ 500 → length (line_feed ++ function_text fs (work k)) ≤ 1500
work_length fs k low =
    let parts : length (line_feed ++ function_text fs (work k))
    ≡ length before_number + length (decimal k) + length behind_number + length work_lines + length brace
    = ap length (work_is fs k) ∙ ap (λ b. length (work_pieces b (decimal k))) (work_text fs) ∙ five before_number (decimal k) behind_number work_lines brace in
    let front : length before_number ≤ 20 = leb-true (length before_number) 20 refl in
    let back : length behind_number ≤ 40 = leb-true (length behind_number) 40 refl in
    let lines : length work_lines ≤ 1300 = leb-true (length work_lines) 1300 refl in
    let end : length brace ≤ 2 = leb-true (length brace) 2 refl in
    let digits : length (decimal k) ≤ 4 = digits_few k (omega (arith, low)) in
    sum_within (length before_number) (length (decimal k)) (length behind_number) (length work_lines) (length brace) parts front digits back lines end
  where
    sum_within : {n : ℕ} (a b c d e : ℕ) → n ≡ a + b + c + d + e → a ≤ 20 → b ≤ 4 → c ≤ 40 → d ≤ 1300 → e ≤ 2 → n ≤ 1500
    sum_within a b c d e is p q r s t = omega (arith, is, p, q, r, s, t)

works_length : (fs : List Function) (a n : ℕ) → a + n ≤ 500 → length (each_behind line_feed (function_text fs) (map work (range_with_len a n))) ≤ n * 1500
works_length fs a zero low = omega arith
works_length fs a (suc n) low =
    one_more (length (line_feed ++ function_text fs (work a))) (length (each_behind line_feed (function_text fs) (map work (range_with_len (a + 1) n)))) n
    (length-append (line_feed ++ function_text fs (work a)) (each_behind line_feed (function_text fs) (map work (range_with_len (a + 1) n))))
    (work_length fs a (omega (arith, low))) (works_length fs (a + 1) n (omega (arith, low)))
  where
    one_more : {m : ℕ} (x y n : ℕ) → m ≡ x + y → x ≤ 1500 → y ≤ n * 1500 → m ≤ suc n * 1500
    one_more x y n is p q = omega (arith, is, p, q)

-- ---- `@main`

abbrev between : List ℕ
between = codes " : " ++ codes "$@convention(thin) () -> ()" ++ line_feed ++ codes "  %"

abbrev call_end : List ℕ
call_end = codes "() : " ++ codes "$@convention(thin) () -> ()" ++ line_feed

call_length : (n k : ℕ) → k < n → n ≤ 500 → length (indented (inst_text (functions_of n)) (call_of k)) ≤ 200
call_length n k within low =
    let first = decimal (2 * k) in
    let second = decimal (2 * k + 1) in
    let start : length (codes "  %") ≤ 3 = leb-true 3 3 refl in
    let word : length (codes " = function_ref @work") ≤ 21 = leb-true 21 21 refl in
    let middle : length between ≤ 40 = leb-true (length between) 40 refl in
    let other : length (codes " = apply %") ≤ 10 = leb-true 10 10 refl in
    let last : length call_end ≤ 40 = leb-true (length call_end) 40 refl in
    sum_within (length (codes "  %")) (length first) (length (codes " = function_ref @work")) (length (decimal k)) (length between) (length second)
    (length (codes " = apply %")) (length call_end)
    (ap length (call_is (functions_of n) k (found n k within)) ∙ nine (codes "  %") first (codes " = function_ref @work") (decimal k) between second (codes " = apply %") first call_end)
    start (digits_few (2 * k) (omega (arith, within, low))) word (digits_few k (omega (arith, within, low))) middle (digits_few (2 * k + 1) (omega (arith, within, low))) other last
  where
    sum_within : {n : ℕ} (a b c d e f g h : ℕ) → n ≡ a + b + c + d + e + f + g + b + h → a ≤ 3 → b ≤ 4 → c ≤ 21 → d ≤ 4 → e ≤ 40 → f ≤ 4 → g ≤ 10 → h ≤ 40 → n ≤ 200
    sum_within a b c d e f g h is p q r s t u v w = omega (arith, is, p, q, r, s, t, u, v, w)

module _ (m : ℕ) where
  abbrev pub texts : List Inst → List ℕ
  texts = indented (inst_text (functions_of m))

  more_calls : (a n : ℕ) → length (texts (flat_map call_of (range_with_len a (suc n)))) ≡ length (texts (call_of a)) + length (texts (flat_map call_of (range_with_len (a + 1) n)))
  more_calls a n =
      ap length (flat_map-append (λ i. codes "  " ++ line (inst_text (functions_of m) i)) (call_of a) (flat_map call_of (range_with_len (a + 1) n)))
      ∙ length-append (texts (call_of a)) (texts (flat_map call_of (range_with_len (a + 1) n)))

  calls_length : (a n : ℕ) → a + n ≤ m → m ≤ 500 → length (texts (flat_map call_of (range_with_len a n))) ≤ n * 200
  calls_length a zero within low = omega arith
  calls_length a (suc n) within low =
      one_more (length (texts (call_of a))) (length (texts (flat_map call_of (range_with_len (a + 1) n)))) n (more_calls a n)
      (call_length m a (omega (arith, within)) low) (calls_length (a + 1) n (omega (arith, within)) low)
    where
      one_more : {l : ℕ} (x y n : ℕ) → l ≡ x + y → x ≤ 200 → y ≤ n * 200 → l ≤ suc n * 200
      one_more x y n is p q = omega (arith, is, p, q)

abbrev middle_text : List ℕ
middle_text = codes " = tuple ()" ++ line_feed ++ codes "  return %"

abbrev end_text : List ℕ
end_text = codes " : $()" ++ line_feed

abbrev last_lines : ℕ → List ℕ
last_lines n = texts n (empty_tuple (2 * n) ∷ []) ++ texts n (return_of (2 * n) ∷ [])

last_length : (n : ℕ) → n ≤ 500 → length (last_lines n) ≤ 60
last_length n low =
    let start : length (codes "  %") ≤ 3 = leb-true 3 3 refl in
    let middle : length middle_text ≤ 25 = leb-true (length middle_text) 25 refl in
    let end : length end_text ≤ 10 = leb-true (length end_text) 10 refl in
    sum_within (length (codes "  %")) (length (decimal (2 * n))) (length middle_text) (length end_text)
    (ap length (end_is (functions_of n) (2 * n)) ∙ five (codes "  %") (decimal (2 * n)) middle_text (decimal (2 * n)) end_text) start
    (digits_few (2 * n) (omega (arith, low))) middle end
  where
    sum_within : {n : ℕ} (a b c d : ℕ) → n ≡ a + b + c + b + d → a ≤ 3 → b ≤ 4 → c ≤ 25 → d ≤ 10 → n ≤ 60
    sum_within a b c d is p q r s = omega (arith, is, p, q, r, s)

main_length : (n : ℕ) → n ≤ 500 → length (line_feed ++ function_text (functions_of n) (main n)) ≤ n * 200 + 200
main_length n low =
    let calls = texts n (flat_map call_of (range_with_len 0 n)) in
    let head : length main_head ≤ 100 = leb-true (length main_head) 100 refl in
    let end : length brace ≤ 2 = leb-true (length brace) 2 refl in
    sum_within (length main_head) (length calls) (length (last_lines n)) (length brace) (n * 200)
    (ap length (main_is n) ∙ length-append (main_head ++ calls ++ last_lines n) brace) (three main_head calls (last_lines n)) head
    (calls_length n 0 n (omega arith) low) (last_length n low) end
  where
    sum_within : {l m : ℕ} (a b c d most : ℕ) → l ≡ m + d → m ≡ a + b + c → a ≤ 100 → b ≤ most → c ≤ 60 → d ≤ 2 → l ≤ most + 200
    sum_within a b c d most is it p q r s = omega (arith, is, it, p, q, r, s)

-- ---- the whole text

head_length : length head_text ≤ 200
head_length = subst (λ t. length t ≤ 200) (sym head_is) (leb-true (length head_lines) 200 refl)

pub generated_short : AreGeneratedShort
generated_short n low =
    let works = each_behind line_feed (function_text (functions_of n)) (map work (range_with_len 0 n)) in
    let last = line_feed ++ function_text (functions_of n) (main n) in
    sum_within (length head_text) (length works) (length last) n (sym (ap length (whole n)) ∙ three head_text works last) head_length
    (works_length (functions_of n) 0 n (omega (arith, low))) (main_length n low) low
  where
    sum_within : {l : ℕ} (a b c n : ℕ) → l ≡ a + b + c → a ≤ 200 → b ≤ n * 1500 → c ≤ n * 200 + 200 → n ≤ 500 → l ≤ 1048576
    sum_within a b c n is p q r s = omega (arith, is, p, q, r, s)

-- One more of what is counted.
use Rattle.std.proofs.Common.{◌≡◌, ◌∙◌, ℕ, ◌+◌, zero, suc, List, [], ◌∷◌, ◌++◌, codes, map, ap, sym, arith, append-nil}
use Rattle.std.specs.List.{flat_map, range_with_len}
use Rattle.std.proofs.lemmas.List.Concat.{flat_map-append}
use Rattle.std.proofs.lemmas.List.FromFn.{map-range_with_len_more}
use Rattle.sil_ast.specs.declared.function.Function.{Function}
use Rattle.sil_printer.specs.CanonicalFunctions.{function_text}
use Rattle.sil_printer.specs.CanonicalInsts.{inst_text}
use Rattle.sil_printer.specs.Words.{each_behind, indented, line, line_feed}
use Rattle.sil_command_generator.specs.GeneratedModules.{call_of}
use Rattle.sil_command_generator.specs.WorkFunctions.{work}
use Rattle.sil_command_generator.proofs.FunctionTexts.{behind}

-- what is made of one more item
pub with_last : {X : Type 0} (f : X → List ℕ) (xs : List X) (x : X) → flat_map f (xs ++ x ∷ []) ≡ flat_map f xs ++ f x
with_last f xs x = flat_map-append f xs (x ∷ []) ∙ ap (λ t. flat_map f xs ++ t) (append-nil (f x))

pub one_more_function : (fs : List Function) (k : ℕ) (start before after : List ℕ)
    → before ≡ start ++ each_behind line_feed (function_text fs) (map work (range_with_len 0 k)) → after ≡ before ++ (line_feed ++ function_text fs (work k))
    → after ≡ start ++ each_behind line_feed (function_text fs) (map work (range_with_len 0 (k + 1)))
one_more_function fs k start before after at_before at_after =
    behind start before after _ _ at_before at_after
    ∙ ap (λ t. start ++ t) (sym (ap (each_behind line_feed (function_text fs)) (map-range_with_len_more work 0 k k (omega arith))
    ∙ with_last (λ f. line_feed ++ function_text fs f) (map work (range_with_len 0 k)) (work k)))

numbers_to : (a n j : ℕ) → a + n ≡ j → range_with_len a (suc n) ≡ range_with_len a n ++ j ∷ []
numbers_to a zero j e = let same : a ≡ j = omega (arith, e) in ap (λ x. x ∷ []) same
numbers_to a (suc n) j e = ap (λ l. a ∷ l) (numbers_to (a + 1) n j (omega (arith, e)))

one_more_number : (k : ℕ) → range_with_len 0 (k + 1) ≡ range_with_len 0 k ++ k ∷ []
one_more_number k = let on : k + 1 ≡ suc k = omega arith in ap (range_with_len 0) on ∙ numbers_to 0 k k (omega arith)

one_more_call : (k : ℕ) → flat_map call_of (range_with_len 0 (k + 1)) ≡ flat_map call_of (range_with_len 0 k) ++ call_of k
one_more_call k =
    ap (flat_map call_of) (one_more_number k) ∙ flat_map-append call_of (range_with_len 0 k) (k ∷ [])

pub one_more_called : (fs : List Function) (k : ℕ) (start before after : List ℕ)
    → before ≡ start ++ indented (inst_text fs) (flat_map call_of (range_with_len 0 k)) → after ≡ before ++ indented (inst_text fs) (call_of k)
    → after ≡ start ++ indented (inst_text fs) (flat_map call_of (range_with_len 0 (k + 1)))
one_more_called fs k start before after at_before at_after =
    behind start before after _ _ at_before at_after
    ∙ ap (λ t. start ++ t) (sym (ap (indented (inst_text fs)) (one_more_call k)
    ∙ flat_map-append (λ i. codes "  " ++ line (inst_text fs i)) (flat_map call_of (range_with_len 0 k)) (call_of k)))

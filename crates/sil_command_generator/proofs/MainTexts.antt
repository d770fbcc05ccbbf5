-- The pieces make up `@main`, and the whole text.
use Rattle.std.proofs.Common.{◌≡◌, ◌∙◌, ℕ, ◌*◌, List, [], ◌∷◌, ◌++◌, codes, decimal, map, refl, sym, ap, append_assoc, append-nil}
use Rattle.std.specs.Fmt.{digits}
use Rattle.std.specs.List.{flat_map, range_with_len}
use Rattle.std.proofs.lemmas.List.Concat.{flat_map-append}
use Rattle.sil_ast.specs.declared.inst.Inst.{Inst}
use Rattle.sil_printer.specs.CanonicalFunctions.{function_text}
use Rattle.sil_printer.specs.CanonicalInsts.{inst_text}
use Rattle.sil_printer.specs.Words.{each_behind, indented, line, line_feed}
use Rattle.sil_command_generator.specs.GeneratedModules.{call_of, functions_of, generated, main}
use Rattle.sil_command_generator.specs.WorkFunctions.{empty_tuple, return_of, work}
use Rattle.sil_command_generator.specs.inner.Heads.{head_text}
use Rattle.sil_command_generator.proofs.Counted.{with_last}
use Rattle.sil_command_generator.proofs.FunctionTexts.{behind}

zero_text : decimal 0 ≡ codes "0"
unfolding digits
zero_text = refl

-- up to the number of the block
abbrev to_block : List ℕ
to_block = line_feed ++ codes "sil [ossa] @main : $@convention(thin) () -> () {" ++ line_feed ++ codes "bb"

abbrev pub main_head : List ℕ
main_head = line_feed ++ codes "sil [ossa] @main : $@convention(thin) () -> () {" ++ line_feed ++ codes "bb0:" ++ line_feed

-- of any texts, in other groups
main_grouped : (h c t r e : List ℕ) → h ++ (c ++ t ++ r ++ [] ++ e) ≡ h ++ c ++ (t ++ r) ++ e
main_grouped h c t r e = simp (append_assoc, append-nil) refl

module _ (n : ℕ) where
  abbrev texts : List Inst → List ℕ
  texts = indented (inst_text (functions_of n))

  abbrev calls : List Inst
  calls = flat_map call_of (range_with_len 0 n)

  abbrev tuple_line : List ℕ
  tuple_line = texts (empty_tuple (2 * n) ∷ [])

  abbrev return_line : List ℕ
  return_line = texts (return_of (2 * n) ∷ [])

  pub main_is : line_feed ++ function_text (functions_of n) (main n) ≡ main_head ++ texts calls ++ (tuple_line ++ return_line) ++ line (codes "}")
  main_is =
      ap (λ d. to_block ++ (d ++ [] ++ codes ":" ++ line_feed ++ texts (calls ++ empty_tuple (2 * n) ∷ []) ++ return_line ++ [] ++ line (codes "}"))) zero_text
      ∙ ap (λ t. main_head ++ (t ++ return_line ++ [] ++ line (codes "}")))
      (flat_map-append (λ i. codes "  " ++ line (inst_text (functions_of n) i)) calls (empty_tuple (2 * n) ∷ []))
      ∙ main_grouped main_head (texts calls) tuple_line return_line (line (codes "}"))

  pub main_pushed : (o p q r s : List ℕ) → p ≡ o ++ main_head → q ≡ p ++ texts calls → r ≡ q ++ (tuple_line ++ return_line) → s ≡ r ++ line (codes "}")
      → s ≡ o ++ (line_feed ++ function_text (functions_of n) (main n))
  main_pushed o p q r s at_p at_q at_r at_s =
      behind o r s _ _ (behind o q r _ _ (behind o p q _ _ at_p at_q) at_r) at_s ∙ ap (λ t. o ++ t) (sym main_is)

  abbrev works : List ℕ
  works = each_behind line_feed (function_text (functions_of n)) (map work (range_with_len 0 n))

  abbrev the_main : List ℕ
  the_main = line_feed ++ function_text (functions_of n) (main n)

  pub whole : head_text ++ works ++ the_main ≡ generated n
  whole = append_assoc head_text works the_main
      ∙ ap (λ t. head_text ++ t) (sym (with_last (λ f. line_feed ++ function_text (functions_of n) f) (map work (range_with_len 0 n)) (main n)))
      ∙ sym (append-nil _)

  pub all_pushed : (o p q r : List ℕ) → o ≡ [] → p ≡ o ++ head_text → q ≡ p ++ works → r ≡ q ++ the_main → r ≡ generated n
  all_pushed o p q r at_o at_p at_q at_r =
      at_r ∙ ap (λ t. t ++ the_main) (at_q ∙ ap (λ t. t ++ works) (at_p ∙ ap (λ t. t ++ head_text) at_o)) ∙ whole

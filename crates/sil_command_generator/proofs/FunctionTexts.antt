-- The pieces that are put one behind the other make up the functions' texts.
use Rattle.std.proofs.Common.{◌≡◌, ◌∙◌, ℕ, ◌+◌, ◌*◌, List, [], ◌∷◌, ◌++◌, codes, decimal, refl, sym, ap, append_assoc, append-nil, Some}
use Rattle.std.specs.Prelude.{slice_get}
use Rattle.sil_ast.specs.declared.function.Function.{Function}
use Rattle.sil_printer.specs.CanonicalFunctions.{blocks_text, function_text}
use Rattle.sil_printer.specs.CanonicalInsts.{inst_text}
use Rattle.sil_printer.specs.Words.{indented, line, line_feed}
use Rattle.sil_command_generator.specs.GeneratedModules.{call_of}
use Rattle.sil_command_generator.specs.WorkFunctions.{empty_tuple, return_of, work, work_blocks}
use Rattle.sil_command_generator.proofs.TypeTexts.{unit_text}

-- one more piece
pub behind : (start before after a b : List ℕ) → before ≡ start ++ a → after ≡ before ++ b → after ≡ start ++ (a ++ b)
behind start before after a b at_before at_after = at_after ∙ ap (λ text. text ++ b) at_before ∙ append_assoc start a b

-- ---- pieces of any texts, in other groups

work_grouped : (l p w n c s o b e : List ℕ) → l ++ (p ++ (w ++ n) ++ c ++ s ++ (o ++ b ++ e)) ≡ l ++ (p ++ w) ++ n ++ (c ++ s ++ o) ++ b ++ e
work_grouped l p w n c s o b e = simp (append_assoc) refl

call_grouped : (i v p e m s a w d c g l q r n : List ℕ)
    → i ++ (v ++ p ++ e ++ m ++ (s ++ (a ++ (w ++ d)) ++ (c ++ g ++ [])) ++ l) ++ (i ++ (v ++ q ++ e ++ n ++ (s ++ (v ++ p) ++ (r ++ (c ++ g ++ []))) ++ l) ++ [])
    ≡ (i ++ v) ++ p ++ (e ++ m ++ (s ++ (a ++ w))) ++ d ++ (c ++ g ++ l ++ (i ++ v)) ++ q ++ (e ++ n ++ (s ++ v)) ++ p ++ (r ++ (c ++ g) ++ l)
call_grouped i v p e m s a w d c g l q r n = simp (append_assoc, append-nil) refl

end_grouped : (h x e t u l y z : List ℕ) → h ++ (x ++ e ++ t ++ u ++ l ++ [] ++ (y ++ (x ++ z ++ [] ++ l ++ []))) ≡ h ++ x ++ (e ++ t ++ u ++ l ++ y) ++ x ++ (z ++ l)
end_grouped h x e t u l y z = simp (append_assoc, append-nil) refl

-- ---- the functions

abbrev signature : List ℕ
signature = codes "$@convention(thin) () -> ()"

abbrev pub work_pieces : List ℕ → List ℕ → List ℕ
work_pieces blocks number =
    line_feed ++ codes "sil [ossa] @work" ++ number ++ (codes " : " ++ signature ++ codes " {" ++ line_feed) ++ blocks ++ line (codes "}")

pub work_is : (fs : List Function) (k : ℕ) → line_feed ++ function_text fs (work k) ≡ work_pieces (blocks_text fs work_blocks) (decimal k)
work_is fs k =
    work_grouped line_feed (codes "sil [ossa] @") (codes "work") (decimal k) (codes " : ") signature (line (codes " {")) (blocks_text fs work_blocks) (line (codes "}"))

pub work_pushed : (fs : List Function) (k : ℕ) (start first second third fourth after : List ℕ)
    → first ≡ start ++ (line_feed ++ codes "sil [ossa] @work") → second ≡ first ++ decimal k
    → third ≡ second ++ (codes " : " ++ signature ++ codes " {" ++ line_feed) → fourth ≡ third ++ blocks_text fs work_blocks → after ≡ fourth ++ line (codes "}")
    → after ≡ start ++ (line_feed ++ function_text fs (work k))
work_pushed fs k start first second third fourth after at_first at_second at_third at_fourth at_after =
    behind start fourth after _ _
    (behind start third fourth _ _ (behind start second third _ _ (behind start first second _ _ at_first at_second) at_third) at_fourth) at_after
    ∙ ap (λ t. start ++ t) (sym (work_is fs k))

abbrev pub call_pieces : List ℕ → List ℕ → List ℕ → List ℕ
call_pieces k first second =
    codes "  %" ++ first ++ codes " = function_ref @work" ++ k ++ (codes " : " ++ signature ++ line_feed ++ codes "  %") ++ second ++ codes " = apply %" ++ first
    ++ (codes "() : " ++ signature ++ line_feed)

pub call_is : (fs : List Function) (k : ℕ) → slice_get fs k ≡ Some (work k)
    → indented (inst_text fs) (call_of k) ≡ call_pieces (decimal k) (decimal (2 * k)) (decimal (2 * k + 1))
call_is fs k there =
    rw there
    (call_grouped (codes "  ") (codes "%") (decimal (2 * k)) (codes " = ") (codes "function_ref") (codes " ") (codes "@") (codes "work") (decimal k) (codes " : ")
    signature line_feed (decimal (2 * k + 1)) (codes "()") (codes "apply"))

module _ (fs : List Function) (k : ℕ) (there : slice_get fs k ≡ Some (work k)) where
  pub call_pushed : (o p q r s t u v w x : List ℕ)
      → p ≡ o ++ codes "  %" → q ≡ p ++ decimal (2 * k) → r ≡ q ++ codes " = function_ref @work" → s ≡ r ++ decimal k
      → t ≡ s ++ (codes " : " ++ signature ++ line_feed ++ codes "  %") → u ≡ t ++ decimal (2 * k + 1) → v ≡ u ++ codes " = apply %"
      → w ≡ v ++ decimal (2 * k) → x ≡ w ++ (codes "() : " ++ signature ++ line_feed) → x ≡ o ++ indented (inst_text fs) (call_of k)
  call_pushed o p q r s t u v w x at_p at_q at_r at_s at_t at_u at_v at_w at_x =
      behind o w x _ _ (behind o v w _ _ (behind o u v _ _ (behind o t u _ _ (behind o s t _ _ (behind o r s _ _ (behind o q r _ _ (behind o p q _ _ at_p at_q)
      at_r) at_s) at_t) at_u) at_v) at_w) at_x
      ∙ ap (λ y. o ++ y) (sym (call_is fs k there))

abbrev pub end_pieces : List ℕ → List ℕ
end_pieces n = codes "  %" ++ n ++ (codes " = tuple ()" ++ line_feed ++ codes "  return %") ++ n ++ (codes " : $()" ++ line_feed)

pub end_is : (fs : List Function) (n : ℕ)
    → indented (inst_text fs) (empty_tuple n ∷ []) ++ indented (inst_text fs) (return_of n ∷ []) ≡ end_pieces (decimal n)
end_is fs n =
    rw unit_text (end_grouped (codes "  %") (decimal n) (codes " = ") (codes "tuple") (codes " ()") line_feed (codes "  return %") (codes " : $()"))

pub end_pushed : (fs : List Function) (n : ℕ) (o p q r s t : List ℕ)
    → p ≡ o ++ codes "  %" → q ≡ p ++ decimal n → r ≡ q ++ (codes " = tuple ()" ++ line_feed ++ codes "  return %") → s ≡ r ++ decimal n
    → t ≡ s ++ (codes " : $()" ++ line_feed)
    → t ≡ o ++ (indented (inst_text fs) (empty_tuple n ∷ []) ++ indented (inst_text fs) (return_of n ∷ []))
end_pushed fs n o p q r s t at_p at_q at_r at_s at_t =
    behind o s t _ _ (behind o r s _ _ (behind o q r _ _ (behind o p q _ _ at_p at_q) at_r) at_s) at_t ∙ ap (λ y. o ++ y) (sym (end_is fs n))

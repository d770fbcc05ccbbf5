-- For `cut_at_last_token`: the steps up to the last token, and the others behind them.
use Rattle.std.proofs.Common.{◌≡◌, List, ◌++◌, ap, drop, subst, sym, take, ◌∙◌}
use Rattle.std.proofs.lemmas.List.{take-append-drop}
use Rattle.sil_grammar_shape.specs.declared.steps.Step.{Step}
use Rattle.sil_grammar_shape.specs.Derivation.{start}
use Rattle.sil_grammar_shape.specs.inner.Values.{takes_of}
use Rattle.sil_grammar.specs.inner.Left.{left_after, AreDecided}
use Rattle.sil_grammar.proofs.cutting.cut_at_last_token.Goals as goal

pub returns : goal.returns
returns c =
    let steps : List Step = c.args.front.steps.items in
    let count = c.count_decided-count.result in
    let slice = c.as_slice.ensures.value in
    let cut = c.truncate.ensures.items in
    record {
      behind = drop count steps;
      steps_are = sym (take-append-drop count steps) ∙ ap (λ l. l ++ drop count steps) (sym cut);
      none_behind = subst (λ l. takes_of (drop count l) ≡ 0) slice c.count_decided-count.ensures.none_behind;
      decided = subst AreDecided (sym cut) (subst (λ l. AreDecided (take count l)) slice c.count_decided-count.ensures.decided);
      left = c.in_ok-left.ensures ∙ ap (λ l. left_after l start) c.as_slice-2.ensures.value;
    }

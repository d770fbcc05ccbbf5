-- How many values a replay builds: where a production is expanded, those of its body are there.
use Rattle.std.proofs.Common.{◌≡◌, ℕ, ◌+◌, ◌-◌, ◌<◌, ◌≤◌, List, [], ◌∷◌, length, drop, get_or, refl, ap, subst, ◌∙◌, arith}
use Rattle.std.proofs.lemmas.List.{drop_more, length-drop}
use Rattle.sil_lexer.specs.Lexes.{Lexeme}
use Rattle.sil_grammar_tables.specs.declared.grammar.Production.{Production}
use Rattle.sil_grammar_shape.specs.declared.steps.Step.{Step}
use Rattle.sil_grammar_shape.specs.declared.steps.Step.TheVariants.{Take, Expand}
use Rattle.sil_grammar_tables.specs.Grammar.{body}
use Rattle.sil_grammar_shape.specs.inner.Values.{values_left, IsEnough}
use Rattle.sil_grammar_shape.proofs.ValuesLemmas.{IsEnough-drop}
use Rattle.sil_grammar_values.specs.declared.value.Value.{Value}
use Rattle.sil_grammar_values.specs.inner.Reduced.{reduced}
use Rattle.sil_grammar_modules.specs.inner.Replay.{replay}

length-reduced : (p : Production) (values : List Value) → length (reduced p values) ≡ length values - length (body p) + 1
unfolding reduced
length-reduced p values = omega (arith, length-drop (length (body p)) values)

pub length-replay : (steps : List Step) (lexemes : List Lexeme) → length (replay steps lexemes) ≡ values_left steps
length-replay [] lexemes = refl
length-replay (Take ∷ steps) [] = omega (arith, length-replay steps [])
length-replay (Take ∷ steps) (l ∷ lexemes) = omega (arith, length-replay steps lexemes)
length-replay (Expand p ∷ steps) lexemes = omega (arith, length-replay steps lexemes, length-reduced p (replay steps lexemes))

drop_step : (steps : List Step) (n : ℕ) (d step : Step) → 0 < n → n ≤ length steps → get_or steps (n - 1) d ≡ step → drop (n - 1) steps ≡ step ∷ drop n steps
drop_step steps n d step above below is =
    let e : n - 1 + 1 ≡ n = omega arith in
    subst (λ k. drop (n - 1) steps ≡ get_or steps (n - 1) d ∷ drop k steps) e (drop_more steps (n - 1) d (omega arith)) ∙ ap (λ s. s ∷ drop n steps) is

pub enough_before : (steps : List Step) (lexemes : List Lexeme) (n : ℕ) (d : Step) (p : Production) → IsEnough steps → 0 < n → n ≤ length steps
    → get_or steps (n - 1) d ≡ Expand p → length (body p) ≤ length (replay (drop n steps) lexemes)
enough_before steps lexemes n d p enough above below is =
    let h = subst IsEnough (drop_step steps n d (Expand p) above below is) (IsEnough-drop (n - 1) steps enough) in
    omega (arith, h.0, length-replay (drop n steps) lexemes)

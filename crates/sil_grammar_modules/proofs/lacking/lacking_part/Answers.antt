-- The steps of the shortest text leave one value, that of the part.
use Rattle.std.proofs.Common.{◌≡◌, [], ◌∷◌, ◌∙◌, ap, arith, length, subst, sym}
use Rattle.sil_grammar_tables.specs.declared.grammar.Symbol.TheVariants.{Part}
use Rattle.sil_grammar_tables.specs.Grammar.{body}
use Rattle.sil_grammar_shape.specs.inner.Values.{IsEnough}
use Rattle.sil_grammar_modules.specs.inner.Lacking.{lacking}
use Rattle.sil_grammar_modules.specs.inner.Replay.{replay}
use Rattle.sil_grammar_modules.proofs.LackingLemmas.{enough_alone, one_part}
use Rattle.sil_grammar_modules.proofs.lacking.lacking_part.Goals as goal

pub empty_part-requires : goal.empty_part-requires
empty_part-requires c =
    omega (arith, c.body_length.ensures, c.if-body_length-eq0.true, ap (λ p. length (body p)) c.shortest-production.ensures)

pub replay_lacking-requires : goal.replay_lacking-requires
replay_lacking-requires c = subst IsEnough (sym c.as_slice.ensures.value) (enough_alone c.in_ok-steps.ensures)

pub pop_front-requires : goal.pop_front-requires
pop_front-requires c =
    let are = c.in_ok-values.ensures ∙ ap (λ steps. replay steps []) c.as_slice.ensures.value ∙ one_part c.args.part c.in_ok-steps.ensures in
    omega (arith, ap length are)

pub returns : goal.returns
returns c =
    let are = c.in_ok-values.ensures ∙ ap (λ steps. replay steps []) c.as_slice.ensures.value ∙ one_part c.args.part c.in_ok-steps.ensures in
    let both : c.pop_front.result ∷ c.pop_front.new.self ≡ lacking (Part c.args.part) ∷ [] = sym c.pop_front.ensures ∙ are in
    cc both

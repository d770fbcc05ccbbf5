-- For `bad_token_or_stop`: where the end comes too early, the stop is what is bad.
use Rattle.std.proofs.Common.{◌≡◌, subst, sym, ◌∙◌}
use Rattle.std.specs.Prelude.{Some}
use Rattle.sil_grammar_shape.specs.Derivation.{IsFirstBad}
use Rattle.sil_grammar.specs.FirstBad.{IsFirstBadPlace}
use Rattle.sil_grammar_shape.proofs.DerivedOnce.{first_bad_once}
use Rattle.sil_grammar.proofs.FirstBadLemmas.{stop_first}
use Rattle.sil_grammar.proofs.first_bad.bad_token_or_stop.Goals as goal

pub returns-in-Some : goal.returns-in-Some
returns-in-Some c =
    let text = c.args.text.now in
    let stops : c.args.tokens.now.stop ≡ Some c.in-Some.stop = cc c.in-Some.ensures in
    let first = subst (λ ks. IsFirstBad ks c.args.i) c.requires.classes c.requires.first in
    subst (IsFirstBadPlace text) (sym c.bad_stop.ensures)
    (stop_first text c.args.tokens.now c.requires.lexed c.in-Some.stop stops (λ i bad. first_bad_once _ i c.args.i bad first ∙ c.if-i-len.true ∙ c.len.ensures))

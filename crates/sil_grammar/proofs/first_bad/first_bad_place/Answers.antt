-- For `first_bad_place`: the answer is the only one.
use Rattle.std.proofs.Common.{◌≡◌, ◌↔◌}
use Rattle.std.specs.Prelude.{Some, IsNone, MatchOption}
use Rattle.std.proofs.lemmas.Result.{IfOk-weaker}
use Rattle.sil_grammar.specs.declared.first_bad.BadPlace.{BadPlace}
use Rattle.sil_grammar.specs.FirstBad.{HasShape, IsFirstBadPlace}
use Rattle.sil_grammar.proofs.FirstBadLemmas.{exact}
use Rattle.sil_grammar.proofs.first_bad.first_bad_place.Goals as goal

pub returns-in-Ok-clause-shape : goal.returns-in-Ok-clause-shape
returns-in-Ok-clause-shape c =
    let text = c.args.text.now in
    IfOk-weaker c.first_bad_of.result (λ r. MatchOption r (HasShape text) (IsFirstBadPlace text)) (λ r. IsNone r ↔ HasShape text)
    (λ r told. (exact text r told).0) c.first_bad_of.ensures

pub returns-in-Ok-clause-place : goal.returns-in-Ok-clause-place
returns-in-Ok-clause-place c =
    let text = c.args.text.now in
    IfOk-weaker c.first_bad_of.result (λ r. MatchOption r (HasShape text) (IsFirstBadPlace text)) (λ r. (bad : BadPlace) → (r ≡ Some bad) ↔ IsFirstBadPlace text bad)
    (λ r told. (exact text r told).1) c.first_bad_of.ensures

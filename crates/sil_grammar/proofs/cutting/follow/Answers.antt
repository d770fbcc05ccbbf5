-- For `follow`: what stood first is gone, and the body stands in its place.
use Rattle.sil_grammar_shape.proofs.TurnLemmas.{rest_popped}
use Rattle.sil_grammar.proofs.CutLemmas.{after_expand, after_take}
use Rattle.sil_grammar.proofs.cutting.follow.Goals as goal

pub returns-in_ok-push_body : goal.returns-in_ok-push_body
returns-in_ok-push_body c =
    after_expand c.args.step c.in-Expand.production _ _ _ c.in-Expand.is (rest_popped c.pop_symbol.result _ _ c.pop_symbol.ensures) c.in_ok-push_body.ensures

pub returns-in_default : goal.returns-in_default
returns-in_default c = after_take c.args.step _ _ c.in_default.not-Expand (rest_popped c.pop_symbol.result _ _ c.pop_symbol.ensures)

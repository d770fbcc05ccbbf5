use Rattle.std.proofs.Common.{◌++◌, ◌∷◌, [], ap, refl, ◌∙◌}
use Rattle.sil_grammar_shape.proofs.GoesOnLemmas.{BeginsShape-derived, goes_on_unless}
use Rattle.sil_grammar_shape.proofs.unsupported.goes_on.Goals as goal

pub returns-in-Ok : goal.returns-in-Ok
returns-in-Ok c =
    let e = c.as_slice.ensures.value ∙ c.in_ok-push.ensures.items ∙ ap (λ l. l ++ c.args.next ∷ []) c.in_ok-classes.ensures.items in
    (λ _. BeginsShape-derived c.as_slice.result.now (c.args.front.now ++ c.args.next ∷ []) c.in-Ok._steps.items e c.in-Ok.ensures.found, λ _. refl)

pub returns-in-Err-FirstBad : goal.returns-in-Err-FirstBad
returns-in-Err-FirstBad c =
    let e = c.as_slice.ensures.value ∙ c.in_ok-push.ensures.items ∙ ap (λ l. l ++ c.args.next ∷ []) c.in_ok-classes.ensures.items in
    goes_on_unless c.args.front.now c.as_slice.result.now c.args.next c.in-Err-FirstBad.place e c.requires
    (rw c.in-Err-FirstBad.field-0-is at c.in-Err-FirstBad.ensures.refused).0

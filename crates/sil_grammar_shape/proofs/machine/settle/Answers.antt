use Rattle.std.proofs.Common.{◌∙◌, ap, reverse, sym}
use Rattle.std.specs.Prelude.{Some, slice_get}
use Rattle.sil_grammar_shape.specs.inner.Turns.{stay}
use Rattle.sil_grammar_shape.proofs.TurnLemmas.{turned, smaller}
use Rattle.sil_grammar_shape.proofs.machine.settle.Goals as goal

pub loop-part-init : goal.loop-part-init
loop-part-init c = stay

pub loop-part-smaller : goal.loop-part-smaller
loop-part-smaller c =
    let now = ap (λ xs. slice_get (reverse xs) 0) c.as_slice.ensures.value in
    smaller c.args.look.class (sym now ∙ sym c.first.ensures ∙ c.in-Some-Part.is ∙ ap Some c.in-Some-Part.field-0-is) (sym c.in-Some.ensures) c.in_ok-expand.ensures

pub loop-part-preserved : goal.loop-part-preserved
loop-part-preserved c =
    let now = ap (λ xs. slice_get (reverse xs) 0) c.as_slice.ensures.value in
    turned c.loop-part.invariant (sym now ∙ sym c.first.ensures ∙ c.in-Some-Part.is ∙ ap Some c.in-Some-Part.field-0-is) (sym c.in-Some.ensures) c.in_ok-expand.ensures

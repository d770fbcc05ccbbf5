use Rattle.std.proofs.Common.{subst, sym}
use Rattle.std.proofs.lemmas.Bool.{MatchBool-at_true, MatchBool-at_false}
use Rattle.sil_grammar_shape.specs.inner.Refusal.{IsRefusal}
use Rattle.sil_grammar_shape.proofs.Reached.{Reached-start, Reached-next, Reached-all, first_bad_inside, first_bad_end}
use Rattle.sil_grammar_shape.proofs.ValuesLemmas.{takes_of-derives, values_left-derives, IsEnough-derives}
use Rattle.sil_grammar_shape.proofs.machine.steps_of.Goals as goal

pub loop-place-init : goal.loop-place-init
loop-place-init c = rw (c.in_ok-stack.ensures, c.in_ok-steps.ensures.items) Reached-start

pub returns-then-not-branch-clause-refused : goal.returns-then-not-branch-clause-refused
returns-then-not-branch-clause-refused c =
    let refused = first_bad_inside _ _ c.loop-place.invariant _ c.loop-place-test.true (MatchBool-at_false _ _ c.if-not-branch.true c.in_ok-take.ensures) in
    subst (IsRefusal c.args.classes.now) (sym c.first_bad.ensures) refused

pub loop-place-preserved : goal.loop-place-preserved
loop-place-preserved c =
    Reached-next _ _ _ c.loop-place-test.true c.loop-place.invariant (MatchBool-at_true _ _ c.if-not-branch.false c.in_ok-take.ensures)

pub returns-then-not-branch-2-clause-refused : goal.returns-then-not-branch-2-clause-refused
returns-then-not-branch-2-clause-refused c =
    let refused = first_bad_end _ _ c.loop-place.invariant c.loop-place-test.false (MatchBool-at_false _ _ c.if-not-branch-2.true c.in_ok-end.ensures) in
    subst (IsRefusal c.args.classes.now) (sym c.first_bad-then-not-branch-2.ensures) refused

pub returns : goal.returns
returns c =
    let whole = Reached-all _ _ c.loop-place-test.false c.loop-place.invariant (MatchBool-at_true _ _ c.if-not-branch-2.false c.in_ok-end.ensures) in
    record {
      found = whole;
      taken = takes_of-derives whole.derives;
      enough = IsEnough-derives whole.derives;
      one_value = values_left-derives whole.derives;
      refused = tt;
    }

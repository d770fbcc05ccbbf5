use Rattle.std.proofs.Common.{sym, ◌∙◌, subst}
use Rattle.std.proofs.lemmas.Result.{IfOk-weaker}
use Rattle.count_machine_layouts.specs.ReachedFunctions.inner.Reaching.{HaveDeinitsInside}
use Rattle.count_machine_layouts.proofs.ReachedFunctions.Reaching.{all_found, followed_but}
use Rattle.count_machine_layouts.proofs.reached_functions.reached.mark_reached.Goals as goal

pub mark_deinits-requires : goal.mark_deinits-requires
mark_deinits-requires c = subst (λ n. HaveDeinitsInside n c.args.classes.now) (sym (c.in_ok-mark.ensures.goes.size ∙ c.requires.size)) c.requires.deinits

pub follow_all-requires-clause-but : goal.follow_all-requires-clause-but
follow_all-requires-clause-but c =
    followed_but c.args.m.now c.args.classes.now c.args.entry c.args.reached.now c.mark.new.reached c.mark_deinits.new.reached _ c.mark.new.waiting.items
    c.mark_deinits.new.waiting.items c.requires.none c.in_ok-mark.ensures.goes c.in_ok-mark_deinits.ensures.goes

pub returns : goal.returns
returns c =
    IfOk-weaker c.follow_all.result _ _ (λ _ search.
    all_found c.args.m.now c.args.classes.now c.args.entry c.args.reached.now c.mark.new.reached c.mark_deinits.new.reached _ c.mark.new.waiting.items
    c.mark_deinits.new.waiting.items c.requires.none c.in_ok-mark.ensures.goes c.in_ok-mark_deinits.ensures.goes c.requires.size
    c.in_ok-mark.ensures.marked c.in_ok-mark_deinits.ensures.marked _ search) c.follow_all.ensures

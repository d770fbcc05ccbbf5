use Rattle.std.proofs.Common.{sym, subst, set, true}
use Rattle.count_machine_layouts.specs.ReachedFunctions.inner.Reaching.{GoesOn}
use Rattle.count_machine_layouts.proofs.ReachedFunctions.Reaching.{marked_before, marked_new, marked_now}
use Rattle.count_machine_layouts.proofs.reached_functions.reached.mark.Goals as goal

pub returns-in_ok-push-clause-goes : goal.returns-in_ok-push-clause-goes
returns-in_ok-push-clause-goes c =
    subst (GoesOn c.args.reached.now c.args.waiting.now.items (set c.args.reached.now c.args.function.0 true)) (sym c.in_ok-push.ensures.items)
    (marked_new c.args.reached.now c.args.waiting.now.items c.args.function c.requires c.if-not-reached-number.true)

pub returns-in_ok-push-clause-marked : goal.returns-in_ok-push-clause-marked
returns-in_ok-push-clause-marked c = marked_now c.args.reached.now c.args.waiting.now.items c.args.function c.requires

pub returns-else-not-reached-number-clause-marked : goal.returns-else-not-reached-number-clause-marked
returns-else-not-reached-number-clause-marked c =
    marked_before c.args.reached.now c.args.waiting.now.items c.args.function _ c.requires c.if-not-reached-number.false

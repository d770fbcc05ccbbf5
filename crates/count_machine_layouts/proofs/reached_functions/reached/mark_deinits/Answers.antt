use Rattle.std.proofs.Common.{subst}
use Rattle.count_machine_model.specs.ReadyCode.ReadyModules.{Reaches}
use Rattle.count_machine_layouts.specs.ReachedFunctions.inner.Reaching.{AreMarked, HoldsOfDeinits}
use Rattle.count_machine_layouts.proofs.ReachedFunctions.Reaching.{all_marked, deinits_stay, marks_more}
use Rattle.count_machine_layouts.proofs.reached_functions.reached.mark_deinits.Goals as goal

pub loop-class-preserved : goal.loop-class-preserved
loop-class-preserved c =
    let l = c.loop-class in
    let class = c.class-item.result in
    let r = c.mark_all.new.reached in
    marks_more (λ r. HoldsOfDeinits (Reaches r)) c.args.classes.now c.args.reached.now c.args.waiting.now.items deinits_stay l.class-index class
    l.reached r l.waiting.items c.mark_all.new.waiting.items c.loop-class-test.true l.invariant c.in_ok-mark_all.ensures.goes
    (subst (HoldsOfDeinits (Reaches r)) c.class-item.is (subst (AreMarked r) c.as_slice.ensures c.in_ok-mark_all.ensures.marked))

pub returns-clause-marked : goal.returns-clause-marked
returns-clause-marked c =
    let l = c.loop-class in
    all_marked (λ r. HoldsOfDeinits (Reaches r)) c.args.classes.now c.args.reached.now c.args.waiting.now.items l.class-index l.reached l.waiting.items
    c.loop-class-test.false l.invariant

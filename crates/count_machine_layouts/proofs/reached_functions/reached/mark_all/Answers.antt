use Rattle.count_machine_model.specs.ReadyCode.ReadyModules.{Reaches}
use Rattle.count_machine_layouts.proofs.ReachedFunctions.Reaching.{all_marked, marks_more, reaches_stays}
use Rattle.count_machine_layouts.proofs.reached_functions.reached.mark_all.Goals as goal

pub loop-function-preserved : goal.loop-function-preserved
loop-function-preserved c =
    let l = c.loop-function in
    marks_more Reaches c.args.functions.now c.args.reached.now c.args.waiting.now.items reaches_stays l.function-index (record { 0 = 0 })
    l.reached c.mark.new.reached l.waiting.items c.mark.new.waiting.items c.loop-function-test.true
    l.invariant c.in_ok-mark.ensures.goes c.in_ok-mark.ensures.marked

pub returns-clause-marked : goal.returns-clause-marked
returns-clause-marked c =
    let l = c.loop-function in
    all_marked Reaches c.args.functions.now c.args.reached.now c.args.waiting.now.items l.function-index l.reached l.waiting.items
    c.loop-function-test.false l.invariant

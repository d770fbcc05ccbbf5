use Rattle.std.proofs.Common.{sym, ◌∙◌}
use Rattle.count_machine_layouts.proofs.ReachedFunctions.Reaching.{searches_begun, searches_more, searches_over}
use Rattle.count_machine_layouts.proofs.reached_functions.reached.follow_all.Goals as goal

pub loop-function-init : goal.loop-function-init
loop-function-init c = searches_begun c.args.m.now c.args.reached.now c.args.waiting.items c.requires.but

pub loop-function-preserved : goal.loop-function-preserved
loop-function-preserved c =
    let l = c.loop-function in
    searches_more c.args.m.now c.args.reached.now l.reached c.follow_one.new.reached c.pop.new.self.items c.follow_one.new.waiting.items
    l.waiting.items c.in-Some.function c.in-Some.ensures.items l.invariant c.in_ok-follow_one.ensures

pub returns : goal.returns
returns c =
    searches_over c.args.m.now c.args.reached.now c.loop-function.reached c.loop-function.waiting.items
    (sym c.loop-function.waiting.ok.0 ∙ c.in_default.ensures.cases.0) c.loop-function.invariant

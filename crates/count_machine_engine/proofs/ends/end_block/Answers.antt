use Rattle.count_machine_engine.proofs.Leaving.{gone-clear, gone-set}
use Rattle.count_machine_engine.proofs.ends.end_block.Goals as goal

pub returns-in-Jump : goal.returns-in-Jump
returns-in-Jump c = λ rest top. rw c.in-Jump.is (c.take_edge.ensures c.args.ready.now rest top)

pub returns-then-is_set : goal.returns-then-is_set
returns-then-is_set c = λ rest top.
    let arm = c.in-Branch in let went = c.take_edge-then-is_set in
    rw arm.is (gone-set went.result went.new.machine c.args.ready.now c.args.bound c.args.machine.now c.args.frame.now rest arm.condition arm.set arm.clear
    c.if-not-is_there.ensures c.if-is_set.ensures (went.ensures c.args.ready.now rest top))

pub returns-else-is_set : goal.returns-else-is_set
returns-else-is_set c = λ rest top.
    let arm = c.in-Branch in let went = c.take_edge-else-is_set in
    rw arm.is (gone-clear went.result went.new.machine c.args.ready.now c.args.bound c.args.machine.now c.args.frame.now rest arm.condition arm.set arm.clear
    c.if-not-is_there.ensures c.if-is_set.ensures (went.ensures c.args.ready.now rest top))

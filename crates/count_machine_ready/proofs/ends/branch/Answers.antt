use Rattle.count_machine_ready.specs.inner.Bodies.{declared}
use Rattle.count_machine_ready.proofs.MadeEnds.{branch_made, edge_inside}
use Rattle.count_machine_ready.proofs.ends.branch.Goals as goal

pub edge_at-requires-2-clause-there : goal.edge_at-requires-2-clause-there
edge_at-requires-2-clause-there c = edge_inside (declared c.args.body.now) c.args.body.now.function.now c.args.inst.now 1 c.requires.has.has.clear

pub returns : goal.returns
returns c =
    let has = c.requires.has.has in
    branch_made (declared c.args.body.now) c.args.body.now.function.now c.args.inst.now c.requires.has
    c.operand.result c.local.result c.in_ok-edge_at.field-0 c.in_ok-edge_at-2.field-0
    c.operand.ensures c.local.ensures (c.in_ok-edge_at.ensures has.set.edge has.set.there) (c.in_ok-edge_at-2.ensures has.clear.edge has.clear.there)

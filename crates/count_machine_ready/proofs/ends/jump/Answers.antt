use Rattle.count_machine_ready.specs.inner.Bodies.{declared}
use Rattle.count_machine_ready.proofs.MadeEnds.{jump_made}
use Rattle.count_machine_ready.proofs.ends.jump.Goals as goal

pub returns : goal.returns
returns c =
    let has = c.requires.has.has in
    jump_made (declared c.args.body.now) c.args.body.now.function.now c.args.inst.now c.requires.has c.in_ok-edge_at.field-0
    (c.in_ok-edge_at.ensures has.edge has.there)

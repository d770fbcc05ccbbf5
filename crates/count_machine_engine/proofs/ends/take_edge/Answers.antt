use Rattle.count_machine_engine.proofs.Taken.{edge-taken}
use Rattle.count_machine_engine.proofs.ends.take_edge.Goals as goal

pub returns : goal.returns
returns c = λ ready rest top.
    edge-taken ready c.args.bound c.args.machine.now c.turn.new.self c.carry.new.self c.go_to.new.self c.args.frame.now rest c.args.edge.now c.as_slice-values.result.now
    c.as_slice-values.ensures c.in_default.ensures c.in_ok-turn.ensures c.in_ok-carry.ensures c.go_to.ensures top

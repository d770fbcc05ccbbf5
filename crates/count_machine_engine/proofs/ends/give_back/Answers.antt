use Rattle.count_machine_engine.proofs.Returned.{given-back}
use Rattle.count_machine_engine.proofs.ends.give_back.Goals as goal

pub returns : goal.returns
returns c = λ rest below top next.
    given-back c.args.machine.now c.hand_back.new.self c.remove_frame.new.self c.put_there.new.self c.go_on.new.self c.args.frame.now c.args.caller.now c.args.operand c.args.to rest below
    c.go_on.result c.hand_back.ensures c.remove_frame.ensures c.put_there.ensures c.go_on.ensures top next

use Rattle.count_machine_engine.proofs.DeinitCalled.{deinit-called}
use Rattle.count_machine_engine.proofs.deinits.call_deinit.Goals as goal

pub returns : goal.returns
returns c =
    deinit-called c.args.ready.now c.args.bound c.args.machine.now c.enter.new.self c.add_frame.new.self c.hand_object.new.machine c.args.function c.args.object c.in-Some.f.now c.in_ok-frame.frame
    c.in_ok-enter.ensures c.in-Some.ensures.value c.in_ok-frame.ensures.frame c.in_ok-frame.ensures.room (c.hand_object.ensures c.args.ready.now c.args.bound)

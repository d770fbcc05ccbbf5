use Rattle.count_machine_engine.proofs.CallingOut.{called_out}
use Rattle.count_machine_rows.proofs.GoingOn.{all_there}
use Rattle.count_machine_engine.proofs.call_rows.call_out.Goals as goal

pub returns : goal.returns
returns c = λ ready rest h.
    let st = c.args.machine.now in
    let fr = c.args.frame.now in
    let none = rw c.as_slice.ensures at c.in_default.ensures in
    let shown = rw c.as_slice-2.ensures at c.in_ok-show_call.ensures in
    let out = called_out c.args.bound st c.turn.new.self c.show_call.new.machine _ fr rest c.args.function c.args.args.now c.args.to _ c.in_ok-turn.ensures shown c.give_nothing.ensures h in
    all_there _ _ _ _ _ none out

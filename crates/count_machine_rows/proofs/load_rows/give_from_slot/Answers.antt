use Rattle.count_machine_state.proofs.GoingOn.{goes_on_in}
use Rattle.count_machine_rows.proofs.load_rows.give_from_slot.Goals as goal

pub returns : goal.returns
returns c = goes_on_in _ _ _ _ _ c.put_from_slot.ensures (c.go_on.ensures c.args.frame.now)

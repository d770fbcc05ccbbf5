use Rattle.count_machine_state.proofs.GoingOn.{goes_on_in}
use Rattle.count_machine_rows.proofs.giving.give_address.Goals as goal

pub returns : goal.returns
returns c = goes_on_in _ _ _ _ _ c.put_address.ensures (c.go_on.ensures c.args.frame.now)

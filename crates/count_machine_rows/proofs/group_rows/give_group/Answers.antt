use Rattle.count_machine_state.proofs.GoingOn.{goes_on_in}
use Rattle.count_machine_rows.proofs.group_rows.give_group.Goals as goal

pub returns : goal.returns
returns c = goes_on_in _ _ _ _ _ c.in_ok-put_group.ensures (c.go_on.ensures c.args.frame.now)

use Rattle.count_machine_state.proofs.GoingOn.{goes_on_in}
use Rattle.count_machine_rows.proofs.store_rows.write_in_field.Goals as goal

pub returns : goal.returns
returns c = goes_on_in _ _ _ _ _ c.put_in_field.ensures (c.go_on.ensures c.args.frame.now)

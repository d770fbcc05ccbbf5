use Rattle.count_machine_state.proofs.GoingOn.{goes_on_in}
use Rattle.count_machine_rows.proofs.value_rows.function_value.Goals as goal

pub returns : goal.returns
returns c = λ ready bound. goes_on_in _ _ _ _ _ c.put_there.ensures (c.go_on.ensures c.args.frame.now)

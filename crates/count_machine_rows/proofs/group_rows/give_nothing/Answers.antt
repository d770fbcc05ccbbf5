use Rattle.std.proofs.Common.{◌∙◌}
use Rattle.count_machine_rows.proofs.GoingOn.{put_nothing}
use Rattle.count_machine_state.proofs.GoingOn.{goes_on_in}
use Rattle.count_machine_rows.proofs.group_rows.give_nothing.Goals as goal

pub returns : goal.returns
returns c = goes_on_in _ _ _ _ _ (c.put_there.ensures ∙ put_nothing c.args.machine.now c.args.frame.now c.args.to) (c.go_on.ensures c.args.frame.now)

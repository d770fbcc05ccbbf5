-- What the run of the module shows is summed up.
use Rattle.sil_command.proofs.generate.answer_runs.Goals as goal

pub sum_up-requires : goal.sum_up-requires
sum_up-requires c = c.in-Ok.ensures

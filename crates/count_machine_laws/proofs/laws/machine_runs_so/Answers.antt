use Rattle.count_machine_laws.proofs.Runs.{machine_runs_so}
use Rattle.count_machine_laws.proofs.laws.machine_runs_so.Goals as goal

pub returns : goal.returns
returns c = machine_runs_so

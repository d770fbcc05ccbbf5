use Rattle.module_runner.proofs.OneEntry.{one_entry}
use Rattle.module_runner.proofs.laws.names_have_one_entry.Goals as goal

pub returns : goal.returns
returns c = one_entry

use Rattle.module_runner.proofs.Stays.{is_one}
use Rattle.module_runner.proofs.laws.one_module_is_lowered.Goals as goal

pub returns : goal.returns
returns c = is_one c.optimised_modules_are_unique.ensures

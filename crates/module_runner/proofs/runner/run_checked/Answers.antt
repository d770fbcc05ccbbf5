-- What is reported where there is an entry function, and that there is none otherwise.
use Rattle.module_runner.proofs.Entering.{few_functions}
use Rattle.module_runner.proofs.runner.run_checked.Goals as goal

pub entry_named-requires : goal.entry_named-requires
entry_named-requires c = few_functions c.module.result.now (rw c.module.ensures.value c.module.ensures.verified)

-- For the law `generated_modules_are_numbered`.
use Rattle.sil_command_generator.proofs.Numbered.{generated_numbered}
use Rattle.sil_command_generator.proofs.laws.generated_modules_are_numbered.Goals as goal

pub returns : goal.returns
returns c = generated_numbered

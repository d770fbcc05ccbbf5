-- For the law `generated_modules_have_main`.
use Rattle.sil_command.proofs.GeneratedLemmas.{main_there}
use Rattle.sil_command.proofs.laws.generated_modules_have_main.Goals as goal

pub returns : goal.returns
returns c = main_there

-- For the law `generated_texts_are_short`.
use Rattle.sil_command_generator.proofs.Lengths.{generated_short}
use Rattle.sil_command_generator.proofs.laws.generated_texts_are_short.Goals as goal

pub returns : goal.returns
returns c = generated_short

-- Without memory for the words neither end is touched.
use Rattle.std.proofs.Common.{refl}
use Rattle.sil_command.specs.Ends.{exhausted}
use Rattle.sil.proofs.sil_program.run_words.Goals as goal

pub returns-in-Err : goal.returns-in-Err
returns-in-Err g c = exhausted refl refl

pub returns : goal.returns
returns g c = exhausted refl refl

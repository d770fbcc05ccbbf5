-- The answer of `lower` to an accepted module is the lowered module's canonical text.
use Rattle.sil_command.proofs.answer.print_lowered.Goals as goal

pub returns : goal.returns
returns c = rw c.in_ok-lower_in_place.ensures.value at c.print_module-answer.ensures

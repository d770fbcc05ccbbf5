-- The blocks are those of a function that does the work.
use Rattle.std.proofs.Common.{sym}
use Rattle.sil_command_generator.proofs.WorkLines.{work_text}
use Rattle.sil_command_generator.proofs.work.blocks.Goals as goal

pub returns : goal.returns
returns c = λ fs. sym (work_text fs)

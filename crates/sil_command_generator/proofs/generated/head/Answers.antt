-- What stands before the functions.
use Rattle.std.proofs.Common.{sym}
use Rattle.sil_command_generator.proofs.HeadLines.{head_is}
use Rattle.sil_command_generator.proofs.generated.head.Goals as goal

pub returns : goal.returns
returns c = sym head_is

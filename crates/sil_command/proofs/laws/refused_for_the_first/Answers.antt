-- For the law `refused_for_the_first`.
use Rattle.sil_command.proofs.Refused.{refused_for_the_first}
use Rattle.sil_command.proofs.laws.refused_for_the_first.Goals as goal

pub returns : goal.returns
returns c = refused_for_the_first c.command_lines_say_one_thing.ensures c.spelled_once.ensures

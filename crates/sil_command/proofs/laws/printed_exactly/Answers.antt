-- For the law `printed_exactly`.
use Rattle.sil_command.proofs.StatusLemmas.{printed_exactly}
use Rattle.sil_command.proofs.laws.printed_exactly.Goals as goal

pub returns : goal.returns
returns c = printed_exactly c.command_lines_say_one_thing.ensures c.spelled_once.ensures

-- For the law `optimised_exactly`.
use Rattle.sil_command.proofs.StatusLemmas.{optimised_exactly}
use Rattle.sil_command.proofs.laws.optimised_exactly.Goals as goal

pub returns : goal.returns
returns c = optimised_exactly c.command_lines_say_one_thing.ensures c.spelled_once.ensures c.accepted_where_nothing_is_found.ensures

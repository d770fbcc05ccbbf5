-- For the law `no_entry_exactly`.
use Rattle.sil_command.proofs.RunLemmas.{no_entry_exactly}
use Rattle.sil_command.proofs.laws.no_entry_exactly.Goals as goal

pub returns : goal.returns
returns c = no_entry_exactly c.command_lines_say_one_thing.ensures c.spelled_once.ensures c.accepted_where_nothing_is_found.ensures

-- For the law `run_exactly`.
use Rattle.sil_command.proofs.RunLemmas.{run_exactly}
use Rattle.sil_command.proofs.laws.run_exactly.Goals as goal

pub returns : goal.returns
returns c = run_exactly c.command_lines_say_one_thing.ensures c.spelled_once.ensures c.accepted_where_nothing_is_found.ensures
    c.spelled_modules_are_numbered.ensures c.names_have_one_entry.ensures c.one_module_is_lowered.ensures c.runs_end_once.ensures

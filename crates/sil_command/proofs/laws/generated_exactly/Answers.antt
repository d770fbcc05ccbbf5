-- For the law `generated_exactly`.
use Rattle.sil_command.proofs.GeneratedLemmas.{generated_exactly}
use Rattle.sil_command.proofs.laws.generated_exactly.Goals as goal

pub returns : goal.returns
returns c = generated_exactly c.command_lines_say_one_thing.ensures c.spelled_once.ensures c.accepted_where_nothing_is_found.ensures
    c.generated_modules_are_numbered.ensures c.generated_texts_are_short.ensures c.printed_modules_are_spelled.ensures

-- For the law `printed_texts_read_back`.
use Rattle.sil_command.proofs.ReadBackLemmas.{printed_texts_read_back}
use Rattle.sil_command.proofs.laws.printed_texts_read_back.Goals as goal

pub returns : goal.returns
returns c = printed_texts_read_back c.command_lines_say_one_thing.ensures c.printed_modules_are_spelled.ensures c.spelled_modules_are_numbered.ensures

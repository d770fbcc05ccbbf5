use Rattle.sil_command_words.proofs.Lines.{one_thing}
use Rattle.sil_command_words.proofs.laws.command_lines_say_one_thing.Goals as goal

pub returns : goal.returns
returns c = one_thing

-- For the law `reported_rightly`.
use Rattle.sil_command.proofs.Refused.{reported_rightly}
use Rattle.sil_command.proofs.laws.reported_rightly.Goals as goal

pub returns : goal.returns
returns c = reported_rightly c.command_lines_say_one_thing.ensures

-- The pieces make up the last two lines.
use Rattle.sil_command_generator.proofs.FunctionTexts.{end_pushed}
use Rattle.sil_command_generator.proofs.generated.push_end.Goals as goal

pub returns : goal.returns
returns c = λ fs.
    end_pushed fs c.args.number _ _ _ _ _ _ c.in_ok-push_bytes.ensures c.in_ok-push_number.ensures c.in_ok-push_bytes-2.ensures c.in_ok-push_number-2.ensures
    c.in_ok-push_bytes-3.ensures

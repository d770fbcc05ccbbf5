-- The pieces make up the function.
use Rattle.std.proofs.Common.{◌++◌, ◌∙◌, ap}
use Rattle.sil_command_generator.proofs.FunctionTexts.{work_pushed}
use Rattle.sil_command_generator.proofs.work.push_work.Goals as goal

pub returns : goal.returns
returns c = λ fs.
    work_pushed fs c.args.k _ _ _ _ _ _ c.in_ok-push_bytes.ensures c.in_ok-push_number.ensures c.in_ok-push_bytes-2.ensures
    (c.in_ok-push_bytes-3.ensures ∙ ap (λ b. c.push_bytes-2.new.out.items ++ b) (c.blocks-2.ensures fs)) c.in_ok-push_bytes-4.ensures

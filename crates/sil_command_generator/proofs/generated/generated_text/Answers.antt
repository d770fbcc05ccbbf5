-- The head, the functions that do the work, and `@main` make up the text.
use Rattle.std.proofs.Common.{◌≡◌, ◌∙◌, ◌++◌, ap}
use Rattle.std.proofs.lemmas.Result.{IfOk-weaker}
use Rattle.sil_command_generator.specs.GeneratedModules.{functions_of, generated}
use Rattle.sil_command_generator.proofs.MainTexts.{all_pushed}
use Rattle.sil_command_generator.proofs.generated.generated_text.Goals as goal

pub returns : goal.returns
returns c =
    let all : c.push_main.new.out.items ≡ generated c.args.n =
    all_pushed c.args.n _ _ _ _ c.new-out.ensures.items (c.in_ok-push_bytes.ensures ∙ ap (λ b. c.new-out.result.items ++ b) c.head.ensures)
    (c.in_ok-push_all_work.ensures (functions_of c.args.n)) c.in_ok-push_main.ensures in
    IfOk-weaker c.from_vec.result _ _ (λ text is. is ∙ all) c.from_vec.ensures

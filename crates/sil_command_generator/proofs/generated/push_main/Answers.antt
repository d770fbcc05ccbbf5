-- The pieces make up `@main`.
use Rattle.sil_command_generator.specs.GeneratedModules.{functions_of}
use Rattle.sil_command_generator.proofs.MainTexts.{main_pushed}
use Rattle.sil_command_generator.proofs.generated.push_main.Goals as goal

pub returns : goal.returns
returns c =
    main_pushed c.args.n _ _ _ _ _ c.in_ok-push_bytes.ensures c.in_ok-push_calls.ensures (c.in_ok-push_end.ensures (functions_of c.args.n)) c.in_ok-push_bytes-2.ensures

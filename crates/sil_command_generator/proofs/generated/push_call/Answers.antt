-- The pieces make up a call.
use Rattle.sil_command_generator.specs.GeneratedModules.{functions_of}
use Rattle.sil_command_generator.proofs.FunctionTexts.{call_pushed}
use Rattle.sil_command_generator.proofs.FoundFunctions.{found}
use Rattle.sil_command_generator.proofs.generated.push_call.Goals as goal

pub returns : goal.returns
returns c = λ n within.
    call_pushed (functions_of n) c.args.k (found n c.args.k within) _ _ _ _ _ _ _ _ _ _ c.in_ok-push_bytes.ensures c.in_ok-push_number.ensures
    c.in_ok-push_bytes-2.ensures c.in_ok-push_number-2.ensures c.in_ok-push_bytes-3.ensures c.in_ok-push_number-3.ensures c.in_ok-push_bytes-4.ensures
    c.in_ok-push_number-4.ensures c.in_ok-push_bytes-5.ensures

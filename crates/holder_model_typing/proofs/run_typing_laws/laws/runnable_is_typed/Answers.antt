use Rattle.holder_model_typing.proofs.RunTypingLaws.RunnableTyped.{runnable_is_typed}
use Rattle.holder_model_typing.proofs.run_typing_laws.laws.runnable_is_typed.Goals as goal

pub returns : goal.returns
returns c = runnable_is_typed

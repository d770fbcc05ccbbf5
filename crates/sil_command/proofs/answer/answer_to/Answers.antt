-- The answer to a text, by how it was read.
use Rattle.sil_command.specs.Statuses.{code_of}
use Rattle.sil_command.proofs.AnswerLemmas.{read_answer, unread_answer}
use Rattle.sil_command.proofs.answer.answer_to.Goals as goal

pub returns-in-Ok : goal.returns-in-Ok
returns-in-Ok c = read_answer c.answer_module.result (λ a. a.text.items) (λ a. code_of a.status) c.args.mode c.requires.within c.in-Ok.ensures.found c.answer_module.ensures

pub returns-in-Err : goal.returns-in-Err
returns-in-Err c = unread_answer c.answer_refusal.result (λ a. a.text.items) (λ a. code_of a.status) c.args.mode c.requires.within c.in-Err.ensures.refused c.answer_refusal.ensures

-- The answer of `lower` to a module.
use Rattle.ownership_lowering_model.specs.LoweredModules.{lowered}
use Rattle.sil_printer.specs.CanonicalModules.{canonical_text}
use Rattle.sil_command.specs.Answers.{WritesOf}
use Rattle.sil_command.proofs.AnswerLemmas.{accepted_answer, wrong_answer}
use Rattle.sil_command.proofs.answer.lower_module.Goals as goal

pub returns-in-Ok : goal.returns-in-Ok
returns-in-Ok c = accepted_answer (WritesOf (λ k. canonical_text (lowered k)) c.args.optimise c.args.«module») c.write_lowered.result c.args.«module» c.in-Ok.ensures.accepted
    (rw c.in-Ok.ensures.ok at c.write_lowered.ensures)

pub returns-in-Err : goal.returns-in-Err
returns-in-Err c = wrong_answer (WritesOf (λ k. canonical_text (lowered k)) c.args.optimise c.args.«module») c.answer_end.result c.args.«module»
    (c.answer_end.ensures c.args.«module» c.in-Err.ensures.err)

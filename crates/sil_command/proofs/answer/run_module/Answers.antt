-- The answer of `run` to a module.
use Rattle.sil_command.specs.Answers.{AnswersRun}
use Rattle.sil_command.proofs.AnswerLemmas.{accepted_answer, wrong_answer}
use Rattle.sil_command.proofs.answer.run_module.Goals as goal

pub answer_run-answer-requires-clause-verified : goal.answer_run-answer-requires-clause-verified
answer_run-answer-requires-clause-verified c = c.into_parts-module.ensures.verified

pub returns-in-Ok : goal.returns-in-Ok
returns-in-Ok c = accepted_answer (AnswersRun c.args.«module» c.args.entry.now c.args.turns c.args.optimise) c.answer_run-answer.result c.args.«module» c.in-Ok.ensures.accepted
    (rw c.in-Ok.ensures.ok at (rw c.into_parts-module.ensures.«module» at c.answer_run-answer.ensures))

pub returns-in-Err : goal.returns-in-Err
returns-in-Err c = wrong_answer (AnswersRun c.args.«module» c.args.entry.now c.args.turns c.args.optimise) c.answer_end.result c.args.«module»
    (c.answer_end.ensures c.args.«module» c.in-Err.ensures.err)

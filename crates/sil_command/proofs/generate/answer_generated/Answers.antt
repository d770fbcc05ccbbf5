-- The answer of `generate` to the module of its text.
use Rattle.sil_command.specs.Generated.{AnswersGenerated}
use Rattle.sil_command.proofs.AnswerLemmas.{accepted_answer, wrong_answer}
use Rattle.sil_command.proofs.generate.answer_generated.Goals as goal

pub answer_runs-requires : goal.answer_runs-requires
answer_runs-requires c = rw c.in-Ok.ensures.ok c.requires.main

pub returns-in-Ok : goal.returns-in-Ok
returns-in-Ok c = accepted_answer (AnswersGenerated c.args.«module») c.answer_runs.result c.args.«module» c.in-Ok.ensures.accepted
    (rw c.in-Ok.ensures.ok at c.answer_runs.ensures)

pub returns-in-Err : goal.returns-in-Err
returns-in-Err c = wrong_answer (AnswersGenerated c.args.«module») c.answer_end.result c.args.«module» (c.answer_end.ensures c.args.«module» c.in-Err.ensures.err)

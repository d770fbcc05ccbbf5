-- The answer of `optimize` to a module.
use Rattle.std.proofs.Common.{true}
use Rattle.sil_printer.specs.CanonicalModules.{canonical_text}
use Rattle.sil_command.specs.Answers.{WritesOf}
use Rattle.sil_command.proofs.AnswerLemmas.{accepted_answer, wrong_answer}
use Rattle.sil_command.proofs.answer.optimize_module.Goals as goal

pub returns-in-Ok : goal.returns-in-Ok
returns-in-Ok c = accepted_answer (WritesOf canonical_text true c.args.«module») c.write_optimised.result c.args.«module» c.in-Ok.ensures.accepted
    (rw c.in-Ok.ensures.ok at c.write_optimised.ensures)

pub returns-in-Err : goal.returns-in-Err
returns-in-Err c = wrong_answer (WritesOf canonical_text true c.args.«module») c.answer_end.result c.args.«module» (c.answer_end.ensures c.args.«module» c.in-Err.ensures.err)

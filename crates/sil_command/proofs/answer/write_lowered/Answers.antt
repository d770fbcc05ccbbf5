-- What `lower` writes of an accepted module.
use Rattle.ownership_lowering_model.specs.LoweredModules.{lowered}
use Rattle.sil_printer.specs.CanonicalModules.{canonical_text}
use Rattle.sil_command.proofs.AnswerLemmas.{written_of}
use Rattle.sil_command.proofs.answer.write_lowered.Goals as goal

pub print_lowered-answer-requires : goal.print_lowered-answer-requires
print_lowered-answer-requires c = c.into_parts-module.ensures.verified

pub returns : goal.returns
returns c = written_of (λ k. canonical_text (lowered k)) c.args.optimise c.args.checked c.in_ok-left.left c.print_lowered-answer.result c.in_ok-left.ensures
    (rw c.into_parts-module.ensures.«module» at c.print_lowered-answer.ensures)

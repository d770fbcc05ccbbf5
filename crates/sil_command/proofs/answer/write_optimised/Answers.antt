-- What `optimize` writes of an accepted module.
use Rattle.std.proofs.Common.{true}
use Rattle.sil_printer.specs.CanonicalModules.{canonical_text}
use Rattle.sil_command.proofs.AnswerLemmas.{written_of}
use Rattle.sil_command.proofs.answer.write_optimised.Goals as goal

pub returns : goal.returns
returns c = written_of canonical_text true c.args.checked c.in_ok-left.left c.print_module-answer.result c.in_ok-left.ensures
    (rw c.module.ensures.value at c.print_module-answer.ensures)

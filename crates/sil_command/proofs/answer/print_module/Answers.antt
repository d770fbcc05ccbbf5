-- What is written of a module is its canonical text.
use Rattle.std.proofs.Common.{sym, subst, ◌∙◌}
use Rattle.sil_printer.specs.CanonicalModules.{canonical_text}
use Rattle.sil_command.specs.declared.status.Status.TheVariants.{Done}
use Rattle.sil_command.specs.Statuses.{code_of}
use Rattle.sil_command.specs.Answers.{Writes, written}
use Rattle.sil_command.proofs.answer.print_module.Goals as goal

pub returns : goal.returns
returns c = subst (λ t. Writes (canonical_text c.args.module.now) t (code_of Done)) (sym (c.in_ok-into_vec.ensures ∙ c.in_ok-print.ensures)) written

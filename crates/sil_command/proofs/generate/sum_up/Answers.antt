-- The lines on both runs. The optimised module has an entry where the module has one.
use Rattle.std.proofs.Common.{refl, subst, sym}
use Rattle.std.proofs.lemmas.Result.{IfOk-weaker}
use Rattle.std.specs.Prelude.{codes, true}
use Rattle.module_runner.proofs.Stays.{left_enters}
use Rattle.sil_command.specs.Generated.{AnswersGenerated}
use Rattle.sil_command.specs.Statuses.{code_of}
use Rattle.sil_command.proofs.GeneratedRuns.{summed_up}
use Rattle.sil_command.proofs.generate.sum_up.Goals as goal

pub write_both-answer-requires : goal.write_both-answer-requires
write_both-answer-requires c =
    let first = c.requires.1 in
    let there = left_enters true c.args.checked c.in_ok-left.left (codes "main") first.entry first.function c.in_ok-left.ensures first.begins in
    (first.entry, there.0, there.1)

pub returns : goal.returns
returns c =
    IfOk-weaker c.write_both-answer.result _ _
    (λ a told. subst (λ s. AnswersGenerated c.args.checked a.text.items (code_of s)) (sym told.3)
    (summed_up c.args.checked c.in_ok-left.left c.requires.0 told.0 _ _ _ _ _ a.text.items c.in_ok-left.ensures c.requires.1 told.1 c.functions_of-functions.ensures
    c.copies_of-before.ensures c.copies_of-after.ensures c.requires.2 refl told.2))
    c.write_both-answer.ensures

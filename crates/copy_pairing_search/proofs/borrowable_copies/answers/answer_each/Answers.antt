use Rattle.std.proofs.Common.{◌≡◌, ◌+◌, ◌<◌, [], ◌∷◌, sym, ap, ◌∙◌, subst, false, length, arith}
use Rattle.std.specs.Prelude.{◌↔◌}
use Rattle.ownership_kinds_chains.specs.OwnershipChains.Facts.{known_or}
use Rattle.ownership_kinds_chains.specs.declared.ownership_marks.mark.MarkSort.TheVariants.{End}
use Rattle.sil_ast.specs.declared.place.ValueId.{ValueId}
use Rattle.copy_pairing_search.specs.BorrowableCopies.inner.Answers.{AreToldBefore}
use Rattle.copy_pairing_search.specs.BorrowableCopies.inner.Asked.{AreFreeAt}
use Rattle.copy_pairing_search.proofs.BorrowableCopies.Answering.{size_noted, told_more}
use Rattle.copy_pairing_search.proofs.BorrowableCopies.FoundTogether.{operand_below}
use Rattle.copy_pairing_search.proofs.borrowable_copies.answers.answer_each.Goals as goal

pub loop-c-init : goal.loop-c-init
loop-c-init c = record { size = c.requires.size; told = λ v w lt here. absurd (omega arith); answers = λ count facts by are found. are }

pub loop-c-preserved : goal.loop-c-preserved
loop-c-preserved c =
    let value : ValueId = record { 0 = c.loop-c.c } in
    let noted = c.answer_one.ensures.told in
    let operand = c.operand_of-operand.result in
    record {
      size = c.loop-c.invariant.size ∙ sym (ap length noted.1 ∙ size_noted value operand noted.0 c.loop-c.answers);
      told =
          subst (AreToldBefore (c.loop-c.c + 1) c.args.copied.now) (sym noted.1)
          (told_more c.args.copied.now c.loop-c.answers c.loop-c.invariant.size c.loop-c.c operand noted.0 c.operand_of-operand.ensures c.loop-c.invariant.told);
      answers = λ count facts by are found.
          let under : c.loop-c.c < c.asked_of-c-end.result = c.loop-c-test.true in
          let few = c.asked_of-c-end.ensures.most in
          let low : c.loop-c.c < 1024 = omega arith in
          c.answer_one.ensures.answers count facts by (c.loop-c.invariant.answers count facts by are found)
          (λ w is.
          subst (λ b. (b ≡ false) ↔ AreFreeAt facts c.args.f.now End (known_or facts w).bases (value ∷ [])) (sym c.is_held-is_held.ensures)
          (found value w low (sym c.operand_of-operand.ensures ∙ is)));
    }

pub returns-clause-told : goal.returns-clause-told
returns-clause-told c = λ v w lt here.
    let under : v.0 < length c.args.copied.now = operand_below c.args.copied.now v.0 w here in
    let asked : v.0 < c.asked_of-c-end.result = c.asked_of-c-end.ensures.all v.0 lt under in
    c.loop-c.invariant.told v w (omega arith) here

pub returns-clause-answers : goal.returns-clause-answers
returns-clause-answers c = c.loop-c.invariant.answers

use Rattle.std.proofs.Common.{◌≡◌, List, length, refl, sym, ◌∙◌, subst, Bool, Option, Some, None}
use Rattle.std.proofs.lemmas.List.{take_at}
use Rattle.sil_ast.specs.declared.place.ValueId.{ValueId}
use Rattle.copy_pairing_search.specs.BorrowableCopies.inner.Answers.{AreAnswered, AreAnswers, AreToldBefore}
use Rattle.copy_pairing_search.specs.BorrowableCopies.inner.Together.{AreFound}
use Rattle.copy_pairing_search.proofs.BorrowableCopies.Answering.{all_answered, none_known}
use Rattle.copy_pairing_search.proofs.borrowable_copies.answers.all_answers.Goals as goal

-- only nothing is a clone of nothing
clone-none : {A : Type 0} (C : Option A → Type 0) → ((x : A) → C (Some x) → ⊥) → (y : Option A) → C y → y ≡ None
clone-none C none None e = refl
clone-none C none (Some x) e = absurd (none x e)

pub returns-clause-answers : goal.returns-clause-answers
returns-clause-answers c = λ count facts by.
    let f = c.args.f.now in
    let long : length c.answer_each.new.answers ≡ c.in_ok-answers.answers.len = c.answer_each.auto.answers ∙ c.as_mut_slice.ensures.len in
    let found : AreFound facts f c.as_slice-2.result.now c.as_slice-3.result.now =
    subst (λ (xs : List (Option ValueId)). AreFound facts f xs c.as_slice-3.result.now) (c.as_slice.ensures.value ∙ sym c.as_slice-2.ensures.value)
    (subst (λ (hs : List Bool). AreFound facts f c.as_slice.result.now hs) (sym c.as_slice-3.ensures.value) (c.in_ok-held.ensures.found count facts by)) in
    subst (AreAnswers facts f) (sym (take_at c.answer_each.new.answers _ c.in_ok-answers.answers.len long))
    (c.answer_each.ensures.answers count facts by
    (subst (AreAnswers facts f) (sym (c.as_mut_slice.ensures.value ∙ c.in_ok-answers.ensures.items_if_clones_equal (clone-none _ (λ x h. h)))) (none_known facts f c.values.result)) found)

pub returns-clause-all : goal.returns-clause-all
returns-clause-all c =
    let long : length c.answer_each.new.answers ≡ c.in_ok-answers.answers.len = c.answer_each.auto.answers ∙ c.as_mut_slice.ensures.len in
    let f = c.args.f.now in
    let told =
    subst (λ (xs : List (Option ValueId)). AreToldBefore 1024 xs c.answer_each.new.answers) c.as_slice-2.ensures.value c.answer_each.ensures.told in
    subst (AreAnswered f (length c.args.k.now.table)) (sym (take_at c.answer_each.new.answers _ c.in_ok-answers.answers.len long))
    (all_answered f (length c.args.k.now.table) c.in_ok-copied.copied.items c.answer_each.new.answers c.in_ok-copied.ensures.copies c.in_ok-copied.ensures.told told)

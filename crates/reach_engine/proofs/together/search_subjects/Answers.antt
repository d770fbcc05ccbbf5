use Rattle.std.proofs.Common.{◌≡◌, ◌≢◌, ◌+◌, ◌<◌, List, ℕ, sym, subst, ◌∙◌, arith, ◌⊎◌, inl, inr, true, false}
use Rattle.std.proofs.lemmas.Bool.{cases_eq}
use Rattle.sil_cfg.specs.Flow.{numbered}
use Rattle.reach_engine.specs.inner.Search.{IsClean}
use Rattle.reach_engine.specs.inner.Bits.{bit_in}
use Rattle.reach_engine.proofs.together.search_subjects.Goals as goal

pub loop-subject-preserved : goal.loop-subject-preserved
loop-subject-preserved g c = λ u lt. at u lt (cases_eq u c.loop-subject.subject)
  where
    clear : bit_in c.in_ok-reached.reached.bad.items c.loop-subject.subject ≡ 1 → ⊥
    clear h =
        let P : List ℕ → Type 0 = λ ws. bit_in ws c.loop-subject.subject ≡ 1 in
        let e : false ≡ true = sym c.if-has_bit.false ∙ c.has_bit.ensures.1 (subst P (sym c.deref.ensures.value) h) in
        cc

    here : IsClean (numbered c.args.g.now) (g.F.Family.step_of c.args.family.now c.loop-subject.subject)
    here = c.in_ok-reached.ensures.bad.clean c.loop-subject.subject (omega arith) clear

    at : (u : ℕ) → u < c.loop-subject.subject + 1 → (u ≡ c.loop-subject.subject) ⊎ (u ≢ c.loop-subject.subject) → IsClean (numbered c.args.g.now) (g.F.Family.step_of c.args.family.now u)
    at u lt (inl e) = subst (λ k. IsClean (numbered c.args.g.now) (g.F.Family.step_of c.args.family.now k)) (sym e) here
    at u lt (inr n) = c.loop-subject.invariant u (omega arith)

pub returns-clause-clean : goal.returns-clause-clean
returns-clause-clean g c = λ u lt. c.loop-subject.invariant u (omega arith)

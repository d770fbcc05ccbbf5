-- The automaton of a switch decides its pattern.
use Rattle.std.proofs.Common.{◌≡◌, ℕ, List, [], ◌∷◌, ◌++◌, refl, sym, ap, ◌∙◌, subst, Bool, true, false, Option, Some, None, append_assoc}
use Rattle.std.specs.Prelude.{cond}
use Rattle.std.proofs.lemmas.List.{append-nil}
use Rattle.std.proofs.lemmas.List.Elements.{All-nil, All-push, All-pop}
use Rattle.reach_engine.specs.declared.scan.Step.TheVariants.{Go, Bad}
use Rattle.reach_engine.specs.inner.Run.{run}
use Rattle.reach_engine.proofs.Runs.{run_split, go-bad, same_Go}
use Rattle.reach_engine_marks.specs.declared.path_patterns.mark.Mark.{Mark}
use Rattle.reach_engine_marks.specs.PathPatterns.inner.Decides.{Judges, Decides}
use Rattle.reach_engine_marks.specs.PathPatterns.Switch.{IsOn, Finds, IsInPlace, code_of}
use Rattle.reach_engine_marks.specs.PathPatterns.inner.Automaton.{fits, turned, mark_step}
use Rattle.reach_engine_marks.proofs.PathPatterns.PushedMarks.{PushedAt, there, behind, pushed_at}

abbrev Unturned : Mark → Type 0
Unturned m = m.turns ≡ None

-- the switch is on or off as the state says
data IsAt (marks : List Mark) : ℕ → Type 0 where
  on : IsOn marks → IsAt marks 1
  off : (IsOn marks → ⊥) → IsAt marks 0

no_marks : IsOn [] → ⊥
no_marks h = at h.before h.parts
  where
    at : (before : List Mark) → [] ≡ before ++ h.mark ∷ h.since → ⊥
    at [] e = cc
    at (x ∷ before) e = cc

pub push_on : (marks : List Mark) (mark : Mark) → mark.turns ≡ Some true → IsOn (marks ++ mark ∷ [])
push_on marks mark e = record { before = marks; mark = mark; since = []; parts = refl; turned_on = e; unturned = All-nil Unturned }

pub push_off : (marks : List Mark) (mark : Mark) → mark.turns ≡ Some false → IsOn (marks ++ mark ∷ []) → ⊥
push_off marks mark e h = at (pushed_at marks mark h.before h.mark h.since h.parts)
  where
    at : PushedAt marks mark h.before h.mark h.since → ⊥
    at (there s m p) = let t : Some false ≡ Some true = sym e ∙ ap (λ (x : Mark). x.turns) m ∙ h.turned_on in cc
    at (behind more s p) = absurd (let t : Some false ≡ None = sym e ∙ (All-pop Unturned h.since more (Some mark) s h.unturned).1 in cc)

pub push_none : (marks : List Mark) (mark : Mark) → mark.turns ≡ None → IsOn marks → IsOn (marks ++ mark ∷ [])
push_none marks mark e h = record {
  before = h.before;
  mark = h.mark;
  since = h.since ++ mark ∷ [];
  parts = ap (λ v. v ++ mark ∷ []) h.parts ∙ append_assoc h.before (h.mark ∷ h.since) (mark ∷ []);
  turned_on = h.turned_on;
  unturned = All-push Unturned h.since mark h.unturned e;
}

pub pop_none : (marks : List Mark) (mark : Mark) → mark.turns ≡ None → IsOn (marks ++ mark ∷ []) → IsOn marks
pop_none marks mark e h = at (pushed_at marks mark h.before h.mark h.since h.parts)
  where
    at : PushedAt marks mark h.before h.mark h.since → IsOn marks
    at (there s m p) = absurd (let t : None ≡ Some true = sym e ∙ ap (λ (x : Mark). x.turns) m ∙ h.turned_on in cc)
    at (behind more s p) = record { before = h.before; mark = h.mark; since = more; parts = p; turned_on = h.turned_on; unturned = (All-pop Unturned h.since more (Some mark) s h.unturned).0 }

-- one mark more
push_at : (marks : List Mark) (mark : Mark) (s : ℕ) → IsAt marks s → (turns : Option Bool) → mark.turns ≡ turns → IsAt (marks ++ mark ∷ []) (turned s turns)
push_at marks mark s h (Some true) e = on (push_on marks mark e)
push_at marks mark s h (Some false) e = off (push_off marks mark e)
push_at marks mark _ (on h) None e = on (push_none marks mark e h)
push_at marks mark _ (off h) None e = off (λ p. h (pop_none marks mark e p))

-- a mark that is read turns the switch
pub step_goes : (s : ℕ) (mark : Mark) (t : ℕ) → mark_step s mark ≡ Go t → t ≡ turned s mark.turns
step_goes s mark t e = at (fits s mark.needs) refl
  where
    at : (b : Bool) → fits s mark.needs ≡ b → t ≡ turned s mark.turns
    at true f = sym (same_Go (turned s mark.turns) t (sym (ap (λ b. cond b (Go (turned s mark.turns)) (Bad (code_of mark))) f) ∙ e))
    at false f = absurd (go-bad t (code_of mark) (sym e ∙ ap (λ b. cond b (Go (turned s mark.turns)) (Bad (code_of mark))) f))

-- the automaton's state tells whether the switch is on
read_at : (before marks : List Mark) (s t : ℕ) → IsAt before s → run mark_step (Go s) marks ≡ Go t → IsAt (before ++ marks) t
read_at before [] s t h e = subst (λ v. IsAt v t) (sym (append-nil before)) (subst (IsAt before) (same_Go s t e) h)
read_at before (mark ∷ marks) s t h e =
    let p = run_split mark_step (Go s) (mark ∷ []) marks t e in
    let here : IsAt (before ++ mark ∷ []) p.0 = subst (IsAt (before ++ mark ∷ [])) (sym (step_goes s mark p.0 p.1)) (push_at before mark s h mark.turns refl) in
    subst (λ v. IsAt v t) (append_assoc before (mark ∷ []) marks) (read_at (before ++ mark ∷ []) marks p.0 t here p.2)

judged : (marks : List Mark) (mark : Mark) (s : ℕ) → IsAt marks s → (needs : Option Bool)
    → Judges (cond (fits s needs) (Go (turned s mark.turns)) (Bad (code_of mark))) (Finds needs marks) (code_of mark)
judged marks mark s h None = tt
judged marks mark _ (on h) (Some true) = h
judged marks mark _ (on h) (Some false) = (λ p. p h, refl)
judged marks mark _ (off h) (Some true) = (h, refl)
judged marks mark _ (off h) (Some false) = h

pub switch_decides : Decides mark_step IsInPlace code_of
switch_decides marks s mark e = judged marks mark s (read_at [] marks 0 s (off no_marks) e) mark.needs

-- What runs begin with and steps keep holds of each state of a run, and the faults that it excludes don't end one. Two parts are kept together.
use Rattle.std.proofs.Common.{◌≡◌, ℕ, zero, suc, refl, sym, ap, ◌∙◌, subst, Bool, false, Some}
use Rattle.std.specs.Prelude.{◌||◌, option_and_then}
use Rattle.sil_ast.specs.declared.module.Module.{Module}
use Rattle.sil_verifier_frames.specs.sil_verifier_accepted.AcceptedModules.inner.Checked.{IsVerified}
use Rattle.sil_verifier_frames.specs.holder_model.Faults.{HolderFault}
use Rattle.sil_verifier_frames.specs.holder_model.HolderStates.{HolderNext, HolderState}
use Rattle.sil_verifier_frames.specs.holder_model.ModuleFacts.{facts_of}
use Rattle.sil_verifier_frames.specs.holder_model.Outcomes.{EndsSo, Outcome, begins, outcome_after, run}
use Rattle.sil_verifier_frames.specs.holder_model.States.{Ending, Ends, Faulted, Goes, step_on}
use Rattle.sil_verifier_frames.specs.holder_model.Steps.{step}
use Rattle.sil_verifier_runs.specs.inner.Kept.{IsKept}
use Rattle.sil_verifier_runs.specs.inner.Laws.{OnRuns}

-- nothing needs to hold before
abbrev pub Nothing : Module → HolderState → Type 0
Nothing m s = Unit {0}

abbrev pub And : (Module → HolderState → Type 0) → (Module → HolderState → Type 0) → Module → HolderState → Type 0
And P Q m s = P m s × Q m s

-- ---- two parts

module _ (Before P Q : Module → HolderState → Type 0) (ps qs : HolderFault → Bool) (kept_p : IsKept Before P ps) (kept_q : IsKept (And Before P) Q qs) where
  pub both_kept : IsKept Before (And P Q) (λ x. ps x || qs x)
  both_kept = record {
    begin = λ m e f v there may. (kept_p.begin m e f v there may, kept_q.begin m e f v there may);
    goes = λ m bound s next v before then is by.
        let p : P m next = kept_p.goes m bound s next v before then is.0 by in
        (p, kept_q.goes m bound s next v (before, is.0) (then, p) is.1 by);
    faults = λ m bound s last x v before is by.
        ap (λ b. b || qs x) (kept_p.faults m bound s last x v before is.0 by) ∙ kept_q.faults m bound s last x v (before, is.0) is.1 by;
  }

-- ---- runs

module _ (P : Module → HolderState → Type 0) (excludes : HolderFault → Bool) (kept : IsKept Nothing P excludes) where
  module _ (m : Module) (v : IsVerified m) (bound : ℕ) where
    -- a run to a state, or to a fault that isn't excluded
    pub data RunsRight : HolderNext → Type 0 where
      goes : (s : HolderState) → P m s → RunsRight (Goes s)
      ends : (e : Ending HolderFault) (s : HolderState) → ((x : HolderFault) → e ≡ Faulted x → excludes x ≡ false) → RunsRight (Ends e s)

    one : (s : HolderState) → P m s → (n : HolderNext) → step m (facts_of m) bound s ≡ n → RunsRight n
    one s is (Goes next) by = RunsRight.goes next (kept.goes m bound s next v tt tt is by)
    one s is (Ends e last) by = RunsRight.ends e last (λ x faulted. kept.faults m bound s last x v tt is (by ∙ ap (λ y. Ends y last) faulted))

    onward : (steps : ℕ) → ((s : HolderState) → P m s → RunsRight (run (step m (facts_of m) bound) steps s)) → (n : HolderNext) → RunsRight n
        → RunsRight (step_on (run (step m (facts_of m) bound) steps) n)
    onward steps from _ (RunsRight.goes s is) = from s is
    onward steps from _ (RunsRight.ends e s other) = RunsRight.ends e s other

    from : (steps : ℕ) (s : HolderState) → P m s → RunsRight (run (step m (facts_of m) bound) steps s)
    from zero s is = RunsRight.goes s is
    from (suc steps) s is = onward steps (from steps) (step m (facts_of m) bound s) (one s is (step m (facts_of m) bound s) refl)

    came : (n : HolderNext) (s : HolderState) → RunsRight n → n ≡ Goes s → P m s
    came _ s (RunsRight.goes t is) e = let same : t ≡ s = cc in subst (P m) same is
    came _ s (RunsRight.ends x t other) e = absurd (cc)

    ended : (n : HolderNext) (s : HolderState) (x : HolderFault) → RunsRight n → n ≡ Ends (Faulted x) s → excludes x ≡ false
    ended _ s x (RunsRight.goes t is) e = absurd (cc)
    ended _ s x (RunsRight.ends y t other) e = let same : y ≡ Faulted x = cc in other x same

    told : (n : HolderNext) (outcome : Outcome HolderFault) (x : HolderFault) → RunsRight n → outcome_after n ≡ Some outcome → outcome.ending ≡ Faulted x → excludes x ≡ false
    told _ outcome x (RunsRight.goes t is) e faulted = absurd (cc)
    told _ outcome x (RunsRight.ends y t other) e faulted = let same : y ≡ outcome.ending = cc in other x (same ∙ faulted)

  pub states_hold : OnRuns (λ m e f bound. (steps : ℕ) (s : HolderState) → run (step m (facts_of m) bound) steps (begins e f) ≡ Goes s → P m s)
  states_hold m e f bound v there may steps s is =
      came m v bound (run (step m (facts_of m) bound) steps (begins e f)) s (from m v bound steps (begins e f) (kept.begin m e f v there may)) is

  pub runs_exclude : OnRuns (λ m e f bound. (steps : ℕ) (s : HolderState) (x : HolderFault)
      → run (step m (facts_of m) bound) steps (begins e f) ≡ Ends (Faulted x) s → excludes x ≡ false)
  runs_exclude m e f bound v there may steps s x is =
      ended m v bound (run (step m (facts_of m) bound) steps (begins e f)) s x (from m v bound steps (begins e f) (kept.begin m e f v there may)) is

  pub outcomes_exclude : OnRuns (λ m e f bound. (outcome : Outcome HolderFault) (x : HolderFault) → EndsSo m e bound outcome → outcome.ending ≡ Faulted x
      → excludes x ≡ false)
  outcomes_exclude m e f bound v there may outcome x so faulted =
      told m v bound (run (step m (facts_of m) bound) so.0 (begins e f)) outcome x (from m v bound so.0 (begins e f) (kept.begin m e f v there may))
      (ap (λ g. option_and_then (λ h. outcome_after (run (step m (facts_of m) bound) so.0 (begins e h))) g) (sym there) ∙ so.1) faulted

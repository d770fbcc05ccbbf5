-- The run by holders comes on by a step, and what it begins with and each step keeps holds of each state that it comes to.
use Rattle.std.proofs.Common.{◌≡◌, ℕ, zero, suc, refl, sym, ap, ◌∙◌, subst}
use Rattle.sil_ast.specs.declared.module.Module.{Module}
use Rattle.sil_verifier_runs.specs.sil_verifier_accepted.AcceptedModules.inner.Checked.{IsVerified}
use Rattle.sil_verifier_runs.specs.inner.RightStates.{IsRightState}
use Rattle.sil_verifier_runs.proofs.RightRuns.{no_run_faults, states_are_right}
use Rattle.sil_verifier_runs.specs.holder_model.Faults.{HolderFault}
use Rattle.sil_verifier_runs.specs.holder_model.HolderStates.{HolderNext, HolderState}
use Rattle.sil_verifier_runs.specs.holder_model.ModuleFacts.{facts_of}
use Rattle.sil_verifier_runs.specs.holder_model.Outcomes.{begins, run}
use Rattle.sil_verifier_runs.specs.holder_model.States.{Ending, Ends, Faulted, Goes, step_on}
use Rattle.sil_verifier_runs.specs.holder_model.Steps as holder_run
use Rattle.sil_verifier_runs.specs.sil_verifier_frames.inner.Typed.TypedStates.{IsTypedState}
use Rattle.sil_verifier_runs.proofs.sil_verifier_frames.Typed.TypedSteps.{begin_typed, steps_typed}
use Rattle.ownership_lowering_runs.specs.SameRuns.inner.InRightStates.{IsComeTo}
use Rattle.ownership_lowering_runs.proofs.SameRuns.DeinitsCalled.{AreCalled, begin_called, steps_called}

module _ (m : Module) (bound : ℕ) where
  abbrev step : HolderState → HolderNext
  step s = holder_run.step m (facts_of m) bound s

  same_state : (s t : HolderState) (n : HolderNext) → Goes s ≡ n → n ≡ Goes t → s ≡ t
  same_state s t n e g = cc

  ends_nowhere : (e : Ending HolderFault) (s t : HolderState) (n : HolderNext) → Ends e s ≡ n → n ≡ Goes t → ⊥
  ends_nowhere e s t n is other = cc

  one : (n : HolderNext) → step_on (run step 0) n ≡ n
  one (Goes x) = refl
  one (Ends e x) = refl

  -- ---- by a step more

  pub run_on : (k : ℕ) (s t : HolderState) → run step k s ≡ Goes t → run step (suc k) s ≡ step t
  run_on zero s t is = one (step s) ∙ ap step (same_state s t (Goes s) refl is)
  run_on (suc k) s t is = at (step s) refl (λ x. run_on k x t)
    where
      at : (n : HolderNext) → step s ≡ n → ((x : HolderState) → run step k x ≡ Goes t → run step (suc k) x ≡ step t) → run step (suc (suc k)) s ≡ step t
      at (Goes x) e more = ap (step_on (run step (suc k))) e ∙ more x (sym (ap (step_on (run step k)) e) ∙ is)
      at (Ends e x) g more = absurd (ends_nowhere e x t (step_on (run step k) (step s)) (sym (ap (step_on (run step k)) g)) is)

  pub comes_on : (s t : HolderState) → IsComeTo m bound s → step s ≡ Goes t → IsComeTo m bound t
  comes_on s t c is = record { e = c.e; f = c.f; there = c.there; may = c.may; steps = suc c.steps; comes = run_on c.steps (begins c.e c.f) s c.comes ∙ is }

  -- ---- what each step keeps

  module _ (P : HolderState → Type 0) (keeps : (s t : HolderState) → P s → step s ≡ Goes t → P t) where
    kept_on : (k : ℕ) (s t : HolderState) → P s → run step k s ≡ Goes t → P t
    kept_on zero s t is ran = subst P (same_state s t (Goes s) refl ran) is
    kept_on (suc k) s t is ran = at (step s) refl (λ x. kept_on k x t)
      where
        at : (n : HolderNext) → step s ≡ n → ((x : HolderState) → P x → run step k x ≡ Goes t → P t) → P t
        at (Goes x) e later = later x (keeps s x is e) (sym (ap (step_on (run step k)) e) ∙ ran)
        at (Ends e x) g later = absurd (ends_nowhere e x t (step_on (run step k) (step s)) (sym (ap (step_on (run step k)) g)) ran)

  pub comes_called : (s : HolderState) → IsVerified m → IsComeTo m bound s → AreCalled m s.tasks
  comes_called s verified c =
      (kept_on (λ t. IsTypedState m t × AreCalled m t.tasks)
      (λ t u is e. (steps_typed m bound t u verified is.0 e, steps_called m bound t u is.0 is.1 e)) c.steps (begins c.e c.f) s
      (begin_typed m c.e c.f verified c.there c.may, begin_called m c.e c.f) c.comes).1

  -- so it is right, and no step from it ends in a fault
  pub comes_right : (s : HolderState) → IsVerified m → IsComeTo m bound s → IsRightState m s
  comes_right s verified c = states_are_right m c.e c.f bound verified c.there c.may c.steps s c.comes

  pub come_faults : (s : HolderState) → IsVerified m → IsComeTo m bound s → (last : HolderState) (x : HolderFault) → step s ≡ Ends (Faulted x) last → ⊥
  come_faults s verified c last x is =
      no_run_faults m c.e c.f bound verified c.there c.may (suc c.steps) last x (run_on c.steps (begins c.e c.f) s c.comes ∙ is)

-- Steps that follow one another.
use Rattle.std.proofs.Common.{◌≡◌, ℕ, zero, suc, ◌<◌, ◌≤◌, false, List, [], ◌∷◌, refl, sym, ap, subst, ◌∙◌}
use Rattle.std.specs.Prelude.{Err, slice_get}
use Rattle.count_machine_model.specs.declared.ready_code.function.ReadyModule.{ReadyModule}
use Rattle.count_machine_model.specs.declared.machine_steps.frame.Task.{Task}
use Rattle.count_machine_model.specs.declared.machine_steps.frame.Task.TheVariants.{Drops, Finishes, Runs}
use Rattle.count_machine_model.specs.MachineSteps.Runs.{Leads, steps, went_on}
use Rattle.count_machine_model.specs.MachineSteps.Steps.{class_of, machine_step, task_step}
use Rattle.count_machine_model.specs.MachineSteps.Views.{Goes, MachineView, Stops, Went}
use Rattle.count_machine_engine.specs.Led.{HasEnded, is_dropping}
use Rattle.count_machine_state.specs.Went.{HasGone}
use Rattle.count_machine_engine.specs.inner.Work.{drop_work, work}
use Rattle.count_machine_state.specs.declared.stop.Stop.{Stop}
use Rattle.count_machine_state.specs.declared.stop.Stop.TheVariants as stop
use Rattle.count_machine_engine.proofs.Falling.{deinit_step-fall, drops-fall, runs-fall}
use Rattle.count_machine_engine.proofs.Onward.{OnGoing}

module _ (ready : ReadyModule) (bound : ℕ) where
  ends_there : (w : Went) → went_on (λ st. Goes st) w ≡ w
  ends_there (Goes st) = refl
  ends_there (Stops end st) = refl

  one_more-went : (k : ℕ) (w : Went) → ((st : MachineView) → steps ready bound (suc k) st ≡ went_on (machine_step ready bound) (steps ready bound k st)) →
      went_on (steps ready bound (suc k)) w ≡ went_on (machine_step ready bound) (went_on (steps ready bound k) w)
  one_more-went k (Goes st) h = h st
  one_more-went k (Stops end st) h = refl

  one_more : (k : ℕ) (st : MachineView) → steps ready bound (suc k) st ≡ went_on (machine_step ready bound) (steps ready bound k st)
  one_more zero st = ends_there (machine_step ready bound st)
  one_more (suc k) st = one_more-went k (machine_step ready bound st) (one_more k)

  pub leads-self : (st : MachineView) → Leads ready bound st (Goes st)
  leads-self st = (0, refl)

  pub leads-on : (st mid : MachineView) (w : Went) → Leads ready bound st (Goes mid) → machine_step ready bound mid ≡ w → Leads ready bound st w
  leads-on st mid w led e = (suc led.0, one_more led.0 st ∙ ap (went_on (machine_step ready bound)) led.1 ∙ e)

  pub ended-on : (st mid new : MachineView) (stop : Stop) → Leads ready bound st (Goes mid) → HasGone (machine_step ready bound mid) (Err stop) new → HasEnded ready bound st stop new
  ended-on st mid new (stop.Ends end) led gone = leads-on st mid (Stops end new) led gone
  ended-on st mid new stop.Memory led gone = tt

  -- the work that is left

  pub going : (P : MachineView → Type 0) (w : Went) (new : MachineView) → w ≡ Goes new → OnGoing P w → P new
  going P w new e h = subst (OnGoing P) e h

  task_step-falls : (st : MachineView) (ts : List Task) → st.tasks ≡ ts → is_dropping ts ≡ false → OnGoing (λ after. work ready bound after < work ready bound st) (task_step ready bound st ts)
  task_step-falls st [] top e = tt
  task_step-falls st (Runs fr ∷ rest) top e = runs-fall ready bound st fr rest top
  task_step-falls st (Drops from ∷ rest) top e = cc
  task_step-falls st (Finishes o called ∷ rest) top e = deinit_step-fall ready bound st o called rest top (slice_get (class_of ready st.heap o).deinits called)

  pub step-falls : (st new : MachineView) → is_dropping st.tasks ≡ false → machine_step ready bound st ≡ Goes new → work ready bound new < work ready bound st
  step-falls st new e gone = going (λ after. work ready bound after < work ready bound st) (machine_step ready bound st) new gone (task_step-falls st st.tasks refl e)

  pub drop-falls : (st new : MachineView) (from : ℕ) (rest : List Task) → st.tasks ≡ Drops from ∷ rest → machine_step ready bound st ≡ Goes new →
      (work ready bound new ≤ work ready bound st) × (drop_work new < drop_work st)
  drop-falls st new from rest top gone =
      going (λ after. (work ready bound after ≤ work ready bound st) × (drop_work after < drop_work st)) (task_step ready bound st (Drops from ∷ rest)) new
      (ap (task_step ready bound st) (sym top) ∙ gone) (drops-fall ready bound st from rest top)

  -- some steps behind others

  behind-went : (k j : ℕ) (mid : MachineView) → ((st : MachineView) → steps ready bound k st ≡ Goes mid → (n : ℕ) × (steps ready bound n st ≡ steps ready bound j mid)) →
      (w : Went) → went_on (steps ready bound k) w ≡ Goes mid → (n : ℕ) × (went_on (steps ready bound n) w ≡ steps ready bound j mid)
  behind-went k j mid h (Goes st) e = h st e
  behind-went k j mid h (Stops end st) e = cc

  behind : (k j : ℕ) (st mid : MachineView) → steps ready bound k st ≡ Goes mid → (n : ℕ) × (steps ready bound n st ≡ steps ready bound j mid)
  behind zero j st mid e = let same : st ≡ mid = cc in (j, ap (steps ready bound j) same)
  behind (suc k) j st mid e = let more = behind-went k j mid (λ s. behind k j s mid) (machine_step ready bound st) e in (suc more.0, more.1)

  pub leads-behind : (st mid : MachineView) (w : Went) → Leads ready bound st (Goes mid) → Leads ready bound mid w → Leads ready bound st w
  leads-behind st mid w first second = let both = behind first.0 second.0 st mid first.1 in (both.0, both.1 ∙ second.1)

  pub ended-behind : (st mid new : MachineView) (stop : Stop) → Leads ready bound st (Goes mid) → HasEnded ready bound mid stop new → HasEnded ready bound st stop new
  ended-behind st mid new (stop.Ends end) first second = leads-behind st mid (Stops end new) first second
  ended-behind st mid new stop.Memory first second = tt

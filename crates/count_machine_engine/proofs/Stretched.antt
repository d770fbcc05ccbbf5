-- A stretch of instructions of a block.
use Rattle.std.proofs.Common.{◌≡◌, ℕ, ◌<◌, ◌≤◌, false, List, ◌∷◌, Some, None, length, ap, ◌∙◌, arith}
use Rattle.std.specs.Prelude.{Err, OnOk, Ok, slice_get}
use Rattle.std.specs.declared.result.Result.{Result}
use Rattle.count_machine_model.specs.declared.ready_code.block.ReadyBlock.{ReadyBlock}
use Rattle.count_machine_model.specs.declared.ready_code.function.ReadyModule.{ReadyModule}
use Rattle.count_machine_model.specs.declared.ready_code.op.ReadyOp.{ReadyOp}
use Rattle.count_machine_model.specs.declared.machine_steps.frame.Frame.{Frame}
use Rattle.count_machine_model.specs.declared.machine_steps.frame.Task.{Task}
use Rattle.count_machine_model.specs.declared.machine_steps.frame.Task.TheVariants.{Runs}
use Rattle.count_machine_model.specs.MachineSteps.Ends.{block_at, ends_with}
use Rattle.count_machine_model.specs.MachineSteps.Operands.{behind_op}
use Rattle.count_machine_model.specs.MachineSteps.Rows.{performs}
use Rattle.count_machine_model.specs.MachineSteps.Runs.{Leads}
use Rattle.count_machine_model.specs.MachineSteps.Steps.{acts, machine_step, runs_block, task_step}
use Rattle.count_machine_model.specs.MachineSteps.Views.{Goes, MachineView}
use Rattle.count_machine_engine.specs.Led.{HasLed, is_dropping}
use Rattle.count_machine_state.specs.Went.{HasGone}
use Rattle.count_machine_engine.specs.inner.Work.{work}
use Rattle.count_machine_state.specs.declared.stop.Stop.{Stop}
use Rattle.count_machine_engine.proofs.Followed.{ended-on, going, leads-on, step-falls}
use Rattle.count_machine_engine.proofs.Leaving.{gone-along}
use Rattle.count_machine_engine.proofs.Performing.{on-performs}

module _ (ready : ReadyModule) (bound : ℕ) (st mid new : MachineView) where
  pub led-on : (result : Result (Unit {0}) Stop) → Leads ready bound st (Goes mid) → HasGone (machine_step ready bound mid) result new → HasLed ready bound st result new
  led-on (Ok u) led gone = leads-on ready bound st mid (Goes new) led gone
  led-on (Err stop) led gone = ended-on ready bound st mid new stop led gone

  pub less-on : (result : Result (Unit {0}) Stop) → work ready bound mid ≤ work ready bound st → is_dropping mid.tasks ≡ false → HasGone (machine_step ready bound mid) result new →
      OnOk result (work ready bound new < work ready bound st)
  less-on (Ok u) less e gone = omega (arith, step-falls ready bound mid new e gone)
  less-on (Err stop) less e gone = tt

module _ (ready : ReadyModule) (bound : ℕ) (st : MachineView) (fr : Frame) (rest : List Task) (b : ReadyBlock) (top : st.tasks ≡ Runs fr ∷ rest) where
  pub not_dropping : is_dropping st.tasks ≡ false
  not_dropping = ap is_dropping top

  acts-step : block_at ready fr.function fr.block ≡ Some b → machine_step ready bound st ≡ acts ready bound st fr rest b (slice_get b.ops fr.index)
  acts-step at = ap (task_step ready bound st) top ∙ ap (runs_block ready bound st fr rest) at

  module _ (result : Result (Unit {0}) Stop) (new : MachineView) (at : block_at ready fr.function fr.block ≡ Some b) where
    pub op-gone : (o : ReadyOp) → slice_get b.ops fr.index ≡ Some o → HasGone (performs ready bound st fr rest o) result new → HasGone (machine_step ready bound st) result new
    op-gone o e gone = gone-along result new _ _ (acts-step at ∙ ap (acts ready bound st fr rest b) e) gone

    pub end-gone : slice_get b.ops fr.index ≡ None → HasGone (ends_with ready bound st fr rest b.end) result new → HasGone (machine_step ready bound st) result new
    end-gone e gone = gone-along result new _ _ (acts-step at ∙ ap (acts ready bound st fr rest b) e) gone

  -- with as many tasks as before, the frame stands behind its instruction
  pub stays : (o : ReadyOp) (new : MachineView) → performs ready bound st fr rest o ≡ Goes new → length new.tasks ≡ length st.tasks → new.tasks ≡ Runs (behind_op fr) ∷ rest
  stays o new gone =
      going ready bound (λ after. length after.tasks ≡ length st.tasks → after.tasks ≡ Runs (behind_op fr) ∷ rest) (performs ready bound st fr rest o) new gone
      (on-performs ready bound st fr rest (λ after. length after.tasks ≡ length st.tasks → after.tasks ≡ Runs (behind_op fr) ∷ rest)
      (λ after turns tasks same. tasks)
      (λ after from turns tasks same. absurd (omega (arith, ap length tasks, ap length top)))
      (λ after lt turns tasks same. tasks)
      (λ after callee lt turns tasks same. absurd (omega (arith, ap length tasks)))
      o)

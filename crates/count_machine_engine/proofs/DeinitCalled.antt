-- What the code does for a step of a deinitialisation is what the step does.
use Rattle.std.proofs.Common.{◌≡◌, ℕ, List, ◌∷◌, Some, None, sym, ap, ◌∙◌}
use Rattle.std.specs.Prelude.{drop, slice_get, unwrap_or}
use Rattle.std.specs.declared.result.Result.{Result}
use Rattle.count_heap.specs.HeapModel.HeapViews.{class_in}
use Rattle.count_machine_model.specs.declared.ready_code.function.ReadyFunction.{ReadyFunction}
use Rattle.count_machine_model.specs.declared.ready_code.function.ReadyModule.{ReadyModule}
use Rattle.sil_ast.specs.declared.place.FuncId.{FuncId}
use Rattle.sil_ast.specs.declared.place.ObjectId.{ObjectId}
use Rattle.count_machine_model.specs.declared.machine_steps.frame.Frame.{Frame}
use Rattle.count_machine_model.specs.declared.machine_steps.frame.Task.{Task}
use Rattle.count_machine_model.specs.declared.machine_steps.frame.Task.TheVariants.{Finishes}
use Rattle.count_machine_model.specs.MachineSteps.Calling.{enter, new_frame, with_frame}
use Rattle.count_machine_model.specs.MachineSteps.Steps.{calls_deinit, class_of, deinit_entered, deinit_step, finishes, no_class, with_object}
use Rattle.count_machine_model.specs.MachineSteps.Views.{Goes, MachineView}
use Rattle.count_machine_state.specs.Went.{HasGone}
use Rattle.count_machine_state.specs.declared.stop.Stop.{Stop}
use Rattle.count_machine_engine.proofs.Continuing.{enter-on}
use Rattle.count_machine_engine.proofs.Leaving.{gone-along}

pub deinit-called : (ready : ReadyModule) (bound : ℕ) (st entered framed new : MachineView) (g : FuncId) (o : ObjectId) (f : ReadyFunction) (fr : Frame) →
    enter bound st Goes ≡ Goes entered → Some f ≡ slice_get ready.functions g.0 → fr ≡ new_frame entered g → framed ≡ with_frame entered g f →
    new ≡ with_object ready bound framed fr f.first_argument o → calls_deinit ready bound st g o ≡ Goes new
deinit-called ready bound st entered framed new g o f fr entering found at room is =
    enter-on bound st entered (λ after. deinit_entered ready bound g o after (slice_get ready.functions g.0)) entering
    ∙ ap (deinit_entered ready bound g o entered) (sym found)
    ∙ ap (λ x. Goes (with_object ready bound x (new_frame entered g) f.first_argument o)) (sym room)
    ∙ ap (λ x. Goes (with_object ready bound framed x f.first_argument o)) (sym at) ∙ ap Goes (sym is)

module _ (result : Result (Unit {0}) Stop) (new : MachineView) where
  pub last-called : (ready : ReadyModule) (bound : ℕ) (st popped : MachineView) (o : ObjectId) (called : ℕ) (rest : List Task) (class : ℕ) →
      st.tasks ≡ Finishes o called ∷ rest → class ≡ class_in st.heap o → None ≡ slice_get (unwrap_or (slice_get ready.classes class) no_class).deinits called →
      popped ≡ record st { tasks = drop 1 st.tasks } → HasGone (finishes ready bound popped o) result new →
      HasGone (deinit_step ready bound st o called rest (slice_get (class_of ready st.heap o).deinits called)) result new
  last-called ready bound st popped o called rest class top class-is none is h =
      gone-along result new _ _
      (ap (deinit_step ready bound st o called rest) (sym (none ∙ ap (λ k. slice_get (unwrap_or (slice_get ready.classes k) no_class).deinits called) class-is))
      ∙ ap (λ x. finishes ready bound x o) (sym (is ∙ ap {B = MachineView} (λ ts. record st { tasks = drop 1 ts }) top)))
      h

-- What the code does for the task that goes on is a step.
use Rattle.std.proofs.Common.{◌≡◌, ℕ, List, [], ◌∷◌, Some, drop, sym, ap, subst}
use Rattle.std.specs.Prelude.{slice_get}
use Rattle.std.specs.declared.result.Result.{Result}
use Rattle.count_machine_model.specs.declared.ready_code.function.ReadyModule.{ReadyModule}
use Rattle.count_machine_model.specs.declared.machine_steps.frame.Task.{Task}
use Rattle.count_machine_model.specs.MachineSteps.Steps.{machine_step, task_step}
use Rattle.count_machine_model.specs.MachineSteps.Views.{MachineView}
use Rattle.count_machine_state.specs.Went.{HasGone}
use Rattle.count_machine_state.specs.declared.stop.Stop.{Stop}

pub top-is : {A : Type 0} (xs : List A) (x : A) → Some x ≡ slice_get xs 0 → xs ≡ x ∷ drop 1 xs
top-is [] x e = cc
top-is (y ∷ ys) x e = let same : y ≡ x = cc in ap (λ z. z ∷ ys) same

pub stepped : (result : Result (Unit {0}) Stop) (new : MachineView) (ready : ReadyModule) (bound : ℕ) (st : MachineView) (t : Task) → Some t ≡ slice_get st.tasks 0 →
    ((rest : List Task) → st.tasks ≡ t ∷ rest → HasGone (task_step ready bound st (t ∷ rest)) result new) → HasGone (machine_step ready bound st) result new
stepped result new ready bound st t top h =
    let e = top-is st.tasks t top in subst (λ ts. HasGone (task_step ready bound st ts) result new) (sym e) (h (drop 1 st.tasks) e)

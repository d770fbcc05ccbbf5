-- A call of a function without a body: a turn, an event, and a result without leaves.
use Rattle.std.proofs.Common.{◌≡◌, ℕ, ℤ, ◌+◌, Bool, true, false, cond, List, [], ◌∷◌, ◌++◌, map, sym, ap, subst, ◌∙◌}
use Rattle.std.specs.Prelude.{nat_lt}
use Rattle.std.specs.declared.result.Result.{Result}
use Rattle.holder_model.specs.declared.event.Event.TheVariants as event
use Rattle.count_machine_model.specs.declared.machine_steps.frame.Frame.{Frame}
use Rattle.count_machine_model.specs.declared.machine_steps.frame.Task.{Task}
use Rattle.count_machine_model.specs.declared.machine_steps.frame.Task.TheVariants.{Runs}
use Rattle.count_machine_model.specs.declared.machine_steps.run_end.RunEnd.TheVariants as end
use Rattle.count_machine_model.specs.MachineSteps.Operands.{contents, gives, int_among, put}
use Rattle.count_machine_model.specs.MachineSteps.Turning.{turn}
use Rattle.count_machine_model.specs.MachineSteps.Views.{Goes, MachineView, Stops, Went}
use Rattle.count_machine_model.specs.declared.ready_code.local.Local.{Local}
use Rattle.sil_ast.specs.declared.place.FuncId.{FuncId}
use Rattle.count_machine_state.specs.GoingOn.{GoesOn}
use Rattle.count_machine_state.specs.Went.{HasGone}
use Rattle.count_machine_state.specs.declared.stop.Stop.{Stop}

abbrev turned : MachineView → MachineView
turned st = record st { turns = st.turns + 1 }

turn_by : (b : Bool) (st after : MachineView) → cond b (Goes (turned st)) (Stops end.OutOfTurns st) ≡ Goes after →
    (after ≡ turned st) × ((go : MachineView → Went) → cond b (go (turned st)) (Stops end.OutOfTurns st) ≡ go after)
turn_by true st after e = let same : after ≡ turned st = cc in (same, λ go. ap go (sym same))
turn_by false st after e = cc

-- what goes on behind a turn that was taken
pub turn_taken : (bound : ℕ) (st after : MachineView) → turn bound st Goes ≡ Goes after →
    (after ≡ turned st) × ((go : MachineView → Went) → turn bound st go ≡ go after)
turn_taken bound st after e = turn_by (nat_lt st.turns bound) st after e

abbrev args_in : MachineView → Frame → List Local → List ℤ
args_in st fr args = map (λ (l : Local). int_among (contents st fr l)) args

abbrev with_call : MachineView → FuncId → List ℤ → MachineView
with_call st g numbers = record st { events = st.events ++ event.Call g numbers ∷ [] }

pub called_out : (bound : ℕ) (st after shown new : MachineView) (fr : Frame) (rest : List Task) (g : FuncId) (args : List Local) (to : Local)
    (result : Result (Unit {0}) Stop) → turn bound st Goes ≡ Goes after → shown ≡ with_call after g (args_in after fr args) →
    GoesOn shown fr (put shown fr to []) result new → st.tasks ≡ Runs fr ∷ rest →
    HasGone (turn bound st (λ next. gives (with_call next g (args_in st fr args)) fr rest to [])) result new
called_out bound st after shown new fr rest g args to result taken is goes tasks =
    let told = turn_taken bound st after taken in
    let Shown : MachineView → Type 0 = λ next. HasGone (gives (with_call after g (args_in next fr args)) fr rest to []) result new in
    let over : shown.tasks ≡ Runs fr ∷ rest =
    ap (λ (it : MachineView). it.tasks) is ∙ ap (λ (it : MachineView). it.tasks) told.0 ∙ tasks in
    let here : Shown after = subst (λ (it : MachineView). HasGone (gives it fr rest to []) result new) is (goes rest over) in
    subst (λ (went : Went). HasGone went result new) (sym (told.1 (λ next. gives (with_call next g (args_in st fr args)) fr rest to [])))
    (subst Shown told.0 here)

-- What the code does at a terminator is what the terminator does.
use Rattle.std.proofs.Common.{◌≡◌, ℕ, List, ◌∷◌, None, map, sym, ap, ◌∙◌}
use Rattle.std.specs.Prelude.{find}
use Rattle.count_machine_model.specs.declared.ready_code.block.ReadyEdge.{ReadyEdge}
use Rattle.count_machine_model.specs.declared.ready_code.local.Carry.{Carry}
use Rattle.count_machine_model.specs.declared.ready_code.function.ReadyModule.{ReadyModule}
use Rattle.count_machine_model.specs.declared.machine_steps.frame.Frame.{Frame}
use Rattle.count_machine_model.specs.declared.machine_steps.frame.Task.{Task}
use Rattle.count_machine_model.specs.declared.machine_steps.frame.Task.TheVariants.{Runs}
use Rattle.count_machine_model.specs.MachineSteps.Calling.{carried}
use Rattle.count_machine_model.specs.MachineSteps.Ends.{carried_value, in_block, takes_edge, with_top}
use Rattle.count_machine_model.specs.MachineSteps.Operands.{is_missing}
use Rattle.count_machine_model.specs.MachineSteps.Turning.{turn}
use Rattle.count_machine_model.specs.MachineSteps.Views.{Goes, MachineView, Went}
use Rattle.count_machine_engine.proofs.Continuing.{turn-on, turn-taken, with_all-on}
use Rattle.count_machine_engine.proofs.Performing.{carried-tasks}

-- the frame that goes on begins a block
abbrev pub Moved : ℕ → MachineView → MachineView → Type 0
Moved block old new = (fr : Frame) (rest : List Task) → old.tasks ≡ Runs fr ∷ rest → new ≡ record old { tasks = Runs (in_block fr block) ∷ rest }

pub edge-taken : (ready : ReadyModule) (bound : ℕ) (st turned moved new : MachineView) (fr : Frame) (rest : List Task) (e : ReadyEdge) (values : List Carry) →
    values ≡ e.values → None ≡ find (is_missing st fr) (map carried_value values) → turn bound st Goes ≡ Goes turned → moved ≡ carried turned fr fr values →
    Moved e.block moved new → st.tasks ≡ Runs fr ∷ rest → takes_edge ready bound st fr rest e ≡ Goes new
edge-taken ready bound st turned moved new fr rest e values same there turning carrying moving top =
    let tasks : moved.tasks ≡ Runs fr ∷ rest = ap (λ st. st.tasks) carrying ∙ carried-tasks turned fr fr values ∙ ap (λ st. st.tasks) (turn-taken bound st turned turning) ∙ top in
    let go : MachineView → Went = λ after. Goes (with_top ready bound st fr rest (carried after fr fr e.values) (in_block fr e.block)) in
    let all_there : find (is_missing st fr) (map carried_value e.values) ≡ None = ap (λ vs. find (is_missing st fr) (map carried_value vs)) (sym same) ∙ sym there in
    with_all-on st fr (map carried_value e.values) (turn bound st go) all_there ∙ turn-on bound st turned go turning
    ∙ ap (λ st. Goes (record st { tasks = Runs (in_block fr e.block) ∷ rest })) (sym (carrying ∙ ap (λ vs. carried turned fr fr vs) same)) ∙ ap Goes (sym (moving fr rest tasks))

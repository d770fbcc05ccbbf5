-- A call makes a frame in both, where there may be one more.
use Rattle.std.proofs.Common.{◌≡◌, ◌+◌, ℕ, List, refl, ap, arith}
use Rattle.std.specs.Prelude.{nat_lt}
use Rattle.count_machine_model.specs.holder_model.declared.limits.TheConstants.{FRAMES}
use Rattle.count_machine_model.specs.holder_model.declared.trap.Trap.TheVariants as trap
use Rattle.count_machine_model.specs.holder_model.States as low
use Rattle.count_machine_model.specs.holder_model.LoweredRun.LowFrames.{LowFrame}
use Rattle.count_machine_model.specs.holder_model.LoweredRun.LowStepParts.{LowNext, LowState}
use Rattle.count_machine_model.specs.declared.machine_steps.frame.Task.{Task}
use Rattle.count_machine_model.specs.declared.machine_steps.run_end.RunEnd.TheVariants as end
use Rattle.count_machine_model.specs.MachineSteps.Calling.{enter}
use Rattle.count_machine_model.specs.MachineSteps.Turning.{frames_in}
use Rattle.count_machine_model.specs.MachineSteps.Views.{MachineView, Went}
use Rattle.holder_model_values.specs.RunValues.Memory.{Memory}
use Rattle.sil_ast.specs.declared.module.Module.{Module}
use Rattle.count_machine_laws.specs.inner.Told.{depth}
use Rattle.count_machine_laws.proofs.Agreement.{PartsAgree}
use Rattle.count_machine_laws.proofs.Ending.{Alike, both_choose, ends_alike, turn_alike}
use Rattle.count_machine_laws.proofs.Entries.{Ends}
use Rattle.count_machine_laws.proofs.Slots.{Made}
use Rattle.count_machine_laws.proofs.Tasks.{Beginning, ReadyFor, TasksAgree, bottom, dropped, drops, finishes, runs, waits}

pub same_frames : {m : Module} {entry : Beginning} {made : List Made} {mem : Memory} {st : MachineView} {r : ReadyFor} {ends : Ends} {ts : List (low.Task LowFrame)} {ts' : List Task}
    → TasksAgree m entry made mem st r ends ts ts' → frames_in ts' ≡ low.frame_count ts
same_frames bottom = refl
same_frames (runs f lf mf below above rest rest' reaches frame others) = ap (λ n. 1 + n) (same_frames others)
same_frames (waits s f lf mf below above rest rest' reaches frame awaits others) = ap (λ n. 1 + n) (same_frames others)
same_frames (drops o os below above rest rest' ends waiting others) = let same = same_frames others in omega (arith, same)
same_frames (dropped ends rest rest' others) = same_frames others
same_frames (finishes r gs o called ends rest rest' was_made phase deinits once others) = let same = same_frames others in omega (arith, same)

pub enter_alike : {m : Module} {entry : Beginning} {made : List Made} {s : LowState} {st : MachineView} {r : ReadyFor} {ends : Ends} {ts : List (low.Task LowFrame)}
    → PartsAgree m made s st → TasksAgree m entry made s.memory st r ends ts st.tasks → (bound : ℕ) (go : LowState → LowNext) (go' : MachineView → Went)
    → (PartsAgree m made (record s { turns = s.turns + 1 }) (record st { turns = st.turns + 1 })
    → Alike m entry (go (record s { turns = s.turns + 1 })) (go' (record st { turns = st.turns + 1 })))
    → Alike m entry (low.enter bound ts s go) (enter bound st go')
enter_alike {s = s} {st = st} {ts = ts} parts tasks bound go go' then =
    both_choose (nat_lt (low.frame_count ts) FRAMES) (nat_lt (frames_in st.tasks) FRAMES) (ap (λ n. nat_lt n FRAMES) (same_frames tasks))
    (λ e. turn_alike parts bound go go' then) (λ e. ends_alike parts (low.Trapped trap.Depth) end.Depth depth refl)

-- Frames and tasks agree as before where memory stays, and with references that wait to be dropped.
use Rattle.std.proofs.Common.{◌≡◌, ◌+◌, List, [], ◌∷◌, length, map, refl, ap, ◌∙◌, arith}
use Rattle.std.specs.Prelude.{reverse, take}
use Rattle.std.proofs.lemmas.List.{drop_at, length-append, length-reverse, take-append-le, take_all}
use Rattle.count_machine_model.specs.holder_model.States as low
use Rattle.count_machine_model.specs.holder_model.LoweredRun.LowFrames.{LowFrame}
use Rattle.count_machine_model.specs.declared.machine_steps.address.OpenSlot.{OpenSlot}
use Rattle.count_machine_model.specs.declared.machine_steps.frame.Frame.{Frame}
use Rattle.count_machine_model.specs.declared.machine_steps.frame.Task.{Task}
use Rattle.count_machine_model.specs.MachineSteps.Turning.{dropping}
use Rattle.count_machine_model.specs.MachineSteps.Views.{MachineView}
use Rattle.holder_model_values.specs.RunValues.Memory.{Memory}
use Rattle.sil_ast.specs.declared.function.Function.{Function}
use Rattle.sil_ast.specs.declared.module.Module.{Module}
use Rattle.sil_ast.specs.declared.place.ObjectId.{ObjectId}
use Rattle.count_machine_laws.proofs.Agreement.{ends_of}
use Rattle.count_machine_laws.proofs.Entries.{Ends, FrameAgrees}
use Rattle.count_machine_laws.proofs.Grows.{Grows, WereMade}
use Rattle.count_machine_laws.proofs.GrowsBy.{grows_objects, objects_stay, serial_of}
use Rattle.count_machine_laws.proofs.GrowsTasks.{KeepsBelow, frame_grows, keeps_itself, tasks_keep}
use Rattle.count_machine_laws.proofs.Puts.{ends_are}
use Rattle.count_machine_laws.proofs.Slots.{Made}
use Rattle.count_machine_laws.proofs.Tasks.{Beginning, ReadyFor, TasksAgree, drops, to_go_on}

pub grows_same : {m : Module} {made : List Made} {mem : Memory} {slots slots' : List OpenSlot} → WereMade made slots → slots' ≡ slots → Grows m made mem slots made mem slots'
grows_same {mem = mem} were same = grows_objects were (objects_stay mem mem refl) (ap (map serial_of) same)

module _ {m : Module} {made : List Made} {mem : Memory} {st st' : MachineView} (were : WereMade made st.slots) (same : st'.slots ≡ st.slots) where
  pub frame_same : {f : Function} {lf : LowFrame} {mf : Frame} {below above : Ends} → KeepsBelow above st st' → FrameAgrees m made mem st f lf mf below above
      → FrameAgrees m made mem st' f lf mf below above
  frame_same keeps agrees = frame_grows (grows_same were same) keeps agrees

  pub tasks_same : {entry : Beginning} {r : ReadyFor} {ends : Ends} {ts : List (low.Task LowFrame)} {ts' : List Task} → KeepsBelow ends st st'
      → TasksAgree m entry made mem st r ends ts ts' → TasksAgree m entry made mem st' r ends ts ts'
  tasks_same keeps agrees = tasks_keep (grows_same were same) keeps (λ o now. refl) agrees

-- references begin to wait
pub dropping_keeps : (os : List ObjectId) (st : MachineView) → KeepsBelow (ends_of st) st (dropping os st)
dropping_keeps [] st = keeps_itself (ends_of st) st
dropping_keeps (o ∷ os) st = record {
  there = refl;
  leaves = refl;
  addresses = refl;
  serials = refl;
  waiting = take-append-le (length st.waiting) st.waiting (reverse (o ∷ os)) (omega arith);
}

pub dropping_agrees : {m : Module} {entry : Beginning} {made : List Made} {mem : Memory} {st : MachineView} {ts : List (low.Task LowFrame)} → WereMade made st.slots → (os : List ObjectId)
    → TasksAgree m entry made mem st to_go_on (ends_of st) ts st.tasks
    → TasksAgree m entry made mem (dropping os st) to_go_on (ends_of (dropping os st)) (low.dropping os ts) (dropping os st).tasks
dropping_agrees were [] agrees = agrees
dropping_agrees {st = st} {ts = ts} were (o ∷ os) agrees =
    let refs = o ∷ os in
    let now = dropping refs st in
    let count : length (reverse refs) ≡ length refs = length-reverse refs in
    let waiting : length now.waiting ≡ length st.waiting + length refs = length-append st.waiting (reverse refs) ∙ ap (λ n. length st.waiting + n) count in
    drops o os (ends_of st) (ends_of now) ts st.tasks (ends_are (ends_of now) (record (ends_of st) { waiting = length st.waiting + length refs }) refl refl refl refl waiting)
    (ap (take (length refs)) (drop_at st.waiting (reverse refs) (length st.waiting) refl) ∙ take_all (length refs) (reverse refs) (omega (arith, count)))
    (tasks_same were refl (dropping_keeps refs st) agrees)

-- Objects that are being deinitialised by the tasks, and tasks where another object changes.
use Rattle.std.proofs.Common.{◌≡◌, ◌<◌, ◌==◌, ◌⊎◌, ◌∙◌, inl, inr, List, Bool, true, false, length, refl, sym, ap}
use Rattle.std.specs.Prelude.{unwrap_or}
use Rattle.std.proofs.lemmas.Bool.{cases_eq, eqb-true, false≢true, or_cases, true≢false}
use Rattle.count_machine_model.specs.holder_model.Outcomes.{object_number}
use Rattle.count_machine_model.specs.holder_model.States as low
use Rattle.count_machine_model.specs.holder_model.LoweredRun.LowFrames.{LowFrame}
use Rattle.count_machine_model.specs.declared.machine_steps.frame.Task.{Task}
use Rattle.count_machine_model.specs.MachineSteps.Views.{MachineView}
use Rattle.holder_model_values.specs.RunValues.Memory.{Memory, Object, is_live, is_live_phase, no_object, object_at, with_object}
use Rattle.holder_model_values.specs.declared.run_values.phase.Phase.TheVariants.{Deiniting}
use Rattle.sil_ast.specs.declared.module.Module.{Module}
use Rattle.sil_ast.specs.declared.place.ObjectId.{ObjectId}
use Rattle.count_machine_laws.proofs.Entries.{Ends}
use Rattle.count_machine_laws.proofs.Grows.{WereMade}
use Rattle.count_machine_laws.proofs.GrowsBy.{grows_objects, object_changed}
use Rattle.count_machine_laws.proofs.GrowsTasks.{PhasesStay, keeps_itself, tasks_keep}
use Rattle.count_machine_laws.proofs.LayoutsLists.{get_set}
use Rattle.count_machine_laws.proofs.NumbersPut.{get_put_other}
use Rattle.count_machine_laws.proofs.Slots.{Made}
use Rattle.count_machine_laws.proofs.Tasks.{Beginning, ReadyFor, TasksAgree, bottom, dropped, drops, finishes, is_finishing, runs, waits}

pub same_object : (o p : ObjectId) → o.0 ≡ p.0 → o ≡ p
same_object o p e = ap object_number e

pub finishing_phase : {m : Module} {entry : Beginning} {made : List Made} {mem : Memory} {st : MachineView} {r : ReadyFor} {ends : Ends} {ts : List (low.Task LowFrame)} {ts' : List Task}
    → TasksAgree m entry made mem st r ends ts ts' → (o : ObjectId) → is_finishing o ts' ≡ true → (object_at mem o).phase ≡ Deiniting
finishing_phase bottom o now = absurd (false≢true now)
finishing_phase (runs f lf mf below above rest rest' reaches frame others) o now = finishing_phase others o now
finishing_phase (waits s f lf mf below above rest rest' reaches frame awaits others) o now = finishing_phase others o now
finishing_phase (drops p os below above rest rest' ends waiting others) o now = finishing_phase others o now
finishing_phase (dropped ends rest rest' others) o now = finishing_phase others o now
finishing_phase {mem = mem} (finishes r gs p called ends rest rest' was_made phase deinits once others) o now =
    at (finishing_phase others o) (or_cases (o.0 == p.0) (is_finishing o rest') now)
  where
    at : (is_finishing o rest' ≡ true → (object_at mem o).phase ≡ Deiniting) → (o.0 == p.0 ≡ true) ⊎ (is_finishing o rest' ≡ true) → (object_at mem o).phase ≡ Deiniting
    at of_others (inl e) = ap (λ q. (object_at mem q).phase) (same_object o p (eqb-true o.0 p.0 e)) ∙ phase
    at of_others (inr e) = of_others e

-- a live object isn't being deinitialised
pub live_not_finishing : {m : Module} {entry : Beginning} {made : List Made} {mem : Memory} {st : MachineView} {r : ReadyFor} {ends : Ends} {ts : List (low.Task LowFrame)}
    {ts' : List Task} → TasksAgree m entry made mem st r ends ts ts' → (o : ObjectId) → is_live mem o ≡ true → is_finishing o ts' ≡ false
live_not_finishing {mem = mem} {ts' = ts'} tasks o live = at (is_finishing o ts') refl
  where
    at : (b : Bool) → is_finishing o ts' ≡ b → is_finishing o ts' ≡ false
    at true e = absurd (false≢true (sym (ap is_live_phase (finishing_phase tasks o e)) ∙ live))
    at false e = e

-- an object in place of another one of its class

pub object_there : (mem : Memory) (o : ObjectId) (x : Object) → o.0 < length mem.objects → object_at (with_object mem o x) o ≡ x
object_there mem o x below = ap (λ y. unwrap_or y no_object) (get_set mem.objects o.0 x below)

other_object : (mem : Memory) (o p : ObjectId) (x : Object) → (o.0 ≡ p.0 → ⊥) → object_at (with_object mem o x) p ≡ object_at mem p
other_object mem o p x ne = ap (λ y. unwrap_or y no_object) (get_put_other mem.objects o.0 p.0 x ne)

phases_put : (mem : Memory) (o : ObjectId) (x : Object) (ts : List Task) → is_finishing o ts ≡ false → PhasesStay mem (with_object mem o x) ts
phases_put mem o x ts not_now p now = at (cases_eq o.0 p.0)
  where
    at : (o.0 ≡ p.0) ⊎ (o.0 ≡ p.0 → ⊥) → (object_at (with_object mem o x) p).phase ≡ (object_at mem p).phase
    at (inl e) = absurd (true≢false (sym now ∙ ap (λ q. is_finishing q ts) (sym (same_object o p e)) ∙ not_now))
    at (inr ne) = ap (λ y. y.phase) (other_object mem o p x ne)

pub tasks_put : {m : Module} {entry : Beginning} {made : List Made} {mem : Memory} {st : MachineView} {r : ReadyFor} {ends : Ends} {ts : List (low.Task LowFrame)} {ts' : List Task}
    → WereMade made st.slots → (o : ObjectId) (x : Object) → x.class ≡ (object_at mem o).class → is_finishing o ts' ≡ false
    → TasksAgree m entry made mem st r ends ts ts' → TasksAgree m entry made (with_object mem o x) st r ends ts ts'
tasks_put {mem = mem} {st = st} {ends = ends} {ts' = ts'} were o x same not_now tasks =
    tasks_keep {st = st} {st' = st} (grows_objects were (object_changed mem o x same) refl) (keeps_itself ends st) (phases_put mem o x ts' not_now) tasks

-- A frame goes on over the others.
use Rattle.std.proofs.Common.{◌≡◌, ◌∙◌, ℕ, List, [], ◌∷◌, Option, Some, None, map, refl, ap}
use Rattle.std.specs.Prelude.{Err, Ok}
use Rattle.std.specs.declared.result.Result.{Result}
use Rattle.count_machine_model.specs.holder_model.Data.{Datum}
use Rattle.count_machine_model.specs.holder_model.Effects.{unchanged}
use Rattle.count_machine_model.specs.holder_model.ModuleShapes.{ModuleShapes}
use Rattle.count_machine_model.specs.holder_model.Standing.{behind}
use Rattle.count_machine_model.specs.holder_model.States as low
use Rattle.sil_cfg_items.specs.Items.{item_defined}
use Rattle.count_machine_model.specs.holder_model.declared.lowered_run.low_fault.LowFault.{LowFault}
use Rattle.count_machine_model.specs.holder_model.LoweredRun.LowFrames.{LowFrame, and_others, put_all, read_all, there, value_at}
use Rattle.count_machine_model.specs.holder_model.LoweredRun.LowStepParts.{LowNext, LowState, numbers_for, on_ok, on_some}
use Rattle.count_machine_model.specs.holder_model.LoweredRun.LowSteps.{goes_on}
use Rattle.count_machine_model.specs.declared.machine_steps.frame.Frame.{Frame}
use Rattle.count_machine_model.specs.declared.machine_steps.frame.Task.{Task}
use Rattle.count_machine_model.specs.declared.machine_steps.frame.Task.TheVariants as task
use Rattle.count_machine_model.specs.MachineSteps.Operands.{put}
use Rattle.count_machine_model.specs.MachineSteps.Views.{MachineView}
use Rattle.count_machine_model.specs.holder_model.RunTyping.Forms.{given_shape}
use Rattle.count_machine_model.specs.ReadyCode.ReadyModules.{Reaches}
use Rattle.holder_model_values.specs.RunValues.Memory.{Memory}
use Rattle.sil_ast.specs.declared.function.Function.{Function}
use Rattle.sil_ast.specs.declared.module.Module.{Module}
use Rattle.sil_ast.specs.declared.place.ValueId.{ValueId}
use Rattle.sil_cfg.specs.declared.item.Item.{Item}
use Rattle.sil_types_declarations.specs.TypeDefinitions.Declarations.{declarations_of}
use Rattle.count_machine_laws.proofs.Agreement.{Agrees, PartsAgree, ends_of}
use Rattle.count_machine_laws.proofs.DropTasks.{tasks_move}
use Rattle.count_machine_laws.proofs.Ending.{parts_with}
use Rattle.count_machine_laws.proofs.Entries.{Ends, FrameAgrees}
use Rattle.count_machine_laws.proofs.Grows.{WereMade, were_made}
use Rattle.count_machine_laws.proofs.GrowsBy.{grows_objects, objects_stay, serial_of}
use Rattle.count_machine_laws.proofs.GrowsTasks.{frame_grows, keeps_slots}
use Rattle.count_machine_laws.proofs.Slots.{Made}
use Rattle.count_machine_laws.proofs.Tasks.{Beginning, TasksAgree, runs, to_take}

-- a frame and what was read agree with a view whose stacks are the same

pub frame_moves : {m : Module} {made : List Made} {mem : Memory} {st st' : MachineView} {f : Function} {lf : LowFrame} {mf : Frame} {below above : Ends}
    → WereMade made st.slots → st'.there ≡ st.there → st'.leaves ≡ st.leaves → st'.addresses ≡ st.addresses → st'.slots ≡ st.slots → st'.waiting ≡ st.waiting
    → FrameAgrees m made mem st f lf mf below above → FrameAgrees m made mem st' f lf mf below above
frame_moves {mem = mem} {st = st} {st' = st'} {above = above} were is_there leaves addresses slots waiting frame =
    frame_grows {st = st} {st' = st'} (grows_objects were (objects_stay mem mem refl) (ap (map serial_of) slots))
    (keeps_slots above st st' is_there leaves addresses waiting (ap (map serial_of) slots)) frame

-- the frame goes on
pub frame_goes_on : {m : Module} {entry : Beginning} {made : List Made} {s : LowState} {st : MachineView} {f : Function} {lf : LowFrame} {mf : Frame} {below : Ends}
    {rest : List (low.Task LowFrame)} {rest' : List Task} → PartsAgree m made s st → Reaches entry.reached mf.function → FrameAgrees m made s.memory st f lf mf below (ends_of st)
    → TasksAgree m entry made s.memory st (to_take (given_shape (declarations_of m) f)) below rest rest'
    → Agrees m entry made (record s { tasks = low.Runs lf ∷ rest }) (record st { tasks = task.Runs mf ∷ rest' })
frame_goes_on {st = st} {f = f} {lf = lf} {mf = mf} {below = below} {rest = rest} {rest' = rest'} parts reaches frame others = record {
  parts = parts_with parts (low.Runs lf ∷ rest) (task.Runs mf ∷ rest');
  tasks = runs f lf mf below (ends_of st) rest rest' reaches
      (frame_moves {st = st} {st' = record st { tasks = task.Runs mf ∷ rest' }} (were_made parts.memory.slots) refl refl refl refl refl frame)
      (tasks_move {st = st} {st' = record st { tasks = task.Runs mf ∷ rest' }} (were_made parts.memory.slots) refl refl refl refl refl others);
}

-- an item that leaves results alone
pub goes_on_plain : (m : Module) (told : ModuleShapes) (bound : ℕ) (s : LowState) (rest : List (low.Task LowFrame)) (lf : LowFrame) (f : Function) (i : Item) (xs : List Datum)
    (values : List (Option Datum)) → numbers_for s.memory s.numbers ≡ s.numbers → put_all (item_defined f i) xs lf.values ≡ Some values
    → goes_on m told bound s rest lf f i (record (unchanged s.memory) { results = xs })
    ≡ low.Goes (record s { tasks = low.Runs (record lf { at = behind f i; values = values }) ∷ rest })
goes_on_plain m told bound s rest lf f i xs values stay put =
    ap (on_some s (λ values. low.Goes (record s { tasks = low.Runs (record lf { at = behind f i; values = values }) ∷ rest; numbers = numbers_for s.memory s.numbers }))) put
    ∙ ap (λ ns. low.Goes (record s { tasks = low.Runs (record lf { at = behind f i; values = values }) ∷ rest; numbers = ns })) stay

-- a value that was read, and others behind it

there_read : (v : ValueId) (d : Option Datum) (x : Datum) → and_others (there v d) (Ok []) ≡ Ok (x ∷ []) → there v d ≡ Ok x
there_read v None x e = absurd (cc)
there_read v (Some y) x e = cc

on_others : (s : LowState) (go : List Datum → LowNext) (x : Datum) (r : Result (List Datum) LowFault) → on_ok s go (and_others (Ok x) r) ≡ on_ok s (λ ys. go (x ∷ ys)) r
on_others s go x (Ok ys) = refl
on_others s go x (Err f) = refl

pub read_behind : (s : LowState) (go : List Datum → LowNext) (values : List (Option Datum)) (v : ValueId) (x : Datum) (vs : List ValueId) → read_all values (v ∷ []) ≡ Ok (x ∷ [])
    → on_ok s go (read_all values (v ∷ vs)) ≡ on_ok s (λ ys. go (x ∷ ys)) (read_all values vs)
read_behind s go values v x vs first =
    ap (λ y. on_ok s go (and_others y (read_all values vs))) (there_read v (value_at values v) x first) ∙ on_others s go x (read_all values vs)

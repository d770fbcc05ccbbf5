-- A frame goes on: it stands at an instruction, and its operands are read.
use Rattle.std.proofs.Common.{◌≡◌, ℕ, List, ◌∷◌, Bool, true, false, Some, ap, subst}
use Rattle.std.specs.Prelude.{Ok}
use Rattle.count_machine_model.specs.holder_model.Data.{Datum}
use Rattle.count_machine_model.specs.holder_model.ModuleShapes.{shapes_in, shapes_of}
use Rattle.count_machine_model.specs.holder_model.States as low
use Rattle.sil_cfg_items.specs.Parts.{inst_at}
use Rattle.count_machine_model.specs.holder_model.LoweredRun.LowEffects.{low_effect}
use Rattle.count_machine_model.specs.holder_model.LoweredRun.LowFrames.{LowFrame, read_all}
use Rattle.count_machine_model.specs.holder_model.LoweredRun.LowStepParts.{LowNext, LowState, on_ok}
use Rattle.count_machine_model.specs.holder_model.LoweredRun.LowSteps as run
use Rattle.count_machine_model.specs.holder_model.declared.lowered_run.low_fault.LowFault.TheVariants as fault
use Rattle.count_machine_model.specs.declared.machine_steps.frame.Frame.{Frame}
use Rattle.count_machine_model.specs.declared.machine_steps.frame.Task.{Task}
use Rattle.count_machine_model.specs.declared.machine_steps.frame.Task.TheVariants as task
use Rattle.count_machine_model.specs.MachineSteps.Operands.{unless_missing, with_all}
use Rattle.count_machine_model.specs.MachineSteps.Rows as machine
use Rattle.count_machine_model.specs.MachineSteps.Views.{MachineView, Went}
use Rattle.numbered_form.specs.Lists.{Each}
use Rattle.count_machine_model.specs.ReadyCode.ReadyModules.{Reaches}
use Rattle.count_machine_model.specs.declared.ready_code.function.ReadyModule.{ReadyModule}
use Rattle.count_machine_model.specs.declared.ready_code.op.ReadyOp.{ReadyOp}
use Rattle.count_machine_model.specs.declared.ready_code.op.ReadyOp.TheVariants as op
use Rattle.count_machine_model.specs.ReadyCode.ReadyOps.{IsReadyOp, operands_of}
use Rattle.count_machine_model.specs.holder_model.RunTyping.CallForms.{IsOf}
use Rattle.count_machine_model.specs.holder_model.RunTyping.Forms.{given_shape}
use Rattle.count_machine_model.specs.holder_model.RunTyping.RunTyped.{InstIsTyped, RunTyped}
use Rattle.sil_ast.specs.declared.function.Function.{Function}
use Rattle.sil_ast.specs.declared.inst.Inst.{Inst}
use Rattle.sil_ast.specs.declared.module.Module.{Module}
use Rattle.sil_ast.specs.declared.place.ValueId.{ValueId}
use Rattle.sil_cfg.specs.declared.item.Item.TheVariants as item
use Rattle.sil_types_declarations.specs.TypeDefinitions.Declarations.{declarations_of}
use Rattle.count_machine_laws.proofs.Agreement.{PartsAgree, ends_of}
use Rattle.count_machine_laws.proofs.Ending.{Alike, alike_by, fault_alike}
use Rattle.count_machine_laws.proofs.Entries.{Ends, FrameAgrees}
use Rattle.count_machine_laws.proofs.Operands.{AllRead, OperandsRead, missing, operands_read, read}
use Rattle.count_machine_laws.proofs.Slots.{Made}
use Rattle.count_machine_laws.proofs.Tasks.{Beginning, TasksAgree, to_take}

-- the first task is a frame of the function f, which the run can come to, over others. Of the run's state its tasks don't matter: `does` is told the frame and the others
pub record Running (m : Module) (entry : Beginning) (made : List Made) (s : LowState) (st : MachineView) (f : Function) (lf : LowFrame) (mf : Frame) (below : Ends)
    (rest : List (low.Task LowFrame)) (rest' : List Task) : Type 0 where
  pub parts : PartsAgree m made s st
  pub reached : Reaches entry.reached mf.function
  pub frame : FrameAgrees m made s.memory st f lf mf below (ends_of st)
  pub others : TasksAgree m entry made s.memory st (to_take (given_shape (declarations_of m) f)) below rest rest'
  pub tasks : st.tasks ≡ task.Runs mf ∷ rest'

-- it stands at an instruction, that is made ready
pub record StandsAt (m : Module) (f : Function) (lf : LowFrame) (i : Inst) (o : ReadyOp) : Type 0 where
  pub inst : inst_at f lf.at ≡ Some i
  pub typed : InstIsTyped m f lf.at i
  pub made_ready : IsReadyOp m f i o

abbrev pub is_call : ReadyOp → Bool
is_call (op.Look v) = false
is_call (op.Literal n to) = false
is_call (op.Function to) = false
is_call (op.Compute o w left right other to) = false
is_call (op.TrapWhereSet l) = false
is_call (op.MakeObject k to) = false
is_call (op.MakeSlot size to) = false
is_call (op.RemoveSlot a) = false
is_call (op.Same from to) = false
is_call (op.Retain l) = false
is_call (op.Drop l) = false
is_call (op.Load a to) = false
is_call (op.Store from a) = false
is_call (op.LoadName w takes a to) = false
is_call (op.StoreName w first from a) = false
is_call (op.ForgetName w a) = false
is_call (op.Group ls to) = false
is_call (op.Choose k payload to) = false
is_call (op.Member l from to) = false
is_call (op.MemberAddress a from to) = false
is_call (op.FieldAddress l k to) = false
is_call (op.Call g operands values addresses to) = true
is_call (op.CallOut g operands args to) = true

-- values are read by both alike

pub reads_known : {m : Module} {entry : Beginning} {made : List Made} {s : LowState} {st : MachineView} {f : Function} {lf : LowFrame} {mf : Frame} {below above : Ends}
    → PartsAgree m made s st → FrameAgrees m made s.memory st f lf mf below above → (vs : List ValueId) → Each (IsOf f) vs → (go : List Datum → LowNext) (w : Went)
    → ((xs : List Datum) → AllRead m made s.memory st f mf vs xs → read_all lf.values vs ≡ Ok xs → Alike m entry (go xs) w)
    → Alike m entry (on_ok s go (read_all lf.values vs)) (with_all st mf vs w)
reads_known {m = m} {entry = entry} {made = made} {s = s} {st = st} {f = f} {lf = lf} {mf = mf} parts frame vs are_of go w then =
    at (operands_read m made s.memory st frame vs are_of)
  where
    at : OperandsRead m made s.memory st f lf mf vs → Alike m entry (on_ok s go (read_all lf.values vs)) (with_all st mf vs w)
    at (missing v found err) = alike_by (ap (on_ok s go) err) (ap (λ x. unless_missing x st w) found) (fault_alike parts (fault.Missing v))
    at (read xs found ok all) = alike_by (ap (on_ok s go) ok) (ap (λ x. unless_missing x st w) found) (then xs all ok)

pub reads_alike : {m : Module} {entry : Beginning} {made : List Made} {s : LowState} {st : MachineView} {f : Function} {lf : LowFrame} {mf : Frame} {below above : Ends}
    → PartsAgree m made s st → FrameAgrees m made s.memory st f lf mf below above → (vs : List ValueId) → Each (IsOf f) vs → (go : List Datum → LowNext) (w : Went)
    → ((xs : List Datum) → AllRead m made s.memory st f mf vs xs → Alike m entry (go xs) w) → Alike m entry (on_ok s go (read_all lf.values vs)) (with_all st mf vs w)
reads_alike parts frame vs are_of go w then = reads_known parts frame vs are_of go w (λ xs all ok. then xs all)

-- an instruction reads its operands, and then it does by them what the machine does
module _ (m : Module) (ready : ReadyModule) (entry : Beginning) (bound : ℕ) (typed : RunTyped m) (made : List Made) (s : LowState) (st : MachineView) (f : Function) (lf : LowFrame)
    (mf : Frame) (below : Ends) (rest : List (low.Task LowFrame)) (rest' : List Task) (running : Running m entry made s st f lf mf below rest rest')
    (i : Inst) (o : ReadyOp) (stands : StandsAt m f lf i o) where
  -- with the operands that were read: the run by what the instruction does, and the machine
  abbrev pub DoAlike : List Datum → Type 0
  DoAlike xs = Alike m entry
      (run.performs m (shapes_of m) bound (run.with_names m (shapes_of m) bound s lf i xs) rest lf f (item.Inst lf.at)
      (low_effect (declarations_of m) (shapes_of m) (shapes_in (shapes_of m) lf.function) s.memory i xs))
      (machine.does ready bound st mf rest' o)

  operands_are_of : Each (IsOf f) (operands_of i)
  operands_are_of =
      subst (Each (IsOf f)) stands.typed.takes ((typed.functions lf.function.0 f running.frame.there).items (item.Inst lf.at)).taken

  pub row_alike : machine.read_by ready bound st mf rest' o ≡ operands_of i
      → ((xs : List Datum) → AllRead m made s.memory st f mf (operands_of i) xs → DoAlike xs)
      → Alike m entry (run.does m (shapes_of m) bound s rest lf f i) (machine.performs ready bound st mf rest' o)
  row_alike reads then =
      alike_by (ap (λ vs. on_ok s going (read_all lf.values vs)) stands.typed.takes) (ap (λ vs. with_all st mf vs (machine.does ready bound st mf rest' o)) reads)
      (reads_alike running.parts running.frame (operands_of i) operands_are_of going (machine.does ready bound st mf rest' o) then)
    where
      going : List Datum → LowNext
      going xs =
          run.performs m (shapes_of m) bound (run.with_names m (shapes_of m) bound s lf i xs) rest lf f (item.Inst lf.at)
          (low_effect (declarations_of m) (shapes_of m) (shapes_in (shapes_of m) lf.function) s.memory i xs)

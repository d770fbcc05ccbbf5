-- The tasks of a run of lowered code, and those of the machine, which has none where no reference waits.
use Rattle.std.proofs.Common.{◌≡◌, ◌<◌, ◌+◌, ◌==◌, ◌||◌, ℕ, List, [], ◌∷◌, Bool, true, false, Some, length}
use Rattle.std.specs.Prelude.{drop, reverse, slice_get, take}
use Rattle.count_machine_model.specs.holder_model.declared.row_effect.RowEffect.TheVariants as row
use Rattle.count_machine_model.specs.holder_model.Dropping.{deinits_of}
use Rattle.count_machine_model.specs.holder_model.Effects.{effect_of}
use Rattle.count_machine_model.specs.holder_model.Frames.{has_any}
use Rattle.count_machine_model.specs.holder_model.States as low
use Rattle.sil_cfg_items.specs.Parts.{inst_at}
use Rattle.count_machine_model.specs.holder_model.LoweredRun.LowFrames.{LowFrame}
use Rattle.count_machine_model.specs.declared.machine_steps.frame.Frame.{Frame}
use Rattle.count_machine_model.specs.declared.machine_steps.frame.Task.{Task}
use Rattle.count_machine_model.specs.declared.machine_steps.frame.Task.TheVariants as task
use Rattle.count_machine_model.specs.MachineSteps.Views.{MachineView}
use Rattle.count_machine_model.specs.ReadyCode.ReadyModules.{Reaches}
use Rattle.count_machine_model.specs.ReadyCode.ReadyOps.{operands_of}
use Rattle.count_machine_model.specs.holder_model.RunTyping.Forms.{OfFunction, OfValue, form_of, given_shape}
use Rattle.holder_model_values.specs.RunValues.Memory.{Memory, object_at}
use Rattle.holder_model_values.specs.RunValues.Shapes.{Shape}
use Rattle.holder_model_values.specs.declared.run_values.phase.Phase.TheVariants.{Deiniting}
use Rattle.sil_ast.specs.declared.function.Function.{Function}
use Rattle.sil_ast.specs.declared.inst.Inst.{Inst}
use Rattle.sil_ast.specs.declared.module.Module.{Module}
use Rattle.sil_ast.specs.declared.place.FuncId.{FuncId}
use Rattle.sil_ast.specs.declared.place.ObjectId.{ObjectId}
use Rattle.sil_ast.specs.declared.place.ValueId.{ValueId}
use Rattle.sil_types_declarations.specs.TypeDefinitions.Declarations.{declarations_of}
use Rattle.count_machine_laws.proofs.Entries.{Ends, FrameAgrees}
use Rattle.count_machine_laws.proofs.Slots.{Made}

-- what the first task is ready for: to go on, or to take what a callee returns, of a shape
pub data ReadyFor : Type 0 where
  to_go_on : ReadyFor
  to_take : (s : Shape) → ReadyFor

-- a frame waits at a call of a function with a body, whose result has the shape
pub record AwaitsAt (m : Module) (f : Function) (lf : LowFrame) (s : Shape) : Type 0 where
  pub call : Inst
  pub there : inst_at f lf.at ≡ Some call
  pub calls : effect_of call.op ≡ row.CallsFunction
  pub callee : ValueId
  pub args : List ValueId
  pub operands : operands_of call ≡ callee ∷ args
  pub g : FuncId
  pub names : form_of (declarations_of m) f callee ≡ OfFunction g
  pub body : Function
  pub body_there : slice_get m.functions g.0 ≡ Some body
  pub bodied : has_any body.blocks ≡ true
  pub result : ValueId
  pub results : call.results ≡ result ∷ []
  pub form : form_of (declarations_of m) f result ≡ OfValue s

-- the object is being deinitialised by one of the tasks
abbrev pub is_finishing : ObjectId → List Task → Bool
is_finishing o [] = false
is_finishing o (task.Runs fr ∷ rest) = is_finishing o rest
is_finishing o (task.Drops from ∷ rest) = is_finishing o rest
is_finishing o (task.Finishes p called ∷ rest) = (o.0 == p.0) || is_finishing o rest

abbrev pub no_ends : Ends
no_ends = record { values = 0; leaves = 0; addresses = 0; slots = 0; waiting = 0 }

-- where a run begins: the shape of what its entry function gives, and the functions that the run can come to
pub record Beginning : Type 0 where
  pub gives : Shape
  pub reached : List Bool

-- each frame is of a function that the run can come to
pub data TasksAgree (m : Module) (entry : Beginning) (made : List Made) (mem : Memory) (st : MachineView) : ReadyFor → Ends → List (low.Task LowFrame) → List Task → Type 0 where
  bottom : TasksAgree m entry made mem st (to_take entry.gives) no_ends [] []
  runs : (f : Function) (lf : LowFrame) (mf : Frame) (below above : Ends) (rest : List (low.Task LowFrame)) (rest' : List Task)
      → Reaches entry.reached mf.function → FrameAgrees m made mem st f lf mf below above
      → TasksAgree m entry made mem st (to_take (given_shape (declarations_of m) f)) below rest rest'
      → TasksAgree m entry made mem st to_go_on above (low.Runs lf ∷ rest) (task.Runs mf ∷ rest')
  waits : (s : Shape) (f : Function) (lf : LowFrame) (mf : Frame) (below above : Ends) (rest : List (low.Task LowFrame)) (rest' : List Task)
      → Reaches entry.reached mf.function → FrameAgrees m made mem st f lf mf below above → AwaitsAt m f lf s
      → TasksAgree m entry made mem st (to_take (given_shape (declarations_of m) f)) below rest rest'
      → TasksAgree m entry made mem st (to_take s) above (low.Runs lf ∷ rest) (task.Runs mf ∷ rest')
  drops : (o : ObjectId) (os : List ObjectId) (below above : Ends) (rest : List (low.Task LowFrame)) (rest' : List Task)
      → above ≡ record below { waiting = below.waiting + length (o ∷ os) } → take (length (o ∷ os)) (drop below.waiting st.waiting) ≡ reverse (o ∷ os)
      → TasksAgree m entry made mem st to_go_on below rest rest'
      → TasksAgree m entry made mem st to_go_on above (low.Drops (o ∷ os) ∷ rest) (task.Drops below.waiting ∷ rest')
  dropped : (ends : Ends) (rest : List (low.Task LowFrame)) (rest' : List Task) → TasksAgree m entry made mem st to_go_on ends rest rest'
      → TasksAgree m entry made mem st to_go_on ends (low.Drops [] ∷ rest) rest'
  finishes : (r : ReadyFor) (gs : List FuncId) (o : ObjectId) (called : ℕ) (ends : Ends) (rest : List (low.Task LowFrame)) (rest' : List Task)
      → o.0 < length mem.objects → (object_at mem o).phase ≡ Deiniting → gs ≡ drop called (deinits_of (declarations_of m) (object_at mem o).class)
      → is_finishing o rest' ≡ false → TasksAgree m entry made mem st to_go_on ends rest rest'
      → TasksAgree m entry made mem st r ends (low.Finishes gs o ∷ rest) (task.Finishes o called ∷ rest')

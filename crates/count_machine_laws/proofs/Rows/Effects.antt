-- An instruction by what its row does: its operands are read, and then the run and the machine do alike.
use Rattle.std.proofs.Common.{◌≡◌, ℕ, List, sym, subst}
use Rattle.count_machine_model.specs.holder_model.Data.{Datum}
use Rattle.count_machine_model.specs.holder_model.Effects.{Effect, effect_by, effect_of}
use Rattle.count_machine_model.specs.holder_model.ModuleShapes.{shapes_in, shapes_of}
use Rattle.count_machine_model.specs.holder_model.States as low
use Rattle.count_machine_model.specs.holder_model.declared.row_effect.RowEffect.{RowEffect}
use Rattle.count_machine_model.specs.holder_model.LoweredRun.LowEffects.{at_places, operated_on, stored_by, unless_dead}
use Rattle.count_machine_model.specs.holder_model.LoweredRun.LowFrames.{LowFrame}
use Rattle.count_machine_model.specs.holder_model.LoweredRun.LowStepParts.{LowNext, LowState}
use Rattle.count_machine_model.specs.holder_model.LoweredRun.LowSteps as run
use Rattle.count_machine_model.specs.holder_model.declared.lowered_run.low_fault.LowFault.{LowFault}
use Rattle.count_machine_model.specs.declared.machine_steps.frame.Frame.{Frame}
use Rattle.count_machine_model.specs.declared.machine_steps.frame.Task.{Task}
use Rattle.count_machine_model.specs.MachineSteps.Rows as machine
use Rattle.count_machine_model.specs.MachineSteps.Views.{MachineView}
use Rattle.numbered_form.specs.Lists.{Each}
use Rattle.count_machine_model.specs.declared.ready_code.function.ReadyModule.{ReadyModule}
use Rattle.count_machine_model.specs.declared.ready_code.op.ReadyOp.{ReadyOp}
use Rattle.count_machine_model.specs.ReadyCode.ReadyOps.{operands_of}
use Rattle.count_machine_model.specs.holder_model.RunTyping.CallForms.{IsOf}
use Rattle.count_machine_model.specs.holder_model.RunTyping.Forms.{forms_of}
use Rattle.count_machine_model.specs.holder_model.RunTyping.RunTyped.{RunTyped}
use Rattle.holder_model_values.specs.RunValues.Shapes.{Shape}
use Rattle.sil_ast.specs.declared.function.Function.{Function}
use Rattle.sil_ast.specs.declared.inst.Inst.{Inst}
use Rattle.sil_ast.specs.declared.module.Module.{Module}
use Rattle.sil_cfg.specs.declared.item.Item.TheVariants as item
use Rattle.sil_types_declarations.specs.TypeDefinitions.Declarations.{Declarations, declarations_of}
use Rattle.count_machine_laws.proofs.Ending.{Alike}
use Rattle.count_machine_laws.proofs.Entries.{Ends}
use Rattle.count_machine_laws.proofs.FrameSteps.{Running, StandsAt, row_alike}
use Rattle.count_machine_laws.proofs.Operands.{AllRead}
use Rattle.count_machine_laws.proofs.Rows.Forms.{FormsAt, forms_at}
use Rattle.count_machine_laws.proofs.Rows.Steps.{defined_by}
use Rattle.count_machine_laws.proofs.Slots.{Made}
use Rattle.count_machine_laws.proofs.Tasks.{Beginning}

-- a frame of a module that is made ready runs
pub record Runs (m : Module) (entry : Beginning) : Type 0 where
  pub ready : ReadyModule
  pub bound : ℕ
  pub typed : RunTyped m
  pub made : List Made
  pub s : LowState
  pub st : MachineView
  pub f : Function
  pub lf : LowFrame
  pub mf : Frame
  pub below : Ends
  pub rest : List (low.Task LowFrame)
  pub rest' : List Task
  pub running : Running m entry made s st f lf mf below rest rest'
  pub i : Inst

module _ {m : Module} {entry : Beginning} (r : Runs m entry) where
  abbrev pub d : Declarations
  d = declarations_of m

  abbrev pub values : List Shape
  values = shapes_in (shapes_of m) r.lf.function

  -- what the row does by these operands
  abbrev pub effect_at : RowEffect → List Datum → Effect LowFault
  effect_at e xs =
      unless_dead d (shapes_of m) values r.s.memory r.i (operated_on d (shapes_of m) values r.s.memory r.i e xs)
      (effect_by d (shapes_of m) values r.s.memory r.i (at_places d (shapes_of m) values r.s.memory r.i) e xs)

  abbrev pub named_at : RowEffect → List Datum → LowState
  named_at e xs = record r.s { numbers = stored_by d (shapes_of m) values r.s.memory r.i e xs r.s.numbers }

  abbrev pub performed : LowState → Effect LowFault → LowNext
  performed s e = run.performs m (shapes_of m) r.bound s r.rest r.lf r.f (item.Inst r.lf.at) e

  abbrev pub does_at : RowEffect → List Datum → LowNext
  does_at e xs = performed (named_at e xs) (effect_at e xs)

  abbrev pub RowAlike : ReadyOp → Type 0
  RowAlike o = Alike m entry (run.does m (shapes_of m) r.bound r.s r.rest r.lf r.f r.i) (machine.performs r.ready r.bound r.st r.mf r.rest' o)

  abbrev pub Reads : List Datum → Type 0
  Reads xs = AllRead m r.made r.s.memory r.st r.f r.mf (operands_of r.i) xs

  module _ {o : ReadyOp} (stands : StandsAt m r.f r.lf r.i o) (e : RowEffect) (is : effect_of r.i.op ≡ e) where
    pub row_by : machine.read_by r.ready r.bound r.st r.mf r.rest' o ≡ operands_of r.i
        → ((xs : List Datum) → Reads xs → Alike m entry (does_at e xs) (machine.does r.ready r.bound r.st r.mf r.rest' o)) → RowAlike o
    row_by reads then =
        row_alike m r.ready entry r.bound r.typed r.made r.s r.st r.f r.lf r.mf r.below r.rest r.rest' r.running r.i o stands reads
        (λ xs all. subst (λ x. Alike m entry (does_at x xs) (machine.does r.ready r.bound r.st r.mf r.rest' o)) (sym is) (then xs all))

    -- the forms of its operands and results
    pub forms_by : FormsAt m r.i e (forms_of d r.f (operands_of r.i)) (forms_of d r.f r.i.results)
    forms_by = subst (λ x. FormsAt m r.i x (forms_of d r.f (operands_of r.i)) (forms_of d r.f r.i.results)) is (forms_at m r.i stands.typed.row)

    -- its results are values of the function
    pub results_of : Each (IsOf r.f) r.i.results
    results_of =
        subst (Each (IsOf r.f)) (defined_by r.f r.lf r.i stands.inst)
        (((r.typed.functions r.lf.function.0 r.f r.running.frame.there).items (item.Inst r.lf.at)).defined)

-- The law of the machine: however it stops, the run of lowered code ends so, with the machine's heap.
use Rattle.std.specs.Prelude.{◌≡◌, ◌≤◌, ℕ, List, Bool, true, Some, slice_get}
use Rattle.count_machine_model.specs.holder_model.Outcomes.{may_start}
use Rattle.count_machine_model.specs.holder_model.States.{Ending}
use Rattle.count_machine_model.specs.holder_model.LoweredRun.LowOutcomes.{LowEndsSo}
use Rattle.count_machine_model.specs.holder_model.declared.lowered_run.low_fault.LowFault.{LowFault}
use Rattle.count_machine_model.specs.declared.machine_steps.run_end.RunEnd.{RunEnd}
use Rattle.count_machine_model.specs.MachineSteps.Runs.{Leads, begins}
use Rattle.count_machine_model.specs.MachineSteps.Views.{MachineView, Stops}
use Rattle.count_machine_model.specs.declared.ready_code.function.ReadyFunction.{ReadyFunction}
use Rattle.count_machine_model.specs.declared.ready_code.function.ReadyModule.{ReadyModule}
use Rattle.count_machine_model.specs.ReadyCode.ReadyModules.{IsReadyModule, Reaches}
use Rattle.count_machine_model.specs.holder_model.RunTyping.Forms.{given_shape}
use Rattle.count_machine_model.specs.holder_model.RunTyping.RunTyped.{RunTyped}
use Rattle.sil_ast.specs.declared.function.Function.{Function}
use Rattle.sil_ast.specs.declared.module.Module.{Module}
use Rattle.sil_ast.specs.declared.place.FuncId.{FuncId}
use Rattle.sil_types_declarations.specs.TypeDefinitions.Declarations.{declarations_of}
use Rattle.count_machine_laws.specs.inner.LastHeaps.{EndsWithHeap}
use Rattle.count_machine_laws.specs.inner.Told.{IsEnding, outcome_told}

-- a run of ready code from an entry function, for a bound of at least one turn
pub record Started (m : Module) (ready : ReadyModule) (e : FuncId) (bound : ℕ) : Type 0 where
  pub typed : RunTyped m
  pub reached : List Bool
  pub made : IsReadyModule m reached ready
  pub entry : Function
  pub there : slice_get m.functions e.0 ≡ Some entry
  pub comes_to_entry : Reaches reached e
  pub starts : may_start entry ≡ true
  pub code : ReadyFunction
  pub ready_there : slice_get ready.functions e.0 ≡ Some code
  pub some_turns : 1 ≤ bound

abbrev pub MachineRunsSo : Type 0
MachineRunsSo = (m : Module) (ready : ReadyModule) (e : FuncId) (bound : ℕ) (run : Started m ready e bound) (end : RunEnd) (st : MachineView)
    → Leads ready bound (begins (declarations_of m) e run.code) (Stops end st)
    → (x : Ending LowFault) × IsEnding m (given_shape (declarations_of m) run.entry) st end x × LowEndsSo m e bound (outcome_told st end x)
    × EndsWithHeap m e bound (outcome_told st end x) st.heap

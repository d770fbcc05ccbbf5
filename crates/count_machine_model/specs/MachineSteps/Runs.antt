-- Runs of the machine: steps, one after another, and how a run begins.
use Rattle.std.specs.Prelude.{◌≡◌, ℕ, zero, suc, [], ◌∷◌}
use Rattle.count_heap.specs.HeapModel.HeapCalls.{empty_heap}
use Rattle.count_machine_model.specs.declared.ready_code.function.ReadyFunction.{ReadyFunction}
use Rattle.count_machine_model.specs.declared.ready_code.function.ReadyModule.{ReadyModule}
use Rattle.sil_ast.specs.declared.place.FuncId.{FuncId}
use Rattle.holder_model.specs.sil_types_declarations.TypeDefinitions.Declarations.{Declarations}
use Rattle.count_machine_model.specs.MachineSteps.Calling.{with_frame}
use Rattle.count_machine_model.specs.MachineSteps.Steps.{machine_step}
use Rattle.count_machine_model.specs.MachineSteps.Views.{Goes, MachineView, Stops, Went}

abbrev pub went_on : (MachineView → Went) → Went → Went
went_on go (Goes st) = go st
went_on go (Stops end st) = Stops end st

-- at most so many steps
abbrev pub steps : ReadyModule → ℕ → ℕ → MachineView → Went
steps ready bound zero st = Goes st
steps ready bound (suc k) st = went_on (steps ready bound k) (machine_step ready bound st)

-- some steps lead from one state to another
abbrev pub Leads : ReadyModule → ℕ → MachineView → Went → Type 0
Leads ready bound st went = (k : ℕ) × (steps ready bound k st ≡ went)

abbrev pub no_tasks : Declarations → MachineView
no_tasks d = record {
  tasks = [];
  there = [];
  leaves = [];
  addresses = [];
  slots = [];
  slot_leaves = [];
  waiting = [];
  heap = empty_heap d;
  events = [];
  turns = 1;
  serials = 0;
}

-- the entry function begins: the first turn is the entry of its first block
abbrev pub begins : Declarations → FuncId → ReadyFunction → MachineView
begins d e f = with_frame (no_tasks d) e f

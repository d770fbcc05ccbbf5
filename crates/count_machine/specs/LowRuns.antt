-- What is told of a run of lowered code that has ended.
use Rattle.std.specs.Prelude.{◌≡◌, ℕ, true, List, [], Some, slice_get}
use Rattle.count_heap.specs.HeapModel.HeapViews.{HeapView}
use Rattle.holder_model.specs.declared.left_object.LeftObject.{LeftObject}
use Rattle.holder_model.specs.Outcomes.{Outcome, may_start}
use Rattle.holder_model.specs.States.{Ending, Faulted, OutOfTurns, Returned, Trapped}
use Rattle.holder_model.specs.LoweredRun.LowOutcomes.{LowEndsSo}
use Rattle.holder_model.specs.declared.lowered_run.low_fault.LowFault.{LowFault}
use Rattle.count_machine_laws.specs.inner.LastHeaps.{EndsWithHeap}
use Rattle.count_machine_laws.specs.inner.Told.{all_left}
use Rattle.holder_model_values.specs.RunValues.Values.{val_of}
use Rattle.sil_ast.specs.declared.function.Function.{Function}
use Rattle.sil_ast.specs.declared.module.Module.{Module}
use Rattle.sil_ast.specs.declared.place.FuncId.{FuncId}
use Rattle.count_machine.specs.declared.low_run.LowEnd.{LowEnd}
use Rattle.count_machine.specs.declared.low_run.LowEnd.TheVariants as end
use Rattle.count_machine.specs.declared.low_run.LowRun.{LowRun}

-- a run may start at this function of the module: it has a body and no arguments
pub record MayStartAt (m : Module) (e : FuncId) : Type 0 where
  pub entry : Function
  pub there : slice_get m.functions e.0 ≡ Some entry
  pub may : may_start entry ≡ true

-- an ending, as it is told
abbrev pub ending_told : Ending LowFault → LowEnd
ending_told (Returned x) = end.Returned (val_of x)
ending_told (Trapped t) = end.Trap t
ending_told OutOfTurns = end.OutOfTurns
ending_told (Faulted x) = end.Fault x

-- the outcome that is told, with this ending
abbrev pub outcome_of : LowRun → Ending LowFault → Outcome LowFault
outcome_of run x = record { events = run.events; ending = x; left = run.left; retains = run.retains; releases = run.releases }

-- the run of the lowered module from the entry function ends as it is told, for this bound on turns
pub record EndsAsTold (m : Module) (e : FuncId) (bound : ℕ) (run : LowRun) : Type 0 where
  pub ending : Ending LowFault
  pub told : run.ending ≡ ending_told ending
  pub ends : LowEndsSo m e bound (outcome_of run ending)

-- the heap that is handed out is that in which the run has ended as it is told
pub record HasLastHeap (m : Module) (e : FuncId) (bound : ℕ) (run : LowRun) : Type 0 where
  pub ending : Ending LowFault
  pub told : run.ending ≡ ending_told ending
  pub ends : EndsWithHeap m e bound (outcome_of run ending) run.heap

-- the objects that are left in a heap are told after a return alone
abbrev pub left_after : HeapView → LowEnd → List LeftObject
left_after h (end.Returned v) = all_left h
left_after h (end.Trap t) = []
left_after h end.OutOfTurns = []
left_after h (end.Fault x) = []

-- the heap of the run has the totals that are told, and after a return its unfreed objects are those that are left
pub record HeapIsAsTold (run : LowRun) : Type 0 where
  pub retains : run.heap.retains ≡ run.retains
  pub releases : run.heap.releases ≡ run.releases
  pub left : run.left ≡ left_after run.heap run.ending

-- What is told of the machine when it has stopped.
use Rattle.std.specs.Prelude.{◌≡◌, ℕ, List, [], Option, Some, None, option_and_then, slice_get, unwrap_or}
use Rattle.holder_model.specs.States.{Ending}
use Rattle.sil_cfg_items.specs.Parts.{inst_at}
use Rattle.holder_model.specs.declared.lowered_run.low_fault.LowFault.{LowFault}
use Rattle.count_machine_laws.specs.inner.Told.{IsEnding, outcome_told}
use Rattle.count_machine_model.specs.declared.machine_steps.run_end.RunEnd.{RunEnd}
use Rattle.count_machine_model.specs.MachineSteps.Views.{MachineView}
use Rattle.holder_model_values.specs.RunValues.Shapes.{Shape}
use Rattle.sil_ast.specs.declared.inst.Inst.{Inst}
use Rattle.sil_ast.specs.declared.module.Module.{Module}
use Rattle.sil_ast.specs.declared.place.FuncId.{FuncId}
use Rattle.sil_ast.specs.declared.place.PointId.{PointId}
use Rattle.count_machine.specs.declared.low_run.LowEnd.{LowEnd}
use Rattle.count_machine.specs.declared.low_run.LowRun.{LowRun}
use Rattle.count_machine.specs.LowRuns.{ending_told, outcome_of}

-- the instruction at a point of a function of the module
abbrev pub inst_in : Module → FuncId → PointId → Option Inst
inst_in m g p = option_and_then (λ f. inst_at f p) (slice_get m.functions g.0)

abbrev pub text_in : Option Inst → List ℕ
text_in None = []
text_in (Some i) = unwrap_or i.text []

-- the ending is that for which the stop stands. What the entry function gives has this shape
abbrev pub IsToldAs : Module → Shape → MachineView → RunEnd → LowEnd → Type 0
IsToldAs m s st stop told = (x : Ending LowFault) → IsEnding m s st stop x → told ≡ ending_told x

-- so is the outcome, and the heap is the machine's
pub record IsOutcomeOf (st : MachineView) (stop : RunEnd) (x : Ending LowFault) (run : LowRun) : Type 0 where
  pub ending : run.ending ≡ ending_told x
  pub outcome : outcome_of run x ≡ outcome_told st stop x
  pub heap : run.heap ≡ st.heap

abbrev pub TellsOf : Module → Shape → MachineView → RunEnd → LowRun → Type 0
TellsOf m s st stop run = (x : Ending LowFault) → IsEnding m s st stop x → IsOutcomeOf st stop x run

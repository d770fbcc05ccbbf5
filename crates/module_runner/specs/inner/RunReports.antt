-- What a report tells of a run.
use Rattle.std.specs.Prelude.{◌≡◌, ◌+◌, ℕ, Bool, List, length}
use Rattle.sil_verifier.specs.holder_model_laws.LockstepRuns.inner.Agreeing.{TellsAsItDid}
use Rattle.sil_verifier.specs.holder_model_laws.ReferenceTotals.inner.Totals.{strong_told}
use Rattle.holder_model.specs.Faults.{HolderFault}
use Rattle.holder_model.specs.Outcomes.{EndsSo, Outcome}
use Rattle.holder_model.specs.LoweredRun.LowOutcomes.{LowEndsSo}
use Rattle.ownership_lowering_model.specs.LoweredModules.{lowered}
use Rattle.count_machine.specs.count_machine_laws.inner.LastHeaps.{EndsWithHeap}
use Rattle.count_machine.specs.count_machine_laws.inner.Told.{all_left}
use Rattle.numbered_form.specs.Names.{Name}
use Rattle.module_runner_report.specs.RunOutcomes.{ending_of}
use Rattle.module_runner_report.specs.declared.outcome.Ending.TheVariants.{Returned}
use Rattle.holder_model.specs.RunReport.ReportLines.{report}
use Rattle.holder_model.specs.RunTyping.Runnable.{IsRunnable}
use Rattle.holder_model_values.specs.RunValues.Shapes.{shape_of}
use Rattle.holder_model_values.specs.declared.run_values.value.Val.{Val}
use Rattle.sil_ast.specs.declared.function.Function.{Function}
use Rattle.sil_ast.specs.declared.module.Module.{Module}
use Rattle.sil_ast.specs.declared.place.FuncId.{FuncId}
use Rattle.sil_types_declarations.specs.TypeDefinitions.Declarations.{declarations_of}
use Rattle.sil_types_declarations.specs.TypeDefinitions.Mentions.{given_type}
use Rattle.module_runner.specs.Entries.{IsEntry}
use Rattle.module_runner.specs.LoweredRuns.{LoweredNeverFaults}
use Rattle.module_runner.specs.Optimising.{IsOptimisedIf}
use Rattle.module_runner.specs.declared.report.RunReport.{RunReport}

-- the outcome that is reported. Its ending is no fault, of whichever kind the faults of a run are
abbrev pub outcome_of : {X : Type 0} → RunReport → Outcome X
outcome_of r = record { events = r.events; ending = ending_of r.ending; left = r.left; retains = r.retains; releases = r.releases }

-- what is lowered of the module: it can be run, and declares what the module does
pub record IsLoweredIf (optimises : Bool) (m made : Module) : Type 0 where
  pub left : Module
  pub optimised : IsOptimisedIf optimises m left
  pub lowered : made ≡ lowered left
  pub runnable : IsRunnable made
  pub declares : declarations_of made ≡ declarations_of m

-- the report tells of the run by holders from this function, for this bound on turns: of the module, optimised where that is asked for
pub record TellsOfRunFrom (m : Module) (e : FuncId) (f : Function) (bound : ℕ) (optimises : Bool) (r : RunReport) : Type 0 where
  pub left : Module
  pub optimised : IsOptimisedIf optimises m left
  pub result_type : r.result_type ≡ given_type f.signature
  pub ends : EndsSo left e bound (outcome_of r)
  -- what ran is the lowered module, by stored numbers. Its run ends so too, and not in a fault
  pub ran : r.module ≡ lowered left
  pub lowered_ends : LowEndsSo (lowered left) e bound (outcome_of r)
  pub never_faults : LoweredNeverFaults left e bound

-- the report tells of the run from the entry function with this name, for this bound on turns
pub record TellsOfRun (m : Module) (name : Name) (bound : ℕ) (optimises : Bool) (r : RunReport) : Type 0 where
  pub entry : FuncId
  pub function : Function
  pub begins : IsEntry m name entry function
  pub tells : TellsOfRunFrom m entry function bound optimises r

-- the run by holders of the module itself, optimised or not, has the events, the ending and the objects left that are told, and no fewer
-- retains and releases
pub record TellsAsItselfFrom (m : Module) (e : FuncId) (bound : ℕ) (r : RunReport) : Type 0 where
  pub itself : Outcome HolderFault
  pub ends : EndsSo m e bound itself
  pub as_it_did : TellsAsItDid itself (outcome_of r)

pub record TellsAsItself (m : Module) (name : Name) (bound : ℕ) (r : RunReport) : Type 0 where
  pub entry : FuncId
  pub function : Function
  pub begins : IsEntry m name entry function
  pub tells : TellsAsItselfFrom m entry bound r

-- the heap of the run has the totals that are told, and after a return its unfreed objects are those that are left
pub record HeapIsAsTold (r : RunReport) : Type 0 where
  pub retains : r.heap.retains ≡ r.retains
  pub releases : r.heap.releases ≡ r.releases
  pub left : (x : Val) → r.ending ≡ Returned x → r.left ≡ all_left r.heap

-- the run of the lowered module from the entry function ended with the outcome that is told, and the heap is that in which it has ended
pub record HasLastHeap (m : Module) (name : Name) (bound : ℕ) (r : RunReport) : Type 0 where
  pub entry : FuncId
  pub function : Function
  pub begins : IsEntry m name entry function
  pub ends : EndsWithHeap r.module entry bound (outcome_of r) r.heap

-- after a return each reference that was made, with an object or by a retain, was released or is one to an object that is left
abbrev pub AreTotalsLeft : RunReport → Type 0
AreTotalsLeft r = (x : Val) → r.ending ≡ Returned x → length r.heap.objects + r.retains ≡ strong_told r.left + r.releases

-- the module of the report can be run, and the table is its own
pub record IsReportable (r : RunReport) : Type 0 where
  pub runnable : IsRunnable r.module
  pub of_it : r.table.now ≡ declarations_of r.module

-- the lines of the report
abbrev pub text_of : RunReport → List ℕ
text_of r = report {X = HolderFault} r.module (shape_of (declarations_of r.module) r.result_type) (outcome_of r)

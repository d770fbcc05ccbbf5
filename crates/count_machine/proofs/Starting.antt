-- From the start of the machine to the end of the run.
use Rattle.std.proofs.Common.{◌≡◌, ◌∙◌, ◌≤◌, ℕ, List, Bool, Some, get_or, sym, ap, subst}
use Rattle.std.specs.Prelude.{slice_get}
use Rattle.std.proofs.lemmas.Option.{get_or_from_slice_get}
use Rattle.holder_model.specs.LoweredRun.LowOutcomes.{LowEndsSo}
use Rattle.holder_model.specs.Outcomes.{may_start}
use Rattle.holder_model.specs.States.{Ending}
use Rattle.holder_model.specs.declared.lowered_run.low_fault.LowFault.{LowFault}
use Rattle.holder_model_values.specs.RunValues.Shapes.{Shape}
use Rattle.count_machine_laws.specs.inner.LastHeaps.{EndsWithHeap}
use Rattle.count_machine_laws.specs.inner.MachineRuns.{MachineRunsSo, Started}
use Rattle.count_machine_laws.specs.inner.Told.{IsEnding, outcome_told}
use Rattle.count_machine_model.specs.declared.machine_steps.run_end.RunEnd.{RunEnd}
use Rattle.count_machine_model.specs.MachineSteps.Runs.{Leads, begins}
use Rattle.count_machine_model.specs.MachineSteps.Views.{MachineView, Stops}
use Rattle.count_machine_model.specs.declared.ready_code.function.ReadyFunction.{ReadyFunction}
use Rattle.count_machine_model.specs.declared.ready_code.function.ReadyModule.{ReadyModule}
use Rattle.count_machine_model.specs.ReadyCode.ReadyModules.{IsReadyModule, Reaches}
use Rattle.holder_model.specs.RunTyping.Forms.{given_shape}
use Rattle.holder_model.specs.RunTyping.RunTyped.{RunTyped}
use Rattle.sil_ast.specs.declared.function.Function.{Function}
use Rattle.sil_ast.specs.declared.module.Module.{Module}
use Rattle.sil_ast.specs.declared.place.FuncId.{FuncId}
use Rattle.sil_types_declarations.specs.TypeDefinitions.Declarations.{Declarations, declarations_of}
use Rattle.count_machine.specs.declared.low_run.LowRun.{LowRun}
use Rattle.count_machine.specs.LowRuns.{EndsAsTold, HasLastHeap, MayStartAt, outcome_of}
use Rattle.count_machine.specs.inner.Stopped.{TellsOf}

-- the machine is at the beginning of the entry function's ready code
abbrev pub HasBegun : Declarations → ReadyModule → FuncId → MachineView → Type 0
HasBegun d ready e st = (code : ReadyFunction) → slice_get ready.functions e.0 ≡ Some code → st ≡ begins d e code

-- the entry function as it is read, by its place
abbrev pub entry_read : (m : Module) (e : FuncId) (starts : MayStartAt m e) (f : Function) (functions : List Function) → functions ≡ m.functions → f ≡ get_or functions e.0 f
    → MayStartAt m e
entry_read m e starts f functions all is =
    let same : f ≡ starts.entry = is ∙ get_or_from_slice_get functions e.0 starts.entry f (ap (λ (fs : List Function). slice_get fs e.0) all ∙ starts.there) in
    record {
      entry = f;
      there = starts.there ∙ ap (λ (g : Function). Some g) (sym same);
      may = ap may_start same ∙ starts.may;
    }

module _ (m : Module) (ready : ReadyModule) (e : FuncId) (bound : ℕ) (law : MachineRunsSo) (typed : RunTyped m) (reached : List Bool) (made : IsReadyModule m reached ready)
    (comes_to_entry : Reaches reached e) (starts : MayStartAt m e) (some_turns : 1 ≤ bound) where
  abbrev gives : Shape
  gives = given_shape (declarations_of m) starts.entry

  module _ (d : Declarations) (same : d ≡ declarations_of m) (first : MachineView) (begun : HasBegun d ready e first) (end : RunEnd) (last : MachineView)
      (leads : Leads ready bound first (Stops end last)) where
    -- how the run has ended
    ended : (x : Ending LowFault) × IsEnding m gives last end x × LowEndsSo m e bound (outcome_told last end x) × EndsWithHeap m e bound (outcome_told last end x) last.heap
    ended =
        let code = made.functions e starts.entry comes_to_entry starts.there in
        let started : Started m ready e bound = record {
          typed = typed;
          reached = reached;
          made = made;
          entry = starts.entry;
          there = starts.there;
          comes_to_entry = comes_to_entry;
          starts = starts.may;
          code = code.0;
          ready_there = code.1;
          some_turns = some_turns;
        } in
        let from_start = subst (λ st. Leads ready bound st (Stops end last)) (begun code.0 code.1 ∙ ap (λ d. begins d e code.0) same) leads in
        law m ready e bound started end last from_start

    pub ends_told : (run : LowRun) → TellsOf m gives last end run → EndsAsTold m e bound run
    ends_told run tells =
        let told = tells ended.0 ended.1 in
        record { ending = ended.0; told = told.ending; ends = subst (LowEndsSo m e bound) (sym told.outcome) ended.2 }

    pub heap_told : (run : LowRun) → TellsOf m gives last end run → HasLastHeap m e bound run
    heap_told run tells =
        let told = tells ended.0 ended.1 in
        record {
          ending = ended.0;
          told = told.ending;
          ends = subst (EndsWithHeap m e bound (outcome_of run ended.0)) (sym told.heap) (subst (λ o. EndsWithHeap m e bound o last.heap) (sym told.outcome) ended.3);
        }

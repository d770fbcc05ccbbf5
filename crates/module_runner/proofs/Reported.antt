-- What is reported is how the run by holders ended, and the lowered run too, with its heap.
use Rattle.std.proofs.Common.{◌≡◌, ◌∙◌, ◌+◌, ℕ, zero, suc, List, length, refl, sym, ap, subst}
use Rattle.count_heap.specs.HeapModel.HeapViews.{HeapView}
use Rattle.count_machine.specs.count_machine_laws.inner.LastHeaps.{EndsWithHeap}
use Rattle.count_machine.specs.declared.low_run.LowEnd.{LowEnd}
use Rattle.count_machine.specs.declared.low_run.LowEnd.TheVariants as end
use Rattle.count_machine.specs.declared.low_run.LowRun.{LowRun}
use Rattle.count_machine.specs.LowRuns as runs
use Rattle.count_machine.specs.LowRuns.{EndsAsTold, HasLastHeap, ending_told}
use Rattle.holder_model.specs.Faults.{HolderFault}
use Rattle.holder_model.specs.ModuleShapes.{shapes_of}
use Rattle.holder_model.specs.Outcomes as outcomes
use Rattle.holder_model.specs.Outcomes.{EndsSo, Outcome}
use Rattle.holder_model.specs.States.{Ending, Ends, Faulted, Goes, Next, OutOfTurns, Returned, Trapped, step_on}
use Rattle.holder_model.specs.declared.event.Event.{Event}
use Rattle.holder_model.specs.declared.left_object.LeftObject.{LeftObject}
use Rattle.holder_model.specs.declared.lowered_run.low_fault.LowFault.{LowFault}
use Rattle.holder_model.specs.LoweredRun.LowOutcomes.{LowEndsSo, low_begins, low_outcome_at}
use Rattle.holder_model.specs.LoweredRun.LowSteps.{low_step}
use Rattle.holder_model_values.specs.RunValues.Memory.{Memory}
use Rattle.holder_model_values.specs.RunValues.Values.{Value}
use Rattle.holder_model_values.specs.declared.run_values.value.Val.{Val}
use Rattle.ownership_lowering_model.specs.LoweredModules.{lowered}
use Rattle.module_runner_report.specs.RunOutcomes.{ending_of, value_of}
use Rattle.module_runner_report.specs.declared.outcome.Ending as told
use Rattle.module_runner_report.specs.declared.outcome.Ending.TheVariants as told_ending
use Rattle.module_runner_report.proofs.Told.{value_told}
use Rattle.ownership_lowering_runs.specs.StoredRuns.inner.Runs.{AreRunsSame, IsEndingFor, IsOutcomeFor, out_of_turns, returned, trapped}
use Rattle.sil_ast.specs.declared.module.Module.{Module}
use Rattle.sil_ast.specs.declared.place.FuncId.{FuncId}
use Rattle.sil_verifier.specs.holder_model_laws.ReferenceTotals.inner.Totals.{AreTotalsIn, AreTotalsLeft, strong_told}
use Rattle.module_runner.specs.LoweredRuns.{LoweredNeverFaults}
use Rattle.module_runner.specs.inner.Endings.{IsNoFault, end_of}

-- the ending that the machine tells
abbrev low_ending : LowEnd → Ending LowFault
low_ending (end.Returned v) = Returned (value_of v)
low_ending (end.Trap t) = Trapped t
low_ending end.OutOfTurns = OutOfTurns
low_ending (end.Fault x) = Faulted x

low_told : (x : Ending LowFault) → low_ending (ending_told x) ≡ x
low_told (Returned x) = ap Returned (value_told x)
low_told (Trapped t) = refl
low_told OutOfTurns = refl
low_told (Faulted x) = refl

low_reported : (r : told.Ending) → ending_of r ≡ low_ending (end_of r)
low_reported (told_ending.Returned v) = refl
low_reported (told_ending.Trap t) = refl
low_reported told_ending.OutOfTurns = refl

-- the ending of the run by holders, where the lowered run ends so; a fault stands for none
abbrev by_holders : Ending LowFault → Ending HolderFault
by_holders (Returned x) = Returned x
by_holders (Trapped t) = Trapped t
by_holders OutOfTurns = OutOfTurns
by_holders (Faulted x) = OutOfTurns

ending_for : (o : Ending HolderFault) (low : Ending LowFault) → IsEndingFor o low → by_holders low ≡ o
ending_for _ _ (returned x) = refl
ending_for _ _ (trapped t) = refl
ending_for _ _ out_of_turns = refl

holders_reported : (r : told.Ending) → by_holders (ending_of r) ≡ ending_of r
holders_reported (told_ending.Returned v) = refl
holders_reported (told_ending.Trap t) = refl
holders_reported told_ending.OutOfTurns = refl

told_without_fault : (o : Ending HolderFault) (low : Ending LowFault) → IsEndingFor o low → IsNoFault (ending_told low)
told_without_fault _ _ (returned x) = tt
told_without_fault _ _ (trapped t) = tt
told_without_fault _ _ out_of_turns = tt

not_faulted : (o : Ending HolderFault) (low : Ending LowFault) (x : LowFault) → IsEndingFor o low → low ≡ Faulted x → ⊥
not_faulted _ _ x (returned y) is = absurd (cc)
not_faulted _ _ x (trapped t) is = absurd (cc)
not_faulted _ _ x out_of_turns is = absurd (cc)

-- the outcome of a run with the ending that is reported
abbrev outcome_with : {X : Type 0} → LowRun → told.Ending → Outcome X
outcome_with run x = record { events = run.events; ending = ending_of x; left = run.left; retains = run.retains; releases = run.releases }

abbrev outcome_by : List Event → Ending HolderFault → List LeftObject → ℕ → ℕ → Outcome HolderFault
outcome_by events ending left retains releases = record { events = events; ending = ending; left = left; retains = retains; releases = releases }

same_outcome : (o : Outcome HolderFault) (run : LowRun) (x : told.Ending) (low : Ending LowFault) → ending_of x ≡ low → IsOutcomeFor o (runs.outcome_of run low)
    → o ≡ outcome_with run x
same_outcome o run x low is same =
    let ending : o.ending ≡ ending_of x = sym (ending_for o.ending low same.ending) ∙ ap by_holders (sym is) ∙ holders_reported x in
    ap (λ e. outcome_by e o.ending o.left o.retains o.releases) (sym same.events)
    ∙ ap (λ e. outcome_by run.events e o.left o.retains o.releases) ending
    ∙ ap (λ l. outcome_by run.events (ending_of x) l o.retains o.releases) (sym same.left)
    ∙ ap (λ n. outcome_by run.events (ending_of x) run.left n o.releases) (sym same.retains)
    ∙ ap (outcome_by run.events (ending_of x) run.left run.retains) (sym same.releases)

-- the lowered run of a module of which it is known that both runs end alike
module _ (left made : Module) (e : FuncId) (bound : ℕ) (same : AreRunsSame left e bound) where
  pub never_faults : LoweredNeverFaults left e bound
  never_faults low x ends is = by (same.back low ends)
    where
      by : (o : Outcome HolderFault) × EndsSo left e bound o × IsOutcomeFor o low → ⊥
      by (o, ends_so, alike) = not_faulted o.ending low.ending x alike.ending is

  module _ (run : LowRun) (lowers : made ≡ lowered left) (ends : EndsAsTold made e bound run) where
    abbrev low : Outcome LowFault
    low = runs.outcome_of run ends.ending

    low_ends : LowEndsSo (lowered left) e bound low
    low_ends = subst (λ k. LowEndsSo k e bound low) lowers ends.ends

    pub no_fault : IsNoFault run.ending
    no_fault = by (same.back low low_ends)
      where
        by : (o : Outcome HolderFault) × EndsSo left e bound o × IsOutcomeFor o low → IsNoFault run.ending
        by (o, ends_so, alike) = subst IsNoFault (sym ends.told) (told_without_fault o.ending ends.ending alike.ending)

    module _ (x : told.Ending) (is : end_of x ≡ run.ending) where
      ending : ending_of x ≡ ends.ending
      ending = low_reported x ∙ ap low_ending (is ∙ ends.told) ∙ low_told ends.ending

      pub lowered_ends : LowEndsSo (lowered left) e bound (outcome_with run x)
      lowered_ends = subst (λ y. LowEndsSo (lowered left) e bound (runs.outcome_of run y)) (sym ending) low_ends

      pub ends_reported : EndsSo left e bound (outcome_with run x)
      ends_reported = by (same.back low low_ends)
        where
          by : (o : Outcome HolderFault) × EndsSo left e bound o × IsOutcomeFor o low → EndsSo left e bound (outcome_with run x)
          by (o, ends_so, alike) = subst (λ y. EndsSo left e bound y) (same_outcome o run x ends.ending ending alike) ends_so

-- references

-- some steps, and then the one that ends the run
ended_then : {X S : Type 0} (step : S → Next X S) (k : ℕ) (s t : S) → outcomes.run step k s ≡ Goes t → (e : Ending X) (u : S) → step t ≡ Ends e u
    → (j : ℕ) × (outcomes.run step j s ≡ Ends e u)
ended_then step zero s t comes e u ends = let same : s ≡ t = cc in (suc zero, ap (step_on (outcomes.run step zero)) (ap step same ∙ ends))
ended_then {X = X} {S = S} step (suc k) s t comes e u ends = by (step s) refl comes (λ s' comes'. ended_then step k s' t comes' e u ends)
  where
    by : (n : Next X S) → step s ≡ n → step_on (outcomes.run step k) n ≡ Goes t → ((s' : S) → outcomes.run step k s' ≡ Goes t → (j : ℕ) × (outcomes.run step j s' ≡ Ends e u))
        → (j : ℕ) × (outcomes.run step j s ≡ Ends e u)
    by (Goes s') is comes' later = let rest = later s' comes' in (suc rest.0, ap (step_on (outcomes.run step rest.0)) is ∙ rest.1)
    by (Ends e' u') is comes' later = absurd (cc)

-- after a return what was made is what is told and what was released
totals_of : AreTotalsLeft → (m : Module) (e : FuncId) (bound : ℕ) (o : Outcome LowFault) (h : HeapView) → EndsWithHeap m e bound o h → (y : Value) → o.ending ≡ Returned y
    → AreTotalsIn (length h.objects) o
totals_of law m e bound o h ends y is =
    let whole = ended_then (low_step m (shapes_of m) bound) ends.steps (low_begins e ends.entry) ends.found ends.comes (Returned y) ends.left
    (ends.ends ∙ ap (λ (z : Ending LowFault). Ends z ends.left) is) in
    let even = law m (shapes_of m) bound e ends.entry whole.0 y ends.left whole.1 in
    let same : low_outcome_at (Returned y) ends.left ≡ o = ap (λ (z : Ending LowFault). low_outcome_at z ends.left) (sym is) ∙ ends.told in
    let count : length ends.left.memory.objects ≡ length h.objects = ap (λ (s : Memory). length s.objects) ends.stays ∙ sym ends.heap.allocated in
    subst (λ k. AreTotalsIn k o) count (subst (AreTotalsIn (length ends.left.memory.objects)) same even)

-- the heap that is reported
module _ (made : Module) (e : FuncId) (bound : ℕ) (run : LowRun) (last : HasLastHeap made e bound run) (x : told.Ending) (is : end_of x ≡ run.ending) where
  pub heap_reported : EndsWithHeap made e bound (outcome_with run x) run.heap
  heap_reported =
      let ending : ending_of x ≡ last.ending = low_reported x ∙ ap low_ending (is ∙ last.told) ∙ low_told last.ending in
      subst (λ y. EndsWithHeap made e bound (runs.outcome_of run y) run.heap) (sym ending) last.ends

  pub totals_reported : AreTotalsLeft → (v : Val) → x ≡ told_ending.Returned v → length run.heap.objects + run.retains ≡ strong_told run.left + run.releases
  totals_reported law v gives =
      totals_of law made e bound (outcome_with run x) run.heap heap_reported (value_of v) (ap (λ (y : told.Ending). ending_of {X = LowFault} y) gives)

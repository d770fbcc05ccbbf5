-- However the machine stops, the run of lowered code ends so: the states at the start agree, and each step of the machine is followed.
use Rattle.std.proofs.Common.{◌≡◌, ◌∙◌, ℕ, zero, suc, List, [], not, Some, refl, sym, ap, subst}
use Rattle.std.specs.Prelude.{option_and_then}
use Rattle.std.proofs.lemmas.Bool.{and_parts}
use Rattle.std.proofs.lemmas.Option.{none-some, same_Some}
use Rattle.argument_conventions.specs.Arguments.{arguments_of}
use Rattle.count_machine_model.specs.holder_model.Calling.{value_count}
use Rattle.count_machine_model.specs.holder_model.Frames.{has_any}
use Rattle.count_machine_model.specs.holder_model.ModuleShapes.{shapes_of}
use Rattle.count_machine_model.specs.holder_model.Outcomes.{run}
use Rattle.count_machine_model.specs.holder_model.States as low
use Rattle.count_machine_model.specs.holder_model.States.{Ending, Next}
use Rattle.count_machine_model.specs.holder_model.declared.lowered_run.low_fault.LowFault.{LowFault}
use Rattle.count_machine_model.specs.holder_model.LoweredRun.LowFrames.{no_values}
use Rattle.count_machine_model.specs.holder_model.LoweredRun.LowOutcomes.{low_begins, low_outcome_after, low_outcome_at}
use Rattle.count_machine_model.specs.holder_model.LoweredRun.LowStepParts.{LowState, new_frame}
use Rattle.count_machine_model.specs.holder_model.LoweredRun.LowSteps.{low_step}
use Rattle.count_machine_model.specs.declared.machine_steps.run_end.RunEnd.{RunEnd}
use Rattle.count_machine_model.specs.MachineSteps.Calling as machine
use Rattle.count_machine_model.specs.MachineSteps.Runs.{begins, no_tasks, steps, went_on}
use Rattle.count_machine_model.specs.MachineSteps.Steps.{machine_step}
use Rattle.count_machine_model.specs.MachineSteps.Views.{MachineView, Stops, Went}
use Rattle.count_machine_model.specs.declared.ready_code.function.ReadyModule.{ReadyModule}
use Rattle.count_machine_model.specs.ReadyCode.ReadyModules.{IsReadyFunction, IsReadyModule}
use Rattle.count_machine_model.specs.holder_model.RunTyping.Forms.{given_shape}
use Rattle.count_machine_model.specs.holder_model.RunTyping.RunTyped.{RunTyped}
use Rattle.holder_model_values.specs.RunValues.Memory.{Memory}
use Rattle.sil_ast.specs.declared.module.Module.{Module}
use Rattle.sil_ast.specs.declared.place.FuncId.{FuncId}
use Rattle.sil_types_declarations.specs.TypeDefinitions.Declarations.{declarations_of}
use Rattle.count_machine_laws.specs.inner.LastHeaps.{IsHeapOf, last_numbers}
use Rattle.count_machine_laws.specs.inner.MachineRuns.{MachineRunsSo, Started}
use Rattle.count_machine_laws.specs.inner.Told.{IsEnding, outcome_told}
use Rattle.count_machine_laws.proofs.Agreement.{Agrees, Follows, ends_of, goes, stops}
use Rattle.count_machine_laws.proofs.Assembly.{steps_follow}
use Rattle.count_machine_laws.proofs.LastHeaps.{heap_is}
use Rattle.count_machine_laws.proofs.LastMemory.{KeepsMemory, steps_keep}
use Rattle.count_machine_laws.proofs.LastStrongs.{StrongsAre}
use Rattle.count_machine_laws.proofs.Memories.{MemoryAgrees}
use Rattle.count_machine_laws.proofs.Objects.{is_of_class}
use Rattle.count_machine_laws.proofs.Pushes.{frame_made}
use Rattle.count_machine_laws.proofs.Slots.{Made}
use Rattle.count_machine_laws.proofs.StopsAlone.{stops_alone}
use Rattle.count_machine_laws.proofs.StrongsAlone.{StopsAlone, StrongsAlone}
use Rattle.count_machine_laws.proofs.Tasks.{Beginning, bottom, no_ends, runs}

-- some steps, and then others
steps_then : {X S : Type 0} (step : S → Next X S) (j : ℕ) (s s' : S) → run step j s ≡ low.Goes s' → (n : ℕ) (end : Next X S) → run step n s' ≡ end → (k : ℕ) × (run step k s ≡ end)
steps_then step zero s s' first n end then = let same : s ≡ s' = cc in (n, ap (run step n) same ∙ then)
steps_then {X = X} {S = S} step (suc j) s s' first n end then = by (step s) refl first (λ t e. steps_then step j t s' e n end then)
  where
    by : (next : Next X S) → step s ≡ next → low.step_on (run step j) next ≡ low.Goes s' → ((t : S) → run step j t ≡ low.Goes s' → (k : ℕ) × (run step k t ≡ end))
        → (k : ℕ) × (run step k s ≡ end)
    by (low.Goes t) is goes_on later = let rest = later t goes_on in (suc rest.0, ap (low.step_on (run step rest.0)) is ∙ rest.1)
    by (low.Ends e t) is goes_on later = absurd (cc)

-- where the run begins
abbrev beginning : (m : Module) (ready : ReadyModule) (e : FuncId) (bound : ℕ) → Started m ready e bound → Beginning
beginning m ready e bound started = record { gives = given_shape (declarations_of m) started.entry; reached = started.reached }

-- the states at the start
module _ (m : Module) (ready : ReadyModule) (e : FuncId) (bound : ℕ) (started : Started m ready e bound) where
  abbrev first : MachineView
  first = begins (declarations_of m) e started.code

  abbrev entry : Beginning
  entry = beginning m ready e bound started

  abbrev nothing : Memory
  nothing = record { stack = []; objects = [] }

  code_is : IsReadyFunction m started.entry started.code
  code_is =
      let code = started.made.functions e started.entry started.comes_to_entry started.there in
      subst (IsReadyFunction m started.entry) (same_Some code.0 started.code (sym code.1 ∙ started.ready_there)) code.2

  memory_begins : MemoryAgrees m [] nothing [] first
  memory_begins = record {
    stack = refl;
    serials = refl;
    slots = record {
      each = λ j slot there. absurd (none-some slot there);
      all = λ k x there open_. absurd (none-some x there);
      shapes = λ k x there. absurd (none-some x there);
      suit = λ k x v there full. absurd (none-some x there);
    };
    objects = record {
      numbered = refl;
      kept = refl;
      classes = λ k x there. absurd (none-some x there);
      each = λ k x n h there numbered kept. absurd (none-some x there);
    };
    declared = refl;
  }

  begins_agree : Agrees m entry [] (low_begins e started.entry) first
  begins_agree = record {
    parts = record { memory = memory_begins; events = refl; turns = refl; retains = refl; releases = refl };
    tasks = runs started.entry (new_frame e (no_values (value_count started.entry))) (machine.new_frame (no_tasks (declarations_of m)) e) no_ends (ends_of first) [] [] started.comes_to_entry
        (frame_made m [] nothing (no_tasks (declarations_of m)) e started.entry started.code started.there
        (and_parts (has_any started.entry.blocks) (not (has_any (arguments_of started.entry.signature))) started.starts).0 code_is) bottom;
  }

-- how the run has ended, where the machine has stopped
pub record EndsAs (m : Module) (entry : Beginning) (bound : ℕ) (s : LowState) (end : RunEnd) (st : MachineView) : Type 0 where
  pub ending : Ending LowFault
  pub is_ending : IsEnding m entry.gives st end ending
  pub count : ℕ
  pub found : LowState
  pub comes : run (low_step m (shapes_of m) bound) count s ≡ low.Goes found
  pub last : LowState
  pub ends : low_step m (shapes_of m) bound found ≡ low.Ends ending last
  pub told : low_outcome_at ending last ≡ outcome_told st end ending
  pub heap : IsHeapOf m found.memory (last_numbers found last) st.heap

module _ (m : Module) (ready : ReadyModule) (entry : Beginning) (bound : ℕ) (typed : RunTyped m) (is_ready : IsReadyModule m entry.reached ready) (end : RunEnd) (last : MachineView) where
  follow : (k : ℕ) (made : List Made) (s : LowState) (st : MachineView) → Agrees m entry made s st → steps ready bound k st ≡ Stops end last → EndsAs m entry bound s end last
  follow zero made s st agrees leads = absurd (cc)
  follow (suc k) made s st agrees leads =
      by (machine_step ready bound st) (steps_follow m ready entry bound typed is_ready made s st agrees) (stops_alone ready bound st) leads
      (λ made' s' st' agrees' leads'. follow k made' s' st' agrees' leads')
    where
      -- the machine has stopped in this view
      stopped : (found s' : LowState) (st' : MachineView) → found.memory ≡ s.memory → found.numbers ≡ s.numbers → StrongsAlone st.heap st'.heap → StrongsAre st'.heap s'.numbers
          → IsHeapOf m found.memory (last_numbers found s') st'.heap
      stopped found s' st' memory numbers alone strongs =
          heap_is m (is_of_class m s.memory) found.memory found.numbers s'.numbers st.heap st'.heap
          (rw (memory, numbers) agrees.parts.memory.objects) agrees.parts.memory.declared alone strongs

      by : (w : Went) → Follows m entry bound s w → StopsAlone st.heap w → went_on (steps ready bound k) w ≡ Stops end last
          → ((made' : List Made) (s' : LowState) (st' : MachineView) → Agrees m entry made' s' st' → steps ready bound k st' ≡ Stops end last → EndsAs m entry bound s' end last)
          → EndsAs m entry bound s end last
      by _ (goes made' j s' st' goes_to agrees') alone leads later =
          let rest = later made' s' st' agrees' leads in
          let all = steps_then (low_step m (shapes_of m) bound) j s s' goes_to rest.count (low.Goes rest.found) rest.comes in
          record {
            ending = rest.ending;
            is_ending = rest.is_ending;
            count = all.0;
            found = rest.found;
            comes = all.1;
            last = rest.last;
            ends = rest.ends;
            told = rest.told;
            heap = rest.heap;
          }
      by _ (stops j found s' st' end' ending comes memory numbers ends_in is_ending told strongs) alone leads later =
          let same_end : end' ≡ end = cc in
          let same_view : st' ≡ last = cc in
          record {
            ending = ending;
            is_ending = subst (λ x. IsEnding m entry.gives last x ending) same_end (subst (λ v. IsEnding m entry.gives v end' ending) same_view is_ending);
            count = j;
            found = found;
            comes = comes;
            last = s';
            ends = ends_in;
            told = told ∙ ap (λ v. outcome_told v end' ending) same_view ∙ ap (λ x. outcome_told last x ending) same_end;
            heap = subst (λ v. IsHeapOf m found.memory (last_numbers found s') v.heap) same_view (stopped found s' st' memory numbers alone strongs);
          }

pub machine_runs_so : MachineRunsSo
machine_runs_so m ready e bound started end st leads =
    let ended = follow m ready (beginning m ready e bound started) bound started.typed started.made end st leads.0 [] (low_begins e started.entry)
    (begins (declarations_of m) e started.code) (begins_agree m ready e bound started) leads.1 in
    let step = low_step m (shapes_of m) bound in
    let whole = steps_then step ended.count (low_begins e started.entry) ended.found ended.comes (suc zero) (low.Ends ended.ending ended.last)
    (ap (low.step_on (run step zero)) ended.ends) in (
      ended.ending,
      ended.is_ending,
      (
        whole.0,
        ap (option_and_then (λ f. low_outcome_after (run (low_step m (shapes_of m) bound) whole.0 (low_begins e f)))) started.there
            ∙ ap low_outcome_after whole.1 ∙ ap (λ x. Some x) ended.told,
      ),
      record {
        entry = started.entry;
        there = started.there;
        steps = ended.count;
        found = ended.found;
        comes = ended.comes;
        left = ended.last;
        ends = ended.ends;
        told = ended.told;
        stays = subst (KeepsMemory ended.found.memory) ended.ends (steps_keep m (shapes_of m) bound ended.found);
        heap = ended.heap;
      },
    )

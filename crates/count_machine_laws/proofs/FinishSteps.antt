-- The deinitialisers of an object have returned, and its deinitialisation finishes.
use Rattle.std.proofs.Common.{◌≡◌, ◌==◌, ◌∙◌, ℕ, zero, suc, List, true, false, not, cond, refl, set, sym, ap, arith}
use Rattle.std.proofs.lemmas.Bool.{cond-false, cond-true, eq-eqb, ne_eqb}
use Rattle.count_heap.specs.HeapModel.HeapViews.{HeapView, fields_in, phase_in, strong_in}
use Rattle.count_machine_model.specs.holder_model.Dropping.{ended, field_references, finish_with}
use Rattle.count_machine_model.specs.holder_model.ModuleShapes.{shapes_of}
use Rattle.count_machine_model.specs.holder_model.States as low
use Rattle.count_machine_model.specs.holder_model.declared.trap.Trap.TheVariants as trap
use Rattle.count_machine_model.specs.holder_model.declared.lowered_run.low_fault.LowFault.TheVariants as fault
use Rattle.count_machine_model.specs.holder_model.LoweredRun.LowFrames.{LowFrame}
use Rattle.count_machine_model.specs.holder_model.LoweredRun.LowStepParts.{LowState}
use Rattle.count_machine_model.specs.holder_model.LoweredRun.LowSteps as steps
use Rattle.count_machine_model.specs.holder_model.LoweredRun.Stored.{numbers_of, unnamed}
use Rattle.count_machine_model.specs.declared.machine_steps.frame.Task.{Task}
use Rattle.count_machine_model.specs.declared.machine_steps.run_end.RunEnd.TheVariants as end
use Rattle.count_machine_model.specs.MachineSteps.Operands.{faults}
use Rattle.count_machine_model.specs.MachineSteps.Steps as machine
use Rattle.count_machine_model.specs.MachineSteps.Turning.{dropping}
use Rattle.count_machine_model.specs.MachineSteps.Views.{Goes, MachineView, Stops, Went}
use Rattle.count_machine_model.specs.declared.ready_code.function.ReadyModule.{ReadyModule}
use Rattle.count_machine_model.specs.ReadyCode.ReadyModules.{IsReadyModule}
use Rattle.count_machine_model.specs.holder_model.RunTyping.RunTyped.{RunTyped}
use Rattle.holder_model_values.specs.RunValues.Memory.{is_dead, is_dead_phase, object_at}
use Rattle.holder_model_values.specs.declared.run_values.phase.Phase.TheVariants.{Deiniting}
use Rattle.sil_ast.specs.declared.module.Module.{Module}
use Rattle.sil_ast.specs.declared.place.ObjectId.{ObjectId}
use Rattle.count_machine_laws.specs.inner.Told.{escaped}
use Rattle.count_machine_laws.proofs.Agreement.{Agrees, PartsAgree, ends_of}
use Rattle.count_machine_laws.proofs.DropTasks.{both_dropping, tasks_move}
use Rattle.count_machine_laws.proofs.Ending.{Alike, alike_by, ends, goes, memory_moves, strongs_of}
use Rattle.count_machine_laws.proofs.FinishTasks.{tasks_put}
use Rattle.count_machine_laws.proofs.Finished.{finished_heap, finished_only, memory_finished, references_agree}
use Rattle.count_machine_laws.proofs.Grows.{were_made}
use Rattle.count_machine_laws.proofs.LastStrongs.{strongs_still, unnamed_same}
use Rattle.count_machine_laws.proofs.NamedLists.{OnlyObjects}
use Rattle.count_machine_laws.proofs.Numbers.{phase_agrees, strong_agrees}
use Rattle.count_machine_laws.proofs.Objects.{is_of_class}
use Rattle.count_machine_laws.proofs.Slots.{Made}
use Rattle.count_machine_laws.proofs.Tasks.{Beginning, TasksAgree, is_finishing, to_go_on}

module _ (m : Module) (ready : ReadyModule) (entry : Beginning) (bound : ℕ) (typed : RunTyped m) (is_ready : IsReadyModule m entry.reached ready) (made : List Made) (s : LowState) (st : MachineView)
    (parts : PartsAgree m made s st) (o : ObjectId) (phase : (object_at s.memory o).phase ≡ Deiniting) (rest : List (low.Task LowFrame)) (rest' : List Task)
    (once : is_finishing o rest' ≡ false) (others : TasksAgree m entry made s.memory st to_go_on (ends_of st) rest rest') where
  alive : is_dead s.memory o ≡ false
  alive = ap is_dead_phase phase

  abbrev heap_then : HeapView
  heap_then = finished_heap m ready typed is_ready made s.memory s.numbers st o alive parts.memory

  -- behind the finish, before its references wait
  abbrev next : LowState
  next = record s {
    tasks = rest;
    memory = record s.memory { objects = set s.memory.objects o.0 (ended (object_at s.memory o)) };
    numbers = unnamed (object_at s.memory o).cells s.numbers;
  }

  abbrev next' : MachineView
  next' = record st { tasks = rest'; heap = heap_then }

  finished_agree : Agrees m entry made next next'
  finished_agree = record {
    parts = record {
      memory = memory_moves (memory_finished m ready typed is_ready made s.memory s.numbers st o alive parts.memory) refl refl refl refl;
      events = parts.events;
      turns = parts.turns;
      retains = only.retains ∙ parts.retains;
      releases = only.releases ∙ parts.releases;
    };
    tasks = tasks_move {st = st} {st' = next'} (were_made parts.memory.slots) refl refl refl refl refl
        (tasks_put (were_made parts.memory.slots) o (ended (object_at s.memory o)) refl once others);
  }
    where
      only : OnlyObjects st.heap heap_then
      only = finished_only m ready typed is_ready made s.memory s.numbers st o alive parts.memory

  pub finish_alike : Alike m entry (steps.finishes m (shapes_of m) bound (record s { tasks = rest }) o) (machine.finishes ready bound (record st { tasks = rest' }) o)
  finish_alike = at (numbers_of s.numbers o).strong refl
    where
      st' : MachineView
      st' = record st { tasks = rest' }

      before : LowState
      before = record s { tasks = rest; numbers = unnamed (object_at s.memory o).cells s.numbers }

      goes_on : Went
      goes_on =
          Goes (dropping (machine.strong_in_fields (machine.class_of ready st.heap o).fields (fields_in st.heap o)) next')

      strong_is : strong_in st.heap o ≡ (numbers_of s.numbers o).strong
      strong_is = strong_agrees m (is_of_class m s.memory) s.memory s.numbers st.heap o parts.memory.objects alive

      deiniting : machine.is_deiniting (phase_in st.heap o) ≡ true
      deiniting = ap machine.is_deiniting (phase_agrees m (is_of_class m s.memory) s.memory s.numbers st.heap o parts.memory.objects ∙ phase)

      at : (n : ℕ) → (numbers_of s.numbers o).strong ≡ n
          → Alike m entry (steps.finishes m (shapes_of m) bound (record s { tasks = rest }) o) (machine.finishes ready bound st' o)
      at zero count =
          alike_by (ap (finish_with before o) count)
          (cond-false (not (strong_in st.heap o == 0)) (Stops end.Escaped st') (cond (machine.is_deiniting (phase_in st.heap o)) goes_on (faults fault.Slot st'))
          (ap not (eq-eqb (strong_in st.heap o) 0 (strong_is ∙ count)))
          ∙ cond-true (machine.is_deiniting (phase_in st.heap o)) goes_on (faults fault.Slot st') deiniting
          ∙ ap (λ os. Goes (dropping os next')) (references_agree m ready typed is_ready made s.memory s.numbers st o alive parts.memory))
          (goes made (record next { tasks = low.dropping (field_references (object_at s.memory o)) rest }) (dropping (field_references (object_at s.memory o)) next')
          (both_dropping finished_agree (field_references (object_at s.memory o))))
      at (suc left) count =
          alike_by (ap (finish_with before o) count)
          (cond-true (not (strong_in st.heap o == 0)) (Stops end.Escaped st') (cond (machine.is_deiniting (phase_in st.heap o)) goes_on (faults fault.Slot st'))
          (ap not (ne_eqb (strong_in st.heap o) 0 (λ e. omega (arith, sym e ∙ strong_is ∙ count)))))
          (ends before st' (low.Trapped trap.Escaped) end.Escaped escaped (rw (parts.events, parts.retains, parts.releases))
          (strongs_still st.heap s.numbers before.numbers (unnamed_same (object_at s.memory o).cells s.numbers) (strongs_of parts)))

-- A reference is dropped.
use Rattle.std.proofs.Common.{◌≡◌, ◌+◌, ◌&&◌, ◌++◌, ◌==◌, ◌∙◌, ℕ, zero, suc, List, [], ◌∷◌, true, false, cond, drop, length, refl, reverse, sym, ap, take, arith, ◌-◌}
use Rattle.std.proofs.Math.Bool.{and-false, and-true}
use Rattle.std.proofs.lemmas.Bool.{cond-false, cond-true, eq-eqb, false≢true, ne_eqb}
use Rattle.count_heap.specs.HeapModel.HeapCalls.{released, started, takes_last}
use Rattle.count_heap.specs.HeapModel.HeapViews.{is_dead_in, strong_in}
use Rattle.count_machine_model.specs.holder_model.declared.event.Event.TheVariants as event
use Rattle.count_machine_model.specs.holder_model.Dropping as run
use Rattle.count_machine_model.specs.holder_model.Dropping.{deinits_of, in_phase}
use Rattle.count_machine_model.specs.holder_model.ModuleShapes.{shapes_of}
use Rattle.count_machine_model.specs.holder_model.States as low
use Rattle.count_machine_model.specs.holder_model.declared.lowered_run.low_fault.LowFault.TheVariants as fault
use Rattle.count_machine_model.specs.holder_model.LoweredRun.LowFrames.{LowFrame}
use Rattle.count_machine_model.specs.holder_model.LoweredRun.LowStepParts.{LowState}
use Rattle.count_machine_model.specs.holder_model.LoweredRun.LowSteps as steps
use Rattle.count_machine_model.specs.holder_model.LoweredRun.Stored.{changed, numbers_of, one_less}
use Rattle.count_machine_model.specs.declared.machine_steps.frame.Task.{Task}
use Rattle.count_machine_model.specs.declared.machine_steps.frame.Task.TheVariants as task
use Rattle.count_machine_model.specs.MachineSteps.Operands.{faults}
use Rattle.count_machine_model.specs.MachineSteps.Steps as machine
use Rattle.count_machine_model.specs.MachineSteps.Views.{Goes, MachineView}
use Rattle.count_machine_model.specs.declared.ready_code.function.ReadyModule.{ReadyModule}
use Rattle.holder_model_values.specs.RunValues.Memory.{Object, is_dead, is_dead_phase, is_live, is_live_phase, object_at, phase_of}
use Rattle.holder_model_values.specs.declared.run_values.phase.Phase.{Phase}
use Rattle.holder_model_values.specs.declared.run_values.phase.Phase.TheVariants.{Dead, Deiniting, Live}
use Rattle.sil_ast.specs.declared.module.Module.{Module}
use Rattle.sil_ast.specs.declared.place.ObjectId.{ObjectId}
use Rattle.sil_types_declarations.specs.TypeDefinitions.Declarations.{declarations_of}
use Rattle.count_machine_laws.proofs.Agreement.{Agrees, PartsAgree, ends_of}
use Rattle.count_machine_laws.proofs.Counted.{memory_released}
use Rattle.count_machine_laws.proofs.DropTasks.{LastOf, drops_left, last_of, one_left, tasks_move}
use Rattle.count_machine_laws.proofs.Ending.{Alike, alike_by, both_choose, fault_alike, goes, memory_moves, turn_alike}
use Rattle.count_machine_laws.proofs.Entries.{Ends}
use Rattle.count_machine_laws.proofs.FinishTasks.{live_not_finishing, object_there, tasks_put}
use Rattle.count_machine_laws.proofs.Grows.{were_made}
use Rattle.count_machine_laws.proofs.GrowsBy.{object_changed}
use Rattle.count_machine_laws.proofs.Memories.{MemoryAgrees}
use Rattle.count_machine_laws.proofs.Numbers.{alive_was_made, dead_agrees, last_agrees, name_agrees, strong_agrees}
use Rattle.count_machine_laws.proofs.Objects.{ObjectsAgree, is_of_class}
use Rattle.count_machine_laws.proofs.Phases.{memory_started}
use Rattle.count_machine_laws.proofs.Slots.{Made}
use Rattle.count_machine_laws.proofs.Tasks.{Beginning, TasksAgree, finishes, to_go_on}

live_is_alive : (p : Phase) → is_live_phase p ≡ true → is_dead_phase p ≡ false
live_is_alive Live e = refl
live_is_alive Deiniting e = refl
live_is_alive Dead e = absurd (false≢true e)

module _ (m : Module) (ready : ReadyModule) (entry : Beginning) (bound : ℕ) where
  -- a live object starts to deinitialise
  deinitialises_alike : (made : List Made) (s : LowState) (st : MachineView) (o : ObjectId) → Agrees m entry made s st → is_live s.memory o ≡ true
      → Alike m entry (run.deinitialises (declarations_of m) bound s o) (machine.deinitialises ready bound st o)
  deinitialises_alike made s st o agrees live =
      turn_alike agrees.parts bound (λ s'. low.Goes (next s')) (λ after. Goes (next' after))
      (λ parts. goes made (next (record s { turns = s.turns + 1 })) (next' (record st { turns = st.turns + 1 })) (record { parts = parts_then parts; tasks = tasks_then }))
    where
      next : LowState → LowState
      next s' = record s' {
        tasks = low.Finishes (deinits_of (declarations_of m) (object_at s'.memory o).class) o ∷ s'.tasks;
        memory = in_phase Deiniting s'.memory o;
        events = s'.events ++ event.Deinit (object_at s'.memory o).class o ∷ [];
      }

      next' : MachineView → MachineView
      next' after = record after {
        tasks = task.Finishes o 0 ∷ after.tasks;
        heap = started after.heap o;
        events = after.events ++ event.Deinit (machine.name_of after.heap o) o ∷ [];
      }

      alive : is_dead s.memory o ≡ false
      alive = live_is_alive (phase_of s.memory o) live

      memory : MemoryAgrees m made s.memory s.numbers st
      memory = agrees.parts.memory

      dying : Object
      dying = record (object_at s.memory o) { phase = Deiniting }

      there : object_at (in_phase Deiniting s.memory o) o ≡ dying
      there = object_there s.memory o dying (alive_was_made s.memory o alive)

      parts_then : PartsAgree m made (record s { turns = s.turns + 1 }) (record st { turns = st.turns + 1 })
          → PartsAgree m made (next (record s { turns = s.turns + 1 })) (next' (record st { turns = st.turns + 1 }))
      parts_then parts = record {
        memory = memory_moves (memory_started m made s.memory s.numbers st o alive memory) refl refl refl refl;
        events = ap (λ es. es ++ event.Deinit (machine.name_of st.heap o) o ∷ []) agrees.parts.events
            ∙ ap (λ c. s.events ++ event.Deinit c o ∷ []) (name_agrees m (is_of_class m s.memory) s.memory s.numbers st.heap o memory.objects memory.declared alive);
        turns = parts.turns;
        retains = parts.retains;
        releases = parts.releases;
      }

      tasks_then : TasksAgree m entry made (in_phase Deiniting s.memory o) (next' (record st { turns = st.turns + 1 })) to_go_on (ends_of st)
          (low.Finishes (deinits_of (declarations_of m) (object_at s.memory o).class) o ∷ s.tasks) (task.Finishes o 0 ∷ st.tasks)
      tasks_then =
          finishes to_go_on (deinits_of (declarations_of m) (object_at s.memory o).class) o 0 (ends_of st) s.tasks st.tasks
          (omega (arith, alive_was_made s.memory o alive, (object_changed s.memory o dying refl).objects)) (ap (λ x. x.phase) there)
          (ap (λ x. deinits_of (declarations_of m) x.class) (sym there)) (live_not_finishing agrees.tasks o live)
          (tasks_move {st = st} {st' = next' (record st { turns = st.turns + 1 })} (were_made memory.slots) refl refl refl refl refl
          (tasks_put (were_made memory.slots) o dying refl (live_not_finishing agrees.tasks o live) agrees.tasks))

  -- the number falls by one
  released_alike : (made : List Made) (s : LowState) (st : MachineView) (o : ObjectId) → Agrees m entry made s st → is_dead s.memory o ≡ false
      → (left : ℕ) → (numbers_of s.numbers o).strong ≡ suc left
      → Alike m entry (run.drop_with (declarations_of m) bound (record s { numbers = changed one_less s.numbers o; releases = s.releases + 1 }) o left)
      (machine.releases_alive ready bound st o)
  released_alike made s st o agrees alive left count = at left count
    where
      next : LowState
      next = record s { numbers = changed one_less s.numbers o; releases = s.releases + 1 }

      next' : MachineView
      next' = record st { heap = released st.heap o }

      memory : MemoryAgrees m made s.memory s.numbers st
      memory = agrees.parts.memory

      agrees_then : Agrees m entry made next next'
      agrees_then = record {
        parts = record {
          memory = memory_released m made s.memory s.numbers st o memory;
          events = agrees.parts.events;
          turns = agrees.parts.turns;
          retains = agrees.parts.retains;
          releases = ap (λ n. n + 1) agrees.parts.releases;
        };
        tasks = tasks_move {st = st} {st' = next'} (were_made memory.slots) refl refl refl refl refl agrees.tasks;
      }

      is_last : takes_last st.heap o ≡ (is_live s.memory o && (numbers_of s.numbers o).strong == 1)
      is_last = last_agrees m (is_of_class m s.memory) s.memory s.numbers st.heap o memory.objects alive

      at : (left : ℕ) → (numbers_of s.numbers o).strong ≡ suc left
          → Alike m entry (run.drop_with (declarations_of m) bound next o left) (machine.releases_alive ready bound st o)
      at zero count =
          both_choose (is_live s.memory o) (takes_last st.heap o) (is_last ∙ ap (λ n. is_live s.memory o && n == 1) count ∙ and-true (is_live s.memory o))
          (λ live. deinitialises_alike made next next' o agrees_then live) (λ not_live. goes made next next' agrees_then)
      at (suc left) count =
          alike_by refl
          (cond-false (takes_last st.heap o) (machine.deinitialises ready bound next' o) (Goes next')
          (is_last ∙ ap (λ n. is_live s.memory o && n == 1) count ∙ ap (λ b. is_live s.memory o && b) (ne_eqb (suc (suc left)) 1 (λ e. omega (arith, e)))
          ∙ and-false (is_live s.memory o)))
          (goes made next next' agrees_then)

  release_alike : (made : List Made) (s : LowState) (st : MachineView) (o : ObjectId) → Agrees m entry made s st
      → Alike m entry (steps.releases_one m (shapes_of m) bound s o) (machine.releases ready bound st o)
  release_alike made s st o agrees =
      both_choose (is_dead s.memory o) (is_dead_in st.heap o) (dead_agrees m (is_of_class m s.memory) s.memory s.numbers st.heap o objects)
      (λ e. fault_alike agrees.parts (fault.Dead o)) (λ alive. at alive (numbers_of s.numbers o).strong refl)
    where
      objects : ObjectsAgree m (is_of_class m s.memory) s.memory.objects s.numbers st.heap.objects
      objects = agrees.parts.memory.objects

      at : is_dead s.memory o ≡ false → (n : ℕ) → (numbers_of s.numbers o).strong ≡ n
          → Alike m entry (steps.releases_with m (shapes_of m) bound s o (numbers_of s.numbers o).strong)
          (cond (strong_in st.heap o == 0) (faults (fault.Underflow o 0) st) (machine.releases_alive ready bound st o))
      at alive zero count =
          alike_by (ap (steps.releases_with m (shapes_of m) bound s o) count)
          (cond-true (strong_in st.heap o == 0) (faults (fault.Underflow o 0) st) (machine.releases_alive ready bound st o)
          (eq-eqb (strong_in st.heap o) 0 (strong_agrees m (is_of_class m s.memory) s.memory s.numbers st.heap o objects alive ∙ count)))
          (fault_alike agrees.parts (fault.Underflow o 0))
      at alive (suc left) count =
          alike_by (ap (steps.releases_with m (shapes_of m) bound s o) count)
          (cond-false (strong_in st.heap o == 0) (faults (fault.Underflow o 0) st) (machine.releases_alive ready bound st o)
          (ne_eqb (strong_in st.heap o) 0 (λ e. omega (arith, sym e ∙ strong_agrees m (is_of_class m s.memory) s.memory s.numbers st.heap o objects alive ∙ count))))
          (released_alike made s st o agrees alive left count)

  -- the next of the references that wait is dropped
  pub drop_alike : (made : List Made) (s : LowState) (st : MachineView) → PartsAgree m made s st
      → (below : Ends) (o : ObjectId) (os : List ObjectId) (rest : List (low.Task LowFrame)) (rest' : List Task) → TasksAgree m entry made s.memory st to_go_on below rest rest'
      → ends_of st ≡ record below { waiting = below.waiting + length (o ∷ os) } → take (length (o ∷ os)) (drop below.waiting st.waiting) ≡ reverse (o ∷ os)
      → Alike m entry (steps.task_step m (shapes_of m) bound s (low.Drops (o ∷ os) ∷ rest)) (machine.drops ready bound st below.waiting rest')
  drop_alike made s st parts below o os rest rest' others up_to waits =
      alike_by refl (ap (machine.drops_last ready bound st below.waiting rest' (length st.waiting - 1)) last.there)
      (release_alike made (record s { tasks = low.Drops os ∷ rest }) (one_left ready bound st below.waiting rest') o (record {
        parts = record {
          memory = memory_moves parts.memory refl refl refl refl;
          events = parts.events;
          turns = parts.turns;
          retains = parts.retains;
          releases = parts.releases;
        };
        tasks = drops_left ready bound st (were_made parts.memory.slots) below o rest rest' others os up_to last;
      }))
    where
      last : LastOf st.waiting below.waiting o os
      last = last_of st.waiting below.waiting o os (ap (λ e. e.waiting) up_to) waits

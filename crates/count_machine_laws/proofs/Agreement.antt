-- When a state of the run of lowered code and one of the machine agree, and that their steps lead to states that do.
use Rattle.std.proofs.Common.{◌≡◌, ℕ, List, length}
use Rattle.count_machine_model.specs.holder_model.ModuleShapes.{shapes_of}
use Rattle.count_machine_model.specs.holder_model.Outcomes.{run}
use Rattle.count_machine_model.specs.holder_model.States as low
use Rattle.count_machine_model.specs.holder_model.States.{Ending}
use Rattle.count_machine_model.specs.holder_model.LoweredRun.LowStepParts.{LowState}
use Rattle.count_machine_model.specs.holder_model.LoweredRun.LowSteps.{low_step}
use Rattle.count_machine_model.specs.holder_model.LoweredRun.LowOutcomes.{low_outcome_at}
use Rattle.count_machine_model.specs.holder_model.declared.lowered_run.low_fault.LowFault.{LowFault}
use Rattle.count_machine_model.specs.MachineSteps.Steps.{machine_step}
use Rattle.count_machine_model.specs.MachineSteps.Views.{Goes, MachineView, Stops, Went}
use Rattle.count_machine_model.specs.declared.machine_steps.run_end.RunEnd.{RunEnd}
use Rattle.count_machine_model.specs.declared.ready_code.function.ReadyModule.{ReadyModule}
use Rattle.count_machine_model.specs.ReadyCode.ReadyModules.{IsReadyModule}
use Rattle.count_machine_model.specs.holder_model.RunTyping.RunTyped.{RunTyped}
use Rattle.sil_ast.specs.declared.module.Module.{Module}
use Rattle.count_machine_laws.specs.inner.Told.{IsEnding, outcome_told}
use Rattle.count_machine_laws.proofs.Entries.{Ends}
use Rattle.count_machine_laws.proofs.LastStrongs.{StrongsAre}
use Rattle.count_machine_laws.proofs.Memories.{MemoryAgrees}
use Rattle.count_machine_laws.proofs.Slots.{Made}
use Rattle.count_machine_laws.proofs.Tasks.{Beginning, TasksAgree, to_go_on}

-- the machine's stacks end where its first task says
abbrev pub ends_of : MachineView → Ends
ends_of st = record { values = length st.there; leaves = length st.leaves; addresses = length st.addresses; slots = length st.slots; waiting = length st.waiting }

-- all but the tasks
pub record PartsAgree (m : Module) (made : List Made) (s : LowState) (st : MachineView) : Type 0 where
  pub memory : MemoryAgrees m made s.memory s.numbers st
  pub events : st.events ≡ s.events
  pub turns : st.turns ≡ s.turns
  pub retains : st.heap.retains ≡ s.retains
  pub releases : st.heap.releases ≡ s.releases

pub record Agrees (m : Module) (entry : Beginning) (made : List Made) (s : LowState) (st : MachineView) : Type 0 where
  pub parts : PartsAgree m made s st
  pub tasks : TasksAgree m entry made s.memory st to_go_on (ends_of st) s.tasks st.tasks

-- where the machine has gone, so has the run, in some steps; before the one by which it ends it came to a state with the same memory
pub data Follows (m : Module) (entry : Beginning) (bound : ℕ) (s : LowState) : Went → Type 0 where
  goes : (made : List Made) (j : ℕ) (s' : LowState) (st : MachineView) → run (low_step m (shapes_of m) bound) j s ≡ low.Goes s' → Agrees m entry made s' st
      → Follows m entry bound s (Goes st)
  stops : (j : ℕ) (found s' : LowState) (st : MachineView) (end : RunEnd) (e : Ending LowFault) → run (low_step m (shapes_of m) bound) j s ≡ low.Goes found
      → found.memory ≡ s.memory → found.numbers ≡ s.numbers → low_step m (shapes_of m) bound found ≡ low.Ends e s'
      → IsEnding m entry.gives st end e → low_outcome_at e s' ≡ outcome_told st end e → StrongsAre st.heap s'.numbers → Follows m entry bound s (Stops end st)

-- whatever step the machine makes of a state that agrees, the run follows
abbrev pub StepsFollow : Type 0
StepsFollow = (m : Module) (ready : ReadyModule) (entry : Beginning) (bound : ℕ) → RunTyped m → IsReadyModule m entry.reached ready → (made : List Made) (s : LowState) (st : MachineView)
    → Agrees m entry made s st → Follows m entry bound s (machine_step ready bound st)

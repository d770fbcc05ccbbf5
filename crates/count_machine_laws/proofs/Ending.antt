-- What the run does next, and what the machine does: alike where they lead to states that agree, or end alike.
use Rattle.std.proofs.Common.{◌≡◌, ◌+◌, ◌∙◌, ℕ, List, Bool, true, false, cond, refl, sym, ap, subst, nat_lt}
use Rattle.count_machine_model.specs.holder_model.Outcomes.{Numbers}
use Rattle.count_machine_model.specs.holder_model.States as low
use Rattle.count_machine_model.specs.holder_model.States.{Ending, Faulted, OutOfTurns}
use Rattle.count_machine_model.specs.holder_model.LoweredRun.LowFrames.{LowFrame}
use Rattle.count_machine_model.specs.holder_model.LoweredRun.LowOutcomes.{low_left_by, low_outcome_at}
use Rattle.count_machine_model.specs.holder_model.LoweredRun.LowStepParts.{LowNext, LowState, fails}
use Rattle.count_machine_model.specs.holder_model.declared.lowered_run.low_fault.LowFault.{LowFault}
use Rattle.count_machine_model.specs.declared.machine_steps.frame.Task.{Task}
use Rattle.count_machine_model.specs.MachineSteps.Operands.{faults}
use Rattle.count_machine_model.specs.MachineSteps.Turning.{turn}
use Rattle.count_machine_model.specs.MachineSteps.Views.{Goes, MachineView, Stops, Went}
use Rattle.count_machine_model.specs.declared.machine_steps.run_end.RunEnd.{RunEnd}
use Rattle.count_machine_model.specs.declared.machine_steps.run_end.RunEnd.TheVariants as end
use Rattle.holder_model_values.specs.RunValues.Memory.{Memory}
use Rattle.sil_ast.specs.declared.module.Module.{Module}
use Rattle.count_machine_laws.specs.inner.Told.{IsEnding, fault, left_after, out_of_turns, outcome_told}
use Rattle.count_machine_laws.proofs.Agreement.{Agrees, PartsAgree}
use Rattle.count_machine_laws.proofs.LastStrongs.{SameStrongs, StrongsAre, strongs_are, strongs_still}
use Rattle.count_machine_laws.proofs.Memories.{MemoryAgrees}
use Rattle.count_machine_laws.proofs.Objects.{is_of_class}
use Rattle.count_machine_laws.proofs.Slots.{Made}
use Rattle.count_machine_laws.proofs.Tasks.{Beginning}

pub data Alike (m : Module) (entry : Beginning) : LowNext → Went → Type 0 where
  goes : (made : List Made) (s : LowState) (st : MachineView) → Agrees m entry made s st → Alike m entry (low.Goes s) (Goes st)
  ends : (s : LowState) (st : MachineView) (e : Ending LowFault) (end : RunEnd) → IsEnding m entry.gives st end e
      → low_outcome_at e s ≡ outcome_told st end e → StrongsAre st.heap s.numbers → Alike m entry (low.Ends e s) (Stops end st)

-- so are what equals the one and the other
pub alike_by : {m : Module} {entry : Beginning} {n n' : LowNext} {w w' : Went} → n ≡ n' → w ≡ w' → Alike m entry n' w' → Alike m entry n w
alike_by {m = m} {entry = entry} {n = n} {w' = w'} en ew alike = subst (λ x. Alike m entry n x) (sym ew) (subst (λ x. Alike m entry x w') (sym en) alike)

-- both choose by the same test
pub both_choose : {m : Module} {entry : Beginning} {n n' : LowNext} {w w' : Went} (b c : Bool) → c ≡ b → (b ≡ true → Alike m entry n w) → (b ≡ false → Alike m entry n' w')
    → Alike m entry (cond b n n') (cond c w w')
both_choose {m = m} {entry = entry} {n = n} {n' = n'} {w = w} {w' = w'} b c same where_set where_clear = subst (λ x. Alike m entry (cond b n n') (cond x w w')) (sym same) (at b refl)
  where
    at : (x : Bool) → b ≡ x → Alike m entry (cond x n n') (cond x w w')
    at true e = where_set e
    at false e = where_clear e

-- the strong numbers of the heap are those that are stored
pub strongs_of : {m : Module} {made : List Made} {s : LowState} {st : MachineView} → PartsAgree m made s st → StrongsAre st.heap s.numbers
strongs_of {m = m} {s = s} {st = st} parts = strongs_are m (is_of_class m s.memory) s.memory.objects s.numbers st.heap parts.memory.objects

module _ {m : Module} {entry : Beginning} {made : List Made} {s : LowState} {st : MachineView} (parts : PartsAgree m made s st) where
  pub ends_alike : (e : Ending LowFault) (end : RunEnd) → IsEnding m entry.gives st end e → low_left_by s e ≡ left_after st end
      → Alike m entry (low.Ends e s) (Stops end st)
  ends_alike e end is left = ends s st e end is (rw (parts.events, parts.retains, parts.releases, left)) (strongs_of parts)

  -- whatever storage has come to name in the run
  pub ends_alike_with : (numbers : List Numbers) → SameStrongs numbers s.numbers → (e : Ending LowFault) (end : RunEnd) → IsEnding m entry.gives st end e
      → low_left_by (record s { numbers = numbers }) e ≡ left_after st end → Alike m entry (low.Ends e (record s { numbers = numbers })) (Stops end st)
  ends_alike_with numbers same e end is left =
      ends (record s { numbers = numbers }) st e end is (rw (parts.events, parts.retains, parts.releases, left)) (strongs_still st.heap s.numbers numbers same (strongs_of parts))

  pub fault_alike : (x : LowFault) → Alike m entry (fails s x) (faults x st)
  fault_alike x = ends_alike (Faulted x) (end.Fault x) (fault x) refl

-- a view with the same memory

pub memory_moves : {m : Module} {made : List Made} {mem : Memory} {numbers : List Numbers} {st st' : MachineView} → MemoryAgrees m made mem numbers st
    → st'.slots ≡ st.slots → st'.slot_leaves ≡ st.slot_leaves → st'.heap ≡ st.heap → st'.serials ≡ st.serials → MemoryAgrees m made mem numbers st'
memory_moves {m = m} {made = made} {mem = mem} {numbers = numbers} {st = st} {st' = st'} a slots leaves heap serials = record {
  stack = a.stack;
  serials = serials ∙ a.serials;
  slots = rw (slots, leaves) a.slots;
  objects = rw heap a.objects;
  declared = rw heap a.declared;
}

-- all but the tasks agrees whatever the tasks are
pub parts_with : {m : Module} {made : List Made} {s : LowState} {st : MachineView} → PartsAgree m made s st → (ts : List (low.Task LowFrame)) (ts' : List Task)
    → PartsAgree m made (record s { tasks = ts }) (record st { tasks = ts' })
parts_with parts ts ts' = record {
  memory = memory_moves parts.memory refl refl refl refl;
  events = parts.events;
  turns = parts.turns;
  retains = parts.retains;
  releases = parts.releases;
}

-- a turn

module _ {m : Module} {made : List Made} {s : LowState} {st : MachineView} (parts : PartsAgree m made s st) where
  parts_turned : PartsAgree m made (record s { turns = s.turns + 1 }) (record st { turns = st.turns + 1 })
  parts_turned = record {
    memory = memory_moves parts.memory refl refl refl refl;
    events = parts.events;
    turns = ap (λ n. n + 1) parts.turns;
    retains = parts.retains;
    releases = parts.releases;
  }

  pub turn_alike : {entry : Beginning} (bound : ℕ) (go : LowState → LowNext) (go' : MachineView → Went)
      → (PartsAgree m made (record s { turns = s.turns + 1 }) (record st { turns = st.turns + 1 })
      → Alike m entry (go (record s { turns = s.turns + 1 })) (go' (record st { turns = st.turns + 1 })))
      → Alike m entry (low.turn bound s go) (turn bound st go')
  turn_alike bound go go' then =
      both_choose (nat_lt s.turns bound) (nat_lt st.turns bound) (ap (λ n. nat_lt n bound) parts.turns) (λ e. then parts_turned)
      (λ e. ends_alike parts OutOfTurns end.OutOfTurns out_of_turns refl)

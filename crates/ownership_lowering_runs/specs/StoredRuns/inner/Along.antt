-- States of both runs that go along but for stored numbers: what a step keeps that neither makes references nor drops any.
use Rattle.std.specs.Prelude.{◌≡◌, List, Ok}
use Rattle.numbered_form.specs.Lists.{Each}
use Rattle.sil_ast.specs.declared.function.Function.{Function}
use Rattle.sil_ast.specs.declared.module.Module.{Module}
use Rattle.sil_cfg.specs.declared.item.Item.{Item}
use Rattle.sil_cfg_items.specs.Items.{item_taken}
use Rattle.sil_verifier_runs.specs.holder_model.Faults.{HolderFault}
use Rattle.sil_verifier_runs.specs.holder_model.Frames.{Frame, Operands, operands_of}
use Rattle.sil_verifier_runs.specs.holder_model.HolderStates.{HolderNext, HolderState}
use Rattle.sil_verifier_runs.specs.holder_model.ModuleFacts.{facts_of, facts_told}
use Rattle.sil_verifier_runs.specs.holder_model.Outcomes.{Numbers, outcome_at}
use Rattle.sil_verifier_runs.specs.holder_model.States.{Ending, Ends, Faulted, Goes}
use Rattle.sil_verifier_runs.specs.holder_model.declared.lowered_run.low_fault.LowFault.{LowFault}
use Rattle.sil_verifier_runs.specs.holder_model.LoweredRun.LowOutcomes.{low_outcome_at}
use Rattle.sil_verifier_runs.specs.holder_model.LoweredRun.LowStepParts.{LowNext, LowState}
use Rattle.ownership_lowering_runs.specs.StoredRuns.inner.Frames.{AreTasksFor, HasFullParts, IsNoAddress}
use Rattle.ownership_lowering_runs.specs.StoredRuns.inner.Memories.{IsMemoryFor}
use Rattle.ownership_lowering_runs.specs.StoredRuns.inner.Runs.{IsOutcomeFor}

pub record AreTotalsFor (s : HolderState) (low : LowState) : Type 0 where
  pub events : low.events ≡ s.events
  pub turns : low.turns ≡ s.turns
  pub retains : low.retains ≡ s.retains
  pub releases : low.releases ≡ s.releases

pub record IsAlong (m : Module) (s : HolderState) (low : LowState) : Type 0 where
  pub tasks : AreTasksFor m s.tasks low.tasks
  pub memory : IsMemoryFor s.memory low.memory
  pub parts : Each (HasFullParts m low.memory) low.tasks
  pub totals : AreTotalsFor s low

-- both go on, and the stored numbers are these; or both end, and in the same way
pub data IsNextAlong (m : Module) (stored : List Numbers) : HolderNext → LowNext → Type 0 where
  goes : (s : HolderState) (l : LowState) → IsAlong m s l → l.numbers ≡ stored → IsNextAlong m stored (Goes s) (Goes l)
  ends : (e : Ending HolderFault) (s : HolderState) (x : Ending LowFault) (l : LowState) → IsOutcomeFor (outcome_at e s) (low_outcome_at x l)
      → IsNextAlong m stored (Ends e s) (Ends x l)

-- it is no fault
abbrev pub IsNoFault : HolderNext → Type 0
IsNoFault next = (x : HolderFault) (last : HolderState) → next ≡ Ends (Faulted x) last → ⊥

-- what the item takes in the frame is no address
abbrev pub TakesNoAddress : Module → HolderState → Frame → Function → Item → Type 0
TakesNoAddress m s frame f i = (ops : Operands)
    → operands_of (facts_told (facts_of m) frame.function) s.memory frame.entries (item_taken f i) ≡ Ok ops → Each IsNoAddress ops.given

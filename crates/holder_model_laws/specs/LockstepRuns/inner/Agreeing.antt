-- Runs by holders of two modules that agree: what a report shows of them is the same, and the second one has no more retains and releases.
use Rattle.std.specs.Prelude.{◌≡◌, ◌≤◌, ℕ, true, Some, slice_get}
use Rattle.sil_ast.specs.declared.function.Function.{Function}
use Rattle.sil_ast.specs.declared.module.Module.{Module}
use Rattle.sil_ast.specs.declared.place.FuncId.{FuncId}
use Rattle.holder_model.specs.Faults.{HolderFault}
use Rattle.holder_model.specs.HolderStates.{HolderState}
use Rattle.holder_model.specs.ModuleFacts.{ModuleFacts, facts_of}
use Rattle.holder_model.specs.Outcomes.{EndsSo, Outcome, begins, left_by, may_start, run}
use Rattle.holder_model.specs.States.{Ending, Ends}
use Rattle.holder_model.specs.Steps.{step}

-- ---- two states in which runs end

pub record EndsAsItDid (ending : Ending HolderFault) (first second : HolderState) : Type 0 where
  pub events : second.events ≡ first.events
  -- objects and cells
  pub memory : second.memory ≡ first.memory
  -- after a return the unfreed objects, with all their numbers
  pub left : left_by second ending ≡ left_by first ending
  pub turns : second.turns ≡ first.turns
  pub retains : second.retains ≤ first.retains
  pub releases : second.releases ≤ first.releases

-- ---- two runs from an entry function, for a bound on turns

module _ (m : Module) (told : ModuleFacts) (e : FuncId) (bound : ℕ) where
  -- the run ends so, in this state
  pub record EndsIn (ending : Ending HolderFault) (s : HolderState) : Type 0 where
    pub f : Function
    pub is : slice_get m.functions e.0 ≡ Some f
    pub steps : ℕ
    pub ends : run (step m told bound) steps (begins e f) ≡ Ends ending s

module _ (m m' : Module) (told told' : ModuleFacts) (e : FuncId) (bound : ℕ) where
  pub record EndsLike (ending : Ending HolderFault) (first : HolderState) : Type 0 where
    pub second : HolderState
    pub ends : EndsIn m' told' e bound ending second
    pub as_it_did : EndsAsItDid ending first second

  pub record EndedLike (ending : Ending HolderFault) (second : HolderState) : Type 0 where
    pub first : HolderState
    pub ends : EndsIn m told e bound ending first
    pub as_it_did : EndsAsItDid ending first second

  -- where the first run ends the second one does, as it did, and the other way round
  pub record RunsAgree : Type 0 where
    pub forth : (ending : Ending HolderFault) (first : HolderState) → EndsIn m told e bound ending first → EndsLike ending first
    pub back : (ending : Ending HolderFault) (second : HolderState) → EndsIn m' told' e bound ending second → EndedLike ending second

-- ---- all runs

-- a run may start at the function
pub record MayStartAt (m : Module) (e : FuncId) : Type 0 where
  pub f : Function
  pub is : slice_get m.functions e.0 ≡ Some f
  pub may : may_start f ≡ true

-- The second module runs as the first did, from the same entries, for every bound on turns.
pub record RunsAsItDid (m m' : Module) : Type 0 where
  pub starts : (e : FuncId) → MayStartAt m e → MayStartAt m' e
  pub started : (e : FuncId) → MayStartAt m' e → MayStartAt m e
  pub agree : (e : FuncId) (bound : ℕ) → MayStartAt m e → RunsAgree m m' (facts_of m) (facts_of m') e bound

-- ---- what is told of them

pub record TellsAsItDid (first second : Outcome HolderFault) : Type 0 where
  pub events : second.events ≡ first.events
  pub ending : second.ending ≡ first.ending
  pub left : second.left ≡ first.left
  pub retains : second.retains ≤ first.retains
  pub releases : second.releases ≤ first.releases

pub record OutcomesAgree (m m' : Module) (e : FuncId) (bound : ℕ) : Type 0 where
  pub forth : (first : Outcome HolderFault) → EndsSo m e bound first → (second : Outcome HolderFault) × EndsSo m' e bound second × TellsAsItDid first second
  pub back : (second : Outcome HolderFault) → EndsSo m' e bound second → (first : Outcome HolderFault) × EndsSo m e bound first × TellsAsItDid first second

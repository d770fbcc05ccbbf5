-- Laws of runs in lockstep.
use Rattle.std.specs.Prelude.{◌≡◌, ℕ, List, true, Some, slice_get}
use Rattle.sil_ast.specs.declared.function.Function.{Function}
use Rattle.sil_ast.specs.declared.module.Module.{Module}
use Rattle.sil_ast.specs.declared.place.FuncId.{FuncId}
use Rattle.sil_cfg.specs.declared.item.Item.{Item}
use Rattle.sil_types_declarations.specs.TypeDefinitions.Declarations.{declarations_of}
use Rattle.holder_model.specs.Frames.{Entry}
use Rattle.holder_model.specs.HolderStates.{HolderState}
use Rattle.holder_model.specs.ModuleFacts.{ModuleFacts, facts_of}
use Rattle.holder_model.specs.Outcomes.{begins, may_start}
use Rattle.holder_model_laws.specs.LockstepRuns.inner.Agreeing.{OutcomesAgree, RunsAgree, RunsAsItDid}
use Rattle.holder_model_laws.specs.LockstepRuns.inner.Lockstep.{IsKeptBy}
use Rattle.holder_model_laws.specs.LockstepRuns.inner.Frames.{FrameParts}
use Rattle.holder_model_laws.specs.LockstepRuns.inner.Parts.{HasFunctions, Parts}

-- so it is of whole runs, from these parts
abbrev pub RunsAgreeBy : ((m m' : Module) (told told' : ModuleFacts) (bound : ℕ) (First Second : HolderState → Type 0)
    (Like : FuncId → List Item → List Entry → List Item → List Entry → Type 0) (Alone : FuncId → List Item → Type 0) → Type 0) → Type 1
RunsAgreeBy By = (m m' : Module) (told told' : ModuleFacts) (bound : ℕ) (First Second : HolderState → Type 0)
    (Like : FuncId → List Item → List Entry → List Item → List Entry → Type 0) (Alone : FuncId → List Item → Type 0)
    → IsKeptBy m told bound First → IsKeptBy m' told' bound Second → By m m' told told' bound First Second Like Alone
    → (e : FuncId) (f f' : Function) → slice_get m.functions e.0 ≡ Some f → slice_get m'.functions e.0 ≡ Some f' → First (begins e f) → Second (begins e f')
    → RunsAgree m m' told told' e bound

-- What is proved of the steps of frames holds of whole runs.
abbrev pub AreRunsInLockstep : Type 1
AreRunsInLockstep = RunsAgreeBy Parts

-- And so does what is proved of frames, item by item.
abbrev pub AreFramesInLockstep : Type 1
AreFramesInLockstep = RunsAgreeBy FrameParts

-- what holds of the states of all runs of a module, for each bound on turns. None of them faults
pub record HoldsOnRuns (m : Module) (Holds : ℕ → HolderState → Type 0) : Type 0 where
  pub begin : (bound : ℕ) (e : FuncId) (f : Function) → slice_get m.functions e.0 ≡ Some f → may_start f ≡ true → Holds bound (begins e f)
  pub kept : (bound : ℕ) → IsKeptBy m (facts_of m) bound (Holds bound)

-- So a module runs as it did, where the parts are proved for each bound.
abbrev pub RunAsTheyDid : Type 1
RunAsTheyDid = (m m' : Module) (First Second : ℕ → HolderState → Type 0) (Like : FuncId → List Item → List Entry → List Item → List Entry → Type 0)
    (Alone : FuncId → List Item → Type 0) → HoldsOnRuns m First → HoldsOnRuns m' Second → HasFunctions m m'
    → ((bound : ℕ) → FrameParts m m' (facts_of m) (facts_of m') bound (First bound) (Second bound) Like Alone) → RunsAsItDid m m'

-- and of what is told of them
abbrev pub AreOutcomesInLockstep : Type 0
AreOutcomesInLockstep = (m m' : Module) (e : FuncId) (bound : ℕ) → RunsAgree m m' (facts_of m) (facts_of m') e bound → OutcomesAgree m m' e bound

-- modules with the same functions and declarations run alike, whatever else they differ in
pub record HaveSameFunctions (m m' : Module) : Type 0 where
  pub functions : m'.functions ≡ m.functions
  pub declarations : declarations_of m' ≡ declarations_of m

-- a module runs as itself, and what is rewritten once and again as the first one did
abbrev pub IsAsItDidAgain : Type 0
IsAsItDidAgain = ((m : Module) → RunsAsItDid m m) × ((m m' m'' : Module) → RunsAsItDid m m' → RunsAsItDid m' m'' → RunsAsItDid m m'')

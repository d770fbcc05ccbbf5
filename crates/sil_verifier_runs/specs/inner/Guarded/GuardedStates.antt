-- States of a run by holders in which no operand names a dead object: lent entries are guarded, dead objects have no strong holder,
-- and just the objects that are deinitialising have a finish.
use Rattle.std.specs.Prelude.{◌≡◌, ℕ, ◌+◌, List, [], ◌∷◌, true, false, Bool, cond, Some, slice_get}
use Rattle.sil_ast.specs.declared.decl.Storage.TheVariants as storage
use Rattle.sil_ast.specs.declared.function.Function.{Function}
use Rattle.sil_ast.specs.declared.module.Module.{Module}
use Rattle.sil_ast.specs.declared.place.FuncId.{FuncId}
use Rattle.sil_ast.specs.declared.place.ObjectId.{ObjectId}
use Rattle.sil_ast.specs.declared.place.ValueId.{ValueId}
use Rattle.sil_types_declarations.specs.TypeDefinitions.Declarations.{declarations_of}
use Rattle.holder_model_values.specs.declared.run_values.phase.Phase.{Phase}
use Rattle.holder_model_values.specs.declared.run_values.phase.Phase.TheVariants.{Live, Deiniting, Dead}
use Rattle.holder_model_values.specs.RunValues.Memory.{Memory, is_dead, phase_of}
use Rattle.sil_verifier_frames.specs.holder_model.Data.{Datum, references_in}
use Rattle.sil_verifier_frames.specs.holder_model.Frames.{Frame, Lent, entry_at}
use Rattle.sil_verifier_frames.specs.holder_model.Holders.{in_memory, one_object}
use Rattle.sil_verifier_frames.specs.holder_model.HolderStates.{HolderState}
use Rattle.sil_verifier_frames.specs.holder_model.States.{Drops, Finishes, Runs, Task}
use Rattle.sil_verifier_frames.specs.holder_model_laws.HolderLaws.inner.Steps.Stacks.{Below, Going}
use Rattle.sil_verifier_frames.specs.holder_model_laws.HolderLaws.inner.Counts.Moving.{in_tasks}
use Rattle.sil_verifier_runs.specs.inner.Guarded.Guards.{AreLentGuarded, AreOfKinds, Guard, IsArgument, IsNamed, Lending}

abbrev pub is_deiniting_phase : Phase → Bool
is_deiniting_phase Live = false
is_deiniting_phase Deiniting = true
is_deiniting_phase Dead = false

-- how many finishes of the object wait
abbrev pub finishes_of : ObjectId → List (Task Frame) → ℕ
finishes_of o [] = 0
finishes_of o (Runs frame ∷ tasks) = finishes_of o tasks
finishes_of o (Drops references ∷ tasks) = finishes_of o tasks
finishes_of o (Finishes deinits p ∷ tasks) = one_object o p + finishes_of o tasks

-- each object that is deinitialising has one finish, and no other object has any
abbrev pub AreFinishesRight : Memory → List (Task Frame) → Type 0
AreFinishesRight memory tasks = (o : ObjectId) → finishes_of o tasks ≡ cond (is_deiniting_phase (phase_of memory o)) 1 0

-- the strong holders of an object in tasks and in memory
abbrev pub holders_in : Memory → List (Task Frame) → ObjectId → ℕ
holders_in memory tasks o = in_tasks (one_object o) tasks + in_memory (one_object o) storage.Strong memory

-- a dead object, or one that isn't made yet, has no strong holder
abbrev pub HaveDeadNoHolders : Memory → List (Task Frame) → Type 0
HaveDeadNoHolders memory tasks = (o : ObjectId) → is_dead memory o ≡ true → holders_in memory tasks o ≡ 0

-- which cells the scopes of a frame lend
abbrev pub Loans : Type 0
Loans = Function → Frame → Lending

module _ (m : Module) (loans : Loans) (memory : Memory) where
  -- the object is guarded in the frame
  pub record IsGuardedIn (frame : Frame) (o : ObjectId) : Type 0 where
    pub f : Function
    pub is : slice_get m.functions frame.function.0 ≡ Some f
    pub base : ValueId
    pub guard : Guard (declarations_of m) f (loans f frame) memory frame.entries o base

  -- what the tasks below a frame keep for its guaranteed arguments
  abbrev pub KeepsBelow : List (Task Frame) → ObjectId → Type 0
  KeepsBelow [] o = ⊥
  KeepsBelow (Runs frame ∷ rest) o = IsGuardedIn frame o
  KeepsBelow (Drops references ∷ rest) o = ⊥
  KeepsBelow (Finishes deinits p ∷ rest) o = o ≡ p

  -- a frame, whether it goes on or waits for a callee behind the ends of the item at which it stands
  pub record IsGuardedFrame (frame : Frame) (rest : List (Task Frame)) : Type 0 where
    pub f : Function
    pub is : slice_get m.functions frame.function.0 ≡ Some f
    pub kinds : AreOfKinds (declarations_of m) f frame.entries
    pub lent : AreLentGuarded (declarations_of m) f (loans f frame) memory frame.entries frame.trail
    -- what its arguments name is kept below
    pub arguments : (a : ValueId) (x : Datum) (o : ObjectId) → IsArgument f a → entry_at frame.entries a ≡ Lent x → IsNamed o (references_in x)
        → KeepsBelow rest o

  abbrev pub WaitsGuarded : Frame → Frame → List (Task Frame) → Type 0
  WaitsGuarded callee frame rest = IsGuardedFrame frame rest

  abbrev pub DeinitsGuarded : Frame → ObjectId → Type 0
  DeinitsGuarded callee o = Unit {0}

  abbrev pub DroppedGuarded : List ObjectId → Type 0
  DroppedGuarded references = Unit {0}

  abbrev pub FinishedGuarded : List FuncId → ObjectId → Type 0
  FinishedGuarded deinits o = Unit {0}

  abbrev pub TasksAreGuarded : List (Task Frame) → Type 0
  TasksAreGuarded tasks = Going IsGuardedFrame WaitsGuarded DeinitsGuarded DroppedGuarded FinishedGuarded tasks

  abbrev pub BelowIsGuarded : Frame → List (Task Frame) → Type 0
  BelowIsGuarded callee rest = Below IsGuardedFrame WaitsGuarded DeinitsGuarded DroppedGuarded FinishedGuarded callee rest

-- what holds of the memory and the tasks of a state
pub record IsGuardedRun (m : Module) (loans : Loans) (memory : Memory) (tasks : List (Task Frame)) : Type 0 where
  pub tasks_are : TasksAreGuarded m loans memory tasks
  pub dead : HaveDeadNoHolders memory tasks
  pub finishes : AreFinishesRight memory tasks

abbrev pub IsGuardedState : Module → Loans → HolderState → Type 0
IsGuardedState m loans s = IsGuardedRun m loans s.memory s.tasks

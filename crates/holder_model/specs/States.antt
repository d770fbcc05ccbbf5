-- States of a run, be it by holders or by stored numbers, and how it goes on.
use Rattle.std.specs.Prelude.{ℕ, ◌+◌, List, [], ◌∷◌, cond, nat_lt}
use Rattle.sil_ast.specs.declared.place.FuncId.{FuncId}
use Rattle.sil_ast.specs.declared.place.ObjectId.{ObjectId}
use Rattle.holder_model.specs.declared.event.Event.{Event}
use Rattle.holder_model.specs.declared.trap.Trap.{Trap}
use Rattle.holder_model.specs.declared.trap.Trap.TheVariants as trap
use Rattle.holder_model.specs.declared.limits.TheConstants.{FRAMES}
use Rattle.holder_model_values.specs.RunValues.Memory.{Memory}
use Rattle.holder_model_values.specs.RunValues.Values.{Value}

-- a frame; references that wait to be dropped; or a deinitialisation: the deinitialisers that wait to be called, and then its finish
pub data Task (F : Type 0) : Type 0 where
  Runs : (frame : F) → Task F
  Drops : (references : List ObjectId) → Task F
  Finishes : (deinits : List FuncId) (o : ObjectId) → Task F

-- F is the type of frames. N is what is stored of the numbers of holders: nothing in a run by holders
pub record State (F N : Type 0) : Type 0 where
  -- the one that goes on comes first
  pub tasks : List (Task F)
  pub memory : Memory
  pub numbers : N
  pub events : List Event
  pub turns : ℕ
  pub retains : ℕ
  pub releases : ℕ

-- how a run ends. X is the type of faults
pub data Ending (X : Type 0) : Type 0 where
  Returned : (x : Value) → Ending X
  Trapped : (t : Trap) → Ending X
  OutOfTurns : Ending X
  Faulted : (x : X) → Ending X

-- a step leads on, or ends the run
pub data Next (X S : Type 0) : Type 0 where
  Goes : (s : S) → Next X S
  Ends : (e : Ending X) (s : S) → Next X S

-- a turn: the one that would be past the bound isn't begun
abbrev pub turn : {F N X : Type 0} → ℕ → State F N → (State F N → Next X (State F N)) → Next X (State F N)
turn bound s go = cond (nat_lt s.turns bound) (go (record s { turns = s.turns + 1 })) (Ends OutOfTurns s)

abbrev pub frame_count : {F : Type 0} → List (Task F) → ℕ
frame_count [] = 0
frame_count (Runs frame ∷ tasks) = 1 + frame_count tasks
frame_count (Drops references ∷ tasks) = frame_count tasks
frame_count (Finishes deinits o ∷ tasks) = frame_count tasks

-- a call over these tasks makes a frame, where there may be one more, and enters its first block
abbrev pub enter : {F N X : Type 0} → ℕ → List (Task F) → State F N → (State F N → Next X (State F N)) → Next X (State F N)
enter bound rest s go = cond (nat_lt (frame_count rest) FRAMES) (turn bound s go) (Ends (Trapped trap.Depth) s)

-- references wait to be dropped before the other tasks go on
abbrev pub dropping : {F : Type 0} → List ObjectId → List (Task F) → List (Task F)
dropping [] tasks = tasks
dropping (o ∷ os) tasks = Drops (o ∷ os) ∷ tasks

abbrev pub step_on : {X S : Type 0} → (S → Next X S) → Next X S → Next X S
step_on go (Goes s) = go s
step_on go (Ends e s) = Ends e s

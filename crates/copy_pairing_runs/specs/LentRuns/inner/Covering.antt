-- What the first run holds more, where a copy is lent in the second one: for each object the second one has a holder too, or a finish.
use Rattle.std.specs.Prelude.{◌<◌, ◌+◌, ◌⊎◌, ℕ, List, [], ◌∷◌, ◌==◌, cond}
use Rattle.sil_ast.specs.declared.module.Module.{Module}
use Rattle.sil_ast.specs.declared.place.ObjectId.{ObjectId}
use Rattle.sil_ast.specs.declared.place.ValueId.{ValueId}
use Rattle.holder_model_laws.specs.holder_model.Frames.{Frame, entry_at}
use Rattle.holder_model_laws.specs.holder_model.HolderStates.{in_entry}
use Rattle.holder_model_laws.specs.holder_model.Holders.{one_object}
use Rattle.holder_model_laws.specs.holder_model.States.{Drops, Finishes, Runs, Task}
use Rattle.holder_model_values.specs.RunValues.Memory.{Memory}
use Rattle.sil_verifier_runs.specs.inner.Guarded.GuardedStates.{BelowIsGuarded, Loans, TasksAreGuarded, finishes_of, holders_in}

-- how often the copy's held entries name the object
abbrev pub lent_count : ℕ → ValueId → ObjectId → List (Task Frame) → ℕ
lent_count n c o [] = 0
lent_count n c o (Runs frame ∷ rest) =
    cond (frame.function.0 == n) (in_entry (one_object o) (entry_at frame.entries c)) 0 + lent_count n c o rest
lent_count n c o (Drops references ∷ rest) = lent_count n c o rest
lent_count n c o (Finishes deinits p ∷ rest) = lent_count n c o rest

-- in tasks of the second run the object has a holder or a finish
abbrev pub IsCovered : Memory → List (Task Frame) → ObjectId → Type 0
IsCovered memory tasks o = (0 < holders_in memory tasks o) ⊎ (0 < finishes_of o tasks)

-- the tasks of a guarded state, or those below a frame of one
abbrev pub IsGuardedStack : Module → Loans → Memory → List (Task Frame) → Type 0
IsGuardedStack m loans memory tasks = TasksAreGuarded m loans memory tasks ⊎ ((callee : Frame) × BelowIsGuarded m loans memory callee tasks)

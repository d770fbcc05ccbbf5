-- The stack of tasks, which the code keeps the other way round.
use Rattle.std.proofs.Common.{◌≡◌, ◌+◌, ◌≤◌, List, [], ◌∷◌, ◌++◌, length, arith}
use Rattle.std.specs.Prelude.{reverse}
use Rattle.std.proofs.lemmas.List.{length-reverse, reverse-append}
use Rattle.count_machine_model.specs.declared.machine_steps.frame.Task.{Task}
use Rattle.count_machine_model.specs.declared.machine_steps.frame.Task.TheVariants.{Drops, Finishes, Runs}
use Rattle.count_machine_model.specs.MachineSteps.Turning.{frames_in, is_frame}

pub reverse-push : {A : Type 0} (xs : List A) (x : A) → reverse (xs ++ x ∷ []) ≡ x ∷ reverse xs
reverse-push xs x = reverse-append xs (x ∷ [])

pub is_frame-bound : (t : Task) → is_frame t ≤ 1
is_frame-bound (Runs fr) = omega arith
is_frame-bound (Drops from) = omega arith
is_frame-bound (Finishes o called) = omega arith

pub frames_in-bound : (ts : List Task) → frames_in ts ≤ length ts
frames_in-bound [] = omega arith
frames_in-bound (t ∷ ts) = omega (arith, is_frame-bound t, frames_in-bound ts)

-- there are no more frames than tasks
pub frames_in-reverse : (ts : List Task) → frames_in (reverse ts) ≤ length ts
frames_in-reverse ts = omega (arith, frames_in-bound (reverse ts), length-reverse ts)

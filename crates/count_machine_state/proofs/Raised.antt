-- The last task of the stack is the first of the view.
use Rattle.std.proofs.Common.{◌≡◌, ℕ, suc, ◌+◌, ◌-◌, ◌<◌, List, [], ◌∷◌, ◌++◌, length, take, drop, set, get_or, ap, sym, ◌∙◌, arith}
use Rattle.std.specs.Prelude.{reverse}
use Rattle.std.proofs.lemmas.List.{drop_all, set_split, take_all, take_more}
use Rattle.count_machine_model.specs.declared.machine_steps.frame.Frame.{Frame}
use Rattle.count_machine_model.specs.declared.machine_steps.frame.Task.{Task}
use Rattle.count_machine_model.specs.declared.machine_steps.frame.Task.TheVariants.{Runs}
use Rattle.count_machine_model.specs.MachineSteps.Ends.{in_block}
use Rattle.count_machine_model.specs.MachineSteps.Operands.{behind_op}
use Rattle.count_machine_model.specs.MachineSteps.Turning.{frames_in}
use Rattle.count_machine_state.specs.inner.Raised.{moved, raised}
use Rattle.count_machine_state.proofs.Tasks.{reverse-push}

pub reverse_last : {A : Type 0} (xs : List A) (d : A) → 0 < length xs → reverse xs ≡ get_or xs (length xs - 1) d ∷ reverse (take (length xs - 1) xs)
reverse_last xs d h =
    let i = length xs - 1 in
    let all : take (i + 1) xs ≡ xs = take_all (i + 1) xs (omega arith) in
    let split : xs ≡ take i xs ++ get_or xs i d ∷ [] = sym all ∙ take_more xs i d (omega arith) in
    ap reverse split ∙ reverse-push (take i xs) (get_or xs i d)

pub reverse_set_last : {A : Type 0} (xs : List A) (x : A) → 0 < length xs → reverse (set xs (length xs - 1) x) ≡ x ∷ reverse (take (length xs - 1) xs)
reverse_set_last xs x h =
    let i = length xs - 1 in
    let none : drop (suc i) xs ≡ [] = drop_all (suc i) xs (omega arith) in
    let split : set xs i x ≡ take i xs ++ x ∷ [] = set_split xs i x (omega arith) ∙ ap (λ rest. take i xs ++ x ∷ rest) none in
    ap reverse split ∙ reverse-push (take i xs) x

pub raised_is : (ts : List Task) (d : Task) (fr : Frame) → 0 < length ts → get_or ts (length ts - 1) d ≡ Runs fr →
    reverse (set ts (length ts - 1) (Runs (behind_op fr))) ≡ raised (reverse ts)
raised_is ts d fr h is =
    reverse_set_last ts (Runs (behind_op fr)) h
    ∙ sym (ap raised (reverse_last ts d h ∙ ap (λ t. t ∷ reverse (take (length ts - 1) ts)) is))

pub frames_raised : (ts : List Task) (d : Task) (fr : Frame) → 0 < length ts → get_or ts (length ts - 1) d ≡ Runs fr →
    frames_in (reverse (set ts (length ts - 1) (Runs (behind_op fr)))) ≡ frames_in (reverse ts)
frames_raised ts d fr h is =
    ap frames_in (reverse_set_last ts (Runs (behind_op fr)) h)
    ∙ sym (ap frames_in (reverse_last ts d h ∙ ap (λ t. t ∷ reverse (take (length ts - 1) ts)) is))

pub moved_is : (block : ℕ) (ts : List Task) (d : Task) (fr : Frame) → 0 < length ts → get_or ts (length ts - 1) d ≡ Runs fr →
    reverse (set ts (length ts - 1) (Runs (in_block fr block))) ≡ moved block (reverse ts)
moved_is block ts d fr h is =
    reverse_set_last ts (Runs (in_block fr block)) h
    ∙ sym (ap (moved block) (reverse_last ts d h ∙ ap (λ t. t ∷ reverse (take (length ts - 1) ts)) is))

pub frames_moved : (block : ℕ) (ts : List Task) (d : Task) (fr : Frame) → 0 < length ts → get_or ts (length ts - 1) d ≡ Runs fr →
    frames_in (reverse (set ts (length ts - 1) (Runs (in_block fr block)))) ≡ frames_in (reverse ts)
frames_moved block ts d fr h is =
    ap frames_in (reverse_set_last ts (Runs (in_block fr block)) h)
    ∙ sym (ap frames_in (reverse_last ts d h ∙ ap (λ t. t ∷ reverse (take (length ts - 1) ts)) is))

-- References that wait to be dropped: as the tasks of the run have them, and as the machine has them on one stack.
use Rattle.std.proofs.Common.{◌≡◌, ◌+◌, ◌-◌, ◌++◌, ◌==◌, ◌∙◌, ℕ, suc, List, [], ◌∷◌, Some, drop, length, map, refl, reverse, sym, ap, append_assoc, subst, take, arith}
use Rattle.std.specs.Prelude.{slice_get}
use Rattle.std.proofs.Math.Seq.{drop-append_seam, take-append_seam, take-append-add, take-length}
use Rattle.std.proofs.lemmas.Bool.{cond-false, cond-true, eq-eqb, ne_eqb}
use Rattle.std.proofs.lemmas.List.{length-append, length-drop, length-reverse, length-take-le, reverse-append, take-append-drop}
use Rattle.count_machine_model.specs.holder_model.States as low
use Rattle.count_machine_model.specs.holder_model.LoweredRun.LowFrames.{LowFrame}
use Rattle.count_machine_model.specs.holder_model.LoweredRun.LowStepParts.{LowState}
use Rattle.count_machine_model.specs.declared.machine_steps.frame.Task.{Task}
use Rattle.count_machine_model.specs.declared.machine_steps.frame.Task.TheVariants as task
use Rattle.count_machine_model.specs.MachineSteps.Steps.{still_dropping}
use Rattle.count_machine_model.specs.MachineSteps.Turning.{dropping}
use Rattle.count_machine_model.specs.MachineSteps.Views.{MachineView}
use Rattle.count_machine_model.specs.declared.ready_code.function.ReadyModule.{ReadyModule}
use Rattle.holder_model_values.specs.RunValues.Memory.{Memory}
use Rattle.sil_ast.specs.declared.module.Module.{Module}
use Rattle.sil_ast.specs.declared.place.ObjectId.{ObjectId}
use Rattle.sil_cfg.proofs.Gets.{last_get}
use Rattle.count_machine_laws.proofs.Agreement.{Agrees, PartsAgree, ends_of}
use Rattle.count_machine_laws.proofs.Ending.{memory_moves}
use Rattle.count_machine_laws.proofs.Entries.{Ends}
use Rattle.count_machine_laws.proofs.Grows.{WereMade, were_made}
use Rattle.count_machine_laws.proofs.GrowsBy.{grows_itself, grows_objects, objects_stay, serial_of}
use Rattle.count_machine_laws.proofs.GrowsSame.{dropping_agrees}
use Rattle.count_machine_laws.proofs.GrowsTasks.{keeps_slots, tasks_keep}
use Rattle.count_machine_laws.proofs.Slots.{Made}
use Rattle.count_machine_laws.proofs.Tasks.{Beginning, ReadyFor, TasksAgree, dropped, drops, to_go_on}

-- a list that has these behind a place, the first of them last
pub record LastOf {A : Type 0} (w : List A) (n : ℕ) (x : A) (xs : List A) : Type 0 where
  pub place : length w - 1 ≡ n + length xs
  pub there : slice_get w (length w - 1) ≡ Some x
  pub below : take n (take (length w - 1) w) ≡ take n w
  pub others : take (length xs) (drop n (take (length w - 1) w)) ≡ reverse xs
  pub left : length (take (length w - 1) w) ≡ n + length xs

module _ {A : Type 0} (p r : List A) (x : A) where
  last_there : slice_get (p ++ (r ++ x ∷ [])) (length p + length r) ≡ Some x
  last_there =
      ap (λ y. slice_get y (length p + length r)) (sym (append_assoc p r (x ∷ []))) ∙ ap (slice_get ((p ++ r) ++ x ∷ [])) (sym (length-append p r)) ∙ last_get (p ++ r) x

  without_last : take (length p + length r) (p ++ (r ++ x ∷ [])) ≡ p ++ r
  without_last = take-append-add p (r ++ x ∷ []) (length r) ∙ ap (λ y. p ++ y) (take-append_seam r (x ∷ []))

pub last_of : {A : Type 0} (w : List A) (n : ℕ) (x : A) (xs : List A) → length w ≡ n + suc (length xs) → take (suc (length xs)) (drop n w) ≡ reverse (x ∷ xs) → LastOf w n x xs
last_of {A = A} w n x xs long ends = record {
  place = at;
  there = ap (λ k. slice_get w k) at ∙ ap (λ y. slice_get y (n + length xs)) whole ∙ ap (slice_get (p ++ (r ++ x ∷ []))) (sym same) ∙ last_there p r x;
  below = ap (take n) left_is ∙ ap (λ k. take k (p ++ r)) (sym begins) ∙ take-append_seam p r;
  others = ap (λ y. take (length xs) (drop n y)) left_is ∙ ap (λ k. take (length xs) (drop k (p ++ r))) (sym begins) ∙ ap (take (length xs)) (drop-append_seam p r)
      ∙ ap (λ k. take k r) (sym (length-reverse xs)) ∙ take-length r;
  left = length-take-le (length w - 1) w (omega arith) ∙ at;
}
  where
    p : List A
    p = take n w

    r : List A
    r = reverse xs

    at : length w - 1 ≡ n + length xs
    at = omega (arith, long)

    begins : length p ≡ n
    begins = length-take-le n w (omega (arith, long))

    up : length (drop n w) ≡ suc (length xs)
    up = omega (arith, length-drop n w, long)

    whole : w ≡ p ++ (r ++ x ∷ [])
    whole =
        sym (take-append-drop n w) ∙ ap (λ y. p ++ y) (sym (take-length (drop n w)) ∙ ap (λ j. take j (drop n w)) up ∙ ends ∙ reverse-append (x ∷ []) xs)

    same : length p + length r ≡ n + length xs
    same = omega (arith, begins, length-reverse xs)

    left_is : take (length w - 1) w ≡ p ++ r
    left_is = ap (λ k. take k w) (at ∙ sym same) ∙ ap (take (length p + length r)) whole ∙ without_last p r x

-- tasks agree with a view whose stacks are the same
pub tasks_move : {m : Module} {entry : Beginning} {made : List Made} {mem : Memory} {st st' : MachineView} {r : ReadyFor} {ends : Ends} {ts : List (low.Task LowFrame)} {ts' : List Task}
    → WereMade made st.slots → st'.there ≡ st.there → st'.leaves ≡ st.leaves → st'.addresses ≡ st.addresses → st'.slots ≡ st.slots → st'.waiting ≡ st.waiting
    → TasksAgree m entry made mem st r ends ts ts' → TasksAgree m entry made mem st' r ends ts ts'
tasks_move {m = m} {mem = mem} {st = st} {st' = st'} {ends = ends} were there leaves addresses slots waiting tasks =
    tasks_keep (grows_objects were (objects_stay mem mem refl) (ap (map serial_of) slots))
    (keeps_slots ends st st' there leaves addresses waiting (ap (map serial_of) slots)) (λ o now. refl) tasks

parts_dropping : {m : Module} {made : List Made} {s : LowState} (st : MachineView) → PartsAgree m made s st → (os : List ObjectId) → PartsAgree m made s (dropping os st)
parts_dropping st parts [] = parts
parts_dropping st parts (o ∷ os) = record {
  memory = memory_moves parts.memory refl refl refl refl;
  events = parts.events;
  turns = parts.turns;
  retains = parts.retains;
  releases = parts.releases;
}

-- references begin to wait in both
pub both_dropping : {m : Module} {entry : Beginning} {made : List Made} {s : LowState} {st : MachineView} → Agrees m entry made s st → (os : List ObjectId)
    → Agrees m entry made (record s { tasks = low.dropping os s.tasks }) (dropping os st)
both_dropping {m = m} {made = made} {s = s} {st = st} agrees os = record {
  parts = record {
    memory = moved.memory;
    events = moved.events;
    turns = moved.turns;
    retains = moved.retains;
    releases = moved.releases;
  };
  tasks = dropping_agrees (were_made agrees.parts.memory.slots) os agrees.tasks;
}
  where
    moved : PartsAgree m made s (dropping os st)
    moved = parts_dropping st agrees.parts os

-- the next reference leaves
module _ (ready : ReadyModule) (bound : ℕ) where
  abbrev pub one_left : MachineView → ℕ → List Task → MachineView
  one_left st from rest = record st { waiting = take (length st.waiting - 1) st.waiting; tasks = still_dropping ready bound from (length st.waiting - 1) rest }

  left_up_to : (st : MachineView) (below : Ends) (o : ObjectId) (os : List ObjectId) (rest : List Task) → ends_of st ≡ record below { waiting = below.waiting + length (o ∷ os) }
      → LastOf st.waiting below.waiting o os → ends_of (one_left st below.waiting rest) ≡ record below { waiting = below.waiting + length os }
  left_up_to st below o os rest up_to last =
      ap {A = Ends} (λ e. record e { waiting = length (take (length st.waiting - 1) st.waiting) }) up_to ∙ ap {A = ℕ} (λ n. record below { waiting = n }) last.left

  pub drops_left : {m : Module} {entry : Beginning} {made : List Made} {mem : Memory} (st : MachineView) → WereMade made st.slots
      → (below : Ends) (o : ObjectId) (rest : List (low.Task LowFrame)) (rest' : List Task) → TasksAgree m entry made mem st to_go_on below rest rest'
      → (os : List ObjectId) → ends_of st ≡ record below { waiting = below.waiting + length (o ∷ os) } → LastOf st.waiting below.waiting o os
      → TasksAgree m entry made mem (one_left st below.waiting rest') to_go_on (ends_of (one_left st below.waiting rest')) (low.Drops os ∷ rest)
      (one_left st below.waiting rest').tasks
  drops_left {m = m} {entry = entry} {made = made} {mem = mem} st were below o rest rest' tasks os up_to last = at os up_to last
    where
      st' : MachineView
      st' = one_left st below.waiting rest'

      keeps : {below' : Ends} → below' ≡ below → take below.waiting st'.waiting ≡ take below.waiting st.waiting → TasksAgree m entry made mem st' to_go_on below' rest rest'
      keeps {below' = below'} same waiting =
          subst (λ e. TasksAgree m entry made mem st' to_go_on e rest rest') (sym same)
          (tasks_keep {st = st} {st' = st'} (grows_itself were mem) (record { there = refl; leaves = refl; addresses = refl; serials = refl; waiting = waiting }) (λ p now. refl) tasks)

      at : (os : List ObjectId) → ends_of st ≡ record below { waiting = below.waiting + length (o ∷ os) } → LastOf st.waiting below.waiting o os
          → TasksAgree m entry made mem st' to_go_on (ends_of st') (low.Drops os ∷ rest) st'.tasks
      at [] up_to last =
          subst (TasksAgree m entry made mem st' to_go_on (ends_of st') (low.Drops [] ∷ rest))
          (sym (cond-true (length st.waiting - 1 == below.waiting) rest' (task.Drops below.waiting ∷ rest') (eq-eqb (length st.waiting - 1) below.waiting (omega (arith, last.place)))))
          (dropped (ends_of st') rest rest' (keeps (left_up_to st below o [] rest' up_to last ∙ ap {A = ℕ} (λ n. record below { waiting = n }) (omega arith)) last.below))
      at (p ∷ os) up_to last =
          subst (TasksAgree m entry made mem st' to_go_on (ends_of st') (low.Drops (p ∷ os) ∷ rest))
          (sym (cond-false (length st.waiting - 1 == below.waiting) rest' (task.Drops below.waiting ∷ rest') (ne_eqb (length st.waiting - 1) below.waiting (λ e. omega (arith, e, last.place)))))
          (drops p os below (ends_of st') rest rest' (left_up_to st below o (p ∷ os) rest' up_to last) last.others (keeps refl last.below))

-- An access to a place: where the place isn't as the instruction has it, the run and the machine fault alike, by the same order.
use Rattle.std.proofs.Common.{◌≡◌, ◌∙◌, ◌++◌, List, [], ◌∷◌, Bool, true, false, Option, None, Some, cond, not, replicate, refl, ap}
use Rattle.std.specs.Prelude.{find, is_some, ◌||◌}
use Rattle.count_machine_model.specs.holder_model.Data.{home_references}
use Rattle.count_machine_model.specs.holder_model.Effects.{Effect, Faults}
use Rattle.count_machine_model.specs.holder_model.ModuleShapes.{shapes_of}
use Rattle.count_machine_model.specs.holder_model.Outcomes.{Numbers}
use Rattle.count_machine_model.specs.holder_model.LoweredRun.LowEffects.{accessed, dead_or}
use Rattle.count_machine_model.specs.holder_model.declared.lowered_run.low_fault.LowFault.{LowFault}
use Rattle.count_machine_model.specs.holder_model.declared.lowered_run.low_fault.LowFault.TheVariants as fault
use Rattle.count_machine_model.specs.MachineSteps.Held as held
use Rattle.count_machine_model.specs.MachineSteps.Held.{Held}
use Rattle.count_machine_model.specs.MachineSteps.Operands.{faults}
use Rattle.count_machine_model.specs.MachineSteps.Views.{Went}
use Rattle.holder_model_values.specs.RunValues.Cells as cells
use Rattle.holder_model_values.specs.RunValues.Cells.{cell_count, in_cells}
use Rattle.holder_model_values.specs.RunValues.Leaves.{leaves_of}
use Rattle.holder_model_values.specs.RunValues.Memory.{is_dead}
use Rattle.holder_model_values.specs.RunValues.Places.{Place, cells_at, is_there_at, value_at}
use Rattle.holder_model_values.specs.RunValues.Values.{Value}
use Rattle.holder_model_values.specs.declared.run_values.leaf.Leaf.{Leaf}
use Rattle.sil_ast.specs.declared.module.Module.{Module}
use Rattle.sil_ast.specs.declared.place.ObjectId.{ObjectId}
use Rattle.holder_model_values.specs.ValueParts.inner.Suits.{suits}
use Rattle.count_machine_laws.proofs.Ending.{Alike, alike_by}
use Rattle.count_machine_laws.proofs.Held.{HeldIs, IsReachable}
use Rattle.count_machine_laws.proofs.LastStrongs.{SameStrongs}
use Rattle.count_machine_laws.proofs.Objects.{is_of_class}
use Rattle.count_machine_laws.proofs.Rows.Effects.{Runs, d, performed, values}
use Rattle.count_machine_laws.proofs.Rows.Gives.{faults_alike}
use Rattle.count_machine_laws.proofs.Tasks.{Beginning}

-- what is found among some is found among these and others; else it is found among the others

found_first : {A : Type 0} (test : A → Bool) (xs ys : List A) (x : A) → find test xs ≡ Some x → find test (xs ++ ys) ≡ Some x
found_first test [] ys x e = absurd (cc)
found_first test (z ∷ xs) ys x e = at (test z) (found_first test xs ys x) e
  where
    at : (b : Bool) → (find test xs ≡ Some x → find test (xs ++ ys) ≡ Some x) → cond b (Some z) (find test xs) ≡ Some x
        → cond b (Some z) (find test (xs ++ ys)) ≡ Some x
    at true others h = h
    at false others h = others h

found_behind : {A : Type 0} (test : A → Bool) (xs ys : List A) → find test xs ≡ None → find test (xs ++ ys) ≡ find test ys
found_behind test [] ys e = refl
found_behind test (z ∷ xs) ys e = at (test z) (found_behind test xs ys) e
  where
    at : (b : Bool) → (find test xs ≡ None → find test (xs ++ ys) ≡ find test ys) → cond b (Some z) (find test xs) ≡ None
        → cond b (Some z) (find test (xs ++ ys)) ≡ find test ys
    at true others h = absurd (cc)
    at false others h = others h

found_one : {A : Type 0} (test : A → Bool) (x : A) → test x ≡ true → find test (x ∷ []) ≡ Some x
found_one test x e = ap (λ b. cond b (Some x) None) e

module _ {m : Module} {entry : Beginning} (r : Runs m entry) (p : Place) (os : List ObjectId) (full : Bool) (e : Effect LowFault) where
  abbrev pub access : Effect LowFault
  access = accessed (d r) (shapes_of m) (values r) r.s.memory r.i p os full e

  abbrev where_full : Option Value → Effect LowFault
  where_full x = cond (not full || is_some x) e (Faults fault.Empty)

  abbrev where_alive : Option ObjectId → Effect LowFault
  where_alive o = dead_or (d r) (shapes_of m) (values r) r.s.memory r.i (where_full (value_at r.s.memory p)) o

  abbrev first_dead : List ObjectId → Option ObjectId
  first_dead = find (is_dead r.s.memory)

  gone : is_there_at r.s.memory p ≡ false → access ≡ Faults fault.Slot
  gone is = ap (λ b. cond b (where_alive (first_dead (os ++ home_references p.home))) (Faults fault.Slot)) is

  there : is_there_at r.s.memory p ≡ true → (o : Option ObjectId) → first_dead (os ++ home_references p.home) ≡ o → access ≡ where_alive o
  there is o found = ap (λ b. cond b (where_alive (first_dead (os ++ home_references p.home))) (Faults fault.Slot)) is ∙ ap where_alive found

  reached : first_dead os ≡ None → IsReachable r.s.memory p → (x : Option Value) → value_at r.s.memory p ≡ x → access ≡ where_full x
  reached alive reach x is = there reach.there None (found_behind (is_dead r.s.memory) os (home_references p.home) alive ∙ reach.alive) ∙ ap where_full is

  module _ (ns : List Numbers) where
    abbrev pub AccessAlike : Went → Type 0
    AccessAlike w = Alike m entry (performed r (record r.s { numbers = ns }) access) w

    named_dead : SameStrongs ns r.s.numbers → (o : ObjectId) → first_dead os ≡ Some o → is_there_at r.s.memory p ≡ true → (w : Went) → w ≡ faults (fault.Dead o) r.st → AccessAlike w
    named_dead same o dead is w faulted =
        alike_by (ap (performed r (record r.s { numbers = ns })) (there is (Some o) (found_first (is_dead r.s.memory) os (home_references p.home) o dead))) faulted
        (faults_alike r ns same (fault.Dead o))

    -- an object that is to be named is dead
    pub dead_alike : SameStrongs ns r.s.numbers → (o : ObjectId) → first_dead os ≡ Some o → (go : Held → Went) → go held.Gone ≡ faults fault.Slot r.st
        → ((x : ObjectId) → go (held.OfDead x) ≡ faults (fault.Dead o) r.st) → go held.Empty ≡ faults (fault.Dead o) r.st
        → ((ls : List Leaf) → go (held.Full ls) ≡ faults (fault.Dead o) r.st) → (h : Held) → HeldIs m r.s.memory p h → AccessAlike (go h)
    dead_alike same o dead go at_gone at_dead at_empty at_full _ (HeldIs.gone is) =
        alike_by (ap (performed r (record r.s { numbers = ns })) (gone is)) at_gone (faults_alike r ns same fault.Slot)
    dead_alike same o dead go at_gone at_dead at_empty at_full _ (HeldIs.of_dead x is home died) = named_dead same o dead is _ (at_dead x)
    dead_alike same o dead go at_gone at_dead at_empty at_full _ (HeldIs.empty reach has none) = named_dead same o dead reach.there _ at_empty
    dead_alike same o dead go at_gone at_dead at_empty at_full _ (HeldIs.full x ls reach has is fits leaves) = named_dead same o dead reach.there _ (at_full ls)

    -- the place is as the machine finds it, and none of the objects that are to be named is dead
    pub access_alike : SameStrongs ns r.s.numbers → first_dead os ≡ None → (go : Held → Went) → go held.Gone ≡ faults fault.Slot r.st
        → ((o : ObjectId) → go (held.OfDead o) ≡ faults (fault.Dead o) r.st)
        → (IsReachable r.s.memory p → cells_at r.s.memory p ≡ replicate (cell_count p.shape) cells.Empty
        → Alike m entry (performed r (record r.s { numbers = ns }) (where_full None)) (go held.Empty))
        → ((x : Value) (ls : List Leaf) → IsReachable r.s.memory p → cells_at r.s.memory p ≡ (in_cells p.shape).cells x → value_at r.s.memory p ≡ Some x
        → suits (is_of_class m r.s.memory) p.shape x ≡ true → ls ≡ leaves_of p.shape x → Alike m entry (performed r (record r.s { numbers = ns }) e) (go (held.Full ls)))
        → (h : Held) → HeldIs m r.s.memory p h → AccessAlike (go h)
    access_alike same alive go at_gone at_dead at_empty at_full _ (HeldIs.gone is) =
        alike_by (ap (performed r (record r.s { numbers = ns })) (gone is)) at_gone (faults_alike r ns same fault.Slot)
    access_alike same alive go at_gone at_dead at_empty at_full _ (HeldIs.of_dead o is home dead) =
        alike_by
        (ap (performed r (record r.s { numbers = ns })) (there is (Some o)
        (found_behind (is_dead r.s.memory) os (home_references p.home) alive ∙ ap first_dead home ∙ found_one (is_dead r.s.memory) o dead)))
        (at_dead o) (faults_alike r ns same (fault.Dead o))
    access_alike same alive go at_gone at_dead at_empty at_full _ (HeldIs.empty reach has none) =
        alike_by (ap (performed r (record r.s { numbers = ns })) (reached alive reach None none)) refl (at_empty reach has)
    access_alike same alive go at_gone at_dead at_empty at_full _ (HeldIs.full x ls reach has is fits leaves) =
        alike_by (ap (performed r (record r.s { numbers = ns })) (reached alive reach (Some x) is ∙ full_is (not full))) refl (at_full x ls reach has is fits leaves)
      where
        full_is : (b : Bool) → cond (b || true) e (Faults fault.Empty) ≡ e
        full_is true = refl
        full_is false = refl

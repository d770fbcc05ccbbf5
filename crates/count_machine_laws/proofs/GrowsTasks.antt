-- Frames and tasks agree as before where memory grows and the machine's stacks are the same below their ends.
use Rattle.std.proofs.Common.{◌≡◌, ◌≤◌, ◌<◌, ◌+◌, ◌-◌, ◌==◌, ℕ, suc, List, [], ◌∷◌, Bool, false, true, Option, Some, length, map, refl, sym, ap, ◌∙◌, subst, arith}
use Rattle.std.specs.Prelude.{drop, reverse, slice_get, take}
use Rattle.std.proofs.lemmas.Bool.{eq-eqb, or_left, or_right}
use Rattle.std.proofs.lemmas.List.{drop-map, length-take, take-map}
use Rattle.std.proofs.lemmas.Option.{same_Some, slice_get_within}
use Rattle.count_machine_model.specs.holder_model.Calling.{value_count}
use Rattle.count_machine_model.specs.holder_model.Data.{Datum}
use Rattle.count_machine_model.specs.holder_model.Dropping.{deinits_of}
use Rattle.count_machine_model.specs.holder_model.States as low
use Rattle.count_machine_model.specs.holder_model.LoweredRun.LowFrames.{LowFrame}
use Rattle.count_machine_model.specs.declared.machine_steps.address.Address.{Address}
use Rattle.count_machine_model.specs.declared.machine_steps.address.OpenSlot.{OpenSlot}
use Rattle.count_machine_model.specs.declared.machine_steps.frame.Frame.{Frame}
use Rattle.count_machine_model.specs.declared.machine_steps.frame.Task.{Task}
use Rattle.count_machine_model.specs.MachineSteps.Operands.{no_address}
use Rattle.count_machine_model.specs.MachineSteps.Views.{MachineView}
use Rattle.count_machine_model.specs.ReadyCode.Layout.{local, local_address}
use Rattle.count_machine_model.specs.holder_model.RunTyping.Forms.{Form, OfPlace}
use Rattle.holder_model_values.specs.RunValues.Memory.{Memory, object_at}
use Rattle.holder_model_values.specs.RunValues.Places.{Place}
use Rattle.holder_model_values.specs.RunValues.Shapes.{Shape}
use Rattle.holder_model_values.specs.declared.run_values.leaf.Leaf.{Leaf}
use Rattle.sil_ast.specs.declared.function.Function.{Function}
use Rattle.sil_ast.specs.declared.module.Module.{Module}
use Rattle.sil_ast.specs.declared.place.ObjectId.{ObjectId}
use Rattle.sil_types_declarations.specs.TypeDefinitions.Declarations.{declarations_of}
use Rattle.count_machine_laws.proofs.Entries.{Ends, EntryAgrees, FrameAgrees, absent, function, place, value}
use Rattle.count_machine_laws.proofs.Grows.{Grows, names_place_grows, same_slot_place, suits_grows}
use Rattle.count_machine_laws.proofs.GrowsBy.{serial_of}
use Rattle.count_machine_laws.proofs.Layouts.{address_within, local_within}
use Rattle.count_machine_laws.proofs.LayoutsLists.{at_taken, get_take, part_taken, taken_less}
use Rattle.count_machine_laws.proofs.Memories.{NamesPlace}
use Rattle.count_machine_laws.proofs.Slots.{Made, slot_place}
use Rattle.count_machine_laws.proofs.Tasks.{Beginning, ReadyFor, TasksAgree, bottom, dropped, drops, finishes, is_finishing, runs, waits}

pub record AtMost (low high : Ends) : Type 0 where
  pub values : low.values ≤ high.values
  pub leaves : low.leaves ≤ high.leaves
  pub addresses : low.addresses ≤ high.addresses
  pub slots : low.slots ≤ high.slots
  pub waiting : low.waiting ≤ high.waiting

-- the machine's stacks are the same below these ends; of slots their serial numbers
pub record KeepsBelow (ends : Ends) (st st' : MachineView) : Type 0 where
  pub there : take ends.values st'.there ≡ take ends.values st.there
  pub leaves : take ends.leaves st'.leaves ≡ take ends.leaves st.leaves
  pub addresses : take ends.addresses st'.addresses ≡ take ends.addresses st.addresses
  pub serials : map serial_of (take ends.slots st'.slots) ≡ map serial_of (take ends.slots st.slots)
  pub waiting : take ends.waiting st'.waiting ≡ take ends.waiting st.waiting

-- objects that are being deinitialised are so still
abbrev pub PhasesStay : Memory → Memory → List Task → Type 0
PhasesStay mem mem' ts = (o : ObjectId) → is_finishing o ts ≡ true → (object_at mem' o).phase ≡ (object_at mem o).phase

pub at_most_itself : (ends : Ends) → AtMost ends ends
at_most_itself ends = record { values = omega arith; leaves = omega arith; addresses = omega arith; slots = omega arith; waiting = omega arith }

waits_more : (ends : Ends) (n : ℕ) → AtMost ends (record ends { waiting = ends.waiting + n })
waits_more ends n = record { values = omega arith; leaves = omega arith; addresses = omega arith; slots = omega arith; waiting = omega arith }

pub keeps_itself : (ends : Ends) (st : MachineView) → KeepsBelow ends st st
keeps_itself ends st = record { there = refl; leaves = refl; addresses = refl; serials = refl; waiting = refl }

pub keeps_then : {ends : Ends} {st st' st'' : MachineView} → KeepsBelow ends st st' → KeepsBelow ends st' st'' → KeepsBelow ends st st''
keeps_then first then = record {
  there = then.there ∙ first.there;
  leaves = then.leaves ∙ first.leaves;
  addresses = then.addresses ∙ first.addresses;
  serials = then.serials ∙ first.serials;
  waiting = then.waiting ∙ first.waiting;
}

-- what tells elements of lists is the same up to a place
told_less : {A B : Type 0} (g : A → B) (xs ys : List A) (m n : ℕ) → m ≤ n → map g (take n xs) ≡ map g (take n ys) → map g (take m xs) ≡ map g (take m ys)
told_less g xs ys m n le same =
    sym (take-map g m xs) ∙ taken_less (map g xs) (map g ys) m n le (take-map g n xs ∙ same ∙ sym (take-map g n ys)) ∙ take-map g m ys

pub keeps_less : {low high : Ends} {st st' : MachineView} → AtMost low high → KeepsBelow high st st' → KeepsBelow low st st'
keeps_less {low = low} {high = high} {st = st} {st' = st'} least keeps = record {
  there = taken_less st'.there st.there low.values high.values least.values keeps.there;
  leaves = taken_less st'.leaves st.leaves low.leaves high.leaves least.leaves keeps.leaves;
  addresses = taken_less st'.addresses st.addresses low.addresses high.addresses least.addresses keeps.addresses;
  serials = told_less serial_of st'.slots st.slots low.slots high.slots least.slots keeps.serials;
  waiting = taken_less st'.waiting st.waiting low.waiting high.waiting least.waiting keeps.waiting;
}

-- slots and their leaves alone change
pub keeps_slots : (ends : Ends) (st st' : MachineView) → st'.there ≡ st.there → st'.leaves ≡ st.leaves → st'.addresses ≡ st.addresses → st'.waiting ≡ st.waiting
    → map serial_of st'.slots ≡ map serial_of st.slots → KeepsBelow ends st st'
keeps_slots ends st st' there leaves addresses waiting serials = record {
  there = ap (take ends.values) there;
  leaves = ap (take ends.leaves) leaves;
  addresses = ap (take ends.addresses) addresses;
  serials = sym (take-map serial_of ends.slots st'.slots) ∙ ap (take ends.slots) serials ∙ take-map serial_of ends.slots st.slots;
  waiting = ap (take ends.waiting) waiting;
}

pub frame_within : {m : Module} {made : List Made} {mem : Memory} {st : MachineView} {f : Function} {lf : LowFrame} {mf : Frame} {below above : Ends}
    → FrameAgrees m made mem st f lf mf below above → AtMost below above
frame_within agrees = record {
  values = omega (arith, agrees.values_end);
  leaves = omega (arith, agrees.leaves_end);
  addresses = omega (arith, agrees.addresses_end);
  slots = agrees.slots_end;
  waiting = omega (arith, agrees.waiting_end);
}

-- slots with the same serial numbers are the same places
same_maps : (p p' : OpenSlot → Place) (xs xs' : List OpenSlot) → map serial_of xs' ≡ map serial_of xs
    → ((j : ℕ) (x x' : OpenSlot) → slice_get xs j ≡ Some x → x'.serial ≡ x.serial → p' x' ≡ p x) → map p' xs' ≡ map p xs
same_maps p p' [] [] e h = refl
same_maps p p' [] (x' ∷ xs') e h = absurd (omega (arith, ap length e))
same_maps p p' (x ∷ xs) [] e h = absurd (omega (arith, ap length e))
same_maps p p' (x ∷ xs) (x' ∷ xs') e h =
    ap (λ q. q ∷ map p' xs') (h 0 x x' refl (same_Some x'.serial x.serial (ap (λ ns. slice_get ns 0) e)))
    ∙ ap (λ qs. p x ∷ qs) (same_maps p p' xs xs' (ap (drop 1) e) (λ j. h (suc j)))

pub same_places : {m : Module} {made made' : List Made} {mem mem' : Memory} {slots slots' : List OpenSlot} → Grows m made mem slots made' mem' slots' → (from to : ℕ) → from ≤ to
    → map serial_of (take to slots') ≡ map serial_of (take to slots)
    → map (slot_place made') (take (to - from) (drop from slots')) ≡ map (slot_place made) (take (to - from) (drop from slots))
same_places {made = made} {made' = made'} {slots = slots} {slots' = slots'} grows from to le serials =
    moved made' slots' ∙ part_taken (map (slot_place made') slots') (map (slot_place made) slots) to from (to - from) taken (omega (arith, le)) ∙ sym (moved made slots)
  where
    moved : (made : List Made) (slots : List OpenSlot) → map (slot_place made) (take (to - from) (drop from slots)) ≡ take (to - from) (drop from (map (slot_place made) slots))
    moved made slots = sym (ap (take (to - from)) (drop-map (slot_place made) from slots) ∙ take-map (slot_place made) (to - from) (drop from slots))

    at : (j : ℕ) (x x' : OpenSlot) → slice_get (take to slots) j ≡ Some x → x'.serial ≡ x.serial → slot_place made' x' ≡ slot_place made x
    at j x x' there same =
        let within : j < to = omega (arith, slice_get_within (take to slots) j x there, length-take to slots) in
        same_slot_place grows j x x' (sym (get_take slots to j within) ∙ there) same

    taken : take to (map (slot_place made') slots') ≡ take to (map (slot_place made) slots)
    taken = take-map (slot_place made') to slots' ∙ same_maps (slot_place made) (slot_place made') (take to slots) (take to slots') serials at ∙ sym (take-map (slot_place made) to slots)

-- an address matters only where the value is one
pub entry_addressed : {m : Module} {made : List Made} {mem : Memory} {st : MachineView} {form : Form} {x : Option Datum} {b : Bool} {ls : List Leaf} {a : Address}
    → EntryAgrees m made mem st form x b ls a → (a' : Address) → ((s : Shape) → form ≡ OfPlace s → a' ≡ a) → EntryAgrees m made mem st form x b ls a'
entry_addressed (absent ls a) a' same = absent ls a'
entry_addressed (value s x ls a form fits is) a' same = value s x ls a' form fits is
entry_addressed {m = m} {made = made} {mem = mem} {st = st} (place p ls a form names) a' same =
    place p ls a' form (subst (λ address. NamesPlace m made st.slots mem address p) (sym (same p.shape form)) names)
entry_addressed (function g ls a form) a' same = function g ls a' form

-- the machine has the value as before
pub entry_stays : {m : Module} {made : List Made} {mem : Memory} {st : MachineView} {form : Form} {x : Option Datum} {b b' : Bool} {ls ls' : List Leaf} {a a' : Address}
    → EntryAgrees m made mem st form x b ls a → b' ≡ b → ls' ≡ ls → ((s : Shape) → form ≡ OfPlace s → a' ≡ a) → EntryAgrees m made mem st form x b' ls' a'
entry_stays {m = m} {made = made} {mem = mem} {st = st} {form = form} {x = x} {b = b} {b' = b'} {ls = ls} {ls' = ls'} {a = a} {a' = a'} agrees there leaves address =
    let first = subst (λ c. EntryAgrees m made mem st form x c ls a) (sym there) agrees in
    let second = subst (λ ms. EntryAgrees m made mem st form x b' ms a) (sym leaves) first in
    entry_addressed second a' address

module _ {m : Module} {made made' : List Made} {mem mem' : Memory} {st st' : MachineView} (grows : Grows m made mem st.slots made' mem' st'.slots) where
  pub entry_grows : {form : Form} {x : Option Datum} {b : Bool} {ls : List Leaf} {a : Address} → EntryAgrees m made mem st form x b ls a → EntryAgrees m made' mem' st' form x b ls a
  entry_grows (absent ls a) = absent ls a
  entry_grows (value s x ls a form fits is) = value s x ls a form (suits_grows grows s x fits) is
  entry_grows (place p ls a form names) = place p ls a form (names_place_grows grows names)
  entry_grows (function g ls a form) = function g ls a form

  pub frame_grows : {f : Function} {lf : LowFrame} {mf : Frame} {below above : Ends} → KeepsBelow above st st' → FrameAgrees m made mem st f lf mf below above
      → FrameAgrees m made' mem' st' f lf mf below above
  frame_grows {f = f} {lf = lf} {mf = mf} {below = below} {above = above} keeps agrees = record {
    there = agrees.there;
    same = agrees.same;
    at_block = agrees.at_block;
    at_index = agrees.at_index;
    block = agrees.block;
    block_there = agrees.block_there;
    in_block = agrees.in_block;
    count = agrees.count;
    entries = λ v lt.
        let d = declarations_of m in
        let leaves_within = local_within d f v (value_count f) lt in
        entry_stays (entry_grows (agrees.entries v lt))
        (at_taken st'.there st.there above.values (mf.values + v.0) false keeps.there (omega (arith, lt, agrees.values, agrees.values_end)))
        (part_taken st'.leaves st.leaves above.leaves (mf.leaves + (local d f v).at) (local d f v).size keeps.leaves (omega (arith, leaves_within, agrees.leaves, agrees.leaves_end)))
        (λ s form. at_taken st'.addresses st.addresses above.addresses (mf.addresses + (local_address d f v).at) no_address keeps.addresses
        (omega (arith, address_within d f v (value_count f) s form lt, agrees.addresses, agrees.addresses_end)));
    values = agrees.values;
    leaves = agrees.leaves;
    addresses = agrees.addresses;
    slots = agrees.slots;
    values_end = agrees.values_end;
    leaves_end = agrees.leaves_end;
    addresses_end = agrees.addresses_end;
    slots_end = agrees.slots_end;
    waiting_end = agrees.waiting_end;
    own_slots = agrees.own_slots ∙ ap reverse (sym (same_places grows below.slots above.slots agrees.slots_end keeps.serials));
  }

  pub tasks_keep : {entry : Beginning} {r : ReadyFor} {ends : Ends} {ts : List (low.Task LowFrame)} {ts' : List Task} → KeepsBelow ends st st' → PhasesStay mem mem' ts'
      → TasksAgree m entry made mem st r ends ts ts' → TasksAgree m entry made' mem' st' r ends ts ts'
  tasks_keep keeps phases bottom = bottom
  tasks_keep keeps phases (runs f lf mf below above rest rest' reaches frame others) =
      runs f lf mf below above rest rest' reaches (frame_grows keeps frame) (tasks_keep (keeps_less (frame_within frame) keeps) phases others)
  tasks_keep keeps phases (waits s f lf mf below above rest rest' reaches frame awaits others) =
      waits s f lf mf below above rest rest' reaches (frame_grows keeps frame) awaits (tasks_keep (keeps_less (frame_within frame) keeps) phases others)
  tasks_keep keeps phases (drops o os below above rest rest' ends waiting others) =
      let up_to : above.waiting ≡ below.waiting + length (o ∷ os) = ap (λ e. e.waiting) ends in
      let least : AtMost below above = subst (λ e. AtMost below e) (sym ends) (waits_more below (length (o ∷ os))) in
      let same = part_taken st'.waiting st.waiting above.waiting below.waiting (length (o ∷ os)) keeps.waiting (omega (arith, up_to)) in
      drops o os below above rest rest' ends (same ∙ waiting) (tasks_keep (keeps_less least keeps) phases others)
  tasks_keep keeps phases (dropped ends rest rest' others) = dropped ends rest rest' (tasks_keep keeps phases others)
  tasks_keep keeps phases (finishes r gs o called ends rest rest' was_made phase deinits once others) =
      finishes r gs o called ends rest rest' (omega (arith, was_made, grows.objects)) (phases o (or_left (o.0 == o.0) (is_finishing o rest') (eq-eqb o.0 o.0 refl)) ∙ phase)
      (deinits ∙ ap (λ class. drop called (deinits_of (declarations_of m) class)) (sym (grows.classes o was_made))) once
      (tasks_keep keeps (λ p now. phases p (or_right (p.0 == o.0) (is_finishing p rest') now)) others)

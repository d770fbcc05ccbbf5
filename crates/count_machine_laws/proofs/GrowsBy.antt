-- How memory grows: nothing changes; objects change; what a slot has changes; a slot is made; the newest slot goes.
use Rattle.std.proofs.Common.{◌≡◌, ◌≤◌, ◌<◌, ◌+◌, ◌++◌, ◌⊎◌, inl, inr, ℕ, List, [], ◌∷◌, true, Some, length, map, refl, sym, ap, ◌∙◌, arith}
use Rattle.std.specs.Prelude.{set, slice_get, take, unwrap_or}
use Rattle.std.proofs.lemmas.Bool.{cases_eq, false≢true}
use Rattle.std.proofs.lemmas.List.{length-set}
use Rattle.std.proofs.lemmas.Option.{same_Some, slice_get_within}
use Rattle.count_machine_model.specs.declared.machine_steps.address.OpenSlot.{OpenSlot}
use Rattle.holder_model_values.specs.RunValues.Memory.{Memory, Object, no_object, object_at, with_object}
use Rattle.sil_ast.specs.declared.module.Module.{Module}
use Rattle.sil_ast.specs.declared.place.ObjectId.{ObjectId}
use Rattle.sil_cfg.proofs.Gets.{kept_get}
use Rattle.count_machine_laws.proofs.Grows.{Grows, StaysMade, WereMade}
use Rattle.count_machine_laws.proofs.LayoutsLists.{at_others, at_set, get_others, get_set, get_take, mapped_at}
use Rattle.count_machine_laws.proofs.Slots.{Content, Gone, Made, is_open, is_open_content, made_shape}

abbrev pub serial_of : OpenSlot → ℕ
serial_of s = s.serial

-- objects that were made are there, of their classes
pub record ObjectsStay (mem mem' : Memory) : Type 0 where
  pub objects : length mem.objects ≤ length mem'.objects
  pub classes : (o : ObjectId) → o.0 < length mem.objects → (object_at mem' o).class ≡ (object_at mem o).class

pub objects_stay : (mem mem' : Memory) → mem'.objects ≡ mem.objects → ObjectsStay mem mem'
objects_stay mem mem' e = record {
  objects = let same : length mem'.objects ≡ length mem.objects = ap length e in omega (arith, same);
  classes = λ o lt. ap (λ objects. (unwrap_or (slice_get objects o.0) no_object).class) e;
}

-- an object is given anew, of its class
pub object_changed : (mem : Memory) (o : ObjectId) (x : Object) → x.class ≡ (object_at mem o).class → ObjectsStay mem (with_object mem o x)
object_changed mem o x same = record {
  objects = let count : length (set mem.objects o.0 x) ≡ length mem.objects = length-set mem.objects o.0 x in omega (arith, count);
  classes = λ p lt. by_place p lt (cases_eq p.0 o.0);
}
  where
    by_place : (p : ObjectId) → p.0 < length mem.objects → (p.0 ≡ o.0) ⊎ (p.0 ≡ o.0 → ⊥) → (object_at (with_object mem o x) p).class ≡ (object_at mem p).class
    by_place p lt (inl e) =
        ap (λ y. y.class) (ap (λ n. unwrap_or (slice_get (set mem.objects o.0 x) n) no_object) e ∙ at_set mem.objects o.0 x no_object (omega (arith, lt, e)))
        ∙ same ∙ ap (λ n. (unwrap_or (slice_get mem.objects n) no_object).class) (sym e)
    by_place p lt (inr ne) = ap (λ y. y.class) (at_others mem.objects o.0 p.0 x no_object ne)

-- a slot that keeps its shape is opened by nothing that leaves it closed
set_stays : (made : List Made) (k : ℕ) (x : Made) (c : Content) → slice_get made k ≡ Some x → (is_open_content c ≡ true → is_open x ≡ true)
    → StaysMade made (set made k (record x { content = c }))
set_stays made k x c there opens j y is = by_place (cases_eq j k)
  where
    new : Made
    new = record x { content = c }

    by_place : (j ≡ k) ⊎ (j ≡ k → ⊥) → (z : Made) × (slice_get (set made k new) j ≡ Some z) × (z.shape ≡ y.shape) × (is_open z ≡ true → is_open y ≡ true)
    by_place (inl e) =
        let same : x ≡ y = same_Some x y (sym there ∙ ap (slice_get made) (sym e) ∙ is) in
        (new, ap (slice_get (set made k new)) e ∙ get_set made k new (slice_get_within made k x there), ap made_shape same, λ now. ap is_open (sym same) ∙ opens now)
    by_place (inr ne) = (y, get_others made k j new ne ∙ is, refl, λ now. now)

module _ {m : Module} where
  module _ {made : List Made} {slots : List OpenSlot} (were : WereMade made slots) where
    -- no slot is made or goes, and none is opened
    pub grows_objects : {mem mem' : Memory} {slots' : List OpenSlot} → ObjectsStay mem mem' → map serial_of slots' ≡ map serial_of slots → Grows m made mem slots made mem' slots'
    grows_objects {slots' = slots'} stay same = record {
      objects = stay.objects;
      classes = stay.classes;
      were_made = were;
      stays = λ k x there. (x, there, refl, λ open_. open_);
      indexes = λ j slot y there is open_. mapped_at serial_of slots slots' j slot same there;
    }

    pub grows_itself : (mem : Memory) → Grows m made mem slots made mem slots
    grows_itself mem = grows_objects (objects_stay mem mem refl) refl

    -- what an open slot has changes
    pub grows_content : {mem mem' : Memory} {slots' : List OpenSlot} (k : ℕ) (x : Made) (c : Content) → ObjectsStay mem mem' → map serial_of slots' ≡ map serial_of slots
        → slice_get made k ≡ Some x → is_open x ≡ true → Grows m made mem slots (set made k (record x { content = c })) mem' slots'
    grows_content {slots' = slots'} k x c stay same there open_ = record {
      objects = stay.objects;
      classes = stay.classes;
      were_made = were;
      stays = set_stays made k x c there (λ now. open_);
      indexes = λ j slot y is made_at now. mapped_at serial_of slots slots' j slot same is;
    }

    pub grows_made : {mem mem' : Memory} (x : Made) (slot : OpenSlot) → ObjectsStay mem mem' → Grows m made mem slots (made ++ x ∷ []) mem' (slots ++ slot ∷ [])
    grows_made x slot stay = record {
      objects = stay.objects;
      classes = stay.classes;
      were_made = were;
      stays = λ k y there. (y, kept_get made (x ∷ []) k y there, refl, λ open_. open_);
      indexes = λ j other y is made_at now. (other, kept_get slots (slot ∷ []) j other is, refl);
    }

    -- the slot that is kept last goes
    pub grows_gone : {mem mem' : Memory} (index : ℕ) (slot : OpenSlot) (x : Made) → ObjectsStay mem mem' → slice_get slots index ≡ Some slot → index + 1 ≡ length slots
        → slice_get made slot.serial ≡ Some x → Grows m made mem slots (set made slot.serial (record x { content = Gone })) mem' (take index slots)
    grows_gone index slot x stay there last is = record {
      objects = stay.objects;
      classes = stay.classes;
      were_made = were;
      stays = set_stays made slot.serial x Gone is (λ now. absurd (false≢true now));
      indexes = λ j other y there' made_at now. (other, get_take slots index j (before j other y there' made_at now) ∙ there', refl);
    }
      where
        gone : Made
        gone = record x { content = Gone }

        before : (j : ℕ) (other : OpenSlot) (y : Made) → slice_get slots j ≡ Some other → slice_get (set made slot.serial gone) other.serial ≡ Some y → is_open y ≡ true → j < index
        before j other y there' made_at now = by_place (cases_eq j index)
          where
            by_place : (j ≡ index) ⊎ (j ≡ index → ⊥) → j < index
            by_place (inl e) =
                let same : other ≡ slot = same_Some other slot (sym there' ∙ ap (slice_get slots) e ∙ there) in
                let at = get_set made slot.serial gone (slice_get_within made slot.serial x is) in
                let is_gone : gone ≡ y = same_Some gone y (sym at ∙ ap (λ o. slice_get (set made slot.serial gone) (serial_of o)) (sym same) ∙ made_at) in
                absurd (false≢true (ap is_open is_gone ∙ now))
            by_place (inr ne) = omega (arith, slice_get_within slots j other there', last, ne)

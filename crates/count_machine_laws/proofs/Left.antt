-- The objects that are left after a run.
use Rattle.std.proofs.Common.{◌≡◌, ◌==◌, ◌&&◌, ◌||◌, ℕ, List, [], ◌∷◌, Bool, true, false, not, cond, Option, Some, None, length, refl, sym, ap, ◌∙◌}
use Rattle.std.specs.Prelude.{is_some, slice_get, unwrap_or}
use Rattle.std.specs.List.{cons_option, filter_map, range_with_len}
use Rattle.count_heap.specs.HeapModel.HeapViews.{HeapObject, HeapView, class_told, object_in, phase_told, strong_told, unowned_told, weak_told}
use Rattle.count_machine_model.specs.holder_model.Outcomes.{Numbers, is_named, left_objects, object_number, unfreed}
use Rattle.count_machine_model.specs.holder_model.declared.left_object.LeftObject.{LeftObject}
use Rattle.count_machine_model.specs.holder_model.LoweredRun.Stored.{no_numbers, numbers_of}
use Rattle.count_machine_laws.specs.inner.Told.{all_left, left_in}
use Rattle.numbered_form.specs.Names.{Name}
use Rattle.holder_model_values.specs.RunValues.Memory.{Memory, Object, is_dead_phase, no_object}
use Rattle.sil_ast.specs.declared.module.Module.{Module}
use Rattle.sil_ast.specs.declared.place.ObjectId.{ObjectId}
use Rattle.sil_types_declarations.specs.TypeDefinitions.Declarations.{Declarations, declarations_of}
use Rattle.sil_types_declarations.specs.TypeDefinitions.Lookups.{class_at}
use Rattle.holder_model_values.specs.ValueParts.inner.Suits.{ClassTest}
use Rattle.count_machine_laws.proofs.Numbers.{object_there}
use Rattle.count_machine_laws.proofs.NumbersPut.{Found, found, missing, there}
use Rattle.count_machine_laws.proofs.Objects.{KeptAgrees, ObjectAgrees, ObjectsAgree, freed, kept}

-- what is told of an object by its class, whether it is dead, and its numbers

abbrev told : ObjectId → Name → Bool → ℕ → ℕ → ℕ → LeftObject
told o class dead strong unowned weak = record { object = o; class_name = class; live = not dead; strong = strong; unowned = unowned; weak = weak }

abbrev run_told : ObjectId → Object → Numbers → Option LeftObject
run_told o x n = cond (not (is_dead_phase x.phase) || is_named n) (Some (told o x.class (is_dead_phase x.phase) n.strong n.unowned n.weak)) None

abbrev heap_told : Declarations → ObjectId → Option HeapObject → Option LeftObject
heap_told d o None = None
heap_told d o (Some h) = Some (told o (unwrap_or (class_at d h.class) []) (is_dead_phase h.phase) h.strong h.unowned h.weak)

heap_tells : (d : Declarations) (o : ObjectId) (h : Option HeapObject) → cond (is_some h)
    (Some (told o (unwrap_or (class_at d (class_told h)) []) (is_dead_phase (phase_told h)) (strong_told h) (unowned_told h) (weak_told h))) None ≡ heap_told d o h
heap_tells d o None = refl
heap_tells d o (Some h) = refl

-- whoever isn't freed isn't dead, or is named

left_is_named : (dead unowned weak : Bool) → not (dead && unowned && weak) ≡ true → (not dead || (not unowned || not weak)) ≡ true
left_is_named false unowned weak e = refl
left_is_named true false weak e = refl
left_is_named true true weak e = e

kept_told : (m : Module) (test : ClassTest) (o : ObjectId) (x : Object) (n : Numbers) (h : HeapObject) → KeptAgrees m test x n h
    → run_told o x n ≡ Some (told o (unwrap_or (class_at (declarations_of m) h.class) []) (is_dead_phase h.phase) h.strong h.unowned h.weak)
kept_told m test o x n h k =
    let left : not (is_dead_phase x.phase && n.unowned == 0 && n.weak == 0) ≡ true =
    rw (sym k.phase, sym k.unowned, sym k.weak) k.left in
    let is_told = left_is_named (is_dead_phase x.phase) (n.unowned == 0) (n.weak == 0) left in
    ap (λ b. cond b (Some (told o x.class (is_dead_phase x.phase) n.strong n.unowned n.weak)) None) is_told
    ∙ ap (λ c. Some (told o (unwrap_or c []) (is_dead_phase x.phase) n.strong n.unowned n.weak)) (sym k.class)
    ∙ ap (λ p. Some (told o (unwrap_or (class_at (declarations_of m) h.class) []) (is_dead_phase p) n.strong n.unowned n.weak)) (sym k.phase)
    ∙ ap (λ i. Some (told o (unwrap_or (class_at (declarations_of m) h.class) []) (is_dead_phase h.phase) i n.unowned n.weak)) (sym k.strong)
    ∙ ap (λ i. Some (told o (unwrap_or (class_at (declarations_of m) h.class) []) (is_dead_phase h.phase) h.strong i n.weak)) (sym k.unowned)
    ∙ ap (λ i. Some (told o (unwrap_or (class_at (declarations_of m) h.class) []) (is_dead_phase h.phase) h.strong h.unowned i)) (sym k.weak)

object_told : (m : Module) (test : ClassTest) (o : ObjectId) (x : Object) (n : Numbers) (h : Option HeapObject) → ObjectAgrees m test x n h
    → run_told o x n ≡ heap_told (declarations_of m) o h
object_told m test o _ _ _ (freed x n dead cells unowned weak) = rw (dead, unowned, weak)
object_told m test o _ _ _ (kept x n h k) = kept_told m test o x n h k

-- over all numbers

filter_map_same : {A B : Type 0} (f g : A → Option B) → ((x : A) → f x ≡ g x) → (xs : List A) → filter_map f xs ≡ filter_map g xs
filter_map_same f g same [] = refl
filter_map_same f g same (x ∷ xs) = ap (λ y. cons_option y (filter_map f xs)) (same x) ∙ ap (cons_option (g x)) (filter_map_same f g same xs)

module _ (m : Module) (test : ClassTest) (mem : Memory) (numbers : List Numbers) (h : HeapView) (a : ObjectsAgree m test mem.objects numbers h.objects)
    (declared : h.declarations ≡ declarations_of m) where
  one_left : (o : ObjectId) → unfreed mem o (numbers_of numbers o) ≡ left_in h o
  one_left o = at (found m test mem.objects numbers h.objects a o.0)
    where
      in_heap : (y : Option HeapObject) → object_in h o ≡ y → heap_told (declarations_of m) o y ≡ left_in h o
      in_heap y e =
          ap (λ d. heap_told d o y) (sym declared) ∙ ap (heap_told h.declarations o) (sym e) ∙ sym (heap_tells h.declarations o (object_in h o))

      in_run : (x : Option Object) (n : Option Numbers) → slice_get mem.objects o.0 ≡ x → slice_get numbers o.0 ≡ n
          → unfreed mem o (numbers_of numbers o) ≡ run_told o (unwrap_or x no_object) (unwrap_or n no_numbers)
      in_run x n ex en = ap (λ y. run_told o y (numbers_of numbers o)) (object_there mem o x ex) ∙ ap (λ y. run_told o (unwrap_or x no_object) (unwrap_or y no_numbers)) en

      at : Found m test mem.objects numbers h.objects a o.0 → unfreed mem o (numbers_of numbers o) ≡ left_in h o
      at (missing ex en eh) = in_run None None ex en ∙ in_heap None (ap (λ y. unwrap_or y None) eh)
      at (there x n y ex en eh agree) = in_run (Some x) (Some n) ex en ∙ object_told m test o x n y agree ∙ in_heap y (ap (λ z. unwrap_or z None) eh)

  pub left_agrees : left_objects mem (numbers_of numbers) ≡ all_left h
  left_agrees =
      filter_map_same (λ n. unfreed mem (object_number n) (numbers_of numbers (object_number n))) (λ n. left_in h (object_number n)) (λ n. one_left (object_number n))
      (range_with_len 0 (length mem.objects))
      ∙ ap (λ n. filter_map (λ i. left_in h (object_number i)) (range_with_len 0 n)) (sym a.kept)

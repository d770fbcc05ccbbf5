-- A new object in the machine is one in the run.
use Rattle.std.proofs.Common.{◌≡◌, ◌<◌, ◌+◌, ◌++◌, ◌⊎◌, inl, inr, ℕ, zero, suc, List, [], ◌∷◌, Option, Some, true, cond, length, nat_lt, refl, sym, ap, ◌∙◌, subst, arith}
use Rattle.std.specs.Prelude.{slice_get, unwrap_or}
use Rattle.std.proofs.lemmas.Bool.{and_from, false≢true, lt-ltb, ne_eqb}
use Rattle.std.proofs.lemmas.List.{length-map, length_push}
use Rattle.std.proofs.lemmas.Option.{none-some, same_Some, slice_get_within}
use Rattle.count_heap.specs.HeapModel.HeapCalls as heap
use Rattle.count_heap.specs.HeapModel.HeapCalls.{allocated_in}
use Rattle.count_heap.specs.HeapModel.HeapViews.{HeapObject, class_fields, named_fields}
use Rattle.count_machine_model.specs.holder_model.ModuleShapes.{field_shape, field_shapes, shapes_of}
use Rattle.count_machine_model.specs.holder_model.Outcomes.{Numbers}
use Rattle.count_machine_model.specs.holder_model.LoweredRun.LowStepParts.{numbers_for}
use Rattle.count_machine_model.specs.holder_model.LoweredRun.Stored.{new_numbers}
use Rattle.count_machine_model.specs.declared.machine_steps.frame.Frame.{Frame}
use Rattle.count_machine_model.specs.declared.machine_steps.frame.Task.{Task}
use Rattle.count_machine_model.specs.MachineSteps.Places.{made_object}
use Rattle.count_machine_model.specs.MachineSteps.Views.{MachineView}
use Rattle.numbered_form.specs.Names.{Name}
use Rattle.count_machine_model.specs.holder_model.RunTyping.Classes.{is_a}
use Rattle.count_machine_model.specs.holder_model.RunTyping.RunTyped.{RunTyped}
use Rattle.holder_model_values.specs.RunValues.Memory.{Memory, Object, new_object, no_object, object_at}
use Rattle.holder_model_values.specs.RunValues.Places.{empty_fields}
use Rattle.holder_model_values.specs.RunValues.Shapes.{Shape}
use Rattle.holder_model_values.specs.declared.run_values.phase.Phase.TheVariants.{Live}
use Rattle.sil_ast.specs.declared.module.Module.{Module}
use Rattle.sil_types_declarations.specs.TypeDefinitions.Declarations.{Declarations, declarations_of, is_class}
use Rattle.sil_types_declarations.specs.TypeDefinitions.Lookups.{class_at, fields_of}
use Rattle.holder_model_values.specs.ValueParts.inner.Suits.{ClassTest}
use Rattle.sil_ast.specs.declared.place.ObjectId.{ObjectId}
use Rattle.count_machine_laws.proofs.Changes.{Changes}
use Rattle.count_machine_laws.proofs.Grows.{Grows, is_of_class_grows, were_made}
use Rattle.count_machine_laws.proofs.GrowsBy.{ObjectsStay, grows_objects}
use Rattle.count_machine_laws.proofs.HeldFields.{none_written}
use Rattle.count_machine_laws.proofs.Memories.{MemoryAgrees}
use Rattle.count_machine_laws.proofs.Objects.{ObjectAgrees, ObjectsAgree, is_of_class}
use Rattle.count_machine_laws.proofs.PhasesWider.{objects_wider, slots_wider}
use Rattle.count_machine_laws.proofs.Slots.{Made}

abbrev pub with_new_object : Module → Memory → Name → Memory
with_new_object m mem class = record mem { objects = mem.objects ++ record { class = class; phase = Live; cells = empty_fields (field_shapes (shapes_of m) class) } ∷ [] }

abbrev pub with_allocated : MachineView → ℕ → MachineView
with_allocated st k = record st { heap = allocated_in st.heap k }

pub record MakesObject (m : Module) (made : List Made) (mem : Memory) (numbers : List Numbers) (st : MachineView) (fr : Frame) (rest : List Task) (k : ℕ) (class : Name) : Type 0 where
  pub changes : Changes m made mem st (with_new_object m mem class) (numbers ++ new_numbers ∷ []) (with_allocated st k)
  pub numbered : numbers_for (with_new_object m mem class) numbers ≡ numbers ++ new_numbers ∷ []
  pub object : made_object st fr rest k ≡ new_object mem
  pub of_class : is_of_class m (with_new_object m mem class) class (new_object mem) ≡ true

abbrev numbered_object : ℕ → ObjectId
numbered_object n = record { 0 = n }

-- lists with one more at the end
module _ {A : Type 0} where
  pub pushed_before : (xs : List A) (y : A) (j : ℕ) → j < length xs → slice_get (xs ++ y ∷ []) j ≡ slice_get xs j
  pushed_before [] y j within = absurd (omega (arith, within))
  pushed_before (x ∷ xs) y zero within = refl
  pushed_before (x ∷ xs) y (suc j) within = pushed_before xs y j (omega (arith, within))

  pub pushed_last : (xs : List A) (y : A) → slice_get (xs ++ y ∷ []) (length xs) ≡ Some y
  pushed_last [] y = refl
  pushed_last (x ∷ xs) y = pushed_last xs y

  pub pushed_cases : (xs : List A) (y : A) (j : ℕ) (z : A) → slice_get (xs ++ y ∷ []) j ≡ Some z → (slice_get xs j ≡ Some z) ⊎ (j ≡ length xs) × (y ≡ z)
  pushed_cases [] y zero z e = inr (refl, same_Some y z e)
  pushed_cases [] y (suc j) z e = absurd (none-some z e)
  pushed_cases (x ∷ xs) y zero z e = inl e
  pushed_cases (x ∷ xs) y (suc j) z e = by (pushed_cases xs y j z e)
    where
      by : (slice_get xs j ≡ Some z) ⊎ (j ≡ length xs) × (y ≡ z) → (slice_get (x ∷ xs) (suc j) ≡ Some z) ⊎ (suc j ≡ length (x ∷ xs)) × (y ≡ z)
      by (inl there) = inl there
      by (inr last) = inr (ap suc last.0, last.1)

-- objects agree with one more
module _ (m : Module) (test : ClassTest) (xs : List Object) (ns : List Numbers) (hs : List (Option HeapObject)) (agree : ObjectsAgree m test xs ns hs)
    (x : Object) (n : Numbers) (h : Option HeapObject) (is : is_class (declarations_of m) x.class ≡ true) (mine : ObjectAgrees m test x n h) where
  each_with : (j : ℕ) (x' : Object) (n' : Numbers) (h' : Option HeapObject) → slice_get (xs ++ x ∷ []) j ≡ Some x' → slice_get (ns ++ n ∷ []) j ≡ Some n' → slice_get (hs ++ h ∷ []) j ≡ Some h'
      → ObjectAgrees m test x' n' h'
  each_with j x' n' h' ex en eh = by (pushed_cases xs x j x' ex) (pushed_cases ns n j n' en) (pushed_cases hs h j h' eh)
    where
      by : (slice_get xs j ≡ Some x') ⊎ (j ≡ length xs) × (x ≡ x') → (slice_get ns j ≡ Some n') ⊎ (j ≡ length ns) × (n ≡ n') → (slice_get hs j ≡ Some h') ⊎ (j ≡ length hs) × (h ≡ h')
          → ObjectAgrees m test x' n' h'
      by (inl at) (inl at_n) (inl at_h) = agree.each j x' n' h' at at_n at_h
      by (inr last) (inr last_n) (inr last_h) =
          subst (λ z. ObjectAgrees m test z n' h') last.1 (subst (λ z. ObjectAgrees m test x z h') last_n.1 (subst (λ z. ObjectAgrees m test x n z) last_h.1 mine))
      by (inl at) (inr last_n) at_h = absurd (let within = slice_get_within xs j x' at in omega (arith, within, last_n.0, agree.numbered))
      by (inl at) (inl at_n) (inr last_h) = absurd (let within = slice_get_within xs j x' at in omega (arith, within, last_h.0, agree.kept))
      by (inr last) (inl at_n) at_h = absurd (let within = slice_get_within ns j n' at_n in omega (arith, within, last.0, agree.numbered))
      by (inr last) (inr last_n) (inl at_h) = absurd (let within = slice_get_within hs j h' at_h in omega (arith, within, last.0, agree.kept))

  classes_with : (j : ℕ) (x' : Object) → slice_get (xs ++ x ∷ []) j ≡ Some x' → is_class (declarations_of m) x'.class ≡ true
  classes_with j x' e = by (pushed_cases xs x j x' e)
    where
      by : (slice_get xs j ≡ Some x') ⊎ (j ≡ length xs) × (x ≡ x') → is_class (declarations_of m) x'.class ≡ true
      by (inl there) = agree.classes j x' there
      by (inr last) = subst (λ z. is_class (declarations_of m) z.class ≡ true) last.1 is

  objects_with : ObjectsAgree m test (xs ++ x ∷ []) (ns ++ n ∷ []) (hs ++ h ∷ [])
  objects_with = record {
    numbered = length_push ns n ∙ ap (λ k. k + 1) agree.numbered ∙ sym (length_push xs x);
    kept = length_push hs h ∙ ap (λ k. k + 1) agree.kept ∙ sym (length_push xs x);
    classes = classes_with;
    each = each_with;
  }

module _ (m : Module) (typed : RunTyped m) {made : List Made} {mem : Memory} {numbers : List Numbers} {st : MachineView} (agrees : MemoryAgrees m made mem numbers st)
    (k : ℕ) (class : Name) (is : class_at (declarations_of m) k ≡ Some class) where
  abbrev d : Declarations
  d = declarations_of m

  abbrev ss : List Shape
  ss = field_shapes (shapes_of m) class

  abbrev x : Object
  x = record { class = class; phase = Live; cells = empty_fields ss }

  abbrev mem' : Memory
  mem' = with_new_object m mem class

  abbrev wider : ClassTest
  wider = is_of_class m mem'

  of_class : is_class d class ≡ true
  of_class = typed.classes.named k class is

  same_before : (o : ObjectId) → o.0 < length mem.objects → object_at mem' o ≡ object_at mem o
  same_before o within = ap (λ z. unwrap_or z no_object) (pushed_before mem.objects x o.0 within)

  stay : ObjectsStay mem mem'
  stay = record { objects = omega (arith, length_push mem.objects x); classes = λ o within. ap (λ y. y.class) (same_before o within) }

  field_count : length ss ≡ length (class_fields st.heap.declarations k)
  field_count =
      ap length (typed.fields class of_class).listed ∙ length-map (fields_of d class) (field_shape d)
      ∙ ap (λ n. length (named_fields d n)) (sym is) ∙ ap (λ e. length (class_fields e k)) (sym agrees.declared)

  new_agrees : ObjectAgrees m wider x new_numbers (Some (heap.new_object st.heap.declarations k))
  new_agrees = ObjectAgrees.kept x new_numbers (heap.new_object st.heap.declarations k) (record {
    class = is;
    phase = refl;
    strong = refl;
    unowned = refl;
    weak = refl;
    left = refl;
    fields = λ alive. none_written wider ss (length (class_fields st.heap.declarations k)) field_count;
    ended = λ dead. absurd (false≢true dead);
  })

  grows : Grows m made mem st.slots made mem' st.slots
  grows = grows_objects (were_made agrees.slots) stay refl

  memory : MemoryAgrees m made mem' (numbers ++ new_numbers ∷ []) (with_allocated st k)
  memory = record {
    stack = agrees.stack;
    serials = agrees.serials;
    slots = slots_wider (is_of_class m mem) wider (is_of_class_grows grows) made st.slots st.slot_leaves agrees.slots;
    objects = objects_with m wider mem.objects numbers st.heap.objects
        (objects_wider (is_of_class m mem) wider (is_of_class_grows grows) m mem.objects numbers st.heap.objects agrees.objects) x new_numbers
        (Some (heap.new_object st.heap.declarations k)) of_class new_agrees;
    declared = agrees.declared;
  }

  makes : (fr : Frame) (rest : List Task) → MakesObject m made mem numbers st fr rest k class
  makes fr rest = record {
    changes = record {
      made' = made;
      agrees = memory;
      grows = grows;
      phases = λ o within. ap (λ y. y.phase) (same_before o within);
      frames = record { tasks = refl; there = refl; leaves = refl; addresses = refl; waiting = refl; events = refl; turns = refl; retains = refl; releases = refl };
    };
    numbered = ap (λ b. cond b numbers (numbers ++ new_numbers ∷ []))
        (ne_eqb (length numbers) (length mem'.objects) (λ e. absurd (omega (arith, e, agrees.objects.numbered, length_push mem.objects x))));
    object = ap numbered_object agrees.objects.kept;
    of_class = and_from (nat_lt (length mem.objects) (length mem'.objects)) (is_a d (object_at mem' (new_object mem)).class class)
        (lt-ltb (length mem.objects) (length mem'.objects) (omega (arith, length_push mem.objects x)))
        (ap (λ z. is_a d (unwrap_or z no_object).class class) (pushed_last mem.objects x) ∙ typed.classes.itself class);
  }

module _ (m : Module) (typed : RunTyped m) {made : List Made} {mem : Memory} {numbers : List Numbers} {st : MachineView} (agrees : MemoryAgrees m made mem numbers st) where
  pub object_made : (fr : Frame) (rest : List Task) (k : ℕ) (class : Name) → class_at (declarations_of m) k ≡ Some class → MakesObject m made mem numbers st fr rest k class
  object_made fr rest k class is = makes m typed agrees k class is fr rest

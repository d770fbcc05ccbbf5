-- What the heap tells of an object is what the run has of it.
use Rattle.std.proofs.Common.{◌≡◌, ◌<◌, ◌==◌, ◌&&◌, List, [], false, Option, Some, None, length, refl, sym, ap, ◌∙◌}
use Rattle.std.specs.Prelude.{slice_get, unwrap_or}
use Rattle.std.proofs.lemmas.Bool.{cond-true, eq-eqb, true≢false}
use Rattle.std.proofs.lemmas.Option.{slice_get_within}
use Rattle.count_heap.specs.HeapModel.HeapCalls.{takes_last}
use Rattle.count_heap.specs.HeapModel.HeapViews.{HeapObject, HeapView, class_in, class_told, is_dead_in, phase_in, phase_told, strong_in, strong_told, unowned_in, unowned_told, weak_in, weak_told}
use Rattle.count_machine_model.specs.holder_model.Outcomes.{Numbers}
use Rattle.count_machine_model.specs.holder_model.LoweredRun.LowStepParts.{numbers_for}
use Rattle.count_machine_model.specs.holder_model.LoweredRun.Stored.{numbers_of}
use Rattle.count_machine_model.specs.MachineSteps.Steps.{name_of}
use Rattle.count_machine_model.specs.MachineSteps.Views.{MachineView}
use Rattle.holder_model_values.specs.RunValues.Memory.{Memory, Object, is_dead, is_dead_phase, is_live, is_live_phase, no_object, object_at, phase_of}
use Rattle.sil_ast.specs.declared.module.Module.{Module}
use Rattle.sil_ast.specs.declared.place.ObjectId.{ObjectId}
use Rattle.sil_types_declarations.specs.TypeDefinitions.Declarations.{declarations_of}
use Rattle.sil_types_declarations.specs.TypeDefinitions.Lookups.{class_at}
use Rattle.holder_model_values.specs.ValueParts.inner.Suits.{ClassTest}
use Rattle.count_machine_laws.proofs.Memories.{MemoryAgrees}
use Rattle.count_machine_laws.proofs.NumbersPut.{Found, found, missing, there}
use Rattle.count_machine_laws.proofs.Objects.{ObjectAgrees, ObjectsAgree, freed, is_of_class, kept}
use Rattle.count_machine_laws.proofs.Slots.{Made}

-- one object

module _ (m : Module) (test : ClassTest) where
  told_phase : (x : Object) (n : Numbers) (h : Option HeapObject) → ObjectAgrees m test x n h → phase_told h ≡ x.phase
  told_phase _ _ _ (freed x n dead cells unowned weak) = sym dead
  told_phase _ _ _ (kept x n h k) = k.phase

  told_strong : (x : Object) (n : Numbers) (h : Option HeapObject) → ObjectAgrees m test x n h → is_dead_phase x.phase ≡ false → strong_told h ≡ n.strong
  told_strong _ _ _ (freed x n dead cells unowned weak) alive = absurd (true≢false (sym (ap is_dead_phase dead) ∙ alive))
  told_strong _ _ _ (kept x n h k) alive = k.strong

  told_unowned : (x : Object) (n : Numbers) (h : Option HeapObject) → ObjectAgrees m test x n h → unowned_told h ≡ n.unowned
  told_unowned _ _ _ (freed x n dead cells unowned weak) = sym unowned
  told_unowned _ _ _ (kept x n h k) = k.unowned

  told_weak : (x : Object) (n : Numbers) (h : Option HeapObject) → ObjectAgrees m test x n h → weak_told h ≡ n.weak
  told_weak _ _ _ (freed x n dead cells unowned weak) = sym weak
  told_weak _ _ _ (kept x n h k) = k.weak

  told_class : (x : Object) (n : Numbers) (h : Option HeapObject) → ObjectAgrees m test x n h → is_dead_phase x.phase ≡ false
      → class_at (declarations_of m) (class_told h) ≡ Some x.class
  told_class _ _ _ (freed x n dead cells unowned weak) alive = absurd (true≢false (sym (ap is_dead_phase dead) ∙ alive))
  told_class _ _ _ (kept x n h k) alive = k.class

-- the object with a number

pub object_there : (mem : Memory) (o : ObjectId) (x : Option Object) → slice_get mem.objects o.0 ≡ x → object_at mem o ≡ unwrap_or x no_object
object_there mem o x e = ap (λ y. unwrap_or y no_object) e

pub alive_there : (mem : Memory) (o : ObjectId) (x : Option Object) → slice_get mem.objects o.0 ≡ x → is_dead mem o ≡ false
    → is_dead_phase (unwrap_or x no_object).phase ≡ false
alive_there mem o x e alive = sym (ap (λ y. is_dead_phase y.phase) (object_there mem o x e)) ∙ alive

module _ (m : Module) (test : ClassTest) (mem : Memory) (numbers : List Numbers) (h : HeapView) (o : ObjectId) where
  pub phase_agrees : ObjectsAgree m test mem.objects numbers h.objects → phase_in h o ≡ phase_of mem o
  phase_agrees a = at (found m test mem.objects numbers h.objects a o.0)
    where
      at : Found m test mem.objects numbers h.objects a o.0 → phase_in h o ≡ phase_of mem o
      at (missing ex en eh) = rw eh (sym (ap (λ y. y.phase) (object_there mem o None ex)))
      at (there x n y ex en eh agree) = rw eh (told_phase m test x n y agree ∙ sym (ap (λ z. z.phase) (object_there mem o (Some x) ex)))

  pub dead_agrees : ObjectsAgree m test mem.objects numbers h.objects → is_dead_in h o ≡ is_dead mem o
  dead_agrees a = ap is_dead_phase (phase_agrees a)

  pub live_agrees : ObjectsAgree m test mem.objects numbers h.objects → is_live_phase (phase_in h o) ≡ is_live mem o
  live_agrees a = ap is_live_phase (phase_agrees a)

  pub strong_agrees : ObjectsAgree m test mem.objects numbers h.objects → is_dead mem o ≡ false → strong_in h o ≡ (numbers_of numbers o).strong
  strong_agrees a alive = at (found m test mem.objects numbers h.objects a o.0)
    where
      at : Found m test mem.objects numbers h.objects a o.0 → strong_in h o ≡ (numbers_of numbers o).strong
      at (missing ex en eh) = rw (en, eh)
      at (there x n y ex en eh agree) = rw (en, eh) (told_strong m test x n y agree (alive_there mem o (Some x) ex alive))

  pub unowned_agrees : ObjectsAgree m test mem.objects numbers h.objects → unowned_in h o ≡ (numbers_of numbers o).unowned
  unowned_agrees a = at (found m test mem.objects numbers h.objects a o.0)
    where
      at : Found m test mem.objects numbers h.objects a o.0 → unowned_in h o ≡ (numbers_of numbers o).unowned
      at (missing ex en eh) = rw (en, eh)
      at (there x n y ex en eh agree) = rw (en, eh) (told_unowned m test x n y agree)

  pub weak_agrees : ObjectsAgree m test mem.objects numbers h.objects → weak_in h o ≡ (numbers_of numbers o).weak
  weak_agrees a = at (found m test mem.objects numbers h.objects a o.0)
    where
      at : Found m test mem.objects numbers h.objects a o.0 → weak_in h o ≡ (numbers_of numbers o).weak
      at (missing ex en eh) = rw (en, eh)
      at (there x n y ex en eh agree) = rw (en, eh) (told_weak m test x n y agree)

  pub last_agrees : ObjectsAgree m test mem.objects numbers h.objects → is_dead mem o ≡ false
      → takes_last h o ≡ (is_live mem o && (numbers_of numbers o).strong == 1)
  last_agrees a alive = rw (live_agrees a, strong_agrees a alive)

  pub class_agrees : ObjectsAgree m test mem.objects numbers h.objects → is_dead mem o ≡ false
      → class_at (declarations_of m) (class_in h o) ≡ Some (object_at mem o).class
  class_agrees a alive = at (found m test mem.objects numbers h.objects a o.0)
    where
      at : Found m test mem.objects numbers h.objects a o.0 → class_at (declarations_of m) (class_in h o) ≡ Some (object_at mem o).class
      at (missing ex en eh) = absurd (true≢false (alive_there mem o None ex alive))
      at (there x n y ex en eh agree) = rw (ex, eh) (told_class m test x n y agree (alive_there mem o (Some x) ex alive))

  pub name_agrees : ObjectsAgree m test mem.objects numbers h.objects → h.declarations ≡ declarations_of m → is_dead mem o ≡ false
      → name_of h o ≡ (object_at mem o).class
  name_agrees a declared alive = ap (λ c. unwrap_or c []) (ap (λ d. class_at d (class_in h o)) declared ∙ class_agrees a alive)

-- an object that isn't dead was made
pub alive_was_made : (mem : Memory) (o : ObjectId) → is_dead mem o ≡ false → o.0 < length mem.objects
alive_was_made mem o alive = at (slice_get mem.objects o.0) refl
  where
    at : (x : Option Object) → slice_get mem.objects o.0 ≡ x → o.0 < length mem.objects
    at None e = absurd (true≢false (alive_there mem o None e alive))
    at (Some x) e = slice_get_within mem.objects o.0 x e

-- no object was made
pub numbers_stay : (m : Module) (test : ClassTest) (mem : Memory) (numbers : List Numbers) (heap : HeapView)
    → ObjectsAgree m test mem.objects numbers heap.objects → numbers_for mem numbers ≡ numbers
numbers_stay m test mem numbers heap a = cond-true (length numbers == length mem.objects) _ _ (eq-eqb (length numbers) (length mem.objects) a.numbered)

-- a memory whose numbers alone have changed, with a heap that agrees
pub heap_changed : (m : Module) (made : List Made) (mem : Memory) (numbers more : List Numbers) (st : MachineView) (h : HeapView) → MemoryAgrees m made mem numbers st
    → h.declarations ≡ st.heap.declarations → ObjectsAgree m (is_of_class m mem) mem.objects more h.objects → MemoryAgrees m made mem more (record st { heap = h })
heap_changed m made mem numbers more st h a same objects = record {
  stack = a.stack;
  serials = a.serials;
  slots = a.slots;
  objects = objects;
  declared = same ∙ a.declared;
}

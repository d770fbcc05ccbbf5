-- An object that isn't dead starts to deinitialise.
use Rattle.std.proofs.Common.{◌≡◌, List, true, false, Option, Some, None, refl, sym, ap, ◌∙◌}
use Rattle.std.specs.Prelude.{option_map, slice_get}
use Rattle.std.proofs.lemmas.Bool.{false≢true}
use Rattle.count_heap.specs.HeapModel.HeapCalls.{deiniting, started}
use Rattle.count_heap.specs.HeapModel.HeapViews.{HeapObject, object_in}
use Rattle.count_machine_model.specs.holder_model.Dropping.{in_phase}
use Rattle.count_machine_model.specs.holder_model.Outcomes.{Numbers}
use Rattle.count_machine_model.specs.MachineSteps.Views.{MachineView}
use Rattle.holder_model_values.specs.RunValues.Memory.{Memory, Object, is_dead, is_dead_phase, object_at}
use Rattle.holder_model_values.specs.declared.run_values.phase.Phase.TheVariants.{Deiniting}
use Rattle.sil_ast.specs.declared.module.Module.{Module}
use Rattle.sil_ast.specs.declared.place.ObjectId.{ObjectId}
use Rattle.sil_types_declarations.specs.TypeDefinitions.Declarations.{declarations_of, is_class}
use Rattle.holder_model_values.specs.ValueParts.inner.Suits.{ClassTest}
use Rattle.count_machine_laws.proofs.Memories.{MemoryAgrees}
use Rattle.count_machine_laws.proofs.Numbers.{alive_there, object_there}
use Rattle.count_machine_laws.proofs.NumbersPut.{Found, found, missing, object_put, there}
use Rattle.count_machine_laws.proofs.Objects.{ObjectAgrees, ObjectsAgree, freed, is_of_class, kept}
use Rattle.count_machine_laws.proofs.PhasesWider.{memory_put}
use Rattle.count_machine_laws.proofs.Slots.{Made}

one_started : (m : Module) (test : ClassTest) (x : Object) (n : Numbers) (h : Option HeapObject) → is_dead_phase x.phase ≡ false → ObjectAgrees m test x n h
    → ObjectAgrees m test (record x { phase = Deiniting }) n (option_map deiniting h)
one_started m test _ _ _ alive (freed x n dead cells unowned weak) = absurd (false≢true (sym alive ∙ ap is_dead_phase dead))
one_started m test _ _ _ alive (kept x n h k) = kept (record x { phase = Deiniting }) n (deiniting h) (record {
  class = k.class;
  phase = refl;
  strong = k.strong;
  unowned = k.unowned;
  weak = k.weak;
  left = refl;
  fields = λ e. k.fields alive;
  ended = λ e. absurd (false≢true e);
})

-- the class of an object that isn't dead
pub alive_is_class : (m : Module) (test : ClassTest) (mem : Memory) (numbers : List Numbers) (hs : List (Option HeapObject)) (o : ObjectId)
    → ObjectsAgree m test mem.objects numbers hs → is_dead mem o ≡ false → is_class (declarations_of m) (object_at mem o).class ≡ true
alive_is_class m test mem numbers hs o a alive = at (found m test mem.objects numbers hs a o.0)
  where
    at : Found m test mem.objects numbers hs a o.0 → is_class (declarations_of m) (object_at mem o).class ≡ true
    at (missing ex en eh) = absurd (false≢true (sym (alive_there mem o None ex alive)))
    at (there x n h ex en eh agree) = ap (λ y. is_class (declarations_of m) y.class) (object_there mem o (Some x) ex) ∙ a.classes o.0 x ex

module _ (m : Module) (made : List Made) (mem : Memory) (numbers : List Numbers) (st : MachineView) (o : ObjectId) (alive : is_dead mem o ≡ false)
    (a : MemoryAgrees m made mem numbers st) where
  abbrev test : ClassTest
  test = is_of_class m mem

  abbrev starting : Object
  starting = record (object_at mem o) { phase = Deiniting }

  starts : (n : Numbers) → slice_get numbers o.0 ≡ Some n → ObjectAgrees m test starting n (option_map deiniting (object_in st.heap o))
  starts n en = at (found m test mem.objects numbers st.heap.objects a.objects o.0)
    where
      at : Found m test mem.objects numbers st.heap.objects a.objects o.0 → ObjectAgrees m test starting n (option_map deiniting (object_in st.heap o))
      at (missing ex none eh) = absurd (false≢true (sym (alive_there mem o None ex alive)))
      at (there x y h ex ey eh agree) =
          rw (object_there mem o (Some x) ex, eh) (one_started m test x n h (alive_there mem o (Some x) ex alive) (a.objects.each o.0 x n h ex en eh))

  pub memory_started : MemoryAgrees m made (in_phase Deiniting mem o) numbers (record st { heap = started st.heap o })
  memory_started =
      memory_put m mem o starting refl made numbers numbers st (started st.heap o) a refl
      (object_put m test mem.objects numbers st.heap.objects a.objects o.0 starting (option_map deiniting (object_in st.heap o))
      (alive_is_class m test mem numbers st.heap.objects o a.objects alive) starts)

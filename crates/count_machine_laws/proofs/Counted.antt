-- Strong references: a retain and a release in the heap are those of the run.
use Rattle.std.proofs.Common.{◌+◌, ◌-◌, List, Option, refl, ap}
use Rattle.std.specs.Prelude.{option_map}
use Rattle.count_heap.specs.HeapModel.HeapCalls as heap
use Rattle.count_heap.specs.HeapModel.HeapCalls.{released, retained}
use Rattle.count_heap.specs.HeapModel.HeapViews.{HeapObject, HeapView}
use Rattle.count_machine_model.specs.holder_model.Outcomes.{Numbers}
use Rattle.count_machine_model.specs.holder_model.LoweredRun.Stored.{changed, one_less, one_more}
use Rattle.holder_model_values.specs.RunValues.Memory.{Memory, Object}
use Rattle.sil_ast.specs.declared.module.Module.{Module}
use Rattle.sil_ast.specs.declared.place.ObjectId.{ObjectId}
use Rattle.holder_model_values.specs.ValueParts.inner.Suits.{ClassTest}
use Rattle.count_machine_model.specs.MachineSteps.Views.{MachineView}
use Rattle.count_machine_laws.proofs.Memories.{MemoryAgrees}
use Rattle.count_machine_laws.proofs.Numbers.{heap_changed}
use Rattle.count_machine_laws.proofs.NumbersPut.{counts_changed}
use Rattle.count_machine_laws.proofs.Objects.{ObjectAgrees, ObjectsAgree, freed, is_of_class, kept}
use Rattle.count_machine_laws.proofs.Slots.{Made}

module _ (m : Module) (test : ClassTest) where
  one_retained : (x : Object) (n : Numbers) (h : Option HeapObject) → ObjectAgrees m test x n h → ObjectAgrees m test x (one_more n) (option_map heap.one_more h)
  one_retained _ _ _ (freed x n dead cells unowned weak) = freed x (one_more n) dead cells unowned weak
  one_retained _ _ _ (kept x n h k) = kept x (one_more n) (heap.one_more h) (record {
    class = k.class;
    phase = k.phase;
    strong = ap (λ i. i + 1) k.strong;
    unowned = k.unowned;
    weak = k.weak;
    left = k.left;
    fields = k.fields;
    ended = k.ended;
  })

  one_released : (x : Object) (n : Numbers) (h : Option HeapObject) → ObjectAgrees m test x n h → ObjectAgrees m test x (one_less n) (option_map heap.one_less h)
  one_released _ _ _ (freed x n dead cells unowned weak) = freed x (one_less n) dead cells unowned weak
  one_released _ _ _ (kept x n h k) = kept x (one_less n) (heap.one_less h) (record {
    class = k.class;
    phase = k.phase;
    strong = ap (λ i. i - 1) k.strong;
    unowned = k.unowned;
    weak = k.weak;
    left = k.left;
    fields = k.fields;
    ended = k.ended;
  })

module _ (m : Module) (test : ClassTest) (objects : List Object) (numbers : List Numbers) (h : HeapView) (o : ObjectId) where
  pub retained_agrees : ObjectsAgree m test objects numbers h.objects → ObjectsAgree m test objects (changed one_more numbers o) (retained h o).objects
  retained_agrees a = counts_changed m test objects numbers h.objects a o.0 one_more (option_map heap.one_more) (λ x n y ex. one_retained m test x n y)

  pub released_agrees : ObjectsAgree m test objects numbers h.objects → ObjectsAgree m test objects (changed one_less numbers o) (released h o).objects
  released_agrees a = counts_changed m test objects numbers h.objects a o.0 one_less (option_map heap.one_less) (λ x n y ex. one_released m test x n y)

module _ (m : Module) (made : List Made) (mem : Memory) (numbers : List Numbers) (st : MachineView) (o : ObjectId) where
  pub memory_retained : MemoryAgrees m made mem numbers st → MemoryAgrees m made mem (changed one_more numbers o) (record st { heap = retained st.heap o })
  memory_retained a =
      heap_changed m made mem numbers (changed one_more numbers o) st (retained st.heap o) a refl (retained_agrees m (is_of_class m mem) mem.objects numbers st.heap o a.objects)

  pub memory_released : MemoryAgrees m made mem numbers st → MemoryAgrees m made mem (changed one_less numbers o) (record st { heap = released st.heap o })
  memory_released a =
      heap_changed m made mem numbers (changed one_less numbers o) st (released st.heap o) a refl (released_agrees m (is_of_class m mem) mem.objects numbers st.heap o a.objects)

-- An object that was deinitialised dies: what its weak and unowned fields name is named no longer, and its strong fields' references are dropped.
use Rattle.std.proofs.Common.{◌≡◌, List, Bool, false, Option, Some, None, map, refl, sym, ap, ◌∙◌, subst}
use Rattle.std.specs.Prelude.{option_and_then, slice_get}
use Rattle.std.proofs.lemmas.Bool.{false≢true}
use Rattle.count_heap.specs.HeapModel.HeapCalls.{dead, finished, unless_freed}
use Rattle.count_heap.specs.HeapModel.HeapViews.{HeapObject, HeapView, fields_in, fields_told, object_in}
use Rattle.count_machine_model.specs.holder_model.Dropping.{deinits_of, ended, field_references}
use Rattle.count_machine_model.specs.holder_model.ModuleShapes.{field_shape, field_shapes, shapes_of}
use Rattle.count_machine_model.specs.holder_model.Outcomes.{Numbers}
use Rattle.count_machine_model.specs.holder_model.LoweredRun.Stored.{unnamed}
use Rattle.count_machine_model.specs.MachineSteps.Steps.{class_of, fields_unnamed, strong_in_fields}
use Rattle.count_machine_model.specs.MachineSteps.Views.{MachineView}
use Rattle.count_machine_model.specs.ReadyCode.ReadyModules.{IsReadyModule, storage_of}
use Rattle.count_machine_model.specs.declared.ready_code.function.ReadyModule.{ReadyModule}
use Rattle.count_machine_model.specs.holder_model.RunTyping.FieldForms.{HasTypedFields}
use Rattle.count_machine_model.specs.holder_model.RunTyping.RunTyped.{RunTyped}
use Rattle.holder_model_values.specs.RunValues.Memory.{Memory, Object, is_dead, is_dead_phase, object_at, with_object}
use Rattle.sil_ast.specs.declared.decl.Field.{Field}
use Rattle.sil_ast.specs.declared.module.Module.{Module}
use Rattle.sil_ast.specs.declared.place.ObjectId.{ObjectId}
use Rattle.sil_types_declarations.specs.TypeDefinitions.Declarations.{declarations_of}
use Rattle.sil_types_declarations.specs.TypeDefinitions.Lookups.{fields_of}
use Rattle.holder_model_values.specs.ValueParts.inner.Suits.{ClassTest}
use Rattle.count_machine_laws.proofs.FinishedClass.{class_is_named, named_class}
use Rattle.count_machine_laws.proofs.FinishedFields.{fields_forget, fields_keep, fields_only, typed_shapes}
use Rattle.count_machine_laws.proofs.Memories.{MemoryAgrees}
use Rattle.count_machine_laws.proofs.NamedLists.{OnlyObjects}
use Rattle.count_machine_laws.proofs.NamedOne.{kept_or_freed}
use Rattle.count_machine_laws.proofs.Numbers.{alive_there, class_agrees, object_there}
use Rattle.count_machine_laws.proofs.NumbersPut.{Found, found, missing, object_put, there}
use Rattle.count_machine_laws.proofs.Objects.{FieldsHold, ObjectAgrees, ObjectsAgree, freed, is_of_class, kept}
use Rattle.count_machine_laws.proofs.Phases.{alive_is_class}
use Rattle.count_machine_laws.proofs.PhasesWider.{memory_put}
use Rattle.count_machine_laws.proofs.Slots.{Made}

-- one object

module _ (m : Module) (test : ClassTest) where
  one_finished : (x : Object) (n : Numbers) (h : Option HeapObject) → is_dead_phase x.phase ≡ false → ObjectAgrees m test x n h
      → ObjectAgrees m test (ended x) n (option_and_then (λ y. unless_freed (dead y)) h)
  one_finished _ _ _ alive (freed x n is_dead cells unowned weak) = absurd (false≢true (sym alive ∙ ap is_dead_phase is_dead))
  one_finished _ _ _ alive (kept x n h k) = kept_or_freed m test (ended x) n (dead h) (λ e. record {
    class = k.class;
    phase = refl;
    strong = k.strong;
    unowned = k.unowned;
    weak = k.weak;
    left = e;
    fields = λ f. absurd (false≢true (sym f));
    ended = λ f. (refl, refl);
  }) refl k.unowned k.weak (λ f. refl)

  fields_told_hold : (x : Object) (n : Numbers) (h : Option HeapObject) → is_dead_phase x.phase ≡ false → ObjectAgrees m test x n h
      → FieldsHold test (field_shapes (shapes_of m) x.class) x.cells (fields_told h)
  fields_told_hold _ _ _ alive (freed x n is_dead cells unowned weak) = absurd (false≢true (sym alive ∙ ap is_dead_phase is_dead))
  fields_told_hold _ _ _ alive (kept x n h k) = k.fields alive

module _ (m : Module) {reached : List Bool} (ready : ReadyModule) (typed : RunTyped m) (is_ready : IsReadyModule m reached ready) (made : List Made)
    (mem : Memory) (numbers : List Numbers) (st : MachineView) (o : ObjectId) (alive : is_dead mem o ≡ false) (a : MemoryAgrees m made mem numbers st) where
  abbrev test : ClassTest
  test = is_of_class m mem

  abbrev dying : Object
  dying = object_at mem o

  abbrev own_fields : List Field
  own_fields = fields_of (declarations_of m) dying.class

  class_named_so : class_of ready st.heap o ≡ named_class (declarations_of m) dying.class
  class_named_so = class_is_named m ready st.heap o dying.class is_ready (class_agrees m test mem numbers st.heap o a.objects alive)

  pub deinits_agree : (class_of ready st.heap o).deinits ≡ deinits_of (declarations_of m) (object_at mem o).class
  deinits_agree = ap (λ c. c.deinits) class_named_so

  fields_are : (class_of ready st.heap o).fields ≡ map storage_of own_fields
  fields_are = ap (λ c. c.fields) class_named_so

  has_typed : HasTypedFields m dying.class
  has_typed = typed.fields dying.class (alive_is_class m test mem numbers st.heap.objects o a.objects alive)

  fields_hold : FieldsHold test (map (field_shape (declarations_of m)) own_fields) dying.cells (fields_in st.heap o)
  fields_hold = subst (λ ss. FieldsHold test ss dying.cells (fields_in st.heap o)) has_typed.listed (at (found m test mem.objects numbers st.heap.objects a.objects o.0))
    where
      at : Found m test mem.objects numbers st.heap.objects a.objects o.0 → FieldsHold test (field_shapes (shapes_of m) dying.class) dying.cells (fields_in st.heap o)
      at (missing ex en eh) = absurd (false≢true (sym (alive_there mem o None ex alive)))
      at (there x n h ex en eh agree) = rw (object_there mem o (Some x) ex, eh) (fields_told_hold m test x n h (alive_there mem o (Some x) ex alive) agree)

  pub references_agree : strong_in_fields (class_of ready st.heap o).fields (fields_in st.heap o) ≡ field_references (object_at mem o)
  references_agree =
      ap (λ ws. strong_in_fields ws (fields_in st.heap o)) fields_are
      ∙ fields_keep test (map storage_of own_fields) (map (field_shape (declarations_of m)) own_fields) dying.cells (fields_in st.heap o)
      (typed_shapes (declarations_of m) own_fields has_typed.each) fields_hold

  abbrev pub forgotten_heap : HeapView
  forgotten_heap = fields_unnamed (class_of ready st.heap o).fields (fields_in st.heap o) st.heap

  forgotten_agrees : ObjectsAgree m test mem.objects (unnamed dying.cells numbers) forgotten_heap.objects
  forgotten_agrees =
      subst (λ ws. ObjectsAgree m test mem.objects (unnamed dying.cells numbers) (fields_unnamed ws (fields_in st.heap o) st.heap).objects) (sym fields_are)
      (fields_forget test m mem (map storage_of own_fields) (map (field_shape (declarations_of m)) own_fields) dying.cells (fields_in st.heap o)
      (typed_shapes (declarations_of m) own_fields has_typed.each) fields_hold numbers st.heap a.objects)

  abbrev pub finished_heap : HeapView
  finished_heap = finished (fields_unnamed (class_of ready st.heap o).fields (fields_in st.heap o) st.heap) o

  dies : (n : Numbers) → slice_get (unnamed dying.cells numbers) o.0 ≡ Some n → ObjectAgrees m test (ended dying) n (option_and_then (λ y. unless_freed (dead y)) (object_in forgotten_heap o))
  dies n en = at (found m test mem.objects (unnamed dying.cells numbers) forgotten_heap.objects forgotten_agrees o.0)
    where
      at : Found m test mem.objects (unnamed dying.cells numbers) forgotten_heap.objects forgotten_agrees o.0
          → ObjectAgrees m test (ended dying) n (option_and_then (λ y. unless_freed (dead y)) (object_in forgotten_heap o))
      at (missing ex none eh) = absurd (false≢true (sym (alive_there mem o None ex alive)))
      at (there x y h ex ey eh agree) =
          rw (object_there mem o (Some x) ex, eh) (one_finished m test x n h (alive_there mem o (Some x) ex alive) (forgotten_agrees.each o.0 x n h ex en eh))

  pub finished_only : OnlyObjects st.heap finished_heap
  finished_only =
      let only = fields_only (class_of ready st.heap o).fields (fields_in st.heap o) st.heap in
      record { declarations = only.declarations; retains = only.retains; releases = only.releases }

  pub memory_finished : MemoryAgrees m made (with_object mem o (ended (object_at mem o))) (unnamed (object_at mem o).cells numbers) (record st { heap = finished_heap })
  memory_finished =
      memory_put m mem o (ended dying) refl made numbers (unnamed dying.cells numbers) st finished_heap a finished_only.declarations
      (object_put m test mem.objects (unnamed dying.cells numbers) forgotten_heap.objects forgotten_agrees o.0 (ended dying)
      (option_and_then (λ y. unless_freed (dead y)) (object_in forgotten_heap o)) (alive_is_class m test mem numbers st.heap.objects o a.objects alive) dies)

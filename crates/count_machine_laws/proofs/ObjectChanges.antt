-- What a field of an object has changes: memory and the machine agree behind it.
use Rattle.std.proofs.Common.{◌≡◌, ◌≤◌, ◌+◌, ◌++◌, ℕ, zero, suc, List, [], ◌∷◌, Option, Some, false, length, refl, sym, ap, ◌∙◌, subst, arith}
use Rattle.std.specs.Prelude.{set, slice_get, unwrap_or}
use Rattle.std.proofs.lemmas.Bool.{false≢true}
use Rattle.std.proofs.lemmas.List.{length-set}
use Rattle.count_heap.specs.HeapModel.HeapCalls.{with_field_of, with_object_in}
use Rattle.count_heap.specs.HeapModel.HeapViews.{HeapObject, object_in}
use Rattle.count_machine_model.specs.holder_model.ModuleShapes.{field_shapes, shapes_of}
use Rattle.count_machine_model.specs.holder_model.Outcomes.{Numbers}
use Rattle.count_machine_model.specs.declared.machine_steps.address.Address.{Address}
use Rattle.count_machine_model.specs.MachineSteps.Views.{MachineView}
use Rattle.holder_model_values.specs.RunValues.Cells.{Cell, cell_count}
use Rattle.holder_model_values.specs.RunValues.Memory.{Memory, Object, is_dead, no_object, object_at, put_cells, with_object}
use Rattle.holder_model_values.specs.RunValues.Places.{Place, home_cells, with_cells, with_home_cells}
use Rattle.holder_model_values.specs.declared.run_values.leaf.Leaf.{Leaf}
use Rattle.sil_ast.specs.declared.module.Module.{Module}
use Rattle.sil_ast.specs.declared.place.ObjectId.{ObjectId}
use Rattle.holder_model_values.specs.ValueParts.inner.Paths.{cells_before}
use Rattle.holder_model_values.specs.ValueParts.inner.Suits.{ClassTest}
use Rattle.holder_model_values.proofs.ValueParts.Splices.{put_within}
use Rattle.count_machine_laws.proofs.Changes.{HasChanged}
use Rattle.count_machine_laws.proofs.Grows.{were_made}
use Rattle.count_machine_laws.proofs.GrowsBy.{ObjectsStay, grows_objects}
use Rattle.count_machine_laws.proofs.HeldFields.{FieldAround, field_length}
use Rattle.count_machine_laws.proofs.HeldObjects.{object_there}
use Rattle.count_machine_laws.proofs.Memories.{MemoryAgrees}
use Rattle.count_machine_laws.proofs.NumbersPut.{object_put}
use Rattle.count_machine_laws.proofs.Objects.{FieldHolds, FieldsHold, KeptAgrees, NamesField, ObjectAgrees, is_of_class}
use Rattle.count_machine_laws.proofs.PhasesWider.{memory_put}
use Rattle.count_machine_laws.proofs.Slots.{Made}

-- what is the same of an object and of the one put in its place is the same of all objects
part_put : {B : Type 0} (part : Object → B) (xs : List Object) (k j : ℕ) (x : Object) → part x ≡ part (unwrap_or (slice_get xs k) no_object)
    → part (unwrap_or (slice_get (set xs k x) j) no_object) ≡ part (unwrap_or (slice_get xs j) no_object)
part_put part [] k j x e = refl
part_put part (y ∷ xs) zero zero x e = e
part_put part (y ∷ xs) zero (suc j) x e = refl
part_put part (y ∷ xs) (suc k) zero x e = refl
part_put part (y ∷ xs) (suc k) (suc j) x e = part_put part xs k j x e

kept_of : {m : Module} {test : ClassTest} {x : Object} {n : Numbers} {h : HeapObject} → ObjectAgrees m test x n (Some h) → KeptAgrees m test x n h
kept_of (ObjectAgrees.kept x n h agree) = agree

module _ (m : Module) {made : List Made} {mem : Memory} {numbers : List Numbers} {st : MachineView} (agrees : MemoryAgrees m made mem numbers st)
    (o : ObjectId) (k : ℕ) (a : Address) (p : Place) (names : NamesField m mem o k a p) (alive : is_dead mem o ≡ false) (h : HeapObject) (there : object_in st.heap o ≡ Some h)
    (around : FieldAround (is_of_class m mem) (field_shapes (shapes_of m) (object_at mem o).class) k names.field (object_at mem o).cells h.fields)
    (new : List Cell) (fits : cells_before names.field names.path + length new ≤ cell_count names.field) (y : Option (List Leaf))
    (holds : FieldHolds (is_of_class m mem) names.field (put_cells around.own (cells_before names.field names.path) new) y) where
  abbrev test : ClassTest
  test = is_of_class m mem

  abbrev x' : Object
  x' = record (object_at mem o) { cells = put_cells (object_at mem o).cells p.first new }

  abbrev h' : HeapObject
  h' = with_field_of k y h

  put_around : put_cells (object_at mem o).cells p.first new ≡ around.before ++ (put_cells around.own (cells_before names.field names.path) new ++ around.behind)
  put_around =
      let off = cells_before names.field names.path in
      let size = field_length test names.field around.holds in
      let first : p.first ≡ length around.before + off = names.first ∙ omega (arith, around.count) in
      ap (λ cs. put_cells cs p.first new) around.now
      ∙ ap (λ n. put_cells (around.before ++ (around.own ++ around.behind)) n new) first
      ∙ put_within around.before around.own around.behind off new (omega (arith, fits, size))

  kept_with : (n : Numbers) → KeptAgrees m test (object_at mem o) n h → KeptAgrees m test x' n h'
  kept_with n agree = record {
    class = agree.class;
    phase = agree.phase;
    strong = agree.strong;
    unowned = agree.unowned;
    weak = agree.weak;
    left = agree.left;
    fields = λ _.
        subst (λ cs. FieldsHold test (field_shapes (shapes_of m) (object_at mem o).class) cs h'.fields) (sym put_around)
        (around.with_ (put_cells around.own (cells_before names.field names.path) new) y holds);
    ended = λ dead. absurd (false≢true (sym alive ∙ dead));
  }

  stay : ObjectsStay mem (with_object mem o x')
  stay = record { objects = omega (arith, length-set mem.objects o.0 x'); classes = λ q made. part_put (λ x. x.class) mem.objects o.0 q.0 x' refl }

  changed : HasChanged m made mem st (with_object mem o x') numbers (record st { heap = with_object_in st.heap o (Some h') })
  changed =
      let found = object_there mem numbers st.heap agrees.objects o names.made in
      let kept_there : slice_get st.heap.objects o.0 ≡ Some (Some h) = found.kept ∙ ap Some there in
      record {
        changes = record {
          made' = made;
          agrees = memory_put m mem o x' refl made numbers numbers st (with_object_in st.heap o (Some h')) agrees refl
              (object_put m test mem.objects numbers st.heap.objects agrees.objects o.0 x' (Some h') (agrees.objects.classes o.0 (object_at mem o) found.object)
              (λ n at. ObjectAgrees.kept x' n h' (kept_with n (kept_of (agrees.objects.each o.0 (object_at mem o) n (Some h) found.object at kept_there)))));
          grows = grows_objects (were_made agrees.slots) stay refl;
          phases = λ q made. part_put (λ x. x.phase) mem.objects o.0 q.0 x' refl;
          frames = record { tasks = refl; there = refl; leaves = refl; addresses = refl; waiting = refl; events = refl; turns = refl; retains = refl; releases = refl };
        };
        slots = refl;
      }

  pub field_changed : HasChanged m made mem st (with_cells mem p new) numbers (record st { heap = with_object_in st.heap o (Some h') })
  field_changed =
      let st' = record st { heap = with_object_in st.heap o (Some h') } in
      subst (λ home. HasChanged m made mem st (with_home_cells mem home (put_cells (home_cells mem home) p.first new)) numbers st') (sym names.home) changed

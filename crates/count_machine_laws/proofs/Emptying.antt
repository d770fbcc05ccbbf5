-- Emptying storage in the machine is emptying its place in the run.
use Rattle.std.proofs.Common.{◌≡◌, ℕ, zero, suc, List, [], ◌∷◌, Some, None, true, false, map, refl, sym, ap, ◌∙◌, subst, arith}
use Rattle.std.specs.Prelude.{option_map, replicate, slice_get}
use Rattle.std.proofs.lemmas.Bool.{false≢true}
use Rattle.std.proofs.lemmas.List.{length-replicate}
use Rattle.std.proofs.lemmas.Option.{none-some, same_Some}
use Rattle.count_heap.specs.HeapModel.HeapCalls.{with_field_of, with_object_in}
use Rattle.count_heap.specs.HeapModel.HeapViews.{HeapObject, object_in}
use Rattle.count_machine_model.specs.holder_model.ModuleShapes.{field_shape, field_shapes, shapes_of}
use Rattle.count_machine_model.specs.holder_model.Outcomes.{Numbers}
use Rattle.count_machine_model.specs.declared.machine_steps.address.Address.{Address}
use Rattle.count_machine_model.specs.MachineSteps.Held.{empty_at, empty_by, empty_slot, slot_in, without_field}
use Rattle.count_machine_model.specs.MachineSteps.Views.{MachineView}
use Rattle.numbered_form.specs.Lists.{Each}
use Rattle.numbered_form.specs.Names.{Name}
use Rattle.count_machine_model.specs.holder_model.RunTyping.FieldForms.{IsTypedField}
use Rattle.count_machine_model.specs.holder_model.RunTyping.RunTyped.{RunTyped}
use Rattle.count_machine_model.specs.holder_model.RunTyping.StorageForms.{FieldShapeIs}
use Rattle.holder_model_values.specs.RunValues.Cells as cells
use Rattle.holder_model_values.specs.RunValues.Cells.{Cell, cell_count}
use Rattle.holder_model_values.specs.RunValues.Memory.{Memory, is_dead, is_dead_phase, object_at}
use Rattle.holder_model_values.specs.RunValues.Places.{Place, emptied}
use Rattle.holder_model_values.specs.RunValues.Shapes.{Shape, Stored}
use Rattle.sil_ast.specs.declared.decl.Field.{Field}
use Rattle.sil_ast.specs.declared.decl.Storage.{Storage}
use Rattle.sil_ast.specs.declared.module.Module.{Module}
use Rattle.sil_ast.specs.declared.place.ObjectId.{ObjectId}
use Rattle.sil_types_declarations.specs.TypeDefinitions.Declarations.{Declarations, declarations_of, is_class}
use Rattle.sil_types_declarations.specs.TypeDefinitions.Lookups.{fields_of}
use Rattle.holder_model_values.specs.ValueParts.inner.Paths.{IsPart}
use Rattle.holder_model_values.specs.ValueParts.inner.Suits.{ClassTest}
use Rattle.holder_model_values.proofs.ValueParts.Paths.{part_cells_fit}
use Rattle.holder_model_values.proofs.ValueParts.Storages.{part_holds_no_storage}
use Rattle.count_machine_laws.proofs.Changes.{HasChanged}
use Rattle.count_machine_laws.proofs.Held.{IsReachable, home_alive, slot_open}
use Rattle.count_machine_laws.proofs.HeldFields.{field_around, field_length}
use Rattle.count_machine_laws.proofs.HeldObjects.{object_cases, object_there}
use Rattle.count_machine_laws.proofs.HeldSlots.{all_suit, found_slot}
use Rattle.count_machine_laws.proofs.Memories.{MemoryAgrees, NamesPlace}
use Rattle.count_machine_laws.proofs.ObjectChanges.{field_changed}
use Rattle.count_machine_laws.proofs.Objects.{FieldHolds, KeptAgrees, NamesField, is_of_class}
use Rattle.count_machine_laws.proofs.Slots.{Empty, Made, NamesSlot, made_cells}
use Rattle.count_machine_laws.proofs.Stack.{content_length}
use Rattle.count_machine_laws.proofs.StackChanges.{slot_changed}
use Rattle.count_machine_laws.proofs.WritingParts.{whole_same}

-- no storage lies within a slot or a field: it is the whole

storage_has_no_parts : (v w : Storage) (s t : Shape) (path : List ℕ) → IsPart (Stored v t) path (Stored w s) → path ≡ []
storage_has_no_parts v w s t _ IsPart.here = refl
storage_has_no_parts v w s t _ (IsPart.inside e part) = absurd (none-some _ e)

pub storage_is_whole : (v w : Storage) (s t : Shape) {path : List ℕ} → FieldShapeIs v t → IsPart t path (Stored w s) → path ≡ []
storage_is_whole v w s t (FieldShapeIs.plain _ none) part = absurd (false≢true (part_holds_no_storage part none))
storage_is_whole v w s _ {path = path} (FieldShapeIs.named _ t named) part = storage_has_no_parts v w s t path part

pub field_is_typed : (m : Module) → RunTyped m → (class : Name) → is_class (declarations_of m) class ≡ true → (k : ℕ) (s : Shape) → slice_get (field_shapes (shapes_of m) class) k ≡ Some s
    → (w : Storage) × FieldShapeIs w s
field_is_typed m typed class is k s e =
    let fields = typed.fields class is in
    at (fields_of d class) k fields.each (sym (ap (λ ss. slice_get ss k) fields.listed) ∙ e)
  where
    d : Declarations
    d = declarations_of m

    at : (fs : List Field) (k : ℕ) → Each (IsTypedField d) fs → slice_get (map (field_shape d) fs) k ≡ Some s → (w : Storage) × FieldShapeIs w s
    at [] k h e = absurd (none-some s e)
    at (f ∷ fs) zero h e = (f.storage, subst (FieldShapeIs f.storage) (same_Some (field_shape d f) s e) h.0)
    at (f ∷ fs) (suc k) h e = at fs k h.1 e

module _ (m : Module) (typed : RunTyped m) {made : List Made} {mem : Memory} {numbers : List Numbers} {st : MachineView} (agrees : MemoryAgrees m made mem numbers st)
    (a : Address) (p : Place) (w : Storage) (s : Shape) (stored : p.shape ≡ Stored w s) (reached : IsReachable mem p) where
  abbrev test : ClassTest
  test = is_of_class m mem

  abbrev new : List Cell
  new = replicate (cell_count p.shape) cells.Empty

  in_slot : (index serial : ℕ) → NamesSlot made st.slots index serial a p → HasChanged m made mem st (emptied mem p) numbers (empty_slot st index (slot_in st index serial))
  in_slot index serial names =
      let opened = slot_open m agrees index serial a p names reached.there in
      let now = names.now opened in
      let typed_as = agrees.slots.shapes serial names.of names.there in
      let whole = storage_is_whole typed_as.0 w s names.of.shape typed_as.1 (subst (IsPart names.of.shape names.path) stored names.part) in
      let count = content_length test names.of.shape names.of.content (all_suit agrees.slots serial names.of names.there) in
      let part = part_cells_fit names.part in
      subst (λ o. HasChanged m made mem st (emptied mem p) numbers (empty_slot st index o)) (sym (found_slot st.slots index serial now.0 now.1 now.2))
      (slot_changed m agrees index serial a p names now.0 now.1 now.2 opened Empty refl (λ v e. absurd (cc)) new (omega (arith, part, length-replicate (cell_count p.shape) cells.Empty))
      (whole_same names.part whole cells.Empty (made_cells names.of) count) st.slot_leaves (record { count = refl; apart = λ i n away. refl }) (λ v e. absurd (cc)))

  module _ (o : ObjectId) (k : ℕ) (names : NamesField m mem o k a p) where
    alive : is_dead mem o ≡ false
    alive = home_alive mem p o names.home reached

    of_kept : (n : Numbers) (h : HeapObject) → KeptAgrees m test (object_at mem o) n h → object_in st.heap o ≡ Some h
        → HasChanged m made mem st (emptied mem p) numbers (record st { heap = without_field st.heap o k })
    of_kept n h agree there =
        let found = object_there mem numbers st.heap agrees.objects o names.made in
        let is = agrees.objects.classes o.0 (object_at mem o) found.object in
        let around = field_around test (field_shapes (shapes_of m) (object_at mem o).class) k names.field (object_at mem o).cells h.fields (agree.fields alive) names.there in
        let typed_as = field_is_typed m typed (object_at mem o).class is k names.field names.there in
        let whole = storage_is_whole typed_as.0 w s names.field typed_as.1 (subst (IsPart names.field names.path) stored names.part) in
        let part = part_cells_fit names.part in
        subst (λ x. HasChanged m made mem st (emptied mem p) numbers (record st { heap = with_object_in st.heap o (option_map (with_field_of k None) x) })) (sym there)
        (field_changed m agrees o k a p names alive h there around new (omega (arith, part, length-replicate (cell_count p.shape) cells.Empty)) None
        (subst (λ cs. FieldHolds test names.field cs None) (sym (whole_same names.part whole cells.Empty around.own (field_length test names.field around.holds))) FieldHolds.unwritten))

    in_field : HasChanged m made mem st (emptied mem p) numbers (record st { heap = without_field st.heap o k })
    in_field =
        let found = object_there mem numbers st.heap agrees.objects o names.made in
        object_cases (λ h. object_in st.heap o ≡ h → HasChanged m made mem st (emptied mem p) numbers (record st { heap = without_field st.heap o k })) found.agrees
        (λ dead none there. absurd (false≢true (sym alive ∙ ap is_dead_phase dead))) (of_kept _) refl

  empties : NamesPlace m made st.slots mem a p → HasChanged m made mem st (emptied mem p) numbers (empty_at st a)
  empties (NamesPlace.in_slot index serial at names) = subst (λ h. HasChanged m made mem st (emptied mem p) numbers (empty_by st h)) (sym at) (in_slot index serial names)
  empties (NamesPlace.in_field o k at names) = subst (λ h. HasChanged m made mem st (emptied mem p) numbers (empty_by st h)) (sym at) (in_field o k names)

module _ (m : Module) (typed : RunTyped m) {made : List Made} {mem : Memory} {numbers : List Numbers} {st : MachineView} (agrees : MemoryAgrees m made mem numbers st) where
  pub empty_agrees : (a : Address) (p : Place) (w : Storage) (s : Shape) → p.shape ≡ Stored w s → NamesPlace m made st.slots mem a p → IsReachable mem p
      → HasChanged m made mem st (emptied mem p) numbers (empty_at st a)
  empty_agrees a p w s stored names reached = empties m typed agrees a p w s stored reached names

-- Writing a place in a field.
use Rattle.std.proofs.Common.{◌≡◌, ◌≤◌, ◌+◌, ℕ, zero, suc, List, [], ◌∷◌, Bool, true, false, Option, Some, None, cond, length, take, drop, map, refl, sym, ap, ◌∙◌, subst, append_assoc, arith}
use Rattle.std.specs.Prelude.{is_some, option_and_then, option_map, slice_get, unwrap_or}
use Rattle.std.proofs.lemmas.Bool.{eq-eqb, false≢true, le-leb}
use Rattle.std.proofs.lemmas.Option.{none-some, same_Some}
use Rattle.count_heap.specs.HeapModel.HeapCalls.{put_leaves, with_field, with_field_of, with_object_in, with_part, with_part_of}
use Rattle.count_heap.specs.HeapModel.HeapViews.{HeapObject, named_fields, field_in, field_leaves, fields_told, leaves_at, leaves_by_field, object_in}
use Rattle.count_machine_model.specs.holder_model.ModuleShapes.{field_shape, field_shapes, shapes_of}
use Rattle.count_machine_model.specs.holder_model.Outcomes.{Numbers}
use Rattle.count_machine_model.specs.declared.machine_steps.address.Address.{Address}
use Rattle.count_machine_model.specs.MachineSteps.Held.{has_room, has_size, write_field}
use Rattle.count_machine_model.specs.MachineSteps.Views.{MachineView}
use Rattle.count_machine_model.specs.holder_model.LoweredRun.Stored.{numbers_of}
use Rattle.numbered_form.specs.Lists.{Each}
use Rattle.numbered_form.specs.Names.{Name}
use Rattle.count_machine_model.specs.holder_model.RunTyping.FieldForms.{IsMeasuredField}
use Rattle.count_machine_model.specs.ReadyCode.Layout.{size_of}
use Rattle.count_machine_model.specs.holder_model.RunTyping.RunTyped.{RunTyped}
use Rattle.holder_model_values.specs.RunValues.Cells.{Cell, Empty, cell_count, in_cells}
use Rattle.holder_model_values.specs.RunValues.Leaves.{leaves_of}
use Rattle.holder_model_values.specs.RunValues.Memory.{Memory, is_dead, is_dead_phase, object_at}
use Rattle.holder_model_values.specs.RunValues.Places.{Place, cells_at, filled, value_at}
use Rattle.holder_model_values.specs.RunValues.Shapes.{Shape}
use Rattle.holder_model_values.specs.RunValues.Values.{Value}
use Rattle.holder_model_values.specs.declared.run_values.leaf.Leaf.{Leaf}
use Rattle.sil_ast.specs.declared.decl.Field.{Field}
use Rattle.sil_ast.specs.declared.module.Module.{Module}
use Rattle.sil_ast.specs.declared.place.ObjectId.{ObjectId}
use Rattle.sil_types_declarations.specs.TypeDefinitions.Declarations.{Declarations, declarations_of, is_class}
use Rattle.sil_types_declarations.specs.TypeDefinitions.Lookups.{class_at, fields_of}
use Rattle.holder_model_values.specs.ValueParts.inner.Suits.{ClassTest, suits}
use Rattle.count_machine_laws.proofs.Changes.{HasChanged}
use Rattle.holder_model_values.specs.ValueParts.inner.LeafLists.{spliced}
use Rattle.holder_model_values.specs.ValueParts.inner.Paths.{cells_before, leaf_count, leaves_before}
use Rattle.holder_model_values.proofs.ValueParts.CellParts.{same_cells_read, suits_cells_length}
use Rattle.holder_model_values.proofs.ValueParts.LeafParts.{suits_leaves_length}
use Rattle.holder_model_values.proofs.ValueParts.Paths.{part_cells_fit, part_leaves_fit}
use Rattle.count_machine_laws.proofs.Held.{IsReachable, field_cells, home_alive}
use Rattle.count_machine_laws.proofs.HeldFields.{FieldAround, field_around, field_length}
use Rattle.count_machine_laws.proofs.HeldObjects.{object_cases, object_there}
use Rattle.count_machine_laws.proofs.HeldParts.{empty_read}
use Rattle.count_machine_laws.proofs.ObjectChanges.{field_changed}
use Rattle.count_machine_laws.proofs.WritingParts.{PartWritten, part_written, whole_held, whole_shape}
use Rattle.count_machine_laws.proofs.Memories.{MemoryAgrees}
use Rattle.count_machine_laws.proofs.Objects.{FieldHolds, KeptAgrees, NamesField, is_of_class}
use Rattle.count_machine_laws.proofs.Slots.{Made}

-- the leaves of a field, as the heap counts them
pub field_is_measured : (m : Module) → RunTyped m → (class : Name) → is_class (declarations_of m) class ≡ true → (c k : ℕ) (s : Shape) → class_at (declarations_of m) c ≡ Some class
    → slice_get (field_shapes (shapes_of m) class) k ≡ Some s → slice_get (leaves_by_field (declarations_of m) c) k ≡ Some (size_of s)
field_is_measured m typed class is c k s named e =
    let fields = typed.fields class is in
    let all = fields_of d class in
    ap (λ n. slice_get (map (field_leaves d) (named_fields d n)) k) named ∙ at all k fields.measured (sym (ap (λ ss. slice_get ss k) fields.listed) ∙ e)
  where
    d : Declarations
    d = declarations_of m

    at : (fs : List Field) (k : ℕ) → Each (IsMeasuredField d) fs → slice_get (map (field_shape d) fs) k ≡ Some s → slice_get (map (field_leaves d) fs) k ≡ Some (size_of s)
    at [] k h e = absurd (none-some s e)
    at (f ∷ fs) zero h e = ap Some (sym h.0 ∙ ap size_of (same_Some (field_shape d f) s e))
    at (f ∷ fs) (suc k) h e = at fs k h.1 e

module _ (m : Module) (typed : RunTyped m) {made : List Made} {mem : Memory} {numbers : List Numbers} {st : MachineView} (agrees : MemoryAgrees m made mem numbers st)
    (a : Address) (p : Place) (x : Value) (reached : IsReachable mem p) (full : p.is_part ≡ true → is_some (value_at mem p) ≡ true) (good : suits (is_of_class m mem) p.shape x ≡ true)
    (o : ObjectId) (k : ℕ) (names : NamesField m mem o k a p) where
  abbrev test : ClassTest
  test = is_of_class m mem

  abbrev new : List Cell
  new = (in_cells p.shape).cells x

  abbrev ls : List Leaf
  ls = leaves_of p.shape x

  abbrev ss : List Shape
  ss = field_shapes (shapes_of m) (object_at mem o).class

  alive : is_dead mem o ≡ false
  alive = home_alive mem p o names.home reached

  leaf_size : length ls ≡ leaf_count p.shape
  leaf_size = suits_leaves_length test p.shape x good

  cells_fit : cells_before names.field names.path + length new ≤ cell_count names.field
  cells_fit = let part = part_cells_fit names.part in omega (arith, part, suits_cells_length test p.shape x good)

  module _ (h : HeapObject) (there : object_in st.heap o ≡ Some h) (n : Numbers) (agree : KeptAgrees m test (object_at mem o) n h) where
    around : FieldAround test ss k names.field (object_at mem o).cells h.fields
    around = field_around test ss k names.field (object_at mem o).cells h.fields (agree.fields alive) names.there

    -- a part of the value that the field has
    part_of_field : (own : List Cell) (y : Option (List Leaf)) → FieldHolds test names.field own y → is_some (value_at mem p) ≡ true
        → cells_at mem p ≡ take (cell_count p.shape) (drop (cells_before names.field names.path) own)
        → (old : List Leaf) × (y ≡ Some old) × (length old ≡ leaf_count names.field) × PartWritten test names.field names.path p.shape x own old
    part_of_field _ _ FieldHolds.unwritten some e =
        absurd (false≢true (sym (ap is_some (empty_read mem p (e ∙ same_cells_read names.part Empty))) ∙ some))
    part_of_field _ _ (FieldHolds.written v suit) some e = (leaves_of names.field v, refl, suits_leaves_length test names.field v suit, part_written test names.part v x suit good)

    -- the field of the heap's object
    told_field : {B : Type 0} (f : Option (List Leaf) → B) → f (unwrap_or (slice_get h.fields k) None) ≡ f around.x
    told_field f = ap (λ z. f (unwrap_or z None)) around.has

    put_is_spliced : (old : List Leaf) → put_leaves a.from ls old ≡ spliced old (leaves_before names.field names.path) ls
    put_is_spliced old = append_assoc (take a.from old) ls (drop (a.from + length ls) old) ∙ ap (λ n. spliced old n ls) names.from

    with_a_part : is_some (value_at mem p) ≡ true → HasChanged m made mem st (filled mem p x) numbers (record st { heap = write_field true o k a.from ls st.heap })
    with_a_part some =
        let w = part_of_field around.own around.x around.holds some (field_cells m agrees o k a p names h.fields around) in
        let old = w.0 in
        let part = part_leaves_fit names.part in
        let room : has_room a.from (length ls) (field_in st.heap o k) ≡ true =
        ap (λ z. has_room a.from (length ls) (unwrap_or (slice_get (fields_told z) k) None)) there ∙ told_field (has_room a.from (length ls)) ∙ ap (has_room a.from (length ls)) w.1
        ∙ le-leb (a.from + length ls) (length old) (omega (arith, part, leaf_size, names.from, w.2)) in
        let now : option_map (with_part_of k a.from ls) (object_in st.heap o) ≡ Some (with_field_of k (Some (leaves_of names.field w.3.v)) h) =
        ap (option_map (with_part_of k a.from ls)) there ∙ told_field (λ z. Some (with_field_of k (option_map (put_leaves a.from ls) z) h))
        ∙ ap (λ z. Some (with_field_of k (option_map (put_leaves a.from ls) z) h)) w.1
        ∙ ap (λ z. Some (with_field_of k (Some z) h)) (put_is_spliced old ∙ w.3.by_leaves) in
        let heap : write_field true o k a.from ls st.heap ≡ with_object_in st.heap o (Some (with_field_of k (Some (leaves_of names.field w.3.v)) h)) =
        ap (λ b. cond b (with_part st.heap o k a.from ls) st.heap) room ∙ ap (with_object_in st.heap o) now in
        subst (λ z. HasChanged m made mem st (filled mem p x) numbers (record st { heap = z })) (sym heap)
        (field_changed m agrees o k a p names alive h there around new cells_fit (Some (leaves_of names.field w.3.v))
        (subst (λ cs. FieldHolds test names.field cs (Some (leaves_of names.field w.3.v))) (sym w.3.by_cells) (FieldHolds.written w.3.v w.3.suit)))

    with_whole : names.path ≡ [] → HasChanged m made mem st (filled mem p x) numbers (record st { heap = write_field false o k a.from ls st.heap })
    with_whole whole =
        let is = agrees.objects.classes o.0 (object_at mem o) (object_there mem numbers st.heap agrees.objects o names.made).object in
        let same : size_of names.field ≡ length ls = ap size_of (whole_shape names.part whole) ∙ sym leaf_size in
        let size : has_size (length ls) (leaves_at st.heap o k) ≡ true =
        ap (λ z. has_size (length ls) (option_and_then (λ y. slice_get (leaves_by_field st.heap.declarations y.class) k) z)) there
        ∙ ap (λ d. has_size (length ls) (slice_get (leaves_by_field d h.class) k)) agrees.declared
        ∙ ap (has_size (length ls)) (field_is_measured m typed (object_at mem o).class is h.class k names.field agree.class names.there)
        ∙ eq-eqb (size_of names.field) (length ls) same in
        let heap : write_field false o k a.from ls st.heap ≡ with_object_in st.heap o (Some (with_field_of k (Some ls) h)) =
        ap (λ b. cond b (with_field st.heap o k ls) st.heap) size ∙ ap (λ z. with_object_in st.heap o (option_map (with_field_of k (Some ls)) z)) there in
        subst (λ z. HasChanged m made mem st (filled mem p x) numbers (record st { heap = z })) (sym heap)
        (field_changed m agrees o k a p names alive h there around new cells_fit (Some ls)
        (whole_held test names.part whole x good around.own (field_length test names.field around.holds)))

    by_part : (b : Bool) → p.is_part ≡ b → HasChanged m made mem st (filled mem p x) numbers (record st { heap = write_field b o k a.from ls st.heap })
    by_part true e = with_a_part (full e)
    by_part false e = with_whole (names.whole e)

  pub write_field_agrees : HasChanged m made mem st (filled mem p x) numbers (record st { heap = write_field a.is_part o k a.from ls st.heap })
  write_field_agrees =
      let found = object_there mem numbers st.heap agrees.objects o names.made in
      subst (λ b. HasChanged m made mem st (filled mem p x) numbers (record st { heap = write_field b o k a.from ls st.heap })) (sym names.parts)
      (object_cases (λ h. object_in st.heap o ≡ h → HasChanged m made mem st (filled mem p x) numbers (record st { heap = write_field p.is_part o k a.from ls st.heap })) found.agrees
      (λ dead none there. absurd (false≢true (sym alive ∙ ap is_dead_phase dead)))
      (λ h agree there. by_part h there (numbers_of numbers o) agree p.is_part refl) refl)

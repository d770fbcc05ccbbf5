-- A new object: all its fields are to be written, and the frame holds it.
use Rattle.std.proofs.Common.{◌≡◌, ◌<◌, ⊎_elim, ℕ, List, [], ◌∷◌, length, true, Some, refl, sym, ap, ◌∙◌, subst, arith}
use Rattle.std.specs.Prelude.{map, slice_get, sum}
use Rattle.std.proofs.lemmas.Bool.{false≢true}
use Rattle.std.proofs.lemmas.List.{length-append, length-replicate}
use Rattle.std.proofs.lemmas.Option.{same_Some}
use Rattle.holder_model.specs.Data.{AddressOf, Datum, ValueOf, references_in}
use Rattle.holder_model.specs.Frames.{Entry, datum_in, entry_at, is_held}
use Rattle.holder_model.specs.ModuleShapes.{ModuleShapes, field_shapes}
use Rattle.memory_rules_parts.specs.memory_rules_accesses.Sources.{source_at}
use Rattle.memory_rules_parts.specs.memory_rules_accesses.declared.source.Source.{Source}
use Rattle.memory_rules_parts.specs.memory_rules_accesses.declared.source.Source.TheVariants as source
use Rattle.holder_model_laws.proofs.HolderLaws.Cells.Lists.{get_replicate}
use Rattle.holder_model_laws.proofs.HolderLaws.Cells.PlaceCells.{cell_within}
use Rattle.numbered_form.specs.Lists.{Each}
use Rattle.numbered_form.specs.Names.{Name}
use Rattle.holder_model.specs.holder_model_values.RunValues.Cells.{Empty, cell_count}
use Rattle.holder_model.specs.holder_model_values.declared.run_values.phase.Phase.TheVariants.{Live}
use Rattle.holder_model.specs.holder_model_values.RunValues.Memory.{Memory, Object, new_object, object_at}
use Rattle.holder_model.specs.holder_model_values.RunValues.Places.{empty_fields}
use Rattle.holder_model.specs.holder_model_values.RunValues.Shapes.{Shape}
use Rattle.holder_model.specs.holder_model_values.RunValues.Values as value
use Rattle.sil_ast.specs.declared.place.ObjectId.{ObjectId}
use Rattle.sil_ast.specs.declared.place.ValueId.{ValueId}
use Rattle.holder_model_laws.specs.HolderLaws.inner.Whole.Whole.{IsWhole, IsWholeMemory, StayWhole}
use Rattle.holder_model_laws.proofs.HolderLaws.Whole.Keeping.{made_whole, object_left, object_new}
use Rattle.holder_model_laws.proofs.HolderLaws.Whole.Lists.{each_of, get_within}
use Rattle.holder_model_laws.specs.HolderLaws.inner.Built.Building.{IsAbout, IsUnfinished, Progress}
use Rattle.holder_model_laws.specs.HolderLaws.inner.Built.FrameObjects.{Holds, HoldsObjects, IsBuiltAs, MayName, Names, place_of_field}
use Rattle.holder_model_laws.specs.HolderLaws.inner.Built.Laws.{AreObjectsBegun, HoldsNew, IsMadeNow, with_object_of}
use Rattle.holder_model_laws.proofs.HolderLaws.Built.About.{new_about}
use Rattle.holder_model_laws.proofs.HolderLaws.Built.Fields.{field_inside}
use Rattle.holder_model_laws.proofs.HolderLaws.Built.FieldWrites.{built_so, held_same, which_value}
use Rattle.holder_model_laws.proofs.HolderLaws.Built.Progressing.{built_or_whole}
use Rattle.holder_model_laws.proofs.HolderLaws.Built.Results.{holds_names}
use Rattle.holder_model_laws.proofs.HolderLaws.Built.Staying.{address_may, in_field_of, made_may}

module _ (shapes : ModuleShapes) (sources : List Source) (said now : Progress) (memory : Memory) (entries behind : List Entry)
    (h : HoldsObjects shapes sources said memory entries) (wm : IsWholeMemory memory) (object : ValueId) (class : Name)
    (count : source_at sources object ≡ source.Object (length (field_shapes shapes class))) (is_made : IsMadeNow sources said now object)
    (new : HoldsNew memory entries behind object) where
  abbrev x : Object
  x = record { class = class; phase = Live; cells = empty_fields (field_shapes shapes class) }

  abbrev later : Memory
  later = with_object_of shapes memory class

  more : length memory.objects < length later.objects
  more = omega (arith, length-append memory.objects (x ∷ []))

  stay : StayWhole memory later
  stay = ((made_whole memory wm).0 class (field_shapes shapes class)).1

  pub old_same : (o : ObjectId) → o.0 < length memory.objects → object_at later o ≡ object_at memory o
  old_same o lt = object_left memory x o lt

  new_is : object_at later (new_object memory) ≡ x
  new_is = object_new memory x (new_object memory) refl

  -- what was unfinished isn't the new one, whose entry held nothing
  not_new : (w : ValueId) → IsUnfinished sources said w → w ≡ object → ⊥
  not_new w un same =
      let o = h.held w un in
      let held : is_held (entry_at entries object) ≡ true = ap is_held (ap (entry_at entries) (sym same) ∙ o.1) in
      false≢true (sym new.free ∙ held)

  before : (w : ValueId) → (w ≡ object → ⊥) → IsUnfinished sources now w → IsUnfinished sources said w
  before w differ un = record { field = un.field; of = un.of; unwritten = sym (is_made.others w differ un.field) ∙ un.unwritten }

  after : (w : ValueId) → IsUnfinished sources said w → IsUnfinished sources now w
  after w un = record { field = un.field; of = un.of; unwritten = is_made.others w (not_new w un) un.field ∙ un.unwritten }

  -- the new object is being built
  x_built : (o : ObjectId) → IsBuiltAs shapes sources now object o x
  x_built o = record {
    count = count;
    size = length-replicate (sum (map cell_count (field_shapes shapes class))) Empty;
    fields = λ k s e. record {
      unwritten = true;
      is = is_made.unwritten k (record { fields = length (field_shapes shapes class); is = count; within = within k s e });
      cells = λ n has.
          let to = (cell_within (place_of_field shapes o x k s) n has).1 in
          let inside = field_inside (field_shapes shapes class) k s e in
          get_replicate (sum (map cell_count (field_shapes shapes class))) Empty n (omega (arith, to, inside));
    };
  }
    where
      within : (k : ℕ) (s : Shape) → slice_get (field_shapes shapes class) k ≡ Some s → k < length (field_shapes shapes class)
      within k s e = get_within (field_shapes shapes class) k s e

  new_built : IsBuiltAs shapes sources now object (new_object memory) (object_at later (new_object memory))
  new_built = subst (IsBuiltAs shapes sources now object (new_object memory)) (sym new_is) (x_built (new_object memory))

  may : (v : ValueId) (o : ObjectId) → MayName shapes sources said memory entries v o → MayName shapes sources now later behind v o
  may v o (MayName.whole is) = MayName.whole (stay o is)
  may v o (MayName.unfinished w about un holds) = MayName.unfinished w about (after w un) (new.others w (not_new w un) ∙ holds)

  new_may : MayName shapes sources now later behind object (new_object memory)
  new_may = ⊎_elim
      (λ (un : IsUnfinished sources now object). MayName.unfinished object (IsAbout.itself refl) un new.holds)
      (λ (is : IsWhole later (new_object memory)). MayName.whole is)
      (built_or_whole shapes sources now object later (new_object memory) more new_built)

  names_before : (v : ValueId) → (v ≡ object → ⊥) → (y : Datum) → Names behind v y → Names entries v y
  names_before v differ y names = ap datum_in (sym (new.others v differ)) ∙ names

  holds_before : (w : ValueId) (o : ObjectId) → (w ≡ object → ⊥) → Holds behind w o → Holds entries w o
  holds_before w o differ holds = sym (new.others w differ) ∙ holds

  -- an unfinished object is the new one, or was before
  data Which (w : ValueId) (o : ObjectId) : Type 0 where
    new_one : w ≡ object → o ≡ new_object memory → Which w o
    old_one : (w ≡ object → ⊥) → IsUnfinished sources said w → Holds entries w o → o.0 < length memory.objects → Which w o

  which : (w : ValueId) (o : ObjectId) → IsUnfinished sources now w → Holds behind w o → Which w o
  which w o un holds = ⊎_elim
      (λ (same : w ≡ object). Which.new_one same (held_same behind object o (new_object memory) (subst (λ v. Holds behind v o) same holds) new.holds))
      (λ (differ : w ≡ object → ⊥).
      let was = before w differ un in
      let held = holds_before w o differ holds in
      Which.old_one differ was held (h.built w o was held).0)
      (which_value w object)

  built_behind : (w : ValueId) (o : ObjectId) → Which w o → (o.0 < length later.objects) × IsBuiltAs shapes sources now w o (object_at later o)
  built_behind w o (Which.new_one same is) =
      subst (λ v. (o.0 < length later.objects) × IsBuiltAs shapes sources now v o (object_at later o)) (sym same)
      (subst (λ q. (q.0 < length later.objects) × IsBuiltAs shapes sources now object q (object_at later q)) (sym is) (more, new_built))
  built_behind w o (Which.old_one differ un holds made) =
      let b = h.built w o un holds in (
        omega (arith, made, more),
        subst (IsBuiltAs shapes sources now w o) (sym (old_same o made)) (built_so shapes sources said now w o (object_at memory o) (is_made.others w differ) b.1),
      )

  apart_behind : (v w : ValueId) (o : ObjectId) → Which v o → Which w o → v ≡ w
  apart_behind v w o (Which.new_one sv ov) (Which.new_one sw ow) = sv ∙ sym sw
  apart_behind v w o (Which.new_one sv ov) (Which.old_one differ un holds made) =
      let at : o.0 ≡ length memory.objects = ap (λ (q : ObjectId). q.0) ov in absurd (omega (arith, at, made))
  apart_behind v w o (Which.old_one differ un holds made) (Which.new_one sw ow) =
      let at : o.0 ≡ length memory.objects = ap (λ (q : ObjectId). q.0) ow in absurd (omega (arith, at, made))
  apart_behind v w o (Which.old_one dv uv hv mv) (Which.old_one dw uw hw mw) = h.apart v w o uv uw hv hw

  pub begun : HoldsObjects shapes sources now later behind
  begun = record {
    named = λ v y names. ⊎_elim
        (λ (same : v ≡ object).
        let is : ValueOf (value.Object (new_object memory)) ≡ y =
        same_Some (ValueOf (value.Object (new_object memory))) y (sym (ap datum_in new.holds) ∙ subst (λ w. Names behind w y) same names) in
        subst (λ w. Each (MayName shapes sources now later behind w) (references_in y)) (sym same)
        (subst (λ z. Each (MayName shapes sources now later behind object) (references_in z)) is (new_may, tt)))
        (λ (differ : v ≡ object → ⊥).
        each_of (MayName shapes sources said memory entries v) (MayName shapes sources now later behind v) (may v) (references_in y)
        (h.named v y (names_before v differ y names)))
        (which_value v object);
    held = λ w un. ⊎_elim
        (λ (same : w ≡ object). (new_object memory, subst (λ v. Holds behind v (new_object memory)) (sym same) new.holds))
        (λ (differ : w ≡ object → ⊥). let o = h.held w (before w differ un) in (o.0, new.others w differ ∙ o.1))
        (which_value w object);
    built = λ w o un holds. built_behind w o (which w o un holds);
    apart = λ v w o uv uw hv hw. apart_behind v w o (which v o uv hv) (which w o uw hw);
    same = λ w v about since y names o holds. ⊎_elim
        (λ (itself : v ≡ object).
        let is : object ≡ w = new_about sources w (length (field_shapes shapes class)) object count (subst (IsAbout sources w) itself about) in
        holds_names behind object o y (subst (λ u. Holds behind u o) (sym is) holds) (subst (λ u. Names behind u y) itself names))
        (λ (differ : v ≡ object → ⊥).
        let was = is_made.as_made w v differ since in
        h.same w v about was.1 y (names_before v differ y names) o (holds_before w o was.0 holds))
        (which_value v object);
    placed = λ v l of k address p names. ⊎_elim
        (λ (itself : v ≡ object).
        let is : ValueOf (value.Object (new_object memory)) ≡ AddressOf p =
        same_Some (ValueOf (value.Object (new_object memory))) (AddressOf p) (sym (ap datum_in new.holds) ∙ subst (λ w. Names behind w (AddressOf p)) itself names) in
        absurd (cc))
        (λ (differ : v ≡ object → ⊥).
        let was = names_before v differ (AddressOf p) names in
        let at = h.placed v l of k address p was in
        let made = made_may shapes sources said memory entries h v at.0 (address_may shapes sources said memory entries h v p at.0 was at.1.home) in
        (at.0, in_field_of shapes at.0 (object_at memory at.0) (object_at later at.0) l k p (ap (λ y. y.class) (old_same at.0 made)) at.1))
        (which_value v object);
  }

pub objects_begun : AreObjectsBegun
objects_begun shapes sources said now memory entries behind h wm object class count is_made new = (
  begun shapes sources said now memory entries behind h wm object class count is_made new,
  old_same shapes sources said now memory entries behind h wm object class count is_made new,
)

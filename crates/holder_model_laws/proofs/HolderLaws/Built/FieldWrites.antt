-- A field of an unfinished object is written.
use Rattle.std.proofs.Common.{◌≡◌, ◌⊎◌, ⊎_elim, inl, inr, ℕ, List, length, Bool, true, false, not, Some, refl, sym, ap, ◌∙◌, subst, arith}
use Rattle.std.specs.Prelude.{map, slice_get, sum}
use Rattle.std.proofs.lemmas.Bool.{cases_eq, false≢true}
use Rattle.std.proofs.lemmas.Option.{same_Some}
use Rattle.holder_model.specs.Data.{ValueOf}
use Rattle.holder_model.specs.Frames.{Entry, Held}
use Rattle.holder_model.specs.ModuleShapes.{ModuleShapes, field_shapes}
use Rattle.memory_rules_parts.specs.memory_rules_accesses.Rows.{is_part}
use Rattle.memory_rules_parts.specs.memory_rules_accesses.Sources.{source_at}
use Rattle.memory_rules_parts.specs.memory_rules_accesses.declared.source.Source.{Source}
use Rattle.memory_rules_parts.specs.memory_rules_accesses.declared.source.Source.TheVariants as source
use Rattle.holder_model_laws.specs.HolderLaws.inner.Cells.Cells.{ChangesAt, IsCell, IsInside, cell_at, has_cell}
use Rattle.holder_model_laws.proofs.HolderLaws.Cells.PlaceCells.{not_cell}
use Rattle.holder_model_laws.proofs.HolderLaws.Cells.Writes.{filled_changes, filled_full, object_other}
use Rattle.numbered_form.specs.Names.{Name}
use Rattle.holder_model.specs.holder_model_values.RunValues.Cells.{cell_count, in_cells}
use Rattle.holder_model.specs.holder_model_values.RunValues.inner.Fits.{fits}
use Rattle.holder_model.specs.holder_model_values.RunValues.Memory.{Memory, Object, object_at}
use Rattle.holder_model.specs.holder_model_values.RunValues.Places.{Inside, Place, field_in, filled, with_cells}
use Rattle.holder_model.specs.holder_model_values.RunValues.Shapes.{Shape}
use Rattle.holder_model.specs.holder_model_values.RunValues.Values as value
use Rattle.holder_model.specs.holder_model_values.RunValues.Values.{Value, references_of}
use Rattle.sil_ast.specs.declared.place.ObjectId.{ObjectId}
use Rattle.sil_ast.specs.declared.place.ValueId.{ValueId}
use Rattle.holder_model_laws.specs.HolderLaws.inner.Whole.Whole.{IsWholeMemory, NameWhole}
use Rattle.holder_model_laws.proofs.HolderLaws.Whole.Keeping.{filled_whole}
use Rattle.holder_model_laws.specs.HolderLaws.inner.Built.Building.{IsUnfinished, Progress}
use Rattle.holder_model_laws.specs.HolderLaws.inner.Built.FrameObjects.{Holds, HoldsObjects, IsBuiltAs, IsInField, fields_of_object, place_of_field}
use Rattle.holder_model_laws.specs.HolderLaws.inner.Built.Laws.{AreFieldsWritten, IsWrittenNow, Progresses, WritesField}
use Rattle.holder_model_laws.proofs.HolderLaws.Built.Fields.{not_of_other}
use Rattle.holder_model_laws.proofs.HolderLaws.Built.Progressing.{progressed}

true_or_false : (b : Bool) → (b ≡ true) ⊎ (b ≡ false)
true_or_false true = inl refl
true_or_false false = inr refl

same_value : (v w : ValueId) → v.0 ≡ w.0 → v ≡ w
same_value v w e = ap (λ (n : ℕ). record { 0 = n }) e

-- the value is this one, or another
pub which_value : (v w : ValueId) → (v ≡ w) ⊎ (v ≡ w → ⊥)
which_value v w = ⊎_elim (λ (e : v.0 ≡ w.0). inl (same_value v w e)) (λ (differ : v.0 ≡ w.0 → ⊥). inr (λ e. differ (ap (λ (x : ValueId). x.0) e))) (cases_eq v.0 w.0)

same_object : (o p : ObjectId) → o.0 ≡ p.0 → o ≡ p
same_object o p e = ap (λ (n : ℕ). record { 0 = n }) e

-- an entry holds one object
pub held_same : (entries : List Entry) (v : ValueId) (o p : ObjectId) → Holds entries v o → Holds entries v p → o ≡ p
held_same entries v o p h k = let both : Held (ValueOf (value.Object o)) ≡ Held (ValueOf (value.Object p)) = sym h ∙ k in cc

-- what a trail says of the fields of an object is as it was
pub built_so : (shapes : ModuleShapes) (sources : List Source) (said now : Progress) (object : ValueId) (o : ObjectId) (x : Object)
    → ((k : ℕ) → now.unwritten object k ≡ said.unwritten object k) → IsBuiltAs shapes sources said object o x → IsBuiltAs shapes sources now object o x
built_so shapes sources said now object o x same is = record {
  count = is.count;
  size = is.size;
  fields = λ k s e. let f = is.fields k s e in record { unwritten = f.unwritten; is = same k ∙ f.is; cells = f.cells };
}

-- what is unfinished behind a first write was so before
pub unfinished_earlier : (sources : List Source) (said now : Progress) (object : ValueId) (k : ℕ) → IsWrittenNow said now object k
    → (w : ValueId) → IsUnfinished sources now w → IsUnfinished sources said w
unfinished_earlier sources said now object k is_now w un = record {
  field = un.field;
  of = un.of;
  unwritten = sym (is_now.others w un.field (λ both.
      let is : now.unwritten w un.field ≡ Some false = ap (λ v. now.unwritten v un.field) both.0 ∙ ap (now.unwritten object) both.1 ∙ is_now.written in
      false≢true (same_Some false true (sym is ∙ un.unwritten)))) ∙ un.unwritten;
}

module _ (shapes : ModuleShapes) (sources : List Source) (said now : Progress) (memory : Memory) (entries : List Entry)
    (h : HoldsObjects shapes sources said memory entries) (wm : IsWholeMemory memory) (p : Place) (object : ValueId) (k : ℕ)
    (write : WritesField sources said entries p object k) (is_now : IsWrittenNow said now object k) (inside : IsInside memory p)
    (x : Value) (fit : fits p.shape x ≡ true) (named : NameWhole memory (references_of x)) where
  abbrev later : Memory
  later = filled memory p x

  abbrev pub at : (o : ObjectId) × IsInField shapes o (object_at memory o) write.l k p
  at = h.placed write.v write.l write.of k write.address p write.names

  pub holds_it : Holds entries object at.0
  holds_it = write.holds at.0 at.1.home

  unfinished : IsUnfinished sources said object
  unfinished = write.unfinished

  changes : ChangesAt p memory later
  changes = filled_changes memory p x inside fit

  pub others_same : (other : ObjectId) → (other ≡ at.0 → ⊥) → object_at later other ≡ object_at memory other
  others_same other differ =
      subst (λ g. object_at (with_cells memory (record p { home = g }) ((in_cells p.shape).cells x)) other ≡ object_at memory other) (sym at.1.home)
      (object_other memory at.0 other _ (λ e. differ (same_object other at.0 e)))

  -- the object itself
  was : IsBuiltAs shapes sources said object at.0 (object_at memory at.0)
  was = (h.built object at.0 unfinished holds_it).1

  same_class : (object_at later at.0).class ≡ (object_at memory at.0).class
  same_class = changes.classes at.0

  cell_same : (n : ℕ) → has_cell p n ≡ false → slice_get (object_at later at.0).cells n ≡ slice_get (object_at memory at.0).cells n
  cell_same n out = changes.others (Inside at.0) n (λ e. out)

  -- the field is full
  full_now : (n : ℕ) → has_cell (place_of_field shapes at.0 (object_at memory at.0) k at.1.shape) n ≡ true → IsCell true (slice_get (object_at later at.0).cells n)
  full_now n has = ⊎_elim
      (λ (e : has_cell p n ≡ true). subst (λ g. IsCell true (cell_at later g n)) at.1.home (filled_full memory p x inside fit n e))
      (λ (e : has_cell p n ≡ false). ⊎_elim
      (λ (all : is_part write.l ≡ false). absurd (false≢true (sym e ∙ at.1.whole all n has)))
      (λ (written : said.unwritten object k ≡ Some false).
      let f = was.fields k at.1.shape at.1.there in
      let so : f.unwritten ≡ false = same_Some f.unwritten false (sym f.is ∙ written) in
      subst (IsCell true) (sym (cell_same n e)) (subst (λ u. IsCell (not u) (slice_get (object_at memory at.0).cells n)) so (f.cells n has)))
      write.covers)
      (true_or_false (has_cell p n))

  -- its fields, by the class that it had
  field_now : (j : ℕ) (s : Shape) → slice_get (fields_of_object shapes (object_at memory at.0)) j ≡ Some s
      → (u : Bool) × (now.unwritten object j ≡ Some u)
      × ((n : ℕ) → has_cell (place_of_field shapes at.0 (object_at memory at.0) j s) n ≡ true → IsCell (not u) (slice_get (object_at later at.0).cells n))
  field_now j s e = ⊎_elim written unchanged (cases_eq j k)
    where
      written : j ≡ k → (u : Bool) × (now.unwritten object j ≡ Some u)
          × ((n : ℕ) → has_cell (place_of_field shapes at.0 (object_at memory at.0) j s) n ≡ true → IsCell (not u) (slice_get (object_at later at.0).cells n))
      written same = (
        false,
        ap (now.unwritten object) same ∙ is_now.written,
        λ n has.
            let shape_same : at.1.shape ≡ s = same_Some at.1.shape s (sym at.1.there ∙ ap (slice_get (fields_of_object shapes (object_at memory at.0))) (sym same) ∙ e) in
            let has_k : has_cell (place_of_field shapes at.0 (object_at memory at.0) k s) n ≡ true =
            subst (λ i. has_cell (place_of_field shapes at.0 (object_at memory at.0) i s) n ≡ true) same has in
            let has_at : has_cell (place_of_field shapes at.0 (object_at memory at.0) k at.1.shape) n ≡ true =
            subst (λ t. has_cell (place_of_field shapes at.0 (object_at memory at.0) k t) n ≡ true) (sym shape_same) has_k in
            full_now n has_at,
      )

      unchanged : (j ≡ k → ⊥) → (u : Bool) × (now.unwritten object j ≡ Some u)
          × ((n : ℕ) → has_cell (place_of_field shapes at.0 (object_at memory at.0) j s) n ≡ true → IsCell (not u) (slice_get (object_at later at.0).cells n))
      unchanged differ =
          let f = was.fields j s e in (
            f.unwritten,
            is_now.others object j (λ both. differ both.1) ∙ f.is,
            λ n has.
                let not_k = not_of_other at.0 (fields_of_object shapes (object_at memory at.0)) j k s at.1.shape e at.1.there differ n has in
                let out : has_cell p n ≡ false = not_cell p n (λ in_p. absurd (false≢true (sym not_k ∙ at.1.within n in_p))) in
                subst (IsCell (not f.unwritten)) (sym (cell_same n out)) (f.cells n has),
          )

  built_now : IsBuiltAs shapes sources now object at.0 (object_at later at.0)
  built_now = record {
    count = subst (λ (c : Name). source_at sources object ≡ source.Object (length (field_shapes shapes c))) (sym same_class) was.count;
    size = changes.sizes (Inside at.0) ∙ was.size ∙ ap (λ (c : Name). sum (map cell_count (field_shapes shapes c))) (sym same_class);
    fields = λ j s e.
        let f = field_now j s (ap (λ (c : Name). slice_get (field_shapes shapes c) j) (sym same_class) ∙ e) in
        record {
          unwritten = f.0;
          is = f.1;
          cells = λ n has. f.2 n (subst (λ (c : Name). has_cell (field_in at.0 (field_shapes shapes c) j s) n ≡ true) same_class has);
        };
  }

  unfinished_before : (w : ValueId) → IsUnfinished sources now w → IsUnfinished sources said w
  unfinished_before = unfinished_earlier sources said now object k is_now

  still_built : (w : ValueId) (o : ObjectId) → IsUnfinished sources said w → Holds entries w o → IsBuiltAs shapes sources now w o (object_at later o)
  still_built w o un holds = ⊎_elim
      (λ (same : w ≡ object).
      let here : at.0 ≡ o = held_same entries object at.0 o holds_it (subst (λ v. Holds entries v o) same holds) in
      subst (λ v. IsBuiltAs shapes sources now v o (object_at later o)) (sym same)
      (subst (λ q. IsBuiltAs shapes sources now object q (object_at later q)) here built_now))
      (λ (differ : w ≡ object → ⊥).
      let other : o ≡ at.0 → ⊥ = λ e. differ (h.apart w object o un unfinished holds (subst (Holds entries object) (sym e) holds_it)) in
      subst (λ y. IsBuiltAs shapes sources now w o y) (sym (others_same o other))
      (built_so shapes sources said now w o (object_at memory o) (λ j. is_now.others w j (λ both. differ both.0)) (h.built w o un holds).1))
      (which_value w object)

  pub field_progress : Progresses shapes sources said now entries memory later
  field_progress = record {
    whole = (filled_whole memory wm p inside x fit named).1;
    more = omega (arith, changes.objects);
    classes = λ o made. changes.classes o;
    unfinished = unfinished_before;
    built = still_built;
    as_made = is_now.as_made;
  }

  pub field_held : HoldsObjects shapes sources now later entries
  field_held = progressed shapes sources said now memory later entries h field_progress

pub field_written : AreFieldsWritten
field_written shapes sources said now memory entries h wm p object k write is_now inside x fit named = (
  field_held shapes sources said now memory entries h wm p object k write is_now inside x fit named,
  (
    (h.placed write.v write.l write.of k write.address p write.names).0,
    holds_it shapes sources said now memory entries h wm p object k write is_now inside x fit named,
    others_same shapes sources said now memory entries h wm p object k write is_now inside x fit named,
  ),
)

-- What is being built is unfinished still, or whole; and a frame holds its objects where a trail says more of them.
use Rattle.std.proofs.Common.{◌≡◌, ◌<◌, ◌⊎◌, ⊎_elim, inl, inr, ℕ, zero, suc, List, length, Bool, true, false, not, Option, Some, sym, ap, ◌∙◌, subst, arith}
use Rattle.std.specs.Prelude.{slice_get}
use Rattle.std.proofs.lemmas.Bool.{cases_eq}
use Rattle.std.proofs.lemmas.Option.{same_Some}
use Rattle.holder_model.specs.Data.{references_in}
use Rattle.holder_model.specs.ModuleShapes.{ModuleShapes}
use Rattle.memory_rules_parts.specs.memory_rules_accesses.declared.source.Source.{Source}
use Rattle.holder_model_laws.specs.HolderLaws.inner.Cells.Cells.{IsCell, IsEmptyCell, cell_at}
use Rattle.holder_model_laws.proofs.HolderLaws.Cells.Lists.{element}
use Rattle.holder_model_laws.proofs.HolderLaws.Cells.PlaceCells.{cell_from}
use Rattle.holder_model.specs.holder_model_values.RunValues.Cells.{Empty, Keeps}
use Rattle.holder_model.specs.holder_model_values.RunValues.Memory.{Memory, object_at}
use Rattle.holder_model.specs.holder_model_values.RunValues.Places.{Inside, Place}
use Rattle.holder_model.specs.holder_model_values.RunValues.Shapes.{Shape}
use Rattle.holder_model.specs.holder_model_values.RunValues.Values.{Value}
use Rattle.sil_ast.specs.declared.decl.Storage.{Storage}
use Rattle.sil_ast.specs.declared.place.ObjectId.{ObjectId}
use Rattle.sil_ast.specs.declared.place.ValueId.{ValueId}
use Rattle.holder_model_laws.specs.HolderLaws.inner.Whole.Whole.{IsWhole}
use Rattle.holder_model_laws.proofs.HolderLaws.Whole.Lists.{each_of, get_within}
use Rattle.holder_model_laws.specs.HolderLaws.inner.Built.Building.{IsUnfinished, Progress}
use Rattle.holder_model_laws.specs.HolderLaws.inner.Built.FrameObjects.{Holds, IsBuiltAs, MayName, fields_of_object, place_of_field}
use Rattle.holder_model_laws.specs.HolderLaws.inner.Built.Laws.{AreProgressed}
use Rattle.holder_model_laws.proofs.HolderLaws.Built.Fields.{field_of_cell}
use Rattle.holder_model_laws.proofs.HolderLaws.Built.Staying.{address_may, in_field_of, made_may}

-- of the first so many fields, one is still to be written, or none is
some_or_none : (said : ℕ → Option Bool) (n : ℕ) → ((k : ℕ) → k < n → (u : Bool) × (said k ≡ Some u))
    → ((k : ℕ) × (k < n) × (said k ≡ Some true)) ⊎ ((k : ℕ) → k < n → said k ≡ Some false)
some_or_none said zero known = inr (λ k lt. absurd (omega arith))
some_or_none said (suc n) known = ⊎_elim
    (λ (r : (k : ℕ) × (k < n) × (said k ≡ Some true)). inl (r.0, omega (arith, r.1), r.2))
    (λ (r : (k : ℕ) → k < n → said k ≡ Some false). by (known n (omega arith)).0 (known n (omega arith)).1 r)
    (some_or_none said n (λ k lt. known k (omega arith)))
  where
    by : (u : Bool) → said n ≡ Some u → ((k : ℕ) → k < n → said k ≡ Some false)
        → ((k : ℕ) × (k < suc n) × (said k ≡ Some true)) ⊎ ((k : ℕ) → k < suc n → said k ≡ Some false)
    by true e r = inl (n, omega arith, e)
    by false e r = inr (λ k lt. ⊎_elim
        (λ (same : k ≡ n). ap said same ∙ e)
        (λ (differ : k ≡ n → ⊥). r k (omega (arith, lt, differ)))
        (cases_eq k n))

module _ (shapes : ModuleShapes) (sources : List Source) (said : Progress) (object : ValueId) (memory : Memory) (o : ObjectId) where
  abbrev ss : List Shape
  ss = fields_of_object shapes (object_at memory o)

  pub built_or_whole : o.0 < length memory.objects → IsBuiltAs shapes sources said object o (object_at memory o)
      → IsUnfinished sources said object ⊎ IsWhole memory o
  built_or_whole made is = ⊎_elim
      (λ (r : (k : ℕ) × (k < length ss) × (said.unwritten object k ≡ Some true)).
      inl (record { field = r.0; of = record { fields = length ss; is = is.count; within = r.1 }; unwritten = r.2 }))
      (λ (r : (k : ℕ) → k < length ss → said.unwritten object k ≡ Some false). inr (record { made = made; written = full r }))
      (some_or_none (said.unwritten object) (length ss) known)
    where
      known : (k : ℕ) → k < length ss → (u : Bool) × (said.unwritten object k ≡ Some u)
      known k lt =
          let s = element ss k lt in
          let f = is.fields k s.0 s.1 in
          (f.unwritten, f.is)

      full : ((k : ℕ) → k < length ss → said.unwritten object k ≡ Some false) → (n : ℕ) → IsEmptyCell (cell_at memory (Inside o) n) → ⊥
      full r n e =
          let early = get_within (object_at memory o).cells n Empty e in
          let size = is.size in
          let at = field_of_cell ss n (omega (arith, early, size)) in
          let f = is.fields at.field at.shape at.there in
          let so : f.unwritten ≡ false = same_Some f.unwritten false (sym f.is ∙ r at.field (get_within ss at.field at.shape at.there)) in
          let q : Place = place_of_field shapes o (object_at memory o) at.field at.shape in
          let cell = subst (λ b. IsCell (not b) (slice_get (object_at memory o).cells n)) so (f.cells n (cell_from q n at.from at.to)) in
          keeps_none cell.0 cell.1 (same_Some (Keeps cell.0 cell.1) Empty (sym cell.2 ∙ e))
        where
          keeps_none : (how : Storage) (x : Value) → Keeps how x ≡ Empty → ⊥
          keeps_none how x e = cc

pub progressed : AreProgressed
progressed shapes sources said now memory later entries h p = record {
  named = λ v x names. each_of (MayName shapes sources said memory entries v) (MayName shapes sources now later entries v) (may v) (references_in x) (h.named v x names);
  held = λ object unfinished. h.held object (p.unfinished object unfinished);
  built = λ object o unfinished holds. (made object o (p.unfinished object unfinished) holds, p.built object o (p.unfinished object unfinished) holds);
  apart = λ v w o uv uw. h.apart v w o (p.unfinished v uv) (p.unfinished w uw);
  same = λ object v about since. h.same object v about (p.as_made object v since);
  placed = λ v l of k address q names.
      let at = h.placed v l of k address q names in
      let was_made = made_may shapes sources said memory entries h v at.0 (address_may shapes sources said memory entries h v q at.0 names at.1.home) in
      (at.0, in_field_of shapes at.0 (object_at memory at.0) (object_at later at.0) l k q (p.classes at.0 was_made) at.1);
}
  where
    made : (object : ValueId) (o : ObjectId) → IsUnfinished sources said object → Holds entries object o → o.0 < length later.objects
    made object o unfinished holds = let b = h.built object o unfinished holds in omega (arith, b.0, p.more)

    may : (v : ValueId) (o : ObjectId) → MayName shapes sources said memory entries v o → MayName shapes sources now later entries v o
    may v o (MayName.whole is) = MayName.whole (p.whole o is)
    may v o (MayName.unfinished object about unfinished holds) = ⊎_elim
        (λ (still : IsUnfinished sources now object). MayName.unfinished object about still holds)
        (λ (is : IsWhole later o). MayName.whole is)
        (built_or_whole shapes sources now object later o (made object o unfinished holds) (p.built object o unfinished holds))

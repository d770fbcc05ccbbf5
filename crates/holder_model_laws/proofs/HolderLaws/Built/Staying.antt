-- A frame holds its objects still where memory changes elsewhere, and where entries end.
use Rattle.std.proofs.Common.{◌≡◌, ◌<◌, ⊎_elim, ℕ, List, length, Some, true, sym, ap, ◌∙◌, subst, arith}
use Rattle.std.specs.Prelude.{slice_get}
use Rattle.std.proofs.lemmas.Option.{none-some}
use Rattle.holder_model.specs.Data.{AddressOf, Datum, ValueOf, home_references, references_in}
use Rattle.holder_model.specs.Frames.{Entry, Gone, datum_in, entry_at}
use Rattle.holder_model.specs.ModuleShapes.{ModuleShapes, field_shapes}
use Rattle.memory_rules_parts.specs.memory_rules_accesses.declared.location.Location.{Location}
use Rattle.memory_rules_parts.specs.memory_rules_accesses.declared.source.Source.{Source}
use Rattle.holder_model_laws.specs.HolderLaws.inner.Cells.Cells.{has_cell}
use Rattle.numbered_form.specs.Lists.{Each}
use Rattle.numbered_form.specs.Names.{Name}
use Rattle.holder_model.specs.holder_model_values.RunValues.Memory.{Memory, Object, object_at}
use Rattle.holder_model.specs.holder_model_values.RunValues.Places.{Inside, Place, field_in}
use Rattle.holder_model.specs.holder_model_values.RunValues.Values as value
use Rattle.sil_ast.specs.declared.place.ObjectId.{ObjectId}
use Rattle.sil_ast.specs.declared.place.ValueId.{ValueId}
use Rattle.holder_model_laws.proofs.HolderLaws.Whole.Lists.{each_of}
use Rattle.holder_model_laws.specs.HolderLaws.inner.Built.Building.{Progress}
use Rattle.holder_model_laws.specs.HolderLaws.inner.Built.FrameObjects.{Holds, HoldsObjects, IsBuiltAs, IsInField, MayName, Names}
use Rattle.holder_model_laws.specs.HolderLaws.inner.Built.Laws.{StayInMemory, StayWhereEnded}

-- a place in a field is one of an object of the same class
pub in_field_of : (shapes : ModuleShapes) (o : ObjectId) (x y : Object) (l : Location) (k : ℕ) (p : Place) → y.class ≡ x.class
    → IsInField shapes o x l k p → IsInField shapes o y l k p
in_field_of shapes o x y l k p same is = record {
  shape = is.shape;
  there = subst (λ (c : Name). slice_get (field_shapes shapes c) k ≡ Some is.shape) (sym same) is.there;
  home = is.home;
  part = is.part;
  within = subst (λ (c : Name). (n : ℕ) → has_cell p n ≡ true → has_cell (field_in o (field_shapes shapes c) k is.shape) n ≡ true) (sym same) is.within;
  whole = λ part. subst (λ (c : Name). (n : ℕ) → has_cell (field_in o (field_shapes shapes c) k is.shape) n ≡ true → has_cell p n ≡ true) (sym same) (is.whole part);
}

module _ (shapes : ModuleShapes) (sources : List Source) (said : Progress) (memory : Memory) (entries : List Entry) (h : HoldsObjects shapes sources said memory entries) where
  -- what an entry may name was made
  pub made_may : (v : ValueId) (o : ObjectId) → MayName shapes sources said memory entries v o → o.0 < length memory.objects
  made_may v o (MayName.whole is) = is.made
  made_may v o (MayName.unfinished object about unfinished holds) = (h.built object o unfinished holds).0

  -- what an address within an object may name is the object
  pub address_may : (v : ValueId) (p : Place) (o : ObjectId) → Names entries v (AddressOf p) → p.home ≡ Inside o → MayName shapes sources said memory entries v o
  address_may v p o names at = (subst (λ g. Each (MayName shapes sources said memory entries v) (home_references g)) at (h.named v (AddressOf p) names)).0

pub stay_in_memory : StayInMemory
stay_in_memory shapes sources said memory later entries h stays = record {
  named = λ v x names. each_of (MayName shapes sources said memory entries v) (MayName shapes sources said later entries v) (may v) (references_in x) (h.named v x names);
  held = h.held;
  built = λ object o unfinished holds.
      let b = h.built object o unfinished holds in
      (omega (arith, b.0, stays.more), subst (IsBuiltAs shapes sources said object o) (sym (stays.building object o unfinished holds)) b.1);
  apart = h.apart;
  same = h.same;
  placed = λ v l of k address p names.
      let at = h.placed v l of k address p names in
      let made = made_may shapes sources said memory entries h v at.0 (address_may shapes sources said memory entries h v p at.0 names at.1.home) in
      (at.0, in_field_of shapes at.0 (object_at memory at.0) (object_at later at.0) l k p (stays.classes at.0 made) at.1);
}
  where
    may : (v : ValueId) (o : ObjectId) → MayName shapes sources said memory entries v o → MayName shapes sources said later entries v o
    may v o (MayName.whole is) = MayName.whole (stays.whole o is)
    may v o (MayName.unfinished object about unfinished holds) = MayName.unfinished object about unfinished holds

pub stay_where_ended : StayWhereEnded
stay_where_ended shapes sources said memory entries left h gone kept = record {
  named = λ v x names. each_of (MayName shapes sources said memory entries v) (MayName shapes sources said memory left v) (may v) (references_in x)
      (h.named v x (names_before v x names));
  held = λ object unfinished. let o = h.held object unfinished in (o.0, kept object unfinished ∙ o.1);
  built = λ object o unfinished holds. h.built object o unfinished (holds_before object o holds);
  apart = λ v w o uv uw hv hw. h.apart v w o uv uw (holds_before v o hv) (holds_before w o hw);
  same = λ object v about since x names o holds. h.same object v about since x (names_before v x names) o (holds_before object o holds);
  placed = λ v l of k address p names. h.placed v l of k address p (names_before v (AddressOf p) names);
}
  where
    names_before : (v : ValueId) (x : Datum) → Names left v x → Names entries v x
    names_before v x names = ⊎_elim
        (λ (e : entry_at left v ≡ entry_at entries v). ap datum_in (sym e) ∙ names)
        (λ (e : entry_at left v ≡ Gone). absurd (none-some x (ap datum_in (sym e) ∙ names)))
        (gone v)

    holds_before : (v : ValueId) (o : ObjectId) → Holds left v o → Holds entries v o
    holds_before v o holds = ⊎_elim
        (λ (e : entry_at left v ≡ entry_at entries v). sym e ∙ holds)
        (λ (e : entry_at left v ≡ Gone). absurd (none-some (ValueOf (value.Object o)) (ap datum_in (sym e ∙ holds))))
        (gone v)

    may : (v : ValueId) (o : ObjectId) → MayName shapes sources said memory entries v o → MayName shapes sources said memory left v o
    may v o (MayName.whole is) = MayName.whole is
    may v o (MayName.unfinished object about unfinished holds) = MayName.unfinished object about unfinished (kept object unfinished ∙ holds)

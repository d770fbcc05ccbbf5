-- A frame holds its objects behind results that name whole objects, or are about unfinished ones.
use Rattle.std.proofs.Common.{◌≡◌, ⊎_elim, ℕ, List, [], ◌∷◌, true, refl, sym, ap, ◌∙◌, subst}
use Rattle.std.proofs.lemmas.Option.{same_Some}
use Rattle.holder_model.specs.Data.{AddressOf, Datum, ValueOf, references_in}
use Rattle.holder_model.specs.Frames.{Entry, datum_in, entry_at}
use Rattle.memory_rules_parts.specs.memory_rules_accesses.declared.location.Location.{Location}
use Rattle.numbered_form.specs.Lists.{Each}
use Rattle.holder_model.specs.holder_model_values.RunValues.Memory.{object_at}
use Rattle.holder_model.specs.holder_model_values.RunValues.Places.{Place}
use Rattle.holder_model.specs.holder_model_values.RunValues.Values as value
use Rattle.sil_ast.specs.declared.place.ObjectId.{ObjectId}
use Rattle.sil_ast.specs.declared.place.ValueId.{ValueId}
use Rattle.holder_model_laws.proofs.HolderLaws.Whole.Lists.{each_of}
use Rattle.holder_model_laws.specs.HolderLaws.inner.Built.Building.{IsAbout, IsFieldAddress, IsUnfinished}
use Rattle.holder_model_laws.specs.HolderLaws.inner.Built.FrameObjects.{Holds, IsInField, MayName, Names}
use Rattle.holder_model_laws.specs.HolderLaws.inner.Built.Laws.{AreResultsHeld, Begins}
use Rattle.holder_model_laws.proofs.HolderLaws.Built.About.{built_new}
use Rattle.holder_model_laws.proofs.HolderLaws.Built.FieldWrites.{built_so, which_value}

-- what holds an object names it
pub holds_names : (entries : List Entry) (v : ValueId) (o : ObjectId) (x : Datum) → Holds entries v o → Names entries v x → references_in x ≡ o ∷ []
holds_names entries v o x holds names = sym (ap references_in (same_Some (ValueOf (value.Object o)) x (sym (ap datum_in holds) ∙ names)))

pub results_held : AreResultsHeld
results_held shapes sources said now memory entries behind h unwritten begins objects = record {
  named = λ v x names. by_named v x names (begins v);
  held = λ object un. let o = h.held object (before object un) in (o.0, holds_behind object un ∙ o.1);
  built = λ object o un holds.
      let b = h.built object o (before object un) (sym (holds_behind object un) ∙ holds) in
      (b.0, built_so shapes sources said now object o (object_at memory o) (unwritten object) b.1);
  apart = λ v w o uv uw hv hw. h.apart v w o (before v uv) (before w uw) (sym (holds_behind v uv) ∙ hv) (sym (holds_behind w uw) ∙ hw);
  same = λ object v about since x names o holds. by_same object v about since x names o holds (begins v);
  placed = λ v l of k address p names. by_placed v l of k address p names (begins v);
}
  where
    before : (object : ValueId) → IsUnfinished sources now object → IsUnfinished sources said object
    before object un = record { field = un.field; of = un.of; unwritten = sym (unwritten object un.field) ∙ un.unwritten }

    after : (object : ValueId) → IsUnfinished sources said object → IsUnfinished sources now object
    after object un = record { field = un.field; of = un.of; unwritten = unwritten object un.field ∙ un.unwritten }

    holds_behind : (object : ValueId) → IsUnfinished sources now object → entry_at behind object ≡ entry_at entries object
    holds_behind object un = objects object un.of.fields un.of.is

    may : (v : ValueId) (o : ObjectId) → MayName shapes sources said memory entries v o → MayName shapes sources now memory behind v o
    may v o (MayName.whole is) = MayName.whole is
    may v o (MayName.unfinished object about un holds) = MayName.unfinished object about (after object un) (holds_behind object (after object un) ∙ holds)

    all_may : (v : ValueId) (os : List ObjectId) → Each (MayName shapes sources said memory entries v) os → Each (MayName shapes sources now memory behind v) os
    all_may v os = each_of (MayName shapes sources said memory entries v) (MayName shapes sources now memory behind v) (may v) os

    by_named : (v : ValueId) (x : Datum) → Names behind v x → Begins shapes sources said now memory entries behind v → Each (MayName shapes sources now memory behind v) (references_in x)
    by_named v x names (Begins.stays same since) = all_may v (references_in x) (h.named v x (ap datum_in (sym same) ∙ names))
    by_named v x names (Begins.begins fresh) = all_may v (references_in x) (fresh x names).named

    holds_before : (object v : ValueId) (o : ObjectId) → (v ≡ object → ⊥) → IsAbout sources object v → Holds behind object o → Holds entries object o
    holds_before object v o differ (IsAbout.itself same) holds = absurd (differ same)
    holds_before object v o differ (IsAbout.borrow built) holds = let new = built_new sources object v built in sym (objects object new.0 new.1) ∙ holds
    holds_before object v o differ (IsAbout.address l of k address built) holds = let new = built_new sources object of built in sym (objects object new.0 new.1) ∙ holds

    by_same : (object v : ValueId) → IsAbout sources object v → now.as_made object v ≡ true → (x : Datum) → Names behind v x → (o : ObjectId) → Holds behind object o
        → Begins shapes sources said now memory entries behind v → references_in x ≡ o ∷ []
    by_same object v about since x names o holds way = ⊎_elim
        (λ (same : v ≡ object). holds_names behind v o x (subst (λ w. Holds behind w o) (sym same) holds) names)
        (λ (differ : v ≡ object → ⊥). other differ way)
        (which_value v object)
      where
        other : (v ≡ object → ⊥) → Begins shapes sources said now memory entries behind v → references_in x ≡ o ∷ []
        other differ (Begins.stays same was) = h.same object v about (was object since) x (ap datum_in (sym same) ∙ names) o (holds_before object v o differ about holds)
        other differ (Begins.begins fresh) = (fresh x names).same object differ about o (holds_before object v o differ about holds)

    by_placed : (v : ValueId) (l : Location) (of : ValueId) (k : ℕ) → IsFieldAddress sources v l of k → (p : Place) → Names behind v (AddressOf p)
        → Begins shapes sources said now memory entries behind v → (o : ObjectId) × IsInField shapes o (object_at memory o) l k p
    by_placed v l of k address p names (Begins.stays same since) = h.placed v l of k address p (ap datum_in (sym same) ∙ names)
    by_placed v l of k address p names (Begins.begins fresh) = (fresh (AddressOf p) names).placed l of k address p refl

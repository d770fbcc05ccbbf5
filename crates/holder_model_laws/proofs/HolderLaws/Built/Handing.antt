-- Results that name whole objects alone, or are about what their operand is about.
use Rattle.std.proofs.Common.{◌≡◌, ℕ, List, [], ◌∷◌, true, Option, Some, None, refl, sym, ap, ◌∙◌, subst, arith}
use Rattle.std.specs.Prelude.{option_map, slice_get}
use Rattle.std.proofs.lemmas.Bool.{false≢true}
use Rattle.std.proofs.lemmas.Option.{none-some, same_Some}
use Rattle.holder_model.specs.Data.{AddressOf, Datum, ValueOf, home_references, references_in}
use Rattle.holder_model.specs.Frames.{Entry}
use Rattle.holder_model.specs.ModuleShapes.{ModuleShapes}
use Rattle.memory_rules_parts.specs.memory_rules_accesses.declared.location.Location.{Location}
use Rattle.memory_rules_parts.specs.memory_rules_accesses.declared.source.Source.{Source}
use Rattle.holder_model_laws.specs.HolderLaws.inner.Cells.Cells.{has_cell}
use Rattle.holder_model_laws.proofs.HolderLaws.Cells.PlaceCells.{cell_from, cell_within}
use Rattle.numbered_form.specs.Lists.{Each}
use Rattle.holder_model.specs.holder_model_values.RunValues.Memory.{Memory, object_at}
use Rattle.holder_model.specs.holder_model_values.RunValues.Places.{Place, part_of}
use Rattle.holder_model.specs.holder_model_values.RunValues.Shapes.{Shape, member_shapes}
use Rattle.holder_model.specs.holder_model_values.RunValues.Values as value
use Rattle.holder_model.specs.holder_model_values.RunValues.Values.{references_of}
use Rattle.sil_ast.specs.declared.place.ObjectId.{ObjectId}
use Rattle.sil_ast.specs.declared.place.ValueId.{ValueId}
use Rattle.holder_model.proofs.holder_model_values.ValueParts.SideBySide.{cells_summed}
use Rattle.holder_model_laws.specs.HolderLaws.inner.Whole.Whole.{IsWhole}
use Rattle.holder_model_laws.proofs.HolderLaws.Whole.Lists.{each_of}
use Rattle.holder_model_laws.specs.HolderLaws.inner.Built.Building.{IsAbout, IsFieldAddress, Progress}
use Rattle.holder_model_laws.specs.HolderLaws.inner.Built.FrameObjects.{Holds, HoldsObjects, IsInField, MayName, Names}
use Rattle.holder_model_laws.specs.HolderLaws.inner.Built.Laws.{GoesOn, InFrames, MayBeginAgain, MayBeginWhole, MayNameField, MayNameMember}
use Rattle.holder_model_laws.proofs.HolderLaws.Built.Fields.{field_inside}

pub begin_whole : InFrames MayBeginWhole
begin_whole shapes sources said memory entries v x whole outside = record {
  named = each_of (IsWhole memory) (MayName shapes sources said memory entries v) (λ o is. MayName.whole is) (references_in x) whole;
  same = λ object differ about o holds. absurd (outside.about object differ about);
  placed = λ l of k address p is. absurd (outside.address l of k address);
}

module _ (shapes : ModuleShapes) (sources : List Source) (said : Progress) (memory : Memory) (entries : List Entry) (h : HoldsObjects shapes sources said memory entries)
    (y v : ValueId) (x : Datum) (names : Names entries y x) (goes : GoesOn sources said y v) where
  may : (o : ObjectId) → MayName shapes sources said memory entries y o → MayName shapes sources said memory entries v o
  may o (MayName.whole is) = MayName.whole is
  may o (MayName.unfinished object about un holds) = MayName.unfinished object (goes.back object un about) un holds

  -- what the operand names, the result may name
  pub named_again : (os : List ObjectId) → references_in x ≡ os → Each (MayName shapes sources said memory entries v) os
  named_again os is = subst (Each (MayName shapes sources said memory entries v)) is
      (each_of (MayName shapes sources said memory entries y) (MayName shapes sources said memory entries v) may (references_in x) (h.named y x names))

  pub same_again : (object : ValueId) → (v ≡ object → ⊥) → IsAbout sources object v → (o : ObjectId) → Holds entries object o → references_in x ≡ o ∷ []
  same_again object differ about o holds = let a = goes.about object differ about in h.same object y a.0 a.1 x names o holds

pub begin_again : InFrames MayBeginAgain
begin_again shapes sources said memory entries h y v x names goes = record {
  named = named_again shapes sources said memory entries h y v (ValueOf x) names goes (references_of x) refl;
  same = same_again shapes sources said memory entries h y v (ValueOf x) names goes;
  placed = λ l of k address p is. absurd (cc);
}

pub name_field : InFrames MayNameField
name_field shapes sources said memory entries h y v o names goes q home in_field = record {
  named = named_again shapes sources said memory entries h y v (ValueOf (value.Object o)) names goes (home_references q.home) (sym (ap home_references home));
  same = λ object differ about p holds. ap home_references home ∙ same_again shapes sources said memory entries h y v (ValueOf (value.Object o)) names goes object differ about p holds;
  placed = λ l of k address p is. let same : q ≡ p = cc in (o, subst (IsInField shapes o (object_at memory o) l k) same (in_field l of k address));
}

-- a member's place lies in the place that it is a member of
member_is : (p q : Place) (j : ℕ) (o : Option Shape) → option_map (part_of p (member_shapes p.shape) j) o ≡ Some q
    → (s : Shape) × (o ≡ Some s) × (part_of p (member_shapes p.shape) j s ≡ q)
member_is p q j None e = absurd (none-some q e)
member_is p q j (Some s) e = (s, refl, same_Some (part_of p (member_shapes p.shape) j s) q e)

member_within : (p : Place) (j : ℕ) (s : Shape) → slice_get (member_shapes p.shape) j ≡ Some s → (n : ℕ)
    → has_cell (part_of p (member_shapes p.shape) j s) n ≡ true → has_cell p n ≡ true
member_within p j s there n has =
    let w = cell_within (part_of p (member_shapes p.shape) j s) n has in
    let from = w.0 in
    let to = w.1 in
    let size = cells_summed p.shape s j there in
    let inside = field_inside (member_shapes p.shape) j s there in
    cell_from p n (omega (arith, from)) (omega (arith, to, size, inside))

pub name_member : InFrames MayNameMember
name_member shapes sources said memory entries h y v p names goes j q is located =
    let m = member_is p q j (slice_get (member_shapes p.shape) j) is in
    let home : p.home ≡ q.home = ap (λ (z : Place). z.home) m.2 in
    record {
      named = named_again shapes sources said memory entries h y v (AddressOf p) names goes (home_references q.home) (ap home_references home);
      same = λ object differ about o holds. sym (ap home_references home) ∙ same_again shapes sources said memory entries h y v (AddressOf p) names goes object differ about o holds;
      placed = λ l of k address r same. placed_in m.0 m.1 m.2 l of k address r (same_place r same);
    }
  where
    same_place : (r : Place) → AddressOf q ≡ AddressOf r → q ≡ r
    same_place r e = cc

    placed_in : (s : Shape) → slice_get (member_shapes p.shape) j ≡ Some s → part_of p (member_shapes p.shape) j s ≡ q → (l : Location) (of : ValueId) (k : ℕ)
        → IsFieldAddress sources v l of k → (r : Place) → q ≡ r → (o : ObjectId) × IsInField shapes o (object_at memory o) l k r
    placed_in s there part l of k address r same =
        let at = located l of k address in
        let was = h.placed y at.1.0 of k at.1.1 p names in (
          was.0,
          subst (IsInField shapes was.0 (object_at memory was.0) l k) (part ∙ same) (record {
            shape = was.1.shape;
            there = was.1.there;
            home = was.1.home;
            part = sym at.0;
            within = λ n has. was.1.within n (member_within p j s there n has);
            whole = λ all. absurd (false≢true (sym all ∙ at.0));
          }),
        )

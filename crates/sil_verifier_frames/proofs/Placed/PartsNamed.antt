-- Addresses of parts behind an item: those that it names, and those that were named before.
use Rattle.std.proofs.Common.{◌≡◌, ◌||◌, ◌&&◌, ◌+◌, ◌++◌, ℕ, List, [], ◌∷◌, Bool, true, false, not, Some, refl, sym, ap, ◌∙◌, arith}
use Rattle.std.specs.List.{list_any}
use Rattle.std.specs.Prelude.{slice_get}
use Rattle.std.proofs.lemmas.Bool.{false≢true}
use Rattle.sil_verifier_trails.specs.AcceptedTrails.inner.Bases.{IsAsMade}
use Rattle.sil_verifier_trails.specs.AcceptedTrails.inner.Defined.{IsDefinedOn, makes}
use Rattle.holder_model_laws.specs.holder_model.Frames.{Entry}
use Rattle.holder_model_laws.specs.memory_rules_accesses.Locations.{location_of}
use Rattle.holder_model_laws.specs.memory_rules_accesses.Rows.{is_part}
use Rattle.holder_model_laws.specs.memory_rules_accesses.declared.location.Location.{Location}
use Rattle.holder_model_laws.specs.memory_rules_accesses.declared.source.Source.{Source}
use Rattle.sil_verifier_trails.specs.RunTrails.inner.Since.{is_none_since}
use Rattle.holder_model_values.specs.RunValues.Places.{OnStack, Place, part_of}
use Rattle.holder_model_values.specs.RunValues.Shapes.{Shape, member_shapes}
use Rattle.sil_ast.specs.declared.function.Function.{Function}
use Rattle.sil_ast.specs.declared.place.ValueId.{ValueId}
use Rattle.sil_cfg.specs.declared.item.Item.{Item}
use Rattle.holder_model_values.specs.ValueParts.inner.Paths.{here, inside}
use Rattle.holder_model_values.proofs.ValueParts.Paths.{cells_before_member, member_of_part}
use Rattle.sil_verifier_frames.specs.inner.Placed.FramePlaces.{AreFieldsInside, IsPartAt, Names}
pub use Rattle.sil_verifier_frames.specs.inner.Placed.PartsNamed.{AreNewNamed, AreOldKept, ArePartsNamed}

-- the first member of the whole, and a member of a part
pub member_of_whole : (whole : Place) (k : ℕ) (s : Shape) → slice_get (member_shapes whole.shape) k ≡ Some s
    → IsPartAt whole (k ∷ []) (part_of whole (member_shapes whole.shape) k s)
member_of_whole whole k s is = record {
  home = refl;
  shape = inside is here;
  first = ap (λ n. whole.first + n) (omega arith);
  part = refl;
}

pub member_of_the_part : (whole p : Place) (path : List ℕ) (k : ℕ) (s : Shape) → IsPartAt whole path p → slice_get (member_shapes p.shape) k ≡ Some s
    → IsPartAt whole (path ++ k ∷ []) (part_of p (member_shapes p.shape) k s)
member_of_the_part whole p path k s x is = record {
  home = x.home;
  shape = member_of_part k x.shape is;
  first = let first = x.first in let before = cells_before_member x.shape k in omega (arith, first, before);
  part = refl;
}

-- what an item didn't make was defined before it
defined_before : (f : Function) (t : List Item) (i : Item) (v : ValueId) → makes f v i ≡ false → IsDefinedOn f (i ∷ t) v → IsDefinedOn f t v
defined_before f t i v not_so h = sym (ap (λ b. b || list_any (makes f v) t) not_so) ∙ h

none_before : (f : Function) (t : List Item) (i : Item) (b v : ValueId) → makes f v i ≡ false → is_none_since (makes f b) (makes f v) (i ∷ t) ≡ true
    → (makes f b i ≡ false) × (is_none_since (makes f b) (makes f v) t ≡ true)
none_before f t i b v not_so h = at (makes f b i) (sym (ap (λ x. x || (not (makes f b i) && is_none_since (makes f b) (makes f v) t)) not_so) ∙ h)
  where
    at : (x : Bool) → (not x && is_none_since (makes f b) (makes f v) t) ≡ true → (x ≡ false) × (is_none_since (makes f b) (makes f v) t ≡ true)
    at true e = absurd (false≢true e)
    at false e = (refl, e)

-- a value that is as made since another, neither of them made by the item, was so before it
pub made_before : (f : Function) (t : List Item) (i : Item) (b v : ValueId) → makes f v i ≡ false → IsAsMade f (i ∷ t) b v
    → (makes f b i ≡ false) × IsAsMade f t b v
made_before f t i b v not_so h =
    let parts = none_before f t i b v not_so h.since in
    (parts.0, record { defined = defined_before f t i b parts.0 h.defined; since = parts.1 })

module _ (sources : List Source) (f : Function) (t : List Item) (i : Item) (old new : List Entry) where
  pub parts_behind : ArePartsNamed sources f t old → AreNewNamed sources f t i old new → AreOldKept f i old new → ArePartsNamed sources f (i ∷ t) new
  parts_behind before news kept = record { parts = parts_kept; fields = fields_kept }
    where
      parts_kept : (v : ValueId) (l : Location) → location_of sources v ≡ Some l → is_part l ≡ true → IsAsMade f (i ∷ t) l.root v
          → (whole p : Place) → Names new l.root whole → Names new v p → IsPartAt whole l.path p
      parts_kept v l is part made whole p one two = at (makes f v i) refl
        where
          at : (b : Bool) → makes f v i ≡ b → IsPartAt whole l.path p
          at true e = news.parts v e l is part made whole p one two
          at false e =
              let was = made_before f t i l.root v e made in
              before.parts v l is part was.1 whole p (kept l.root was.0 whole one) (kept v e p two)

      fields_kept : AreFieldsInside sources new
      fields_kept v l is of k trivial src p names = at (makes f v i) refl
        where
          at : (b : Bool) → makes f v i ≡ b → p.home ≡ OnStack → ⊥
          at true e = news.fields v e l is of k trivial src p names
          at false e = before.fields v l is of k trivial src p (kept v e p names)

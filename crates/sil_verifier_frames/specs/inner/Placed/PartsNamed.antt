-- Addresses of parts and of fields: what they name in a frame where its trail has come to, and what those name that an item makes.
use Rattle.std.specs.Prelude.{◌≡◌, ℕ, List, ◌∷◌, Bool, true, false, Some}
use Rattle.sil_verifier_trails.specs.AcceptedTrails.inner.Bases.{IsAsMade}
use Rattle.sil_verifier_trails.specs.AcceptedTrails.inner.Defined.{makes}
use Rattle.holder_model_laws.specs.holder_model.Frames.{Entry}
use Rattle.holder_model_laws.specs.memory_rules_accesses.Locations.{location_of}
use Rattle.holder_model_laws.specs.memory_rules_accesses.Rows.{is_part}
use Rattle.holder_model_laws.specs.memory_rules_accesses.Sources.{source_at}
use Rattle.holder_model_laws.specs.memory_rules_accesses.declared.location.Location.{Location}
use Rattle.holder_model_laws.specs.memory_rules_accesses.declared.source.Source.{Source}
use Rattle.holder_model_laws.specs.memory_rules_accesses.declared.source.Source.TheVariants as source
use Rattle.holder_model_values.specs.RunValues.Places.{OnStack, Place}
use Rattle.sil_ast.specs.declared.function.Function.{Function}
use Rattle.sil_ast.specs.declared.place.ValueId.{ValueId}
use Rattle.sil_cfg.specs.declared.item.Item.{Item}
use Rattle.sil_verifier_frames.specs.inner.Placed.FramePlaces.{AreFieldsInside, IsPartAt, Names}

-- addresses of parts name what they should, and those of fields, and of what lies in fields, no place on the stack
pub record ArePartsNamed (sources : List Source) (f : Function) (t : List Item) (entries : List Entry) : Type 0 where
  pub parts : (v : ValueId) (l : Location) → location_of sources v ≡ Some l → is_part l ≡ true → IsAsMade f t l.root v
      → (whole p : Place) → Names entries l.root whole → Names entries v p → IsPartAt whole l.path p
  pub fields : AreFieldsInside sources entries

-- so do those that the item makes
pub record AreNewNamed (sources : List Source) (f : Function) (t : List Item) (i : Item) (old new : List Entry) : Type 0 where
  pub parts : (v : ValueId) → makes f v i ≡ true → (l : Location) → location_of sources v ≡ Some l → is_part l ≡ true → IsAsMade f (i ∷ t) l.root v
      → (whole p : Place) → Names new l.root whole → Names new v p → IsPartAt whole l.path p
  pub fields : (v : ValueId) → makes f v i ≡ true → (l : Location) → location_of sources v ≡ Some l
      → (of : ValueId) (k : ℕ) (trivial : Bool) → source_at sources l.root ≡ source.Field of k trivial → (p : Place) → Names new v p → p.home ≡ OnStack → ⊥

-- and what it doesn't make names what it named
abbrev pub AreOldKept : Function → Item → List Entry → List Entry → Type 0
AreOldKept f i old new = (v : ValueId) → makes f v i ≡ false → (p : Place) → Names new v p → Names old v p

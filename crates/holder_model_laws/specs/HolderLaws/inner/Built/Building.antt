-- New objects of a function, the values that are about one, and what a trail says of their fields.
use Rattle.std.specs.Prelude.{◌≡◌, ◌<◌, ℕ, List, Bool, true, Option, Some}
use Rattle.memory_rules_parts.specs.memory_rules_accesses.Locations.{location_of}
use Rattle.memory_rules_parts.specs.memory_rules_accesses.Sources.{source_at}
use Rattle.memory_rules_parts.specs.memory_rules_accesses.declared.location.Location.{Location}
use Rattle.memory_rules_parts.specs.memory_rules_accesses.declared.source.Source.{Source}
use Rattle.memory_rules_parts.specs.memory_rules_accesses.declared.source.Source.TheVariants as source
use Rattle.memory_rules_parts.specs.Building.{builds}
use Rattle.sil_ast.specs.declared.place.ValueId.{ValueId}

module _ (sources : List Source) where
  -- a field of a new object, by its number
  pub record IsNewField (object : ValueId) (k : ℕ) : Type 0 where
    pub fields : ℕ
    pub is : source_at sources object ≡ source.Object fields
    pub within : k < fields

  -- the address is of a field, or of a part of one: of which value's, and its number
  pub record IsFieldAddress (v : ValueId) (l : Location) (of : ValueId) (k : ℕ) : Type 0 where
    pub at : location_of sources v ≡ Some l
    pub trivial : Bool
    pub is : source_at sources l.root ≡ source.Field of k trivial

  -- the value is about the new object: it is the object, a building borrow of it, or an address within it
  pub data IsAbout (object v : ValueId) : Type 0 where
    itself : v ≡ object → IsAbout object v
    borrow : builds sources object v ≡ true → IsAbout object v
    address : (l : Location) (of : ValueId) (k : ℕ) → IsFieldAddress v l of k → builds sources object of ≡ true → IsAbout object v

-- what a trail says of the new objects
pub record Progress : Type 0 where
  -- whether the field is still to be written
  pub unwritten : ValueId → ℕ → Option Bool
  -- whether the object hasn't been made anew since the value was made
  pub as_made : ValueId → ValueId → Bool

-- some field of it is still to be written
pub record IsUnfinished (sources : List Source) (said : Progress) (object : ValueId) : Type 0 where
  pub field : ℕ
  pub of : IsNewField sources object field
  pub unwritten : said.unwritten object field ≡ Some true

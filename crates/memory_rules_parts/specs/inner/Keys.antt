-- What an access has in common with each part to which it means something.
use Rattle.std.specs.Prelude.{List, [], ◌∷◌, true, cond, Option, Some, None}
use Rattle.std.specs.List.{flat_map}
use Rattle.sil_ast.specs.declared.place.ValueId.{ValueId}
use Rattle.ownership_kinds_chains.specs.declared.ownership_chains.facts.Facts.{Facts}
use Rattle.memory_rules_accesses.specs.declared.access.Access.{Access}
use Rattle.memory_rules_accesses.specs.declared.access.Access.TheVariants.{Ends, Begins, Allocates, Deallocates, Given, Does, Mentions}
use Rattle.memory_rules_accesses.specs.declared.access.Operation.{Operation}
use Rattle.memory_rules_accesses.specs.declared.location.Location.{Location}
use Rattle.memory_rules_accesses.specs.declared.source.Source.{Source}
use Rattle.memory_rules_accesses.specs.Locations.{cell_of, location_of, object_built}
use Rattle.memory_rules_parts.specs.Loans.{writes}
use Rattle.memory_rules_parts.specs.declared.key.Key.{Key}
use Rattle.memory_rules_parts.specs.declared.key.Key.TheVariants.{Turned, Named, Operated, Written}
use Rattle.memory_rules_parts.specs.declared.part.Part.{Part}
use Rattle.memory_rules_parts.specs.declared.part.Part.TheVariants.{Contents, Allocation, Lent, Building, InScope, InSlot}

abbrev pub root_key : Option Location → List Key
root_key None = []
root_key (Some l) = Written l.root ∷ []

abbrev pub keys_of_part : List Source → Part → List Key
keys_of_part sources (Contents cell trivial left) = Turned cell.subject ∷ Operated cell ∷ []
keys_of_part sources (Allocation slot) = Turned slot ∷ []
keys_of_part sources (Lent scope address) = Turned scope ∷ root_key (location_of sources address)
keys_of_part sources (Building object field) = Turned object ∷ Named object ∷ Operated (record { subject = object; field = Some field }) ∷ []
keys_of_part sources (InScope address scope) = Turned scope ∷ Named address ∷ []
keys_of_part sources (InSlot address slot) = Turned slot ∷ Named address ∷ []

abbrev pub keys_at : List Source → Operation → Option Location → List Key
keys_at sources o None = []
keys_at sources o (Some l) = Operated (cell_of sources l.root) ∷ cond (writes true o) (Written l.root ∷ []) []

abbrev pub object_key : Option ValueId → List Key
object_key None = []
object_key (Some object) = Named object ∷ []

abbrev pub built_key : List Source → ValueId → List Key
built_key sources base = object_key (object_built sources base)

abbrev pub keys_of_access : List Source → (ValueId → Facts) → Access → List Key
keys_of_access sources facts (Ends v) = Turned v ∷ []
keys_of_access sources facts (Begins v) = Turned v ∷ []
keys_of_access sources facts (Allocates v) = Turned v ∷ []
keys_of_access sources facts (Deallocates v) = Turned v ∷ root_key (location_of sources v)
keys_of_access sources facts (Given v content) = Turned v ∷ []
keys_of_access sources facts (Does x) = keys_at sources x.operation (location_of sources x.address)
keys_of_access sources facts (Mentions v a) = Named v ∷ flat_map (built_key sources) (facts v).bases

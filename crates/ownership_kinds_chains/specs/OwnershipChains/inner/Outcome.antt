-- What is known of the values of a function.
use Rattle.std.specs.Prelude.{◌≡◌, ◌↔◌, ◌<◌, List, length, Option, Some, None, IsSomeAnd}
use Rattle.sil_ast.specs.declared.place.ValueId.{ValueId}
use Rattle.ownership_kinds_chains.specs.declared.ownership_chains.definition.Definition.{Definition}
use Rattle.ownership_kinds_chains.specs.declared.ownership_chains.facts.Facts.{Facts}
use Rattle.ownership_kinds_chains.specs.OwnershipChains.Chains.{LeadsIntoRing}
use Rattle.ownership_kinds_chains.specs.OwnershipChains.Facts.{AreFactsOf, told_at}
use Rattle.ownership_kinds_chains.specs.OwnershipChains.Steps.{told_in}

-- exactly the values whose chains end are known, with their kind and bases
abbrev pub IsExact : List Definition → (ValueId → Option Facts) → Type 0
IsExact defs known = (v : ValueId) (f : Facts) → v.0 < length defs → (known v ≡ Some f) ↔ AreFactsOf defs v f

-- of each value just that is known which as many steps as there are values tell
abbrev pub IsTold : List Definition → (ValueId → Option Facts) → Type 0
IsTold defs known = (v : ValueId) → v.0 < length defs → known v ≡ told_in defs (length defs) v

-- nothing is known of a value exactly where a chain from it leads into a ring
abbrev pub KnowsAllButRings : List Definition → List (Option Facts) → Type 0
KnowsAllButRings defs table = (v : ValueId) → v.0 < length defs → (told_at table v ≡ None) ↔ LeadsIntoRing defs v

-- each value is known, with its kind and bases
abbrev pub AreAll : List Definition → List (Option Facts) → Type 0
AreAll defs table = (v : ValueId) → v.0 < length defs → IsSomeAnd (told_at table v) (AreFactsOf defs v)

-- The table of locations that is kept, and how one is found from its address.
use Rattle.std.specs.Prelude.{ℕ, List, ◌++◌, map, reverse, length, slice_get, unwrap_or, Option, None}
use Rattle.std.specs.List.{range_with_len}
use Rattle.ownership_kinds_chains.specs.OwnershipChains.Facts.{value_of}
use Rattle.sil_ast.specs.declared.place.ValueId.{ValueId}
use Rattle.memory_rules_accesses.specs.declared.location.Location.{Location}
use Rattle.memory_rules_accesses.specs.declared.source.Source.{Source}
use Rattle.memory_rules_accesses.specs.Locations.{location_of}

-- the location that some steps lead to from another, the last step first
abbrev pub behind : List ℕ → Location → Location
behind steps l = record { root = l.root; path = l.path ++ reverse steps }

-- the location that each value names, by the values' numbers
abbrev pub locations_of : List Source → List (Option Location)
locations_of sources = map (λ n. location_of sources (value_of n)) (range_with_len 0 (length sources))

-- what a table tells of an address
abbrev pub location_at : List (Option Location) → ValueId → Option Location
location_at locations address = unwrap_or (slice_get locations address.0) None

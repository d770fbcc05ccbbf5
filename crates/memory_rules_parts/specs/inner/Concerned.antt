-- The values that concern parts: an access that has to do with none of them means nothing to any part.
use Rattle.std.specs.Prelude.{◌≡◌, List, All, Bool, true, false, ◌||◌, slice_index_or, Option, Some, None}
use Rattle.std.specs.List.{list_any}
use Rattle.sil_ast.specs.declared.place.ValueId.{ValueId}
use Rattle.ownership_kinds_chains.specs.declared.ownership_chains.facts.Facts.{Facts}
use Rattle.memory_rules_accesses.specs.declared.access.Access.{Access}
use Rattle.memory_rules_accesses.specs.declared.access.Access.TheVariants.{Ends, Begins, Allocates, Deallocates, Given, Does, Mentions}
use Rattle.memory_rules_accesses.specs.declared.location.Location.{Location}
use Rattle.memory_rules_accesses.specs.declared.source.Source.{Source}
use Rattle.memory_rules_accesses.specs.Locations.{location_of, object_built}
use Rattle.memory_rules_parts.specs.inner.Index.{value_row}
use Rattle.memory_rules_parts.specs.inner.Keys.{keys_of_part}
use Rattle.memory_rules_parts.specs.declared.key.Key.{Key}
use Rattle.memory_rules_parts.specs.declared.key.Key.TheVariants.{Turned, Named, Operated, Written}
use Rattle.memory_rules_parts.specs.declared.part.Part.{Part}

-- the value that a key is about
abbrev pub value_in : Key → ValueId
value_in (Turned v) = v
value_in (Named v) = v
value_in (Operated cell) = cell.subject
value_in (Written v) = v

-- the value concerns them, or another one that shares its row
abbrev pub is_concerned : List Bool → ValueId → Bool
is_concerned concerned v = slice_index_or concerned (value_row v) false

abbrev pub has_key : List Bool → Key → Bool
has_key concerned key = is_concerned concerned (value_in key)

-- the values of all keys of the part are among them
abbrev pub IsConcerned : List Source → List Bool → Part → Type 0
IsConcerned sources concerned p = All (λ key. has_key concerned key ≡ true) (keys_of_part sources p)

abbrev pub AreConcerned : List Source → List Part → List Bool → Type 0
AreConcerned sources parts concerned = All (IsConcerned sources concerned) parts

abbrev pub has_root : List Bool → Option Location → Bool
has_root concerned None = false
has_root concerned (Some l) = is_concerned concerned l.root

abbrev pub has_object : List Bool → Option ValueId → Bool
has_object concerned None = false
has_object concerned (Some object) = is_concerned concerned object

-- the object that is built through the base concerns them
abbrev pub is_built : List Source → List Bool → ValueId → Bool
is_built sources concerned base = has_object concerned (object_built sources base)

-- the access may mean something to one of them: it has to do with such a value, or with a location
abbrev pub may_mean : List Source → (ValueId → Facts) → List Bool → Access → Bool
may_mean sources facts concerned (Ends v) = is_concerned concerned v
may_mean sources facts concerned (Begins v) = is_concerned concerned v
may_mean sources facts concerned (Allocates v) = is_concerned concerned v
may_mean sources facts concerned (Deallocates v) = is_concerned concerned v || has_root concerned (location_of sources v)
may_mean sources facts concerned (Given v content) = is_concerned concerned v
may_mean sources facts concerned (Does x) = true
may_mean sources facts concerned (Mentions v a) = is_concerned concerned v || list_any (is_built sources concerned) (facts v).bases

-- what was among them still is
abbrev pub Keeps : List Bool → List Bool → Type 0
Keeps old new = (v : ValueId) → is_concerned old v ≡ true → is_concerned new v ≡ true

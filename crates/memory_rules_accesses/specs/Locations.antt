-- The locations that addresses name, and the contents that are followed.
use Rattle.std.specs.Prelude.{ℕ, zero, suc, List, [], ◌∷◌, ◌++◌, Bool, true, false, ◌&&◌, ◌||◌, ◌==◌, cond, option_map, length, Option, Some, None}
use Rattle.std.specs.List.{starts_with}
use Rattle.sil_ast.specs.declared.place.ValueId.{ValueId}
use Rattle.memory_rules_accesses.specs.declared.location.Cell.{Cell}
use Rattle.memory_rules_accesses.specs.declared.location.Location.{Location}
use Rattle.memory_rules_accesses.specs.declared.source.Source.{Source}
use Rattle.memory_rules_accesses.specs.declared.source.Source.TheVariants.{Slot, Argument, Object, Borrow, Upcast, Loan, Field, Part, Other}
use Rattle.memory_rules_accesses.specs.Sources.{source_at}

abbrev pub whole : ValueId → Location
whole v = record { root = v; path = [] }

-- one step further
abbrev pub extended : ℕ → Location → Location
extended k l = record { root = l.root; path = l.path ++ k ∷ [] }

-- the location that an address names by what it is, where others name these
abbrev pub located_by : (ValueId → Option Location) → ValueId → Source → Option Location
located_by others v (Slot trivial) = Some (whole v)
located_by others v (Argument row trivial) = Some (whole v)
located_by others v (Object fields) = None
located_by others v (Borrow of) = None
located_by others v (Upcast of) = None
located_by others v (Loan of) = None
located_by others v (Field of k trivial) = Some (whole v)
located_by others v (Part of k) = option_map (extended k) (others of)
located_by others v Other = None

-- the location that an address names, where fewer than n steps lead to its root
abbrev pub locate : List Source → ℕ → ValueId → Option Location
locate sources zero v = None
locate sources (suc n) v = located_by (locate sources n) v (source_at sources v)

-- the location that an address names; as many steps as there are values lead to every root
abbrev pub location_of : List Source → ValueId → Option Location
location_of sources v = locate sources (length sources) v

abbrev pub same_step : ℕ → ℕ → Bool
same_step a b = a == b

-- they have one root, and one path leads on from where the other ends
abbrev pub overlap : Location → Location → Bool
overlap a b = a.root.0 == b.root.0 && (starts_with same_step a.path b.path || starts_with same_step b.path a.path)

abbrev pub meet : Option Location → Option Location → Bool
meet None b = false
meet (Some a) None = false
meet (Some a) (Some b) = overlap a b

-- the locations that two addresses name overlap
abbrev pub do_overlap : List Source → ValueId → ValueId → Bool
do_overlap sources a b = meet (location_of sources a) (location_of sources b)

-- the value is a new object
abbrev pub is_object : Source → Bool
is_object (Slot trivial) = false
is_object (Argument row trivial) = false
is_object (Object fields) = true
is_object (Borrow of) = false
is_object (Upcast of) = false
is_object (Loan of) = false
is_object (Field of k trivial) = false
is_object (Part of k) = false
is_object Other = false

abbrev pub object_lent : List Source → Source → Option ValueId
object_lent sources (Slot trivial) = None
object_lent sources (Argument row trivial) = None
object_lent sources (Object fields) = None
object_lent sources (Borrow of) = cond (is_object (source_at sources of)) (Some of) None
object_lent sources (Upcast of) = None
object_lent sources (Loan of) = None
object_lent sources (Field of k trivial) = None
object_lent sources (Part of k) = None
object_lent sources Other = None

-- what an upcast has as its operand, where others go further
abbrev pub below_by : (ValueId → ValueId) → ValueId → Source → ValueId
below_by others v (Slot trivial) = v
below_by others v (Argument row trivial) = v
below_by others v (Object fields) = v
below_by others v (Borrow of) = v
below_by others v (Upcast of) = others of
below_by others v (Loan of) = v
below_by others v (Field of k trivial) = v
below_by others v (Part of k) = v
below_by others v Other = v

-- the value from which a value comes by so many upcasts at most
abbrev pub below : List Source → ℕ → ValueId → ValueId
below sources zero v = v
below sources (suc n) v = below_by (below sources n) v (source_at sources v)

-- the value from which a value comes by upcasts alone; as many as there are values lead to the first
unfoldable pub upcast_from : List Source → ValueId → ValueId
upcast_from sources v = below sources (length sources) v

-- the new object that a building borrow lends: a borrow whose operand is the object itself, or an upcast of a building borrow
abbrev pub object_built : List Source → ValueId → Option ValueId
object_built sources v = object_lent sources (source_at sources (upcast_from sources v))

abbrev pub field_cell : Option ValueId → ValueId → ℕ → Cell
field_cell None root k = record { subject = root; field = None }
field_cell (Some object) root k = record { subject = object; field = Some k }

abbrev pub cell_by : List Source → ValueId → Source → Cell
cell_by sources root (Slot trivial) = record { subject = root; field = None }
cell_by sources root (Argument row trivial) = record { subject = root; field = None }
cell_by sources root (Object fields) = record { subject = root; field = None }
cell_by sources root (Borrow of) = record { subject = root; field = None }
cell_by sources root (Upcast of) = record { subject = root; field = None }
cell_by sources root (Loan of) = record { subject = root; field = None }
cell_by sources root (Field of k trivial) = field_cell (object_built sources of) root k
cell_by sources root (Part of k) = record { subject = root; field = None }
cell_by sources root Other = record { subject = root; field = None }

-- whose contents are at a root: the slot's, the argument's, or those of a field of the new object that is being built there
abbrev pub cell_of : List Source → ValueId → Cell
cell_of sources root = cell_by sources root (source_at sources root)

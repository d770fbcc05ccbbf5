-- Which operations a location has: one row for each sort of location.
use Rattle.std.specs.Prelude.{ℕ, List, [], ◌∷◌, Bool, true, false, ◌||◌, cond, is_some, not}
use Rattle.argument_conventions.specs.Rows.{keeps_full, only_reads}
use Rattle.memory_rules_accesses.specs.declared.access.Operation.{Operation}
use Rattle.memory_rules_accesses.specs.declared.access.Operation.TheVariants.{FirstWrite, Read, Lend, Write, TrivialStore, Handed, Take}
use Rattle.memory_rules_accesses.specs.declared.location.Location.{Location}
use Rattle.memory_rules_accesses.specs.declared.source.Source.{Source}
use Rattle.memory_rules_accesses.specs.declared.source.Source.TheVariants.{Slot, Argument, Object, Borrow, Upcast, Loan, Field, Part, Other}
use Rattle.memory_rules_accesses.specs.Locations.{object_built}
use Rattle.memory_rules_accesses.specs.Sources.{source_at}

abbrev pub has_steps : List ℕ → Bool
has_steps [] = false
has_steps (k ∷ path) = true

-- steps lead from the root to the location
abbrev pub is_part : Location → Bool
is_part l = has_steps l.path

-- a slot or an argument: all that its type allows; of a part neither a first write nor a take, and handing it over where it stays full
abbrev pub slot_has : Bool → Operation → Bool
slot_has part FirstWrite = not part
slot_has part Read = true
slot_has part Lend = true
slot_has part Write = true
slot_has part TrivialStore = true
slot_has part (Handed row) = not part || keeps_full row
slot_has part Take = not part

-- an argument that may be shared: nothing is changed there
abbrev pub shared_has : Operation → Bool
shared_has FirstWrite = false
shared_has Read = true
shared_has Lend = true
shared_has Write = false
shared_has TrivialStore = false
shared_has (Handed row) = only_reads row
shared_has Take = false

-- a field of an object: reads and writes, and a first write of the whole field while the object is being built
abbrev pub field_has : Bool → Bool → Operation → Bool
field_has part building FirstWrite = cond part false building
field_has part building Read = true
field_has part building Lend = false
field_has part building Write = true
field_has part building TrivialStore = true
field_has part building (Handed row) = false
field_has part building Take = false

abbrev pub has_by : List Source → Source → Bool → Operation → Bool
has_by sources (Slot trivial) part o = slot_has part o
has_by sources (Argument row trivial) part o = cond row.shared (shared_has o) (slot_has part o)
has_by sources (Object fields) part o = false
has_by sources (Borrow of) part o = false
has_by sources (Upcast of) part o = false
has_by sources (Loan of) part o = false
has_by sources (Field of k trivial) part o = field_has part (is_some (object_built sources of)) o
has_by sources (Part of k) part o = false
has_by sources Other part o = false

-- the location's row has the operation
abbrev pub has_operation : List Source → Location → Operation → Bool
has_operation sources l o = has_by sources (source_at sources l.root) (is_part l) o

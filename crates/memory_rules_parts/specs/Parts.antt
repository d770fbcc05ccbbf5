-- The parts of all patterns of memory, and what an access means to each.
use Rattle.std.specs.Prelude.{ℕ, List, [], ◌∷◌, ◌++◌, Bool, true, false, cond, length, Option, Some, None}
use Rattle.std.specs.List.{flat_map, range_with_len}
use Rattle.sil_ast.specs.declared.place.ValueId.{ValueId}
use Rattle.ownership_kinds_chains.specs.OwnershipChains.Facts.{value_of}
use Rattle.ownership_kinds_chains.specs.declared.ownership_chains.facts.Facts.{Facts}
use Rattle.argument_conventions.specs.declared.row.AddressRow.{AddressRow}
use Rattle.memory_rules_accesses.specs.declared.access.Access.{Access}
use Rattle.memory_rules_accesses.specs.declared.location.Cell.{Cell}
use Rattle.memory_rules_accesses.specs.declared.location.Location.{Location}
use Rattle.memory_rules_accesses.specs.declared.source.Source.{Source}
use Rattle.memory_rules_accesses.specs.declared.source.Source.TheVariants as source
use Rattle.memory_rules_accesses.specs.Locations.{location_of}
use Rattle.memory_rules_accesses.specs.Sources.{source_at}
use Rattle.reach_engine_marks.specs.declared.path_patterns.mark.Mark.{Mark}
use Rattle.memory_rules_parts.specs.Addresses.{in_scope_mark, in_slot_mark}
use Rattle.memory_rules_parts.specs.Allocations.{allocation_mark, left_allocated_mark}
use Rattle.memory_rules_parts.specs.Building.{building_mark}
use Rattle.memory_rules_parts.specs.Contents.{contents_mark, left_mark}
use Rattle.memory_rules_parts.specs.Loans.{loan_mark}
use Rattle.memory_rules_parts.specs.declared.part.Part.{Part}
use Rattle.memory_rules_parts.specs.declared.part.Part.TheVariants.{Contents, Allocation, Lent, Building, InScope, InSlot}

abbrev pub whole_cell : ValueId → Cell
whole_cell v = record { subject = v; field = None }

abbrev pub is_scope_source : Source → Bool
is_scope_source (source.Slot trivial) = false
is_scope_source (source.Argument row trivial) = false
is_scope_source (source.Object fields) = false
is_scope_source (source.Borrow of) = true
is_scope_source (source.Upcast of) = false
is_scope_source (source.Loan of) = true
is_scope_source (source.Field of k trivial) = false
is_scope_source (source.Part of k) = false
is_scope_source source.Other = false

abbrev pub is_scope : List Source → ValueId → Bool
is_scope sources v = is_scope_source (source_at sources v)

-- one part for each field: what it holds, and whether it is still to be written
abbrev pub field_parts : ValueId → ℕ → List Part
field_parts object k = Contents (record { subject = object; field = Some k }) false None ∷ Building object k ∷ []

abbrev pub scope_part : List Source → ValueId → ValueId → List Part
scope_part sources address base = cond (is_scope sources base) (InScope address base ∷ []) []

-- one part for each scope among an address's bases
abbrev pub scope_parts : List Source → ValueId → List ValueId → List Part
scope_parts sources address bases = flat_map (scope_part sources address) bases

abbrev pub slot_part : ValueId → ValueId → Source → List Part
slot_part address root (source.Slot trivial) = InSlot address root ∷ []
slot_part address root (source.Argument row trivial) = []
slot_part address root (source.Object fields) = []
slot_part address root (source.Borrow of) = []
slot_part address root (source.Upcast of) = []
slot_part address root (source.Loan of) = []
slot_part address root (source.Field of k trivial) = []
slot_part address root (source.Part of k) = []
slot_part address root source.Other = []

abbrev pub slot_part_at : List Source → ValueId → Option Location → List Part
slot_part_at sources address None = []
slot_part_at sources address (Some l) = slot_part address l.root (source_at sources l.root)

-- and one for its slot
abbrev pub address_parts : List Source → Facts → ValueId → List Part
address_parts sources f address = scope_parts sources address f.bases ++ slot_part_at sources address (location_of sources address)

abbrev pub slot_parts : List Source → Facts → ValueId → Bool → List Part
slot_parts sources f slot trivial = Contents (whole_cell slot) trivial None ∷ Allocation slot ∷ address_parts sources f slot

-- where an argument may be shared, it is full on all walks
abbrev pub argument_parts : ValueId → AddressRow → Bool → List Part
argument_parts v row trivial = cond row.shared [] (Contents (whole_cell v) trivial (Some row.after) ∷ [])

abbrev pub parts_by : List Source → Facts → ValueId → Source → List Part
parts_by sources f v (source.Slot trivial) = slot_parts sources f v trivial
parts_by sources f v (source.Argument row trivial) = argument_parts v row trivial
parts_by sources f v (source.Object fields) = flat_map (field_parts v) (range_with_len 0 fields)
parts_by sources f v (source.Borrow of) = []
parts_by sources f v (source.Upcast of) = []
parts_by sources f v (source.Loan of) = Lent v of ∷ []
parts_by sources f v (source.Field of k trivial) = address_parts sources f v
parts_by sources f v (source.Part of k) = address_parts sources f v
parts_by sources f v source.Other = []

module _ (sources : List Source) (facts : ValueId → Facts) where
  -- the parts whose subject has this number
  abbrev pub parts_at : ℕ → List Part
  parts_at n = parts_by sources (facts (value_of n)) (value_of n) (source_at sources (value_of n))

  -- all parts, by their subjects
  abbrev pub parts_of : List Part
  parts_of = flat_map parts_at (range_with_len 0 (length sources))

  -- what an access means to a part
  abbrev pub means : Part → Access → Option Mark
  means (Contents cell trivial left) a = contents_mark sources cell trivial a
  means (Allocation slot) a = allocation_mark slot a
  means (Lent scope address) a = loan_mark sources scope address a
  means (Building object field) a = building_mark sources facts object field a
  means (InScope address scope) a = in_scope_mark address scope a
  means (InSlot address slot) a = in_slot_mark address slot a

-- what a `return` means to it
abbrev pub at_return : Part → Option Mark
at_return (Contents cell trivial left) = left_mark trivial left
at_return (Allocation slot) = left_allocated_mark
at_return (Lent scope address) = None
at_return (Building object field) = None
at_return (InScope address scope) = None
at_return (InSlot address slot) = None

abbrev pub subject_of : Part → ValueId
subject_of (Contents cell trivial left) = cell.subject
subject_of (Allocation slot) = slot
subject_of (Lent scope address) = scope
subject_of (Building object field) = object
subject_of (InScope address scope) = address
subject_of (InSlot address slot) = address

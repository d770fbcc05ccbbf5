-- A field of a new object: on from its allocation until it is written. 607.
use Rattle.std.specs.Prelude.{ℕ, List, Bool, true, false, not, ◌&&◌, ◌||◌, Option, Some, None}
use Rattle.std.specs.List.{list_any}
use Rattle.sil_ast.specs.declared.place.ValueId.{ValueId}
use Rattle.memory_rules_accesses.specs.declared.access.Access.{Access}
use Rattle.memory_rules_accesses.specs.declared.access.Access.TheVariants.{Ends, Begins, Allocates, Deallocates, Given, Does, Mentions}
use Rattle.ownership_kinds_chains.specs.OwnershipChains.Facts.{is_guaranteed}
use Rattle.ownership_kinds_chains.specs.declared.ownership_chains.facts.Facts.{Facts}
use Rattle.memory_rules_accesses.specs.declared.access.Operation.{Operation}
use Rattle.memory_rules_accesses.specs.declared.columns.Allowance.{Allowance}
use Rattle.memory_rules_accesses.specs.declared.columns.Allowance.TheVariants.{NeitherOfThem, FreshObject, BuildingBorrow, BothOfThem}
use Rattle.memory_rules_accesses.specs.declared.location.Cell.{Cell}
use Rattle.memory_rules_accesses.specs.declared.location.Location.{Location}
use Rattle.memory_rules_accesses.specs.declared.source.Source.{Source}
use Rattle.memory_rules_accesses.specs.Locations.{location_of, object_built}
use Rattle.reach_engine_marks.specs.PathPatterns.Marks.{needs_off, turns_off, turns_on}
use Rattle.sil_rules.specs.declared.rule.Rule.TheVariants as rule
use Rattle.reach_engine_marks.specs.declared.path_patterns.mark.Mark.{Mark}
use Rattle.memory_rules_parts.specs.Contents.{at_location}
use Rattle.memory_rules_parts.specs.Switches.{is_same, is_turned_on, when}

-- the operation turns the contents of the cell on
abbrev pub fills : List Source → Cell → Operation → Option Location → Bool
fills sources cell o l = is_turned_on (at_location sources cell o l)

abbrev pub takes_object : Allowance → Bool
takes_object NeitherOfThem = false
takes_object FreshObject = true
takes_object BuildingBorrow = false
takes_object BothOfThem = true

abbrev pub takes_borrow : Allowance → Bool
takes_borrow NeitherOfThem = false
takes_borrow FreshObject = false
takes_borrow BuildingBorrow = true
takes_borrow BothOfThem = true

abbrev pub is_object_of : ValueId → Option ValueId → Bool
is_object_of object None = false
is_object_of object (Some o) = is_same o object

-- the value is a building borrow of the object
abbrev pub builds : List Source → ValueId → ValueId → Bool
builds sources object v = is_object_of object (object_built sources v)

-- a Guaranteed value that goes by a building borrow of the object, as the borrow itself does
abbrev pub goes_by_borrow : List Source → Facts → ValueId → Bool
goes_by_borrow sources f object = is_guaranteed f.kind && list_any (builds sources object) f.bases

-- the operand isn't one that an unfinished object may be: the object, a building borrow, or a value that goes by one
abbrev pub is_forbidden : List Source → (ValueId → Facts) → ValueId → ValueId → Allowance → Bool
is_forbidden sources facts object v a =
    (is_same v object && not (takes_object a)) || (goes_by_borrow sources (facts v) object && not (builds sources object v && takes_borrow a))

abbrev pub building_mark : List Source → (ValueId → Facts) → ValueId → ℕ → Access → Option Mark
building_mark sources facts object field (Ends v) = None
building_mark sources facts object field (Begins v) = None
building_mark sources facts object field (Allocates v) = when (is_same v object) (turns_on rule.FieldNotBuilt)
building_mark sources facts object field (Deallocates v) = None
building_mark sources facts object field (Given v content) = None
building_mark sources facts object field (Does x) =
    when (fills sources (record { subject = object; field = Some field }) x.operation (location_of sources x.address)) (turns_off rule.FieldNotBuilt)
building_mark sources facts object field (Mentions v a) = when (is_forbidden sources facts object v a) (needs_off rule.FieldNotBuilt)

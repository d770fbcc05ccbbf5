-- Rules 608 and 611: where an instruction breaks them, whether a walk reaches it or not.
use Rattle.std.specs.Prelude.{◌≡◌, ℕ, List, [], ◌∷◌, ◌++◌, Contains, Bool, false, ◌&&◌, ◌||◌, ◌==◌, Option, Some, None}
use Rattle.std.specs.Prelude.{cond, filter, find, map, not, option_map}
use Rattle.std.specs.List.{flat_map}
use Rattle.sil_ast.specs.declared.function.Function.{Function}
use Rattle.sil_ast.specs.declared.inst.Inst.{Inst}
use Rattle.sil_ast.specs.declared.place.ValueId.{ValueId}
use Rattle.sil_rules.specs.Rules.{number_of}
use Rattle.sil_rules.specs.declared.rule.Rule.{Rule}
use Rattle.sil_rules.specs.declared.rule.Rule.TheVariants as rule
use Rattle.numbered_form.specs.PointChecks.Points.{IsAt}
use Rattle.memory_rules_accesses.specs.declared.access.Operated.{Operated}
use Rattle.memory_rules_accesses.specs.declared.access.Operation.{Operation}
use Rattle.memory_rules_accesses.specs.declared.access.Operation.TheVariants.{FirstWrite, Read, Lend, Write, TrivialStore, Handed, Take}
use Rattle.memory_rules_accesses.specs.declared.location.Location.{Location}
use Rattle.memory_rules_accesses.specs.declared.source.Source.{Source}
use Rattle.memory_rules.specs.declared.overlaps.HandedAddress.{HandedAddress}
use Rattle.memory_rules_accesses.specs.Locations.{do_overlap, location_of}
use Rattle.memory_rules_accesses.specs.Operations.{addresses_of, deallocates, operations_of}
use Rattle.memory_rules_accesses.specs.Rows.{has_operation}
use Rattle.memory_rules_accesses.specs.Sources.{is_slot}

abbrev pub lacks_by : List Source → Option Location → Operation → Bool
lacks_by sources None o = false
lacks_by sources (Some l) o = not (has_operation sources l o)

-- the row of the location that the address names lacks the operation
abbrev pub lacks : List Source → Operated → Bool
lacks sources x = lacks_by sources (location_of sources x.address) x.operation

abbrev pub is_no_slot : List Source → ValueId → Bool
is_no_slot sources v = not (is_slot sources v)

abbrev pub address_in : Operated → ValueId
address_in x = x.address

-- the addresses at which an instruction does what their location lacks, or which it deallocates and which aren't slots
abbrev pub lacking_at : List Source → Inst → List ValueId
lacking_at sources i =
    map address_in (filter (lacks sources) (operations_of i))
    ++ cond (deallocates i) (filter (is_no_slot sources) (addresses_of i)) []

abbrev pub handed_by : Operation → ValueId → List HandedAddress
handed_by FirstWrite v = []
handed_by Read v = []
handed_by Lend v = []
handed_by Write v = []
handed_by TrivialStore v = []
handed_by (Handed row) v = record { address = v; shared = row.shared } ∷ []
handed_by Take v = []

abbrev pub handed : Operated → List HandedAddress
handed x = handed_by x.operation x.address

-- the addresses that are handed to a call, in order
abbrev pub handed_of : Inst → List HandedAddress
handed_of i = flat_map handed (operations_of i)

abbrev pub address_of : HandedAddress → ValueId
address_of a = a.address

-- two of them
pub record AddressPair : Type 0 where
  pub first : HandedAddress
  pub second : HandedAddress

abbrev pub pair : HandedAddress → HandedAddress → AddressPair
pair a b = record { first = a; second = b }

abbrev pub second_of : AddressPair → ValueId
second_of p = address_of p.second

-- all pairs, in order
abbrev pub pairs_of : List HandedAddress → List AddressPair
pairs_of [] = []
pairs_of (a ∷ addresses) = map (pair a) addresses ++ pairs_of addresses

-- their locations overlap, and not both may be shared
abbrev pub do_clash : List Source → AddressPair → Bool
do_clash sources p = not (p.first.shared && p.second.shared) && do_overlap sources p.first.address p.second.address

abbrev pub clashes_with : List Source → HandedAddress → HandedAddress → Bool
clashes_with sources a b = do_clash sources (pair a b)

-- and the subject is the first of them
abbrev pub crosses : List Source → ValueId → AddressPair → Bool
crosses sources subject p = p.first.address.0 == subject.0 && do_clash sources p

-- the second of the first pair that does, with the subject as its first
abbrev pub crossed_with : List Source → Inst → ValueId → Option ValueId
crossed_with sources i subject = option_map second_of (find (crosses sources subject) (pairs_of (handed_of i)))

-- at this value, with this other one that takes part, and at the point with this block and index
pub data IsBrokenAt (sources : List Source) (f : Function) : Rule → ValueId → Option ValueId → ℕ → ℕ → Type 0 where
  overlapping : (n k : ℕ) (i : Inst) (a b : ValueId) → IsAt f n k i → crossed_with sources i a ≡ Some b →
      IsBrokenAt sources f rule.InoutOverlap a (Some b) n k
  lacking : (n k : ℕ) (i : Inst) (a : ValueId) → IsAt f n k i → Contains (lacking_at sources i) a →
      IsBrokenAt sources f rule.PartialAccess a None n k

-- the rule is one of the two
abbrev pub is_static : Rule → Bool
is_static r = number_of r == number_of rule.InoutOverlap || number_of r == number_of rule.PartialAccess

-- The rules of the parts' marks are those on memory that walks show.
use Rattle.std.proofs.Common.{◌≡◌, List, [], ◌∷◌, ◌++◌, refl, Bool, true, false, cond, Option, Some, None}
use Rattle.std.specs.Prelude.{◌&&◌, ◌==◌, ◌||◌, not}
use Rattle.std.specs.List.{AllByRecursion, flat_map}
use Rattle.std.specs.Option.{option_to_list}
use Rattle.sil_ast.specs.declared.function.Function.{Function}
use Rattle.sil_ast.specs.declared.place.ValueId.{ValueId}
use Rattle.sil_cfg.specs.Returns.{is_return}
use Rattle.sil_cfg.specs.declared.item.Item.{Item}
use Rattle.sil_rules.specs.Rules.{group_of, number_of}
use Rattle.sil_rules.specs.declared.group.Group.TheVariants as group
use Rattle.sil_rules.specs.declared.rule.Rule.{Rule}
use Rattle.sil_rules.specs.declared.rule.Rule.TheVariants as rule
use Rattle.sil_rules.specs.declared.rule_faults.fault.RuleFault.{RuleFault}
use Rattle.reach_engine_marks.proofs.PathChecks.RulesShown.{broken_rule}
use Rattle.reach_engine_marks.specs.declared.path_patterns.mark.Mark.{Mark}
use Rattle.ownership_kinds_chains.specs.OwnershipChains.Facts.{known_or}
use Rattle.ownership_kinds_chains.specs.declared.ownership_chains.facts.Facts.{Facts}
use Rattle.memory_rules_accesses.specs.Accesses.{accesses_of}
use Rattle.memory_rules_accesses.specs.Locations.{cell_of, location_of}
use Rattle.memory_rules_accesses.specs.Sources.{is_slot, is_trivial_at}
use Rattle.argument_conventions.specs.declared.row.Content.{Content}
use Rattle.argument_conventions.specs.declared.row.Content.TheVariants.{Empty, Full}
use Rattle.memory_rules_accesses.specs.declared.access.Access.{Access}
use Rattle.memory_rules_accesses.specs.declared.access.Access.TheVariants.{Ends, Begins, Allocates, Deallocates, Given, Does, Mentions}
use Rattle.memory_rules_accesses.specs.declared.access.Operation.{Operation}
use Rattle.memory_rules_accesses.specs.declared.access.Operation.TheVariants.{FirstWrite, Read, Lend, Write, TrivialStore, Handed, Take}
use Rattle.memory_rules_accesses.specs.declared.location.Cell.{Cell}
use Rattle.memory_rules_accesses.specs.declared.location.Location.{Location}
use Rattle.memory_rules_accesses.specs.declared.source.Source.{Source}
use Rattle.memory_rules_parts.specs.Building.{fills, is_forbidden}
use Rattle.memory_rules_parts.specs.Contents.{at_location, counts_at_part, deallocation_mark, given_mark, handed_mark, operation_mark, same_cell}
use Rattle.memory_rules_parts.specs.Loans.{disturbs}
use Rattle.memory_rules_parts.specs.Parts.{at_return, means}
use Rattle.memory_rules_parts.specs.Shown.{IsShown, marks_of_access, part_marks}
use Rattle.memory_rules_parts.specs.Switches.{is_same, when}
use Rattle.memory_rules_parts.specs.declared.part.Part.{Part}
use Rattle.memory_rules_parts.specs.declared.part.Part.TheVariants.{Contents, Allocation, Lent, Building, InScope, InSlot}
use Rattle.memory_rules_parts.specs.inner.Laws.{AreOnMemory}

-- a rule on memory, and neither of the two that no walk is needed for
abbrev pub IsOfParts : Rule → Type 0
IsOfParts r = (group_of r ≡ group.Memory) × ((number_of r == number_of rule.InoutOverlap || number_of r == number_of rule.PartialAccess) ≡ false)

abbrev IsOn : Mark → Type 0
IsOn m = IsOfParts m.rule

-- there is no mark, or it is of such a rule
abbrev AreOn : Option Mark → Type 0
AreOn None = Unit {0}
AreOn (Some m) = IsOn m

where_on : (b : Bool) (m : Mark) → IsOn m → AreOn (when b m)
where_on true m h = h
where_on false m h = tt

handed_on : (trivial : Bool) (before after : Content) → IsOn (handed_mark trivial before after)
handed_on trivial Full Full = (refl, refl)
handed_on false Full Empty = (refl, refl)
handed_on true Full Empty = (refl, refl)
handed_on false Empty Full = (refl, refl)
handed_on true Empty Full = (refl, refl)
handed_on false Empty Empty = (refl, refl)
handed_on true Empty Empty = (refl, refl)

operation_on : (trivial part : Bool) (o : Operation) → IsOn (operation_mark trivial part o)
operation_on trivial part FirstWrite = (refl, refl)
operation_on trivial part Read = (refl, refl)
operation_on trivial part Lend = (refl, refl)
operation_on trivial part Write = (refl, refl)
operation_on trivial true TrivialStore = (refl, refl)
operation_on trivial false TrivialStore = (refl, refl)
operation_on trivial part (Handed row) = handed_on trivial row.before row.after
operation_on trivial part Take = (refl, refl)

given_on : (content : Content) → IsOn (given_mark content)
given_on Empty = (refl, refl)
given_on Full = (refl, refl)

deallocation_on : (trivial : Bool) → IsOn (deallocation_mark trivial)
deallocation_on true = (refl, refl)
deallocation_on false = (refl, refl)

location_on : (sources : List Source) (cell : Cell) (o : Operation) (l : Option Location) → AreOn (at_location sources cell o l)
location_on sources cell o None = tt
location_on sources cell o (Some l) =
    where_on (same_cell (cell_of sources l.root) cell) (operation_mark (is_trivial_at sources l.root) (counts_at_part sources l o) o)
    (operation_on (is_trivial_at sources l.root) (counts_at_part sources l o) o)

module _ (sources : List Source) (facts : ValueId → Facts) where
  access_on : (p : Part) (a : Access) → AreOn (means sources facts p a)
  access_on (Contents cell trivial left) (Ends v) = tt
  access_on (Contents cell trivial left) (Begins v) = tt
  access_on (Contents cell trivial left) (Allocates v) = where_on (is_same v cell.subject) _ (refl, refl)
  access_on (Contents cell trivial left) (Deallocates v) = where_on (is_slot sources v && is_same v cell.subject) (deallocation_mark trivial) (deallocation_on trivial)
  access_on (Contents cell trivial left) (Given v content) = where_on (is_same v cell.subject) (given_mark content) (given_on content)
  access_on (Contents cell trivial left) (Does x) = location_on sources cell x.operation (location_of sources x.address)
  access_on (Contents cell trivial left) (Mentions v a) = tt
  access_on (Allocation slot) (Ends v) = tt
  access_on (Allocation slot) (Begins v) = tt
  access_on (Allocation slot) (Allocates v) = where_on (is_same v slot) _ (refl, refl)
  access_on (Allocation slot) (Deallocates v) = where_on (is_same v slot) _ (refl, refl)
  access_on (Allocation slot) (Given v content) = tt
  access_on (Allocation slot) (Does x) = tt
  access_on (Allocation slot) (Mentions v a) = tt
  access_on (Lent scope address) (Ends v) = where_on (is_same v scope) _ (refl, refl)
  access_on (Lent scope address) (Begins v) = where_on (is_same v scope) _ (refl, refl)
  access_on (Lent scope address) (Allocates v) = tt
  access_on (Lent scope address) (Deallocates v) = where_on (disturbs sources address (Deallocates v)) _ (refl, refl)
  access_on (Lent scope address) (Given v content) = tt
  access_on (Lent scope address) (Does x) = where_on (disturbs sources address (Does x)) _ (refl, refl)
  access_on (Lent scope address) (Mentions v a) = tt
  access_on (Building object field) (Ends v) = tt
  access_on (Building object field) (Begins v) = tt
  access_on (Building object field) (Allocates v) = where_on (is_same v object) _ (refl, refl)
  access_on (Building object field) (Deallocates v) = tt
  access_on (Building object field) (Given v content) = tt
  access_on (Building object field) (Does x) =
      where_on (fills sources (record { subject = object; field = Some field }) x.operation (location_of sources x.address)) _ (refl, refl)
  access_on (Building object field) (Mentions v a) = where_on (is_forbidden sources facts object v a) _ (refl, refl)
  access_on (InScope address scope) (Ends v) = where_on (is_same v scope) _ (refl, refl)
  access_on (InScope address scope) (Begins v) = where_on (is_same v scope) _ (refl, refl)
  access_on (InScope address scope) (Allocates v) = tt
  access_on (InScope address scope) (Deallocates v) = tt
  access_on (InScope address scope) (Given v content) = tt
  access_on (InScope address scope) (Does x) = tt
  access_on (InScope address scope) (Mentions v a) = where_on (is_same v address) _ (refl, refl)
  access_on (InSlot address slot) (Ends v) = tt
  access_on (InSlot address slot) (Begins v) = tt
  access_on (InSlot address slot) (Allocates v) = where_on (is_same v slot) _ (refl, refl)
  access_on (InSlot address slot) (Deallocates v) = where_on (is_same v slot) _ (refl, refl)
  access_on (InSlot address slot) (Given v content) = tt
  access_on (InSlot address slot) (Does x) = tt
  access_on (InSlot address slot) (Mentions v a) = where_on (is_same v address) _ (refl, refl)

left_on : (p : Part) → AreOn (at_return p)
left_on (Contents cell trivial None) = tt
left_on (Contents cell trivial (Some Full)) = (refl, refl)
left_on (Contents cell trivial (Some Empty)) = where_on (not trivial) _ (refl, refl)
left_on (Allocation slot) = (refl, refl)
left_on (Lent scope address) = tt
left_on (Building object field) = tt
left_on (InScope address scope) = tt
left_on (InSlot address slot) = tt

each_listed : (o : Option Mark) → AreOn o → AllByRecursion IsOn (option_to_list o)
each_listed None h = tt
each_listed (Some m) h = (h, tt)

joined : (xs ys : List Mark) → AllByRecursion IsOn xs → AllByRecursion IsOn ys → AllByRecursion IsOn (xs ++ ys)
joined [] ys h k = k
joined (x ∷ xs) ys h k = (h.0, joined xs ys h.1 k)

each_told : (g : Access → List Mark) (accesses : List Access) → ((a : Access) → AllByRecursion IsOn (g a)) → AllByRecursion IsOn (flat_map g accesses)
each_told g [] h = tt
each_told g (a ∷ accesses) h = joined (g a) (flat_map g accesses) (h a) (each_told g accesses h)

each_returned : (b : Bool) (p : Part) → AllByRecursion IsOn (cond b (option_to_list (at_return p)) [])
each_returned true p = each_listed (at_return p) (left_on p)
each_returned false p = tt

each_at : (sources : List Source) (facts : ValueId → Option Facts) (f : Function) (p : Part) (item : Item) → AllByRecursion IsOn (part_marks sources facts f p item)
each_at sources facts f p item =
    joined (flat_map (marks_of_access sources facts f p) (accesses_of sources facts f item)) (cond (is_return f item) (option_to_list (at_return p)) [])
    (each_told (marks_of_access sources facts f p) (accesses_of sources facts f item)
    (λ a. each_listed (means sources (known_or facts) p a) (access_on sources (known_or facts) p a)))
    (each_returned (is_return f item) p)

-- what is shown at a part breaks such a rule
pub of_parts : (sources : List Source) (facts : ValueId → Option Facts) (f : Function) (parts : List Part) (s : RuleFault) →
    IsShown sources facts f parts s → IsOfParts s.rule
of_parts sources facts f parts s h =
    broken_rule IsOfParts f (part_marks sources facts f h.part) (each_at sources facts f h.part) s.rule s.walk s.point h.item h.shown

pub on_memory : AreOnMemory
on_memory sources facts f parts s h = (of_parts sources facts f parts s h).0

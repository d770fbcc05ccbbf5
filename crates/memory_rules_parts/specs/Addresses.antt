-- An address, and one of the scopes that it lies in, or its slot: on while that is open, or allocated. 610.
use Rattle.std.specs.Prelude.{Option, None}
use Rattle.sil_ast.specs.declared.place.ValueId.{ValueId}
use Rattle.memory_rules_accesses.specs.declared.access.Access.{Access}
use Rattle.memory_rules_accesses.specs.declared.access.Access.TheVariants.{Ends, Begins, Allocates, Deallocates, Given, Does, Mentions}
use Rattle.reach_engine_marks.specs.PathPatterns.Marks.{needs_on, turns_off, turns_on}
use Rattle.sil_rules.specs.declared.rule.Rule.TheVariants as rule
use Rattle.reach_engine_marks.specs.declared.path_patterns.mark.Mark.{Mark}
use Rattle.memory_rules_parts.specs.Switches.{is_same, when}

abbrev pub address_mark : ValueId → ValueId → Option Mark
address_mark address v = when (is_same v address) (needs_on rule.AddressOutsideScope)

abbrev pub in_scope_mark : ValueId → ValueId → Access → Option Mark
in_scope_mark address scope (Ends v) = when (is_same v scope) (turns_off rule.AddressOutsideScope)
in_scope_mark address scope (Begins v) = when (is_same v scope) (turns_on rule.AddressOutsideScope)
in_scope_mark address scope (Allocates v) = None
in_scope_mark address scope (Deallocates v) = None
in_scope_mark address scope (Given v content) = None
in_scope_mark address scope (Does x) = None
in_scope_mark address scope (Mentions v a) = address_mark address v

abbrev pub in_slot_mark : ValueId → ValueId → Access → Option Mark
in_slot_mark address slot (Ends v) = None
in_slot_mark address slot (Begins v) = None
in_slot_mark address slot (Allocates v) = when (is_same v slot) (turns_on rule.AddressOutsideScope)
in_slot_mark address slot (Deallocates v) = when (is_same v slot) (turns_off rule.AddressOutsideScope)
in_slot_mark address slot (Given v content) = None
in_slot_mark address slot (Does x) = None
in_slot_mark address slot (Mentions v a) = address_mark address v

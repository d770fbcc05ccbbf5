-- A slot by itself: on while it is allocated. 604 and 605.
use Rattle.std.specs.Prelude.{Option, Some, None}
use Rattle.sil_ast.specs.declared.place.ValueId.{ValueId}
use Rattle.memory_rules_accesses.specs.declared.access.Access.{Access}
use Rattle.memory_rules_accesses.specs.declared.access.Access.TheVariants.{Ends, Begins, Allocates, Deallocates, Given, Does, Mentions}
use Rattle.reach_engine_marks.specs.PathPatterns.Marks.{needs_off, needs_off_turns_on, needs_on_turns_off}
use Rattle.sil_rules.specs.declared.rule.Rule.TheVariants as rule
use Rattle.reach_engine_marks.specs.declared.path_patterns.mark.Mark.{Mark}
use Rattle.memory_rules_parts.specs.Switches.{is_same, when}

abbrev pub allocation_mark : ValueId → Access → Option Mark
allocation_mark slot (Ends v) = None
allocation_mark slot (Begins v) = None
allocation_mark slot (Allocates v) = when (is_same v slot) (needs_off_turns_on rule.StackOrder)
allocation_mark slot (Deallocates v) = when (is_same v slot) (needs_on_turns_off rule.StackOrder)
allocation_mark slot (Given v content) = None
allocation_mark slot (Does x) = None
allocation_mark slot (Mentions v a) = None

-- at a `return` no slot is allocated
abbrev pub left_allocated_mark : Option Mark
left_allocated_mark = Some (needs_off rule.StackLeft)

-- Contents: on while the cell is full. 601, 602, 603 and 609.
use Rattle.std.specs.Prelude.{ℕ, List, Bool, true, false, ◌&&◌, ◌==◌, cond, not, Option, Some, None}
use Rattle.memory_rules_accesses.specs.declared.access.Access.{Access}
use Rattle.memory_rules_accesses.specs.declared.access.Access.TheVariants.{Ends, Begins, Allocates, Deallocates, Given, Does, Mentions}
use Rattle.memory_rules_accesses.specs.declared.access.Operation.{Operation}
use Rattle.memory_rules_accesses.specs.declared.access.Operation.TheVariants.{FirstWrite, Read, Lend, Write, TrivialStore, Handed, Take}
use Rattle.memory_rules_accesses.specs.declared.location.Cell.{Cell}
use Rattle.memory_rules_accesses.specs.declared.location.Location.{Location}
use Rattle.memory_rules_accesses.specs.declared.source.Source.{Source}
use Rattle.memory_rules_accesses.specs.Locations.{cell_of, location_of}
use Rattle.memory_rules_accesses.specs.Rows.{has_operation, is_part}
use Rattle.memory_rules_accesses.specs.Sources.{is_slot, is_trivial_at}
use Rattle.argument_conventions.specs.declared.row.Content.{Content}
use Rattle.argument_conventions.specs.declared.row.Content.TheVariants.{Empty, Full}
use Rattle.reach_engine_marks.specs.PathPatterns.Marks.{needs_off, needs_off_turns_on, needs_on, needs_on_turns_off, turns_off, turns_on}
use Rattle.sil_rules.specs.declared.rule.Rule.TheVariants as rule
use Rattle.reach_engine_marks.specs.declared.path_patterns.mark.Mark.{Mark}
use Rattle.memory_rules_parts.specs.Switches.{is_same, when}

-- what a call needs and leaves by its row. Where the type is trivial, empty is met by any state, and nothing is emptied
abbrev pub handed_mark : Bool → Content → Content → Mark
handed_mark trivial Full Full = needs_on rule.LoadUninitialised
handed_mark false Full Empty = needs_on_turns_off rule.LoadUninitialised
handed_mark true Full Empty = needs_on rule.LoadUninitialised
handed_mark false Empty Full = needs_off_turns_on rule.InitTwice
handed_mark true Empty Full = turns_on rule.InitTwice
handed_mark false Empty Empty = needs_off rule.InitTwice
handed_mark true Empty Empty = record { needs = None; turns = None; rule = rule.InitTwice }

-- a first write needs the cell empty and fills it; a take needs it full and empties it; a call does as its row says, and all else needs
-- it full. A trivial store to the whole fills it, whatever it was
abbrev pub operation_mark : Bool → Bool → Operation → Mark
operation_mark trivial part FirstWrite = needs_off_turns_on rule.InitTwice
operation_mark trivial part Read = needs_on rule.LoadUninitialised
operation_mark trivial part Lend = needs_on rule.LoadUninitialised
operation_mark trivial part Write = needs_on rule.LoadUninitialised
operation_mark trivial true TrivialStore = needs_on rule.LoadUninitialised
operation_mark trivial false TrivialStore = turns_on rule.LoadUninitialised
operation_mark trivial part (Handed row) = handed_mark trivial row.before row.after
operation_mark trivial part Take = needs_on_turns_off rule.LoadUninitialised

-- the operation counts at a part: one that the row lacks counts like the same one on the whole
abbrev pub counts_at_part : List Source → Location → Operation → Bool
counts_at_part sources l o = has_operation sources l o && is_part l

abbrev pub same_field : Option ℕ → Option ℕ → Bool
same_field None None = true
same_field None (Some k) = false
same_field (Some k) None = false
same_field (Some k) (Some n) = k == n

abbrev pub same_cell : Cell → Cell → Bool
same_cell a b = is_same a.subject b.subject && same_field a.field b.field

abbrev pub at_location : List Source → Cell → Operation → Option Location → Option Mark
at_location sources cell o None = None
at_location sources cell o (Some l) =
    when (same_cell (cell_of sources l.root) cell) (operation_mark (is_trivial_at sources l.root) (counts_at_part sources l o) o)

-- a slot has to be empty when it is deallocated, unless it is of a trivial type
abbrev pub deallocation_mark : Bool → Mark
deallocation_mark trivial = cond trivial (turns_off rule.LeftInitialised) (needs_off rule.LeftInitialised)

abbrev pub given_mark : Content → Mark
given_mark Empty = turns_off rule.LoadUninitialised
given_mark Full = turns_on rule.LoadUninitialised

-- it is empty behind its allocation, and where it is deallocated, which a slot alone can be; an argument is given as its row says
abbrev pub contents_mark : List Source → Cell → Bool → Access → Option Mark
contents_mark sources cell trivial (Ends v) = None
contents_mark sources cell trivial (Begins v) = None
contents_mark sources cell trivial (Allocates v) = when (is_same v cell.subject) (turns_off rule.LoadUninitialised)
contents_mark sources cell trivial (Deallocates v) = when (is_slot sources v && is_same v cell.subject) (deallocation_mark trivial)
contents_mark sources cell trivial (Given v content) = when (is_same v cell.subject) (given_mark content)
contents_mark sources cell trivial (Does x) = at_location sources cell x.operation (location_of sources x.address)
contents_mark sources cell trivial (Mentions v a) = None

-- at a `return` an argument is as its row says
abbrev pub left_mark : Bool → Option Content → Option Mark
left_mark trivial None = None
left_mark trivial (Some Full) = Some (needs_on rule.InoutLeftUninitialised)
left_mark trivial (Some Empty) = when (not trivial) (needs_off rule.LeftInitialised)

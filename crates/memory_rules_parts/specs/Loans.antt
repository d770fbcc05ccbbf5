-- A loan: on while the scope is open that borrows what a location holds. 606.
use Rattle.std.specs.Prelude.{List, Bool, true, false, not, ◌&&◌, Option, Some, None}
use Rattle.argument_conventions.specs.Rows.{only_reads}
use Rattle.sil_ast.specs.declared.place.ValueId.{ValueId}
use Rattle.memory_rules_accesses.specs.declared.access.Access.{Access}
use Rattle.memory_rules_accesses.specs.declared.access.Access.TheVariants.{Ends, Begins, Allocates, Deallocates, Given, Does, Mentions}
use Rattle.memory_rules_accesses.specs.declared.access.Operation.{Operation}
use Rattle.memory_rules_accesses.specs.declared.access.Operation.TheVariants.{FirstWrite, Read, Lend, Write, TrivialStore, Handed, Take}
use Rattle.memory_rules_accesses.specs.declared.location.Location.{Location}
use Rattle.memory_rules_accesses.specs.declared.source.Source.{Source}
use Rattle.memory_rules_accesses.specs.Locations.{cell_of, do_overlap, location_of}
use Rattle.memory_rules_accesses.specs.Rows.{is_part}
use Rattle.reach_engine_marks.specs.PathPatterns.Marks.{needs_off, turns_off, turns_on}
use Rattle.sil_rules.specs.declared.rule.Rule.TheVariants as rule
use Rattle.reach_engine_marks.specs.declared.path_patterns.mark.Mark.{Mark}
use Rattle.memory_rules_parts.specs.Switches.{is_same, when}

-- a first write isn't a write here, nor is a trivial store to the whole, in which nothing can be lent
abbrev pub writes : Bool → Operation → Bool
writes part FirstWrite = false
writes part Read = false
writes part Lend = false
writes part Write = true
writes part TrivialStore = part
writes part (Handed row) = not (only_reads row)
writes part Take = true

abbrev pub writes_at : Option Location → Operation → Bool
writes_at None o = false
writes_at (Some l) o = writes (is_part l) o

-- the access would write into what is lent at the address, or deallocate it: it concerns its own location, whatever the row of that has
abbrev pub disturbs : List Source → ValueId → Access → Bool
disturbs sources address (Ends v) = false
disturbs sources address (Begins v) = false
disturbs sources address (Allocates v) = false
disturbs sources address (Deallocates v) = do_overlap sources v address
disturbs sources address (Given v content) = false
disturbs sources address (Does x) = writes_at (location_of sources x.address) x.operation && do_overlap sources x.address address
disturbs sources address (Mentions v a) = false

abbrev pub disturbed_mark : Bool → Option Mark
disturbed_mark test = when test (needs_off rule.WriteWhileBorrowed)

abbrev pub loan_mark : List Source → ValueId → ValueId → Access → Option Mark
loan_mark sources scope address (Ends v) = when (is_same v scope) (turns_off rule.WriteWhileBorrowed)
loan_mark sources scope address (Begins v) = when (is_same v scope) (turns_on rule.WriteWhileBorrowed)
loan_mark sources scope address (Allocates v) = None
loan_mark sources scope address (Deallocates v) = disturbed_mark (disturbs sources address (Deallocates v))
loan_mark sources scope address (Given v content) = None
loan_mark sources scope address (Does x) = disturbed_mark (disturbs sources address (Does x))
loan_mark sources scope address (Mentions v a) = None

abbrev pub shown_root : List Source → Option Location → Option ValueId
shown_root sources None = None
shown_root sources (Some l) = Some (cell_of sources l.root).subject

-- the root at which an access is
abbrev pub root_of : List Source → Access → Option ValueId
root_of sources (Ends v) = None
root_of sources (Begins v) = None
root_of sources (Allocates v) = None
root_of sources (Deallocates v) = shown_root sources (location_of sources v)
root_of sources (Given v content) = None
root_of sources (Does x) = shown_root sources (location_of sources x.address)
root_of sources (Mentions v a) = None

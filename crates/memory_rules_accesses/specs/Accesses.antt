-- What an item does to memory and to the values that are lent, step by step.
use Rattle.std.specs.Prelude.{List, [], ◌∷◌, ◌++◌, cond, map, slice_index_or, Option, Some, None}
use Rattle.std.specs.List.{flat_map}
use Rattle.instruction_table.specs.Forms.{number_of}
use Rattle.sil_ast.specs.declared.function.Function.{Function}
use Rattle.sil_ast.specs.declared.inst.Inst.{Inst}
use Rattle.instruction_table.specs.declared.op.Op.{Op}
use Rattle.sil_ast.specs.declared.place.ValueId.{ValueId}
use Rattle.sil_cfg.specs.declared.item.Item.{Item}
use Rattle.sil_cfg_items.specs.Items.{item_defined, item_taken}
use Rattle.sil_cfg_items.specs.Parts.{item_inst}
use Rattle.sil_cfg_items.specs.declared.taken.Taken.{Taken}
use Rattle.ownership_kinds_chains.specs.declared.ownership_chains.facts.Facts.{Facts}
use Rattle.ownership_kinds_chains.specs.OwnershipMarks.Marks.{marks_of}
use Rattle.ownership_kinds_chains.specs.declared.ownership_marks.mark.Mark.{Mark}
use Rattle.ownership_kinds_chains.specs.declared.ownership_marks.mark.MarkSort.{MarkSort}
use Rattle.ownership_kinds_chains.specs.declared.ownership_marks.mark.MarkSort.TheVariants as sort
use Rattle.memory_rules_accesses.specs.declared.access.Access.{Access}
use Rattle.memory_rules_accesses.specs.declared.access.Access.TheVariants.{Ends, Begins, Allocates, Deallocates, Given, Does, Mentions}
use Rattle.memory_rules_accesses.specs.declared.columns.Allowance.{Allowance}
use Rattle.memory_rules_accesses.specs.declared.columns.Allowance.TheVariants.{NeitherOfThem}
use Rattle.memory_rules_accesses.specs.declared.columns.TheConstants.{ALLOWANCES}
use Rattle.memory_rules_accesses.specs.declared.source.Source.{Source}
use Rattle.memory_rules_accesses.specs.declared.source.Source.TheVariants as source
use Rattle.memory_rules_accesses.specs.Operations.{addresses_of, deallocates, operations_of}
use Rattle.memory_rules_accesses.specs.Sources.{source_at}

-- which unfinished objects an instruction takes, by its row
abbrev pub allowance_of : Op → Allowance
allowance_of o = slice_index_or ALLOWANCES (number_of o) NeitherOfThem

abbrev pub ends_by : ValueId → MarkSort → List Access
ends_by v sort.End = Ends v ∷ []
ends_by v sort.Use = []
ends_by v sort.Begin = []

abbrev pub begins_by : ValueId → MarkSort → List Access
begins_by v sort.End = []
begins_by v sort.Use = []
begins_by v sort.Begin = Begins v ∷ []

abbrev pub ended : Mark → List Access
ended m = ends_by m.subject m.sort

abbrev pub begun : Mark → List Access
begun m = begins_by m.subject m.sort

abbrev pub mentioned : Allowance → Taken → Access
mentioned a t = Mentions t.value a

-- the operand of a `dealloc_stack` isn't mentioned
abbrev pub mentions_of : Option Inst → List Taken → List Access
mentions_of None taken = []
mentions_of (Some i) taken = cond (deallocates i) [] (map (mentioned (allowance_of i.op)) taken)

abbrev pub does_of : Option Inst → List Access
does_of None = []
does_of (Some i) = map Does (operations_of i)

-- the operand of a `dealloc_stack`, whether it is a slot or not
abbrev pub deallocations_of : Option Inst → List Access
deallocations_of None = []
deallocations_of (Some i) = cond (deallocates i) (map Deallocates (addresses_of i)) []

abbrev pub made_by : ValueId → Source → List Access
made_by v (source.Slot trivial) = Allocates v ∷ []
made_by v (source.Argument row trivial) = Given v row.before ∷ []
made_by v (source.Object fields) = Allocates v ∷ []
made_by v (source.Borrow of) = []
made_by v (source.Upcast of) = []
made_by v (source.Loan of) = []
made_by v (source.Field of k trivial) = []
made_by v (source.Part of k) = []
made_by v source.Other = []

-- a slot and an object are allocated where they are defined, and an argument is given, full or empty
abbrev pub made : List Source → ValueId → List Access
made sources v = made_by v (source_at sources v)

-- what an item with these marks does: values that end, operands, what is done to locations, what is deallocated, what is allocated, values that begin
abbrev pub accesses_with : List Source → List Mark → Function → Item → List Access
accesses_with sources marks f item =
    flat_map ended marks ++ (mentions_of (item_inst f item) (item_taken f item) ++ (does_of (item_inst f item) ++ (deallocations_of (item_inst f item)
    ++ (flat_map (made sources) (item_defined f item) ++ flat_map begun marks))))

-- what the item does, by the marks that it has where the values have these facts
abbrev pub accesses_of : List Source → (ValueId → Option Facts) → Function → Item → List Access
accesses_of sources facts f item = accesses_with sources (marks_of facts f item) f item

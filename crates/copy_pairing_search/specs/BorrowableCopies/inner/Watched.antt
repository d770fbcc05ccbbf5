-- The table of some values: where they begin and end, and the marks at which none of them may be held.
use Rattle.std.specs.Prelude.{List, [], ◌++◌, cond, map, Option, Some, None}
use Rattle.std.specs.List.{flat_map}
use Rattle.sil_ast.specs.declared.function.Function.{Function}
use Rattle.sil_ast.specs.declared.place.ValueId.{ValueId}
use Rattle.sil_cfg.specs.declared.item.Item.{Item}
use Rattle.reach_engine_marks.specs.declared.path_checks.entry.Entry.{Entry}
use Rattle.reach_engine_marks.specs.PathChecks.inner.Shared.{entry_if}
use Rattle.reach_engine_marks.specs.PathPatterns.Marks.{needs_off, turns_off, turns_on}
use Rattle.reach_engine_marks.specs.declared.path_patterns.mark.Mark as pattern
use Rattle.sil_rules.specs.declared.rule.Rule.TheVariants.{ConsumedWhileBorrowed}
use Rattle.ownership_kinds_chains.specs.OwnershipChains.Facts.{has}
use Rattle.ownership_kinds_chains.specs.declared.ownership_chains.facts.Facts.{Facts}
use Rattle.ownership_kinds_chains.specs.OwnershipMarks.Marks.{marks_of}
use Rattle.ownership_kinds_chains.specs.declared.ownership_marks.mark.Mark.{Mark}
use Rattle.ownership_kinds_chains.specs.declared.ownership_marks.mark.MarkSort.{MarkSort}
use Rattle.ownership_kinds_chains.specs.declared.ownership_marks.mark.MarkSort.TheVariants.{End, Use, Begin}
use Rattle.copy_pairing_model.specs.Removable.{is_mark}

-- the value isn't held
abbrev pub off_entry : ValueId → Entry
off_entry v = record { subject = v.0; mark = needs_off ConsumedWhileBorrowed }

-- a begin turns the value's switch on, and an end turns it off
abbrev pub turned_by : MarkSort → Option pattern.Mark
turned_by End = Some (turns_off ConsumedWhileBorrowed)
turned_by Use = None
turned_by Begin = Some (turns_on ConsumedWhileBorrowed)

-- the turn of the mark's own value, if it is one of those that the table follows
abbrev pub turn_entries : List ValueId → Mark → List Entry
turn_entries held m = cond (has held m.subject.0) (entry_if m.subject.0 (turned_by m.sort)) []

module _ (sort : MarkSort) (values held : List ValueId) where
  -- where the mark is one of those, none of the values is held
  abbrev pub off_entries : Mark → List Entry
  off_entries m = cond (is_mark sort values m) (map off_entry held) []

  abbrev pub entries_by : Mark → List Entry
  entries_by m = off_entries m ++ turn_entries held m

  -- what the item does to the values
  abbrev pub watched_of : (ValueId → Option Facts) → Function → Item → List Entry
  watched_of facts f item = flat_map entries_by (marks_of facts f item)

-- What an item does to the Owned values: they end, are used and begin, and at a `return` none is left.
-- A value's switch is on while it lives.
use Rattle.std.specs.Prelude.{ℕ, List, [], ◌∷◌, ◌++◌, Bool, true, false, cond, Option, Some, None}
use Rattle.std.specs.List.{flat_map, range_with_len}
use Rattle.sil_ast.specs.declared.function.Function.{Function}
use Rattle.sil_ast.specs.declared.place.ValueId.{ValueId}
use Rattle.sil_cfg.specs.declared.item.Item.{Item}
use Rattle.sil_cfg.specs.Returns.{is_return}
use Rattle.reach_engine_marks.specs.declared.path_checks.entry.Entry as entry
use Rattle.reach_engine_marks.specs.PathPatterns.Marks.{needs_off, needs_off_turns_on, needs_on, needs_on_turns_off}
use Rattle.reach_engine_marks.specs.declared.path_patterns.mark.Mark as pattern
use Rattle.sil_rules.specs.declared.rule.Rule.TheVariants as rule
use Rattle.ownership_kinds_chains.specs.OwnershipChains.Facts.{is_owned, known_or, value_of}
use Rattle.ownership_kinds_chains.specs.declared.ownership_chains.facts.Facts.{Facts}
use Rattle.ownership_kinds_chains.specs.OwnershipMarks.Marks.{marks_of}
use Rattle.ownership_kinds_chains.specs.declared.ownership_marks.mark.Mark as mark
use Rattle.ownership_kinds_chains.specs.declared.ownership_marks.mark.MarkSort.{MarkSort}
use Rattle.ownership_kinds_chains.specs.declared.ownership_marks.mark.MarkSort.TheVariants.{End, Use, Begin}

-- a use needs the value alive. An end does too, and ends it. A begin needs it not alive, and begins it. At a `return` it is not alive
abbrev pub turned_by : MarkSort → pattern.Mark
turned_by Use = needs_on rule.UseAfterConsume
turned_by End = needs_on_turns_off rule.DoubleConsume
turned_by Begin = needs_off_turns_on rule.Overwritten

abbrev pub entry_of : mark.Mark → entry.Entry
entry_of m = record { subject = m.subject.0; mark = turned_by m.sort }

abbrev pub left_at_return : ℕ → entry.Entry
left_at_return n = record { subject = n; mark = needs_off rule.Leak }

module _ (facts : ValueId → Facts) where
  -- a mark of an Owned value
  abbrev pub lives_by : mark.Mark → List entry.Entry
  lives_by m = cond (is_owned (facts m.subject).kind) (entry_of m ∷ []) []

  -- an Owned value is not left at a `return`
  abbrev pub leaves : ℕ → List entry.Entry
  leaves n = cond (is_owned (facts (value_of n)).kind) (left_at_return n ∷ []) []

  -- the mark that every `return` has for the value, none where it isn't Owned
  abbrev pub left_mark : ℕ → Option pattern.Mark
  left_mark n = cond (is_owned (facts (value_of n)).kind) (Some (left_at_return n).mark) None

  abbrev pub returned : ℕ → Bool → List entry.Entry
  returned count true = flat_map leaves (range_with_len 0 count)
  returned count false = []

-- what the item does to the Owned values, of so many values with these facts
abbrev pub lives_of : ℕ → (ValueId → Option Facts) → Function → Item → List entry.Entry
lives_of count facts f item = flat_map (lives_by (known_or facts)) (marks_of facts f item) ++ returned (known_or facts) count (is_return f item)

-- What an item does to the scopes: they end, are used and begin, none is open where a value that it borrows from ends,
-- and none is left at a `return`. A scope's switch is on while it is open.
use Rattle.std.specs.Prelude.{ℕ, List, [], ◌∷◌, ◌++◌, Bool, true, false, ◌&&◌, cond, Option, Some, None}
use Rattle.std.specs.List.{flat_map, range_with_len}
use Rattle.sil_ast.specs.declared.function.Function.{Function}
use Rattle.sil_ast.specs.declared.place.ValueId.{ValueId}
use Rattle.sil_cfg.specs.Returns.{is_return}
use Rattle.sil_cfg.specs.declared.item.Item.{Item}
use Rattle.reach_engine_marks.specs.declared.path_checks.entry.Entry as entry
use Rattle.reach_engine_marks.specs.PathPatterns.Marks.{needs_off, needs_off_turns_on, needs_on, needs_on_turns_off}
use Rattle.reach_engine_marks.specs.declared.path_patterns.mark.Mark as pattern
use Rattle.sil_rules.specs.declared.rule.Rule.TheVariants as rule
use Rattle.ownership_kinds_chains.specs.OwnershipChains.Facts.{has, is_guaranteed, known_or, value_of}
use Rattle.ownership_kinds_chains.specs.declared.ownership_chains.facts.Facts.{Facts}
use Rattle.numbered_form.specs.ValueTables.Borrows.{is_borrow, lent_by}
use Rattle.ownership_kinds_chains.specs.OwnershipMarks.Marks.{marks_of}
use Rattle.ownership_kinds_chains.specs.declared.ownership_marks.mark.Mark as mark
use Rattle.ownership_kinds_chains.specs.declared.ownership_marks.mark.MarkSort.{MarkSort}
use Rattle.ownership_kinds_chains.specs.declared.ownership_marks.mark.MarkSort.TheVariants.{End, Use, Begin}

-- a use needs the scope open. An end does too, and closes it. A begin needs it not open, and opens it.
-- At a `return` it is not open, nor is it where a base of what it borrows ends
abbrev pub turned_by : MarkSort → pattern.Mark
turned_by Use = needs_on rule.UseOutsideScope
turned_by End = needs_on_turns_off rule.EndTwice
turned_by Begin = needs_off_turns_on rule.ScopeOverwritten

abbrev pub entry_of : mark.Mark → entry.Entry
entry_of m = record { subject = m.subject.0; mark = turned_by m.sort }

abbrev pub left_at_return : ℕ → entry.Entry
left_at_return n = record { subject = n; mark = needs_off rule.ScopeLeft }

abbrev pub lost_at_end : ℕ → entry.Entry
lost_at_end n = record { subject = n; mark = needs_off rule.ConsumedWhileBorrowed }

-- the bases of a value, if there is one
abbrev pub bases_in : (ValueId → Facts) → Option ValueId → List ValueId
bases_in facts None = []
bases_in facts (Some v) = (facts v).bases

module _ (f : Function) (facts : ValueId → Facts) where
  -- the value is the result of a borrow itself, and Guaranteed
  abbrev pub is_scope : ValueId → Bool
  is_scope v = is_guaranteed (facts v).kind && is_borrow f v

  -- a mark of a scope
  abbrev pub scope_entries : mark.Mark → List entry.Entry
  scope_entries m = cond (is_scope m.subject) (entry_of m ∷ []) []

  -- the bases of the value that the one with this number lends
  abbrev pub lent_bases : ℕ → List ValueId
  lent_bases n = bases_in facts (lent_by f n)

  -- where a base ends, no scope that borrows from it is open
  abbrev pub lost_from : ValueId → ℕ → List entry.Entry
  lost_from b n = cond (has (lent_bases n) b.0) (lost_at_end n ∷ []) []

  abbrev pub lost_with : ℕ → ValueId → MarkSort → List entry.Entry
  lost_with count v End = flat_map (lost_from v) (range_with_len 0 count)
  lost_with count v Use = []
  lost_with count v Begin = []

  abbrev pub lost_entries : ℕ → mark.Mark → List entry.Entry
  lost_entries count m = lost_with count m.subject m.sort

  -- a mark, as it is to the scope itself and to those that borrow from its subject
  abbrev pub mark_entries : ℕ → mark.Mark → List entry.Entry
  mark_entries count m = scope_entries m ++ lost_entries count m

  -- a scope is not left at a `return`
  abbrev pub leaves : ℕ → List entry.Entry
  leaves n = cond (is_scope (value_of n)) (left_at_return n ∷ []) []

  abbrev pub returned : ℕ → Bool → List entry.Entry
  returned count true = flat_map leaves (range_with_len 0 count)
  returned count false = []

-- what the item does to the scopes, of so many values with these facts
abbrev pub scopes_of : ℕ → (ValueId → Option Facts) → Function → Item → List entry.Entry
scopes_of count facts f item = flat_map (mark_entries f (known_or facts) count) (marks_of facts f item) ++ returned f (known_or facts) count (is_return f item)

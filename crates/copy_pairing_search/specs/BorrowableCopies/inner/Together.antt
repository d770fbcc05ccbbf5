-- The table of all copies of a function: where each begins and ends, and where a base of what it copies ends.
use Rattle.std.specs.Prelude.{◌≡◌, ◌↔◌, ℕ, ◌<◌, List, [], ◌∷◌, ◌++◌, Bool, false, cond, map, is_some, slice_index_or, slice_set, Option, Some, None}
use Rattle.sil_ast.specs.declared.function.Function.{Function}
use Rattle.sil_ast.specs.declared.place.PointId.{PointId}
use Rattle.sil_ast.specs.declared.place.ValueId.{ValueId}
use Rattle.sil_rules.specs.declared.rule.Rule.TheVariants.{ConsumedWhileBorrowed}
use Rattle.reach_engine_marks.specs.declared.path_checks.entry.Entry.{Entry}
use Rattle.reach_engine_marks.specs.PathChecks.inner.Shared.{entry_if, shared_from}
use Rattle.reach_engine_marks.specs.PathPatterns.Marks.{needs_off}
use Rattle.reach_engine_marks.specs.declared.path_patterns.mark.Mark as pattern
use Rattle.ownership_kinds_chains.specs.OwnershipChains.Facts.{has, known_or}
use Rattle.ownership_kinds_chains.specs.declared.ownership_chains.facts.Facts.{Facts}
use Rattle.ownership_kinds_chains.specs.OwnershipMarks.Known.{Known, facts_of}
use Rattle.ownership_kinds_chains.specs.declared.ownership_marks.mark.Mark.{Mark}
use Rattle.ownership_kinds_chains.specs.declared.ownership_marks.mark.MarkSort.TheVariants.{End}
use Rattle.copy_pairing_model.specs.Copies.{IsCopy}
use Rattle.copy_pairing_model.specs.Removable.{is_sort}
use Rattle.copy_pairing_search.specs.declared.borrowable_copies.copies.Copied.{Copied}
use Rattle.copy_pairing_search.specs.BorrowableCopies.inner.Asked.{AreFreeAt}
use Rattle.copy_pairing_search.specs.BorrowableCopies.inner.Watched.{turned_by}

-- what the copy that makes the value with this number copies, if one does
abbrev pub operand_in : List (Option ValueId) → ℕ → Option ValueId
operand_in copied c = slice_index_or copied c None

-- what is told to be a copy is one
abbrev pub AreCopies : Function → List (Option ValueId) → Type 0
AreCopies f copied = (c w : ValueId) → operand_in copied c.0 ≡ Some w → (p : PointId) × IsCopy f p c w

-- what is told with the copy of one item more
abbrev pub with_copied : Option Copied → List (Option ValueId) → List (Option ValueId)
with_copied None copied = copied
with_copied (Some x) copied = slice_set copied x.value.0 (Some x.operand)

-- where a value ends that is a base of the operand, a copy of it isn't held
abbrev pub off_if : Known → ValueId → Option ValueId → Option pattern.Mark
off_if k ended None = None
off_if k ended (Some w) = cond (has (facts_of k w).bases ended.0) (Some (needs_off ConsumedWhileBorrowed)) None

-- the turn of the mark's own value, if a copy makes it
abbrev pub turn_of : List (Option ValueId) → Mark → List Entry
turn_of copied m = cond (is_some (operand_in copied m.subject.0)) (entry_if m.subject.0 (turned_by m.sort)) []

module _ (k : Known) (copied : List (Option ValueId)) where
  abbrev pub off_of : Mark → List Entry
  off_of m = cond (is_sort End m.sort) (shared_from 0 (map (off_if k m.subject) copied)) []

  abbrev pub entries_of : Mark → List Entry
  entries_of m = off_of m ++ turn_of copied m

-- of each copy, among the first 1,024 values, it is told whether on no walk it is held where a base of what it copies ends
abbrev pub AreFound : (ValueId → Option Facts) → Function → List (Option ValueId) → List Bool → Type 0
AreFound facts f copied held = (c w : ValueId) → c.0 < 1024 → operand_in copied c.0 ≡ Some w
    → (slice_index_or held c.0 false ≡ false) ↔ AreFreeAt facts f End (known_or facts w).bases (c ∷ [])

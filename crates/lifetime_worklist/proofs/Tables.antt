-- Entries by facts that are the same, and the lives from an item's own marks and the shared ones of a `return`.
use Rattle.std.proofs.Common.{◌≡◌, ℕ, List, [], ◌∷◌, ◌++◌, length, map, refl, ap, ap₂, ◌∙◌, Bool, true, false, cond, Option, Some}
use Rattle.std.specs.List.{flat_map, range_with_len}
use Rattle.reach_engine_marks.proofs.PathChecks.PickedMarks.{shared_picked}
use Rattle.reach_engine_marks.specs.declared.path_checks.entry.Entry.{Entry}
use Rattle.reach_engine_marks.specs.PathChecks.inner.Shared.{entries_with, is_sharing, shared_if}
use Rattle.number_tables.specs.PathLists.inner.Lists.{list_at}
use Rattle.reach_engine_marks.specs.PathPatterns.inner.Reads.{AgreesWith}
use Rattle.reach_engine_marks.specs.declared.path_patterns.mark.Mark as pattern
use Rattle.sil_ast.specs.declared.function.Function.{Function}
use Rattle.sil_ast.specs.declared.place.ValueId.{ValueId}
use Rattle.sil_cfg.specs.Layout.{Layout, item_at}
use Rattle.sil_cfg.specs.Returns.{is_return}
use Rattle.sil_cfg.specs.declared.item.Item.{Item}
use Rattle.ownership_kinds_chains.specs.OwnershipChains.Facts.{is_owned, known_or, value_of}
use Rattle.ownership_kinds_chains.specs.declared.ownership_chains.facts.Facts.{Facts}
use Rattle.ownership_kinds_chains.proofs.OwnershipMarks.MarkTables.{flat_map_same}
use Rattle.ownership_kinds_chains.specs.OwnershipMarks.Known.{AreKindsBy, Known, facts_of, marks_at}
use Rattle.ownership_kinds_chains.specs.declared.ownership_marks.mark.Mark.{Mark}
use Rattle.lifetime_worklist.specs.Lives.{entry_of, leaves, left_at_return, left_mark, lives_by, lives_of, returned}

module _ (a b : ValueId → Facts) (same : (v : ValueId) → a v ≡ b v) where
  same_life : (m : Mark) → lives_by a m ≡ lives_by b m
  same_life m = ap (λ f. cond (is_owned f.kind) (entry_of m ∷ []) []) (same m.subject)

  same_leave : (n : ℕ) → leaves a n ≡ leaves b n
  same_leave n = ap (λ f. cond (is_owned f.kind) (left_at_return n ∷ []) []) (same (value_of n))

  pub same_lives : (marks : List Mark) → flat_map (lives_by a) marks ≡ flat_map (lives_by b) marks
  same_lives marks = flat_map_same (lives_by a) (lives_by b) same_life marks

  pub same_returned : (n : ℕ) (returns : Bool) → returned a n returns ≡ returned b n returns
  same_returned n true = flat_map_same (leaves a) (leaves b) same_leave (range_with_len 0 n)
  same_returned n false = refl

module _ (facts : ValueId → Facts) where
  -- the shared entries are those that a `return` has
  pub shared_returned : (count : ℕ) (returns : Bool) → shared_if (map (left_mark facts) (range_with_len 0 count)) returns ≡ returned facts count returns
  shared_returned count true = shared_picked (λ n. is_owned (facts (value_of n)).kind) (left_at_return 0).mark 0 count
  shared_returned count false = refl

-- what items do by their own marks and at a `return` are their lives
pub lives_agree : (f : Function) (g : Layout) (k : Known) (own : List (List Entry)) (marks : List (Option pattern.Mark)) (sharing : List Bool) →
    ((n : ℕ) (item : Item) → item_at g n ≡ Some item → list_at own n ≡ flat_map (lives_by (facts_of k)) (marks_at k n)) →
    marks ≡ map (left_mark (facts_of k)) (range_with_len 0 (length k.table)) →
    ((n : ℕ) (item : Item) → item_at g n ≡ Some item → is_sharing sharing n ≡ is_return f item) →
    (count : ℕ) (facts : ValueId → Option Facts) → AreKindsBy count facts f g k → AgreesWith g (entries_with own marks sharing) (lives_of count facts f)
lives_agree f g k own marks sharing own_are marks_are sharing_are count facts by n item e =
    ap₂ (λ x y. x ++ y)
    (own_are n item e ∙ same_lives (facts_of k) (known_or facts) by.facts_are (marks_at k n) ∙ ap (flat_map (lives_by (known_or facts))) (by.marks_are n item e))
    (ap₂ (λ m b. shared_if m b) marks_are (sharing_are n item e) ∙ shared_returned (facts_of k) (length k.table) (is_return f item)
    ∙ same_returned (facts_of k) (known_or facts) by.facts_are (length k.table) (is_return f item)
    ∙ ap (λ size. returned (known_or facts) size (is_return f item)) by.size)

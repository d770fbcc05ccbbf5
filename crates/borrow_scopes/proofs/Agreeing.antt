-- The entries by tables are those of the scopes.
use Rattle.std.proofs.Common.{◌≡◌, ℕ, List, [], ◌∷◌, ◌++◌, length, map, refl, ap, ap₂, ◌∙◌, Bool, true, false, cond, Option, Some, None}
use Rattle.std.specs.Prelude.{◌&&◌, filter}
use Rattle.std.specs.List.{flat_map, range_with_len}
use Rattle.std.specs.declared.alloc.Global.{Global}
use Rattle.std.specs.declared.vec.Vec.{Vec}
use Rattle.reach_engine_marks.proofs.PathChecks.PickedMarks.{shared_picked}
use Rattle.reach_engine_marks.specs.declared.path_checks.entry.Entry.{Entry}
use Rattle.reach_engine_marks.specs.PathChecks.inner.Shared.{entries_with, is_sharing, shared_if}
use Rattle.number_tables.specs.PathLists.inner.Lists.{list_at}
use Rattle.reach_engine_marks.specs.PathPatterns.inner.Reads.{AgreesWith}
use Rattle.reach_engine_marks.specs.declared.path_patterns.mark.Mark as pattern
use Rattle.sil_ast.specs.declared.function.Function.{Function}
use Rattle.sil_ast.specs.declared.place.ValueId.{ValueId}
use Rattle.sil_cfg.specs.Layout.{Layout, item_at}
use Rattle.sil_cfg.specs.Returns.{is_return}
use Rattle.sil_cfg.specs.declared.item.Item.{Item}
use Rattle.ownership_kinds_chains.specs.OwnershipChains.Facts.{has, is_guaranteed, known_or, value_of}
use Rattle.ownership_kinds_chains.specs.declared.ownership_chains.facts.Facts.{Facts}
use Rattle.numbered_form.specs.ValueTables.Borrows.{borrows_of, is_borrow, lent_by}
use Rattle.ownership_kinds_chains.proofs.OwnershipMarks.MarkTables.{flat_map_same}
use Rattle.ownership_kinds_chains.specs.OwnershipMarks.Known.{AreKindsBy, Known, facts_of, marks_at}
use Rattle.ownership_kinds_chains.specs.declared.ownership_marks.mark.Mark.{Mark}
use Rattle.ownership_kinds_chains.specs.declared.ownership_marks.mark.MarkSort.{MarkSort}
use Rattle.ownership_kinds_chains.specs.declared.ownership_marks.mark.MarkSort.TheVariants.{End, Use, Begin}
use Rattle.borrow_scopes.specs.Scopes.{bases_in, entry_of, is_scope, leaves, left_at_return, lent_bases, lost_at_end, lost_from, lost_with, mark_entries, returned, scope_entries, scopes_of}
use Rattle.borrow_scopes.specs.inner.Tables.{borrowers_at, borrowers_of, left_mark, lost_at, mark_entries_in}

pub same_bases : (a b : ValueId → Facts) → ((v : ValueId) → a v ≡ b v) → (o : Option ValueId) → bases_in a o ≡ bases_in b o
same_bases a b same None = refl
same_bases a b same (Some v) = ap (λ f. f.bases) (same v)

module _ (f : Function) (a b : ValueId → Facts) (same : (v : ValueId) → a v ≡ b v) where
  same_scope : (v : ValueId) → is_scope f a v ≡ is_scope f b v
  same_scope v = ap (λ x. is_guaranteed x.kind && is_borrow f v) (same v)

  same_lost : (v : ValueId) (n : ℕ) → lost_from f a v n ≡ lost_from f b v n
  same_lost v n = ap (λ bases. cond (has bases v.0) (lost_at_end n ∷ []) []) (same_bases a b same (lent_by f n))

  same_lost_with : (count : ℕ) (v : ValueId) (sort : MarkSort) → lost_with f a count v sort ≡ lost_with f b count v sort
  same_lost_with count v End = flat_map_same (lost_from f a v) (lost_from f b v) (same_lost v) (range_with_len 0 count)
  same_lost_with count v Use = refl
  same_lost_with count v Begin = refl

  same_mark : (count : ℕ) (m : Mark) → mark_entries f a count m ≡ mark_entries f b count m
  same_mark count m = ap₂ (λ x y. x ++ y) (ap (λ s. cond s (entry_of m ∷ []) []) (same_scope m.subject)) (same_lost_with count m.subject m.sort)

  same_leave : (n : ℕ) → leaves f a n ≡ leaves f b n
  same_leave n = ap (λ s. cond s (left_at_return n ∷ []) []) (same_scope (value_of n))

  pub same_marked : (count : ℕ) (marks : List Mark) → flat_map (mark_entries f a count) marks ≡ flat_map (mark_entries f b count) marks
  same_marked count marks = flat_map_same (mark_entries f a count) (mark_entries f b count) (same_mark count) marks

  pub same_returned : (n : ℕ) (returns : Bool) → returned f a n returns ≡ returned f b n returns
  same_returned n true = flat_map_same (leaves f a) (leaves f b) same_leave (range_with_len 0 n)
  same_returned n false = refl

module _ (f : Function) (facts : ValueId → Facts) where
  -- the shared entries are those that a `return` has
  pub shared_returned : (count : ℕ) (returns : Bool) → shared_if (map (left_mark (borrows_of f) facts) (range_with_len 0 count)) returns ≡ returned f facts count returns
  shared_returned count true = shared_picked (λ n. is_scope f facts (value_of n)) (left_at_return 0).mark 0 count
  shared_returned count false = refl

lost_either : (n : ℕ) (found : List ℕ) (rest : List Entry) (b : Bool) → map lost_at_end found ≡ rest → map lost_at_end (cond b (n ∷ found) found) ≡ cond b (lost_at_end n ∷ []) [] ++ rest
lost_either n found rest true e = ap (λ v. lost_at_end n ∷ v) e
lost_either n found rest false e = e

lost_picked : (p : ℕ → Bool) (ns : List ℕ) → map lost_at_end (filter p ns) ≡ flat_map (λ n. cond (p n) (lost_at_end n ∷ []) []) ns
lost_picked p [] = refl
lost_picked p (n ∷ ns) = lost_either n (filter p ns) (flat_map (λ n. cond (p n) (lost_at_end n ∷ []) []) ns) (p n) (lost_picked p ns)

module _ (f : Function) (facts : ValueId → Facts) (count : ℕ) (rows : List (Vec ℕ Global)) (all : (base : ℕ) → borrowers_at rows base ≡ borrowers_of facts (borrows_of f) count base) where
  lost_of_rows : (v : ValueId) (sort : MarkSort) → lost_at (borrowers_at rows v.0) sort ≡ lost_with f facts count v sort
  lost_of_rows v End = ap (map lost_at_end) (all v.0) ∙ lost_picked (λ n. has (lent_bases f facts n) v.0) (range_with_len 0 count)
  lost_of_rows v Use = refl
  lost_of_rows v Begin = refl

  mark_by_tables : (m : Mark) → mark_entries_in (borrows_of f) facts rows m ≡ mark_entries f facts count m
  mark_by_tables m = ap (λ v. scope_entries f facts m ++ v) (lost_of_rows m.subject m.sort)

  pub marks_by_tables : (marks : List Mark) → flat_map (mark_entries_in (borrows_of f) facts rows) marks ≡ flat_map (mark_entries f facts count) marks
  marks_by_tables marks = flat_map_same (mark_entries_in (borrows_of f) facts rows) (mark_entries f facts count) mark_by_tables marks

-- what items do by their own marks, read by tables, and at a `return` is what they do to the scopes
pub scopes_agree : (f : Function) (g : Layout) (k : Known) (rows : List (Vec ℕ Global)) (own : List (List Entry)) (marks : List (Option pattern.Mark)) (sharing : List Bool) →
    ((base : ℕ) → borrowers_at rows base ≡ borrowers_of (facts_of k) (borrows_of f) (length k.table) base) →
    ((n : ℕ) (item : Item) → item_at g n ≡ Some item → list_at own n ≡ flat_map (mark_entries_in (borrows_of f) (facts_of k) rows) (marks_at k n)) →
    marks ≡ map (left_mark (borrows_of f) (facts_of k)) (range_with_len 0 (length k.table)) →
    ((n : ℕ) (item : Item) → item_at g n ≡ Some item → is_sharing sharing n ≡ is_return f item) →
    (count : ℕ) (facts : ValueId → Option Facts) → AreKindsBy count facts f g k → AgreesWith g (entries_with own marks sharing) (scopes_of count facts f)
scopes_agree f g k rows own marks sharing rows_are own_are marks_are sharing_are count facts by n item e =
    ap₂ (λ x y. x ++ y)
    (own_are n item e ∙ marks_by_tables f (facts_of k) (length k.table) rows rows_are (marks_at k n)
    ∙ same_marked f (facts_of k) (known_or facts) by.facts_are (length k.table) (marks_at k n)
    ∙ ap₂ (λ size marks. flat_map (mark_entries f (known_or facts) size) marks) by.size (by.marks_are n item e))
    (ap₂ (λ m b. shared_if m b) marks_are (sharing_are n item e) ∙ shared_returned f (facts_of k) (length k.table) (is_return f item)
    ∙ same_returned f (facts_of k) (known_or facts) by.facts_are (length k.table) (is_return f item)
    ∙ ap (λ size. returned f (known_or facts) size (is_return f item)) by.size)

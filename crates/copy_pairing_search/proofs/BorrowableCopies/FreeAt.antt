-- The first fault of the table tells whether the values are held where the marks come.
use Rattle.std.proofs.Common.{◌≡◌, ℕ, List, [], ◌∷◌, ◌++◌, refl, sym, ap, ap₂, ◌∙◌, subst, Bool, true, false, cond, map, Option, Some, None}
use Rattle.std.specs.Prelude.{◌||◌, ◌==◌, ◌↔◌, IsTrue, filter_map, is_none, is_some, not}
use Rattle.std.specs.List.{cons_option, flat_map}
use Rattle.std.proofs.lemmas.Bool.{eqb-true}
use Rattle.std.proofs.lemmas.List.{append-nil}
use Rattle.std.proofs.lemmas.List.Elements.{filter_map-append}
use Rattle.sil_ast.specs.declared.function.Function.{Function}
use Rattle.sil_ast.specs.declared.place.ValueId.{ValueId}
use Rattle.sil_cfg.specs.Flow.{point_of}
use Rattle.sil_cfg.specs.Items.{flow_of}
use Rattle.sil_cfg.specs.Layout.{Layout, item_at}
use Rattle.sil_cfg.specs.declared.item.Item.{Item}
use Rattle.number_tables.specs.PathLists.inner.Lists.{list_at}
use Rattle.reach_engine_marks.specs.PathPatterns.Along.{IsKept, Shows}
use Rattle.reach_engine_marks.specs.PathPatterns.Lawful.{AreLawful}
use Rattle.reach_engine_marks.specs.PathPatterns.Switch.{IsInPlace, code_of}
use Rattle.reach_engine_marks.specs.PathPatterns.inner.Reads.{AgreesWith}
use Rattle.reach_engine_marks.specs.declared.path_patterns.mark.Mark as pattern
use Rattle.reach_engine_marks.specs.PathChecks.Entries.{marks_for, means}
use Rattle.reach_engine_marks.specs.PathChecks.First.{IsFirst}
use Rattle.reach_engine_marks.specs.declared.path_checks.entry.Entry.{Entry}
use Rattle.reach_engine_marks.specs.declared.path_checks.fault.PathFault.{PathFault}
use Rattle.reach_engine_marks.specs.PathChecks.inner.Shared.{entries_with, entry_if, if_sharing, is_sharing}
use Rattle.ownership_kinds_chains.specs.OwnershipChains.Facts.{has, value_of}
use Rattle.ownership_kinds_chains.specs.declared.ownership_chains.facts.Facts.{Facts}
use Rattle.ownership_kinds_chains.specs.OwnershipMarks.Known.{AreKindsBy, Known, marks_at}
use Rattle.ownership_kinds_chains.specs.OwnershipMarks.Marks.{marks_of}
use Rattle.ownership_kinds_chains.specs.declared.ownership_marks.mark.Mark.{Mark}
use Rattle.ownership_kinds_chains.specs.declared.ownership_marks.mark.MarkSort.{MarkSort}
use Rattle.copy_pairing_model.specs.Removable.{IsFreeAt, is_mark}
use Rattle.copy_pairing_search.specs.BorrowableCopies.inner.Asked.{AreFreeAt}
use Rattle.copy_pairing_search.specs.BorrowableCopies.inner.Watched.{entries_by, off_entries, off_entry, turn_entries, turned_by, watched_of}
use Rattle.copy_pairing_search.proofs.BorrowableCopies.KeptOnFunction.{kept, unkept}
use Rattle.copy_pairing_search.proofs.BorrowableCopies.WatchedMarks.{lawful_spared, table_along}

module _ (sort : MarkSort) (values held : List ValueId) (facts : ValueId → Option Facts) (f : Function) where
  abbrev table : Item → List Entry
  table = watched_of sort values held facts f

  pub free_kept : (h : ValueId) → has held h.0 ≡ true → IsFreeAt facts f sort values h ↔ IsKept (flow_of f) (marks_for h.0 table) IsInPlace
  free_kept h among = (
    λ free w trail is. subst (AreLawful IsInPlace) (sym (table_along sort values held h among facts f trail))
        ((lawful_spared sort values held h among (flat_map (marks_of facts f) trail)).1 (free w trail is)),
    λ all w trail is. (lawful_spared sort values held h among (flat_map (marks_of facts f) trail)).0
        (subst (AreLawful IsInPlace) (table_along sort values held h among facts f trail) (all w trail is)),
  )

  -- a subject that is none of the values has no marks

  no_off : (n : ℕ) (hs : List ValueId) → has hs n ≡ false → filter_map (means n) (map off_entry hs) ≡ []
  no_off n [] e = refl
  no_off n (v ∷ hs) e = at (v.0 == n) e (no_off n hs)
    where
      at : (own : Bool) → (own || has hs n) ≡ false → (has hs n ≡ false → filter_map (means n) (map off_entry hs) ≡ [])
          → cons_option (cond own (Some (off_entry v).mark) None) (filter_map (means n) (map off_entry hs)) ≡ []
      at true e next = absurd (let wrong : true ≡ false = e in cc)
      at false e next = next e

  no_entry : (n s : ℕ) (o : Option pattern.Mark) → (s == n) ≡ false → filter_map (means n) (entry_if s o) ≡ []
  no_entry n s None e = refl
  no_entry n s (Some mark) e = ap (λ own. cons_option (cond own (Some mark) None) []) e

  no_marks : (n : ℕ) → has held n ≡ false → (m : Mark) → filter_map (means n) (entries_by sort values held m) ≡ []
  no_marks n none m =
      filter_map-append (means n) (off_entries sort values held m) (turn_entries held m)
      ∙ ap₂ (λ x y. x ++ y) (offs (is_mark sort values m)) (turns (has held m.subject.0) refl (m.subject.0 == n) refl)
    where
      offs : (b : Bool) → filter_map (means n) (cond b (map off_entry held) []) ≡ []
      offs true = no_off n held none
      offs false = refl

      turns : (b : Bool) → has held m.subject.0 ≡ b → (own : Bool) → (m.subject.0 == n) ≡ own → filter_map (means n) (cond b (entry_if m.subject.0 (turned_by m.sort)) []) ≡ []
      turns false e own is = refl
      turns true e true is = absurd (let same : true ≡ false = sym e ∙ ap (has held) (eqb-true m.subject.0 n is) ∙ none in cc)
      turns true e false is = no_entry n m.subject.0 (turned_by m.sort) is

  none_among : (n : ℕ) → has held n ≡ false → (ms : List Mark) → filter_map (means n) (flat_map (entries_by sort values held) ms) ≡ []
  none_among n none [] = refl
  none_among n none (m ∷ ms) =
      filter_map-append (means n) (entries_by sort values held m) (flat_map (entries_by sort values held) ms) ∙ ap₂ (λ x y. x ++ y) (no_marks n none m) (none_among n none ms)

  nothing_in : (front rest : List pattern.Mark) (m : pattern.Mark) → [] ≡ front ++ m ∷ rest → ⊥
  nothing_in [] rest m e = cc
  nothing_in (x ∷ front) rest m e = cc

  pub decided : (r : Option PathFault) → IsFirst f table r → IsTrue (is_none r) ↔ AreFreeAt facts f sort values held
  decided None none = (λ t. free, λ all. refl)
    where
      free : AreFreeAt facts f sort values held
      free h among =
          (free_kept h among).1
          (kept f (marks_for h.0 table)
          (λ w code item shown. none h.0 shown.breaks.mark.rule w (point_of (flow_of f) item)
          (record {
            item = item;
            at = record { point_is = refl; shows = subst (λ c. Shows (flow_of f) (marks_for h.0 table) IsInPlace code_of w c item) shown.breaks.code_is shown };
          })))
  decided (Some fault) first = (λ t. absurd (let wrong : false ≡ true = t in cc), λ all. absurd (at all (has held fault.subject) refl))
    where
      at : AreFreeAt facts f sort values held → (b : Bool) → has held fault.subject ≡ b → ⊥
      at all true e =
          unkept f (marks_for fault.subject table) fault.walk _ fault.item first.0.shows ((free_kept (value_of fault.subject) e).0 (all (value_of fault.subject) e))
      at all false e =
          let b = first.0.shows.breaks in
          nothing_in b.front b.rest b.mark (sym (none_among fault.subject e (marks_of facts f fault.item)) ∙ b.parts)

-- whether no fault was found
pub decided_by : (sort : MarkSort) (values held : List ValueId) (facts : ValueId → Option Facts) (f : Function) (o : Option PathFault) → IsFirst f (watched_of sort values held facts f) o
    → (r : Bool) → is_some o ≡ not r → IsTrue r ↔ AreFreeAt facts f sort values held
decided_by sort values held facts f None first true e = decided sort values held facts f None first
decided_by sort values held facts f None first false e = absurd (let wrong : false ≡ true = e in cc)
decided_by sort values held facts f (Some fault) first true e = absurd (let wrong : true ≡ false = e in cc)
decided_by sort values held facts f (Some fault) first false e = decided sort values held facts f (Some fault) first

-- the table by numbers, with no shared entries, is that of the items
pub watched_agree : (sort : MarkSort) (values held : List ValueId) (f : Function) (g : Layout) (k : Known) (own : List (List Entry)) →
    ((n : ℕ) (item : Item) → item_at g n ≡ Some item → list_at own n ≡ flat_map (entries_by sort values held) (marks_at k n)) →
    (count : ℕ) (facts : ValueId → Option Facts) → AreKindsBy count facts f g k → AgreesWith g (entries_with own [] []) (watched_of sort values held facts f)
watched_agree sort values held f g k own own_are count facts by n item e =
    ap (λ v. list_at own n ++ v) (none (is_sharing [] n)) ∙ append-nil (list_at own n) ∙ own_are n item e ∙ ap (flat_map (entries_by sort values held)) (by.marks_are n item e)
  where
    none : (b : Bool) → if_sharing [] b ≡ []
    none true = refl
    none false = refl

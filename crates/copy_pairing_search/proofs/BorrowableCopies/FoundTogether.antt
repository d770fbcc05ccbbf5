-- The table of all copies has of each copy the marks that a table of that copy alone has; so their search tells of each copy what its own tells.
use Rattle.std.proofs.Common.{
  ◌≡◌,
  ◌≢◌,
  ◌⊎◌,
  inl,
  inr,
  ℕ,
  zero,
  suc,
  ◌+◌,
  ◌<◌,
  get_or,
  List,
  [],
  ◌∷◌,
  ◌++◌,
  length,
  refl,
  sym,
  ap,
  ap₂,
  ◌∙◌,
  subst,
  Bool,
  true,
  false,
  cond,
  map,
  take,
  Option,
  Some,
  None,
  arith,
  eq-eqb,
}
use Rattle.std.specs.Prelude.{◌&&◌, ◌||◌, ◌==◌, ◌↔◌, filter_map, is_some, option_map, option_to_list, replicate, unwrap_or}
use Rattle.std.specs.List.{cons_option, flat_map, slice_get}
use Rattle.std.proofs.lemmas.Bool.{cases_eq, ne_eqb}
use Rattle.std.proofs.lemmas.List.{append_assoc, length-map, length-take-le, map-append, take_more}
use Rattle.std.proofs.lemmas.List.Elements.{filter_map-append}
use Rattle.std.proofs.lemmas.Option.{slice_get-get_or, slice_get-map}
use Rattle.sil_ast.specs.declared.function.Function.{Function}
use Rattle.sil_ast.specs.declared.place.ValueId.{ValueId}
use Rattle.sil_cfg.specs.Flow.{numbered}
use Rattle.sil_cfg.specs.Layout.{IsSound, Layout, item_at, item_count}
use Rattle.sil_cfg.specs.declared.item.Item.{Item}
use Rattle.sil_cfg.specs.inner.Build.{IsGraphOf}
use Rattle.sil_rules.specs.declared.rule.Rule.TheVariants.{ConsumedWhileBorrowed}
use Rattle.number_tables.specs.PathLists.inner.Lists.{list_at}
use Rattle.reach_engine.specs.declared.scan.Step.TheVariants.{Go}
use Rattle.reach_engine.specs.inner.Search.{IsClean}
use Rattle.reach_engine.proofs.ItemsInRange.{last_below}
use Rattle.reach_engine_marks.specs.PathPatterns.Marks.{needs_off}
use Rattle.reach_engine_marks.specs.PathPatterns.Switch.{IsInPlace, code_of}
use Rattle.reach_engine_marks.specs.declared.path_patterns.mark.Mark as pattern
use Rattle.reach_engine_marks.specs.PathPatterns.inner.Automaton.{mark_step}
use Rattle.reach_engine_marks.specs.PathPatterns.inner.Reads.{AgreesWith}
use Rattle.reach_engine_marks.proofs.PathPatterns.GraphPatterns.{shown_back, shown_there}
use Rattle.reach_engine_marks.proofs.PathPatterns.MarksRead.{read_run}
use Rattle.reach_engine_marks.proofs.PathPatterns.PatternsDecided.{reached_shown, shown_reached}
use Rattle.reach_engine_marks.proofs.PathPatterns.SwitchDecided.{switch_decides}
use Rattle.reach_engine_marks.specs.PathChecks.Entries.{marks_for, means}
use Rattle.reach_engine_marks.specs.declared.path_checks.entry.Entry.{Entry}
use Rattle.reach_engine_marks.specs.PathChecks.inner.Automata.{subject_step}
use Rattle.reach_engine_marks.specs.PathChecks.inner.Shared.{entry_if, shared_from}
use Rattle.reach_engine_marks.proofs.PathChecks.OneSubject.{marks_shared}
use Rattle.reach_engine_marks.proofs.PathChecks.SharedMarks.{shared_more}
use Rattle.reach_engine_marks.specs.KeptSubjects.inner.Broken.{AreBroken, is_broken}
use Rattle.ownership_kinds_chains.specs.OwnershipChains.Facts.{has, known_or}
use Rattle.ownership_kinds_chains.specs.declared.ownership_chains.facts.Facts.{Facts}
use Rattle.ownership_kinds_chains.specs.OwnershipMarks.Known.{AreKindsBy, Known, facts_of, marks_at}
use Rattle.ownership_kinds_chains.specs.declared.ownership_marks.mark.Mark.{Mark}
use Rattle.ownership_kinds_chains.specs.declared.ownership_marks.mark.MarkSort.TheVariants.{End}
use Rattle.copy_pairing_model.specs.Removable.{is_sort}
use Rattle.copy_pairing_search.specs.BorrowableCopies.inner.Asked.{AreFreeAt}
use Rattle.copy_pairing_search.specs.BorrowableCopies.inner.Together.{entries_of, off_if, off_of, operand_in, turn_of}
use Rattle.copy_pairing_search.specs.BorrowableCopies.inner.Watched.{entries_by, off_entries, off_entry, turn_entries, turned_by, watched_of}
use Rattle.copy_pairing_search.proofs.BorrowableCopies.BorrowedCopies.{one_free}
use Rattle.copy_pairing_search.proofs.BorrowableCopies.FreeAt.{free_kept}
use Rattle.copy_pairing_search.proofs.BorrowableCopies.KeptOnFunction.{kept, unkept}

abbrev off : pattern.Mark
off = needs_off ConsumedWhileBorrowed

operand_there : (copied : List (Option ValueId)) (n : ℕ) (w : ValueId) → operand_in copied n ≡ Some w → slice_get copied n ≡ Some (Some w)
operand_there [] n w e = absurd (let wrong : None ≡ Some w = e in cc)
operand_there (x ∷ copied) zero w e = ap Some e
operand_there (x ∷ copied) (suc n) w e = operand_there copied n w e

pub operand_below : (copied : List (Option ValueId)) (n : ℕ) (w : ValueId) → operand_in copied n ≡ Some w → n < length copied
operand_below [] n w e = absurd (let wrong : None ≡ Some w = e in cc)
operand_below (x ∷ copied) zero w e = omega arith
operand_below (x ∷ copied) (suc n) w e = let rest : n < length copied = operand_below copied n w e in omega arith

no_entry : (n s : ℕ) (o : Option pattern.Mark) (b : Bool) → (s == n) ≡ false → filter_map (means n) (cond b (entry_if s o) []) ≡ []
no_entry n s None true e = refl
no_entry n s None false e = refl
no_entry n s (Some mark) true e = ap (λ own. cons_option (cond own (Some mark) None) []) e
no_entry n s (Some mark) false e = refl

module _ (k : Known) (copied : List (Option ValueId)) (c w : ValueId) (here : operand_in copied c.0 ≡ Some w) where
  abbrev bases : List ValueId
  bases = (facts_of k w).bases

  own_off : (b : Bool) → option_to_list (cond b (Some off) None) ≡ filter_map (means c.0) (cond b (map off_entry (c ∷ [])) [])
  own_off true = sym (ap (λ own. cons_option (cond own (Some off) None) []) (eq-eqb c.0 c.0 refl))
  own_off false = refl

  its_off : (ended : ValueId) → unwrap_or (slice_get (map (off_if k ended) copied) c.0) None ≡ cond (has bases ended.0) (Some off) None
  its_off ended =
      ap (λ o. unwrap_or o None) (slice_get-map (off_if k ended) copied c.0 ∙ ap (option_map (off_if k ended)) (operand_there copied c.0 w here))

  offs : (m : Mark) → filter_map (means c.0) (off_of k copied m) ≡ filter_map (means c.0) (off_entries End bases (c ∷ []) m)
  offs m = at (is_sort End m.sort)
    where
      at : (b : Bool) → filter_map (means c.0) (cond b (shared_from 0 (map (off_if k m.subject) copied)) [])
          ≡ filter_map (means c.0) (cond (b && has bases m.subject.0) (map off_entry (c ∷ [])) [])
      at true =
          marks_shared (map (off_if k m.subject) copied) c.0 0 c.0 (omega arith) ∙ ap option_to_list (its_off m.subject) ∙ own_off (has bases m.subject.0)
      at false = refl

  turns : (m : Mark) → filter_map (means c.0) (turn_of copied m) ≡ filter_map (means c.0) (turn_entries (c ∷ []) m)
  turns m = at (cases_eq m.subject.0 c.0)
    where
      at : (m.subject.0 ≡ c.0) ⊎ (m.subject.0 ≢ c.0) → filter_map (means c.0) (turn_of copied m) ≡ filter_map (means c.0) (turn_entries (c ∷ []) m)
      at (inl same) =
          let some : is_some (operand_in copied m.subject.0) ≡ true = ap (λ n. is_some (operand_in copied n)) same ∙ ap is_some here in
          let own : has (c ∷ []) m.subject.0 ≡ true = ap (λ b. b || false) (eq-eqb c.0 m.subject.0 (sym same)) in
          ap (λ b. filter_map (means c.0) (cond b (entry_if m.subject.0 (turned_by m.sort)) [])) (some ∙ sym own)
      at (inr other) =
          let apart : (m.subject.0 == c.0) ≡ false = ne_eqb m.subject.0 c.0 other in
          no_entry c.0 m.subject.0 (turned_by m.sort) (is_some (operand_in copied m.subject.0)) apart
          ∙ sym (no_entry c.0 m.subject.0 (turned_by m.sort) (has (c ∷ []) m.subject.0) apart)

  one_alike : (m : Mark) → filter_map (means c.0) (entries_of k copied m) ≡ filter_map (means c.0) (entries_by End bases (c ∷ []) m)
  one_alike m =
      filter_map-append (means c.0) (off_of k copied m) (turn_of copied m)
      ∙ ap₂ (λ x y. x ++ y) (offs m) (turns m)
      ∙ sym (filter_map-append (means c.0) (off_entries End bases (c ∷ []) m) (turn_entries (c ∷ []) m))

  alike : (ms : List Mark) → filter_map (means c.0) (flat_map (entries_of k copied) ms) ≡ filter_map (means c.0) (flat_map (entries_by End bases (c ∷ [])) ms)
  alike [] = refl
  alike (m ∷ ms) =
      filter_map-append (means c.0) (entries_of k copied m) (flat_map (entries_of k copied) ms)
      ∙ ap₂ (λ x y. x ++ y) (one_alike m) (alike ms)
      ∙ sym (filter_map-append (means c.0) (entries_by End bases (c ∷ []) m) (flat_map (entries_by End bases (c ∷ [])) ms))

  module _ (f : Function) (g : Layout) (is : IsGraphOf g f) (sound : IsSound g) (own : List (List Entry))
      (own_are : (n : ℕ) (item : Item) → item_at g n ≡ Some item → list_at own n ≡ flat_map (entries_of k copied) (marks_at k n))
      (count : ℕ) (facts : ValueId → Option Facts) (by : AreKindsBy count facts f g k) where
    abbrev table : Item → List Entry
    table = watched_of End bases (c ∷ []) facts f

    agrees : AgreesWith g (marks_for c.0 (list_at own)) (marks_for c.0 table)
    agrees i item e =
        ap (filter_map (means c.0)) (own_are i item e) ∙ alike (marks_at k i)
        ∙ ap (λ ms. filter_map (means c.0) (flat_map (entries_by End bases (c ∷ [])) ms)) (by.marks_are i item e)

    among : has (c ∷ []) c.0 ≡ true
    among = ap (λ b. b || false) (eq-eqb c.0 c.0 refl)

    free_by_clean : IsClean (numbered g) (subject_step (list_at own) c.0) → AreFreeAt facts f End bases (c ∷ [])
    free_by_clean clean =
        (one_free facts f End bases c).1
        ((free_kept End bases (c ∷ []) facts f c among).1
        (kept f (marks_for c.0 table)
        (λ w code item shown.
        let r = shown_back g f is (marks_for c.0 (list_at own)) (marks_for c.0 table) agrees IsInPlace code_of w code item shown in
        clean w code r.0
        (shown_reached mark_step IsInPlace code_of switch_decides (marks_for c.0 (list_at own)) (subject_step (list_at own) c.0)
        (λ s i. read_run mark_step (means c.0) (Go s) (list_at own i)) (numbered g) w code r.0 r.2))))

    item_of : (i : ℕ) → i < item_count g → (item : Item) × (item_at g i ≡ Some item)
    item_of i lt = at (item_at g i) refl (slice_get-get_or g.kinds i)
      where
        at : (o : Option Item) → item_at g i ≡ o → ((d : Item) → i < length g.kinds → slice_get g.kinds i ≡ Some (get_or g.kinds i d)) → (item : Item) × (item_at g i ≡ Some item)
        at (Some item) e read = (item, e)
        at None e read = absurd (past g.kinds i lt e)
          where
            past : (xs : List Item) (n : ℕ) → n < length xs → slice_get xs n ≡ None → ⊥
            past [] n lt e = omega arith
            past (x ∷ xs) zero lt e = cc
            past (x ∷ xs) (suc n) lt e = past xs n (omega arith) e

    clean_by_free : AreFreeAt facts f End bases (c ∷ []) → IsClean (numbered g) (subject_step (list_at own) c.0)
    clean_by_free free w code i reaches =
        let item = item_of i (last_below g sound w reaches.before i reaches.trail) in
        let shows =
        reached_shown mark_step IsInPlace code_of switch_decides (marks_for c.0 (list_at own)) (subject_step (list_at own) c.0)
        (λ s n. read_run mark_step (means c.0) (Go s) (list_at own n)) (numbered g) w code i reaches in
        unkept f (marks_for c.0 table) w code item.0
        (shown_there g f is (marks_for c.0 (list_at own)) (marks_for c.0 table) agrees IsInPlace code_of w code i item.0 item.1 shows)
        ((free_kept End bases (c ∷ []) facts f c among).0 (free c among))

    same_bases : (facts_of k w).bases ≡ (known_or facts w).bases
    same_bases = ap (λ (x : Facts). x.bases) (by.facts_are w)

    none_marked : (n u : ℕ) → is_broken (replicate n false) u ≡ true → ⊥
    none_marked zero u e = absurd (let wrong : false ≡ true = e in cc)
    none_marked (suc n) zero e = absurd (let wrong : false ≡ true = e in cc)
    none_marked (suc n) (suc u) e = none_marked n u e

    pub found_one : (most n : ℕ) (old held : List Bool) → old ≡ replicate n false → AreBroken (numbered g) (list_at own) 0 most old held → c.0 < most
        → (is_broken held c.0 ≡ false) ↔ AreFreeAt facts f End (known_or facts w).bases (c ∷ [])
    found_one most n old held clear broken lt = (
      λ not_so.
          subst (λ vs. AreFreeAt facts f End vs (c ∷ [])) same_bases
          (free_by_clean
          (subst (λ v. IsClean (numbered g) (subject_step (list_at own) v)) start
          (broken.clean c.0 lt (ap (is_broken held) start ∙ not_so)))),
      λ free. at free (is_broken held c.0) refl,
    )
      where
        start : 0 + c.0 ≡ c.0
        start = omega arith

        at : AreFreeAt facts f End (known_or facts w).bases (c ∷ []) → (b : Bool) → is_broken held c.0 ≡ b → is_broken held c.0 ≡ false
        at free false e = e
        at free true e = absurd (by_mark (broken.reached c.0 e))
          where
            by_mark : (is_broken old c.0 ≡ true) ⊎ ((u : ℕ) × (u < most) × (c.0 ≡ 0 + u) × (IsClean (numbered g) (subject_step (list_at own) c.0) → ⊥)) → ⊥
            by_mark (inl before) = none_marked n c.0 (ap (λ bs. is_broken bs c.0) (sym clear) ∙ before)
            by_mark (inr h) = h.3 (clean_by_free (subst (λ vs. AreFreeAt facts f End vs (c ∷ [])) (sym same_bases) free))

-- the marks of one copy more
pub offs_more : (k : Known) (ended : ValueId) (copied : List (Option ValueId)) (n : ℕ) (o : Option ValueId) (m : Option pattern.Mark) (first old new : List Entry) → n < length copied
    → o ≡ operand_in copied n → m ≡ off_if k ended o → old ≡ first ++ shared_from 0 (map (off_if k ended) (take n copied)) → new ≡ old ++ entry_if n m
    → new ≡ first ++ shared_from 0 (map (off_if k ended) (take (n + 1) copied))
offs_more k ended copied n o m first old new lt is told before pushed =
    let part : List (Option pattern.Mark) = map (off_if k ended) (take n copied) in
    let size : 0 + length part ≡ n = omega (arith, length-map (take n copied) (off_if k ended), length-take-le n copied (omega arith)) in
    let mark : m ≡ off_if k ended (operand_in copied n) = told ∙ ap (off_if k ended) is in
    let more : map (off_if k ended) (take (n + 1) copied) ≡ part ++ m ∷ [] =
    ap (map (off_if k ended)) (take_more copied n None lt) ∙ map-append (off_if k ended) (take n copied) (operand_in copied n ∷ []) ∙ ap (λ x. part ++ x ∷ []) (sym mark) in
    pushed ∙ ap (λ v. v ++ entry_if n m) before ∙ append_assoc first (shared_from 0 part) (entry_if n m)
    ∙ ap (λ v. first ++ v) (ap (λ i. shared_from 0 part ++ entry_if i m) (sym size) ∙ sym (shared_more 0 part m) ∙ ap (shared_from 0) (sym more))

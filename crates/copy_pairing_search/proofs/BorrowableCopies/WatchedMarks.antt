-- The marks that the table has of a value are lawful just where the value is held at none of the marks that are watched for.
use Rattle.std.proofs.Common.{◌≡◌, ℕ, List, [], ◌∷◌, ◌++◌, refl, sym, ap, ap₂, ◌∙◌, subst, Bool, true, false, cond, map, Option, Some, None, append_assoc}
use Rattle.std.specs.Prelude.{◌||◌, ◌==◌, ◌↔◌, filter_map, option_to_list}
use Rattle.std.specs.List.{AllByRecursion, cons_option, flat_map}
use Rattle.std.proofs.lemmas.Bool.{eqb-true}
use Rattle.std.proofs.lemmas.Grind.{flat_map-append}
use Rattle.std.proofs.lemmas.List.{append-nil}
use Rattle.std.proofs.lemmas.List.Elements.{filter_map-append}
use Rattle.sil_ast.specs.declared.function.Function.{Function}
use Rattle.sil_ast.specs.declared.place.ValueId.{ValueId}
use Rattle.sil_cfg.specs.declared.item.Item.{Item}
use Rattle.sil_rules.specs.declared.rule.Rule.TheVariants.{ConsumedWhileBorrowed}
use Rattle.reach_engine_marks.proofs.PathPatterns.HeldIsOn.{on_while_held}
use Rattle.reach_engine_marks.proofs.PathPatterns.SwitchDecided.{pop_none}
use Rattle.reach_engine_marks.specs.PathPatterns.Lawful.{AreLawful}
use Rattle.reach_engine_marks.specs.PathPatterns.Marks.{needs_off, turns_off, turns_on}
use Rattle.reach_engine_marks.specs.PathPatterns.Switch.{IsInPlace, IsOn}
use Rattle.reach_engine_marks.specs.PathPatterns.inner.Runs as runs
use Rattle.reach_engine_marks.specs.PathPatterns.inner.Runs.{IsHeld, Sort, TurnAlike}
use Rattle.reach_engine_marks.specs.declared.path_patterns.mark.Mark as pattern
use Rattle.reach_engine_marks.proofs.PathChecks.QuietEntries.{IsQuiet, quiet_turns}
use Rattle.reach_engine_marks.proofs.PathChecks.RulesShown.{each_map}
use Rattle.reach_engine_marks.specs.PathChecks.Entries.{marks_for, means}
use Rattle.reach_engine_marks.specs.PathChecks.inner.Shared.{entry_if}
use Rattle.ownership_kinds_chains.specs.OwnershipChains.Facts.{has}
use Rattle.ownership_kinds_chains.specs.declared.ownership_chains.facts.Facts.{Facts}
use Rattle.ownership_kinds_chains.specs.OwnershipMarks.Marks.{marks_of}
use Rattle.ownership_kinds_chains.specs.declared.ownership_marks.mark.Mark.{Mark}
use Rattle.ownership_kinds_chains.specs.declared.ownership_marks.mark.MarkSort.{MarkSort}
use Rattle.ownership_kinds_chains.specs.declared.ownership_marks.mark.MarkSort.TheVariants.{End, Use, Begin}
use Rattle.borrow_scopes.specs.inner.Runs.{sort_for, sort_of}
use Rattle.copy_pairing_model.specs.Removable.{is_mark}
use Rattle.copy_pairing_search.specs.BorrowableCopies.inner.Watched.{entries_by, off_entries, off_entry, turn_entries, turned_by, watched_of}
use Rattle.copy_pairing_search.proofs.BorrowableCopies.LawfulBehind.{LawfulBehind, behind_append, behind_lawful}

abbrev turns : pattern.Mark → Option Bool
turns m = m.turns

abbrev off : pattern.Mark
off = needs_off ConsumedWhileBorrowed

onto : (o : Option Sort) (rest : List Sort) → filter_map runs.turned_by (option_to_list o) ++ filter_map runs.turned_by rest ≡ filter_map runs.turned_by (cons_option o rest)
onto None rest = refl
onto (Some runs.End) rest = refl
onto (Some runs.Use) rest = refl
onto (Some runs.Begin) rest = refl

-- the marks that the turn of a mark of the value with number n is to the value with number h
abbrev turn_marks : ℕ → MarkSort → ℕ → Bool → List pattern.Mark
turn_marks h x n among = filter_map (means h) (cond among (entry_if n (turned_by x)) [])

module _ (h : ℕ) where
  end_turns : (own : Bool) → filter_map turns (cons_option (cond own (Some (turns_off ConsumedWhileBorrowed)) None) []) ≡ filter_map runs.turned_by (option_to_list (cond own (Some runs.End) None))
  end_turns true = refl
  end_turns false = refl

  begin_turns : (own : Bool) → filter_map turns (cons_option (cond own (Some (turns_on ConsumedWhileBorrowed)) None) []) ≡ filter_map runs.turned_by (option_to_list (cond own (Some runs.Begin) None))
  begin_turns true = refl
  begin_turns false = refl

  use_turns : (own : Bool) → [] ≡ filter_map runs.turned_by (option_to_list (cond own (Some runs.Use) None))
  use_turns true = refl
  use_turns false = refl

  not_own : (x : MarkSort) (own : Bool) → own ≡ false → [] ≡ filter_map runs.turned_by (option_to_list (cond own (Some (sort_of x)) None))
  not_own x true e = absurd (let wrong : true ≡ false = e in cc)
  not_own x false e = refl

  other : (own : Bool) → (own ≡ true → false ≡ true) → own ≡ false
  other true e = absurd (let wrong : false ≡ true = e refl in cc)
  other false e = refl

  -- a mark of the value turns its switch
  turn_as_sort : (x : MarkSort) (n : ℕ) (among : Bool) → ((n == h) ≡ true → among ≡ true) →
      filter_map turns (turn_marks h x n among) ≡ filter_map runs.turned_by (option_to_list (cond (n == h) (Some (sort_of x)) None))
  turn_as_sort End n true e = end_turns (n == h)
  turn_as_sort Use n true e = use_turns (n == h)
  turn_as_sort Begin n true e = begin_turns (n == h)
  turn_as_sort x n false e = not_own x (n == h) (other (n == h) e)

  -- a mark that turns the switch needs nothing

  end_lawful : (before : List pattern.Mark) (own : Bool) → LawfulBehind IsInPlace before (cons_option (cond own (Some (turns_off ConsumedWhileBorrowed)) None) [])
  end_lawful before true = (tt, tt)
  end_lawful before false = tt

  begin_lawful : (before : List pattern.Mark) (own : Bool) → LawfulBehind IsInPlace before (cons_option (cond own (Some (turns_on ConsumedWhileBorrowed)) None) [])
  begin_lawful before true = (tt, tt)
  begin_lawful before false = tt

  turn_lawful : (before : List pattern.Mark) (x : MarkSort) (n : ℕ) (among : Bool) → LawfulBehind IsInPlace before (turn_marks h x n among)
  turn_lawful before End n true = end_lawful before (n == h)
  turn_lawful before Use n true = tt
  turn_lawful before Begin n true = begin_lawful before (n == h)
  turn_lawful before x n false = tt

  off_lawful : (before : List pattern.Mark) → (IsOn before → ⊥) → (held : List ValueId) → LawfulBehind IsInPlace before (filter_map (means h) (map off_entry held))
  off_lawful before not [] = tt
  off_lawful before not (v ∷ held) = at (v.0 == h) (off_lawful (before ++ off ∷ []) (λ on. not (pop_none before off refl on)) held) (off_lawful before not held)
    where
      at : (own : Bool) → LawfulBehind IsInPlace (before ++ off ∷ []) (filter_map (means h) (map off_entry held)) → LawfulBehind IsInPlace before (filter_map (means h) (map off_entry held))
          → LawfulBehind IsInPlace before (cons_option (cond own (Some off) None) (filter_map (means h) (map off_entry held)))
      at true behind same = (not, behind)
      at false behind same = same

  -- a value among those has the mark
  off_first : (held : List ValueId) → has held h ≡ true → (more : List pattern.Mark) × (filter_map (means h) (map off_entry held) ≡ off ∷ more)
  off_first [] e = absurd (let wrong : false ≡ true = e in cc)
  off_first (v ∷ held) e = at (v.0 == h) e (off_first held)
    where
      at : (own : Bool) → (own || has held h) ≡ true → (has held h ≡ true → (more : List pattern.Mark) × (filter_map (means h) (map off_entry held) ≡ off ∷ more))
          → (more : List pattern.Mark) × (cons_option (cond own (Some off) None) (filter_map (means h) (map off_entry held)) ≡ off ∷ more)
      at true e next = (filter_map (means h) (map off_entry held), refl)
      at false e next = next e

module _ (sort : MarkSort) (values held : List ValueId) (h : ValueId) (among : has held h.0 ≡ true) where
  abbrev marks_by : Mark → List pattern.Mark
  marks_by m = filter_map (means h.0) (entries_by sort values held m)

  abbrev along : List Mark → List pattern.Mark
  along ms = flat_map marks_by ms

  own_among : (m : Mark) → (m.subject.0 == h.0) ≡ true → has held m.subject.0 ≡ true
  own_among m e = ap (has held) (eqb-true m.subject.0 h.0 e) ∙ among

  off_quiet : (b : Bool) → AllByRecursion IsQuiet (cond b (map off_entry held) [])
  off_quiet true = each_map IsQuiet off_entry held (λ v. refl)
  off_quiet false = tt

  parts_of : (m : Mark) → marks_by m ≡ filter_map (means h.0) (off_entries sort values held m) ++ turn_marks h.0 m.sort m.subject.0 (has held m.subject.0)
  parts_of m = filter_map-append (means h.0) (off_entries sort values held m) (turn_entries held m)

  one_turns : (m : Mark) → filter_map turns (marks_by m) ≡ filter_map runs.turned_by (option_to_list (sort_for h m))
  one_turns m =
      ap (filter_map turns) (parts_of m)
      ∙ filter_map-append turns (filter_map (means h.0) (off_entries sort values held m)) (turn_marks h.0 m.sort m.subject.0 (has held m.subject.0))
      ∙ ap₂ (λ x y. x ++ y) (quiet_turns h.0 (off_entries sort values held m) (off_quiet (is_mark sort values m))) (turn_as_sort h.0 m.sort m.subject.0 (has held m.subject.0) (own_among m))

  alike : (ms : List Mark) → TurnAlike (along ms) (filter_map (sort_for h) ms)
  alike [] = refl
  alike (m ∷ ms) =
      filter_map-append turns (marks_by m) (along ms)
      ∙ ap₂ (λ x y. x ++ y) (one_turns m) (alike ms)
      ∙ onto (sort_for h m) (filter_map (sort_for h) ms)

  on_held : (ms : List Mark) → IsOn (along ms) ↔ IsHeld (filter_map (sort_for h) ms)
  on_held ms = on_while_held (along ms) (filter_map (sort_for h) ms) (alike ms)

  abbrev Spares : List Mark → Mark → Type 0
  Spares before m = is_mark sort values m ≡ true → IsHeld (filter_map (sort_for h) before) → ⊥

  one_lawful : (before : List Mark) (m : Mark) → Spares before m → LawfulBehind IsInPlace (along before) (marks_by m)
  one_lawful before m spares =
      subst (LawfulBehind IsInPlace (along before)) (sym (parts_of m))
      (behind_append IsInPlace (along before) (filter_map (means h.0) (off_entries sort values held m)) (turn_marks h.0 m.sort m.subject.0 (has held m.subject.0))
      (at (is_mark sort values m) refl)
      (turn_lawful h.0 (along before ++ filter_map (means h.0) (off_entries sort values held m)) m.sort m.subject.0 (has held m.subject.0)))
    where
      at : (b : Bool) → is_mark sort values m ≡ b → LawfulBehind IsInPlace (along before) (filter_map (means h.0) (cond b (map off_entry held) []))
      at true e = off_lawful h.0 (along before) (λ on. spares e ((on_held before).0 on)) held
      at false e = tt

  pushed : (before : List Mark) (m : Mark) → along (before ++ m ∷ []) ≡ along before ++ marks_by m
  pushed before m = flat_map-append marks_by before (m ∷ []) ∙ ap (λ v. along before ++ v) (append-nil (marks_by m))

  all_lawful : (before ms : List Mark) → ((front rest : List Mark) (m : Mark) → ms ≡ front ++ m ∷ rest → Spares (before ++ front) m) → LawfulBehind IsInPlace (along before) (along ms)
  all_lawful before [] all = tt
  all_lawful before (m ∷ ms) all =
      behind_append IsInPlace (along before) (marks_by m) (along ms) (one_lawful before m (subst (λ v. Spares v m) (append-nil before) (all [] ms m refl)))
      (subst (λ v. LawfulBehind IsInPlace v (along ms)) (pushed before m)
      (all_lawful (before ++ m ∷ []) ms (λ front rest x e. subst (λ v. Spares v x) (sym (append_assoc before (m ∷ []) front)) (all (m ∷ front) rest x (ap (λ v. m ∷ v) e)))))

  pub lawful_spared : (ms : List Mark) → AreLawful IsInPlace (along ms) ↔ AreLawful Spares ms
  lawful_spared ms = (into, out)
    where
      into : AreLawful IsInPlace (along ms) → AreLawful Spares ms
      into lawful before rest m e is here =
          let first = off_first h.0 held among in
          let turn : List pattern.Mark = turn_marks h.0 m.sort m.subject.0 (has held m.subject.0) in
          let own : marks_by m ≡ off ∷ (first.0 ++ turn) =
          parts_of m ∙ ap (λ b. filter_map (means h.0) (cond b (map off_entry held) []) ++ turn) is ∙ ap (λ v. v ++ turn) first.1 in
          let whole : along ms ≡ along before ++ off ∷ ((first.0 ++ turn) ++ along rest) =
          ap along e ∙ flat_map-append marks_by before (m ∷ rest) ∙ ap (λ v. along before ++ (v ++ along rest)) own in
          lawful (along before) ((first.0 ++ turn) ++ along rest) off whole ((on_held before).1 here)

      out : AreLawful Spares ms → AreLawful IsInPlace (along ms)
      out spared = behind_lawful IsInPlace (along ms) (all_lawful [] ms (λ front rest m e. spared front rest m e))

  module _ (facts : ValueId → Option Facts) (f : Function) where
    item_marks : (ms : List Mark) → filter_map (means h.0) (flat_map (entries_by sort values held) ms) ≡ along ms
    item_marks [] = refl
    item_marks (m ∷ ms) = filter_map-append (means h.0) (entries_by sort values held m) (flat_map (entries_by sort values held) ms) ∙ ap (λ v. marks_by m ++ v) (item_marks ms)

    pub table_along : (items : List Item) → flat_map (marks_for h.0 (watched_of sort values held facts f)) items ≡ along (flat_map (marks_of facts f) items)
    table_along [] = refl
    table_along (i ∷ items) =
        ap₂ (λ x y. x ++ y) (item_marks (marks_of facts f i)) (table_along items) ∙ sym (flat_map-append marks_by (marks_of facts f i) (flat_map (marks_of facts f) items))

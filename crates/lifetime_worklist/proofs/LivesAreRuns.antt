-- The lives of an Owned value are its runs.
use Rattle.std.proofs.Common.{◌≡◌, ℕ, zero, suc, ◌+◌, ◌<◌, List, [], ◌∷◌, ◌++◌, map, refl, sym, ap, ap₂, ◌∙◌, subst, Bool, true, false, cond, Option, Some, None, append-nil, append_assoc, arith}
use Rattle.std.specs.Prelude.{◌==◌, ◌↔◌, filter_map, option_to_list, slice_get, unwrap_or}
use Rattle.std.specs.List.{AllByRecursion, cons_option, flat_map, range_with_len}
use Rattle.std.proofs.lemmas.Bool.{eqb-true}
use Rattle.std.proofs.lemmas.Grind.{flat_map-append}
use Rattle.std.proofs.lemmas.List.{map-append}
use Rattle.std.proofs.lemmas.List.Elements.{All-head, All-tail, filter_map-append}
use Rattle.sil_ast.specs.declared.function.Function.{Function}
use Rattle.sil_ast.specs.declared.place.ValueId.{ValueId}
use Rattle.sil_cfg.specs.Returns.{is_return}
use Rattle.sil_cfg.specs.declared.item.Item.{Item}
use Rattle.sil_rules.specs.declared.rule.Rule.{Rule}
use Rattle.sil_rules.specs.declared.rule.Rule.TheVariants as rule
use Rattle.reach_engine_marks.proofs.PathPatterns.HeldIsOn.{held_turns, on_while_held}
use Rattle.reach_engine_marks.proofs.PathPatterns.RunsAreLawful.{reads_ended_runs, reads_runs}
use Rattle.reach_engine_marks.specs.PathPatterns.Lawful.{AreLawful}
use Rattle.reach_engine_marks.specs.PathPatterns.Marks.{needs_off}
use Rattle.reach_engine_marks.specs.PathPatterns.Switch.{IsInPlace}
use Rattle.reach_engine_marks.specs.PathPatterns.inner.Runs as runs
use Rattle.reach_engine_marks.specs.PathPatterns.inner.Runs.{AreRuns, Sort, TurnAlike, held_mark}
use Rattle.reach_engine_marks.specs.declared.path_patterns.mark.Mark as pattern
use Rattle.reach_engine_marks.proofs.PathChecks.OneSubject.{marks_shared}
use Rattle.reach_engine_marks.proofs.PathChecks.QuietEntries.{IsQuiet, quiet_turns}
use Rattle.reach_engine_marks.proofs.PathChecks.RulesShown.{each_flat, each_if}
use Rattle.reach_engine_marks.specs.PathChecks.Entries.{marks_for, means}
use Rattle.ownership_kinds_chains.specs.OwnershipChains.Facts.{is_owned, known_or, value_of}
use Rattle.ownership_kinds_chains.specs.declared.ownership_chains.facts.Facts.{Facts}
use Rattle.ownership_kinds_chains.specs.OwnershipMarks.Marks.{marks_of}
use Rattle.ownership_kinds_chains.specs.declared.ownership_marks.mark.Mark.{Mark}
use Rattle.ownership_kinds_chains.specs.declared.ownership_marks.mark.MarkSort.{MarkSort}
use Rattle.ownership_kinds_chains.specs.declared.ownership_marks.mark.MarkSort.TheVariants.{End, Use, Begin}
use Rattle.lifetime_worklist.specs.Lives.{entry_of, leaves, left_at_return, left_mark, lives_by, lives_of, returned, turned_by}
use Rattle.lifetime_worklist.specs.inner.Runs.{AreEndedRuns, AreHeldWhileOn, AreLivesRuns, HasNoReturn, IsOwned, life_along, sort_for, sort_of, sorts_along, sorts_at}
use Rattle.lifetime_worklist.proofs.Tables.{shared_returned}

abbrev rules : Sort → Rule
rules runs.End = rule.DoubleConsume
rules runs.Use = rule.UseAfterConsume
rules runs.Begin = rule.Overwritten

abbrev held : Sort → pattern.Mark
held s = held_mark rules s

abbrev left : pattern.Mark
left = needs_off rule.Leak

turned_same : (s : MarkSort) → turned_by s ≡ held (sort_of s)
turned_same End = refl
turned_same Use = refl
turned_same Begin = refl

same_value : (a b : ValueId) → a.0 ≡ b.0 → a ≡ b
same_value a b e = ap (λ (n : ℕ). let v : ValueId = record { 0 = n } in v) e

onto : (o : Option Sort) (rest : List Sort) → map held (option_to_list o) ++ map held rest ≡ map held (cons_option o rest)
onto None rest = refl
onto (Some s) rest = refl

entry_read : (v : ValueId) (m : Mark) (owned : Bool) → filter_map (means v.0) (cond owned (entry_of m ∷ []) []) ≡ cond owned (cons_option (means v.0 (entry_of m)) []) []
entry_read v m true = refl
entry_read v m false = refl

entry_held : (s : MarkSort) (own owned : Bool) → (own ≡ true → owned ≡ true) →
    cond owned (cons_option (cond own (Some (turned_by s)) None) []) [] ≡ map held (option_to_list (cond own (Some (sort_of s)) None))
entry_held s true true h = ap (λ m. m ∷ []) (turned_same s)
entry_held s true false h = absurd (let wrong : false ≡ true = h refl in cc)
entry_held s false true h = refl
entry_held s false false h = refl

left_quiet : (facts : ValueId → Facts) (count : ℕ) (returns : Bool) → AllByRecursion IsQuiet (returned facts count returns)
left_quiet facts count true = each_flat IsQuiet (leaves facts) (range_with_len 0 count) (λ n. each_if IsQuiet (is_owned (facts (value_of n)).kind) (left_at_return n) refl)
left_quiet facts count false = tt

module _ (facts : ValueId → Option Facts) (v : ValueId) (owned : IsOwned facts v) where
  own_owned : (m : Mark) → (m.subject.0 == v.0) ≡ true → is_owned (known_or facts m.subject).kind ≡ true
  own_owned m e = ap (λ w. is_owned (known_or facts w).kind) (same_value m.subject v (eqb-true m.subject.0 v.0 e)) ∙ owned

  one_read : (m : Mark) → filter_map (means v.0) (lives_by (known_or facts) m) ≡ map held (option_to_list (sort_for v m))
  one_read m =
      entry_read v m (is_owned (known_or facts m.subject).kind)
      ∙ entry_held m.sort (m.subject.0 == v.0) (is_owned (known_or facts m.subject).kind) (own_owned m)

  marks_read : (marks : List Mark) → filter_map (means v.0) (flat_map (lives_by (known_or facts)) marks) ≡ map held (filter_map (sort_for v) marks)
  marks_read [] = refl
  marks_read (m ∷ marks) =
      filter_map-append (means v.0) (lives_by (known_or facts) m) (flat_map (lives_by (known_or facts)) marks)
      ∙ ap₂ (λ x y. x ++ y) (one_read m) (marks_read marks) ∙ onto (sort_for v m) (filter_map (sort_for v) marks)

  left_mark_at : (n count d : ℕ) → d < count → n + d ≡ v.0 → unwrap_or (slice_get (map (left_mark (known_or facts)) (range_with_len n count)) d) None ≡ Some left
  left_mark_at n zero d lt e = absurd (omega arith)
  left_mark_at n (suc count) zero lt e =
      let same : n ≡ v.0 = omega arith in
      ap (λ b. cond b (Some left) None) (ap (λ w. is_owned (known_or facts w).kind) (same_value (value_of n) v same) ∙ owned)
  left_mark_at n (suc count) (suc d) lt e = left_mark_at (n + 1) count d (omega arith) (omega arith)

  left_read : (count : ℕ) → v.0 < count → filter_map (means v.0) (returned (known_or facts) count true) ≡ left ∷ []
  left_read count lt =
      ap (filter_map (means v.0)) (sym (shared_returned (known_or facts) count true))
      ∙ marks_shared (map (left_mark (known_or facts)) (range_with_len 0 count)) v.0 0 v.0 (omega arith)
      ∙ ap option_to_list (left_mark_at 0 count v.0 lt (omega arith))

  module _ (count : ℕ) (f : Function) where
    abbrev marks_at : Item → List pattern.Mark
    marks_at item = marks_for v.0 (lives_of count facts f) item

    abbrev returned_at : Bool → List pattern.Mark
    returned_at returns = filter_map (means v.0) (returned (known_or facts) count returns)

    item_read : (item : Item) → marks_at item ≡ map held (sorts_at facts f v item) ++ returned_at (is_return f item)
    item_read item =
        filter_map-append (means v.0) (flat_map (lives_by (known_or facts)) (marks_of facts f item)) (returned (known_or facts) count (is_return f item))
        ∙ ap (λ x. x ++ returned_at (is_return f item)) (marks_read (marks_of facts f item))

    alike_at : (item : Item) → TurnAlike (marks_at item) (sorts_at facts f v item)
    alike_at item =
        ap (filter_map (λ (m : pattern.Mark). m.turns)) (item_read item)
        ∙ filter_map-append (λ (m : pattern.Mark). m.turns) (map held (sorts_at facts f v item)) (returned_at (is_return f item))
        ∙ ap₂ (λ x y. x ++ y) (held_turns rules (sorts_at facts f v item)) (quiet_turns v.0 (returned (known_or facts) count (is_return f item)) (left_quiet (known_or facts) count (is_return f item)))
        ∙ append-nil (filter_map runs.turned_by (sorts_at facts f v item))

    alike_along : (items : List Item) → TurnAlike (life_along count facts f v items) (sorts_along facts f v items)
    alike_along [] = refl
    alike_along (i ∷ items) =
        filter_map-append (λ (m : pattern.Mark). m.turns) (marks_at i) (life_along count facts f v items)
        ∙ ap₂ (λ x y. x ++ y) (alike_at i) (alike_along items)
        ∙ sym (filter_map-append runs.turned_by (sorts_at facts f v i) (sorts_along facts f v items))

    life_read : (items : List Item) → HasNoReturn f items → life_along count facts f v items ≡ map held (sorts_along facts f v items)
    life_read [] none = refl
    life_read (i ∷ items) none =
        let here : is_return f i ≡ false = All-head (λ item. is_return f item ≡ false) i items none in
        ap₂ (λ x y. x ++ y)
        (item_read i ∙ ap (λ b. map held (sorts_at facts f v i) ++ returned_at b) here ∙ append-nil (map held (sorts_at facts f v i)))
        (life_read items (All-tail (λ item. is_return f item ≡ false) i items none))
        ∙ sym (map-append held (sorts_at facts f v i) (sorts_along facts f v items))

    ended_read : (items : List Item) → HasNoReturn f items → (last : Item) → is_return f last ≡ true → v.0 < count →
        life_along count facts f v (items ++ last ∷ []) ≡ map held (sorts_along facts f v (items ++ last ∷ [])) ++ left ∷ []
    ended_read items none last returns lt =
        let before : List pattern.Mark = map held (sorts_along facts f v items) in
        let here : List pattern.Mark = map held (sorts_at facts f v last) in
        flat_map-append marks_at items (last ∷ [])
        ∙ ap₂ (λ x y. x ++ y) (life_read items none)
        (append-nil (marks_at last) ∙ item_read last ∙ ap (λ b. here ++ returned_at b) returns ∙ ap (λ x. here ++ x) (left_read count lt))
        ∙ sym (append_assoc before here (left ∷ []))
        ∙ ap (λ x. x ++ left ∷ [])
        (sym (ap (map held) (flat_map-append (sorts_at facts f v) items (last ∷ []) ∙ ap (λ x. sorts_along facts f v items ++ x) (append-nil (sorts_at facts f v last)))
        ∙ map-append held (sorts_along facts f v items) (sorts_at facts f v last)))

pub held_while_on : AreHeldWhileOn
held_while_on count facts f v owned items = on_while_held (life_along count facts f v items) (sorts_along facts f v items) (alike_along facts v owned count f items)

pub lives_runs : AreLivesRuns
lives_runs count facts f v owned items none =
    let sorts : List Sort = sorts_along facts f v items in
    subst (λ marks. AreLawful IsInPlace marks ↔ ((ended : Bool) × AreRuns ended sorts)) (sym (life_read facts v owned count f items none)) (reads_runs rules sorts)

pub ended_runs : AreEndedRuns
ended_runs count facts f v owned lt items none last returns =
    let sorts : List Sort = sorts_along facts f v (items ++ last ∷ []) in
    subst (λ marks. AreLawful IsInPlace marks ↔ AreRuns true sorts) (sym (ended_read facts v owned count f items none last returns lt)) (reads_ended_runs rules rule.Leak sorts)

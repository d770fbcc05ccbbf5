-- A scope is open just while its switch is on.
use Rattle.std.proofs.Common.{◌≡◌, ℕ, List, [], ◌∷◌, ◌++◌, refl, sym, ap, ap₂, ◌∙◌, Bool, true, false, cond, Option, Some, None, append-nil}
use Rattle.std.specs.Prelude.{◌==◌, filter_map, option_to_list}
use Rattle.std.specs.List.{AllByRecursion, cons_option, flat_map, range_with_len}
use Rattle.std.proofs.lemmas.Bool.{eqb-true}
use Rattle.std.proofs.lemmas.List.Elements.{filter_map-append}
use Rattle.sil_ast.specs.declared.function.Function.{Function}
use Rattle.sil_ast.specs.declared.place.ValueId.{ValueId}
use Rattle.sil_cfg.specs.Returns.{is_return}
use Rattle.sil_cfg.specs.declared.item.Item.{Item}
use Rattle.reach_engine_marks.proofs.PathPatterns.HeldIsOn.{on_while_held}
use Rattle.reach_engine_marks.specs.PathPatterns.inner.Runs as runs
use Rattle.reach_engine_marks.specs.PathPatterns.inner.Runs.{Sort, TurnAlike}
use Rattle.reach_engine_marks.specs.declared.path_patterns.mark.Mark as pattern
use Rattle.reach_engine_marks.proofs.PathChecks.QuietEntries.{IsQuiet, quiet_turns}
use Rattle.reach_engine_marks.proofs.PathChecks.RulesShown.{each_flat, each_if}
use Rattle.reach_engine_marks.specs.PathChecks.Entries.{marks_for, means}
use Rattle.ownership_kinds_chains.specs.OwnershipChains.Facts.{has, known_or, value_of}
use Rattle.ownership_kinds_chains.specs.declared.ownership_chains.facts.Facts.{Facts}
use Rattle.ownership_kinds_chains.specs.OwnershipMarks.Marks.{marks_of}
use Rattle.ownership_kinds_chains.specs.declared.ownership_marks.mark.Mark.{Mark}
use Rattle.ownership_kinds_chains.specs.declared.ownership_marks.mark.MarkSort.{MarkSort}
use Rattle.ownership_kinds_chains.specs.declared.ownership_marks.mark.MarkSort.TheVariants.{End, Use, Begin}
use Rattle.borrow_scopes.specs.Scopes.{entry_of, is_scope, leaves, left_at_return, lent_bases, lost_at_end, lost_entries, lost_from, lost_with}
use Rattle.borrow_scopes.specs.Scopes.{mark_entries, returned, scope_entries, scopes_of, turned_by}
use Rattle.borrow_scopes.specs.inner.Runs.{AreOpenWhileOn, scope_along, sort_for, sort_of, sorts_along}

abbrev turns : pattern.Mark → Option Bool
turns m = m.turns

same_value : (a b : ValueId) → a.0 ≡ b.0 → a ≡ b
same_value a b e = ap (λ (n : ℕ). let v : ValueId = record { 0 = n } in v) e

turn_same : (s : MarkSort) → (turned_by s).turns ≡ runs.turned_by (sort_of s)
turn_same End = refl
turn_same Use = refl
turn_same Begin = refl

onto : (o : Option Sort) (rest : List Sort) → filter_map runs.turned_by (option_to_list o) ++ filter_map runs.turned_by rest ≡ filter_map runs.turned_by (cons_option o rest)
onto None rest = refl
onto (Some runs.End) rest = refl
onto (Some runs.Use) rest = refl
onto (Some runs.Begin) rest = refl

entry_read : (s : ValueId) (m : Mark) (scope : Bool) → filter_map (means s.0) (cond scope (entry_of m ∷ []) []) ≡ cond scope (cons_option (means s.0 (entry_of m)) []) []
entry_read s m true = refl
entry_read s m false = refl

entry_turns : (x : MarkSort) (own scope : Bool) → (own ≡ true → scope ≡ true) →
    filter_map turns (cond scope (cons_option (cond own (Some (turned_by x)) None) []) []) ≡ filter_map runs.turned_by (option_to_list (cond own (Some (sort_of x)) None))
entry_turns x true true h = ap (λ o. cons_option o []) (turn_same x)
entry_turns x true false h = absurd (let wrong : false ≡ true = h refl in cc)
entry_turns x false true h = refl
entry_turns x false false h = refl

lost_quiet : (f : Function) (facts : ValueId → Facts) (count : ℕ) (v : ValueId) (x : MarkSort) → AllByRecursion IsQuiet (lost_with f facts count v x)
lost_quiet f facts count v End = each_flat IsQuiet (lost_from f facts v) (range_with_len 0 count) (λ n. each_if IsQuiet (has (lent_bases f facts n) v.0) (lost_at_end n) refl)
lost_quiet f facts count v Use = tt
lost_quiet f facts count v Begin = tt

left_quiet : (f : Function) (facts : ValueId → Facts) (count : ℕ) (returns : Bool) → AllByRecursion IsQuiet (returned f facts count returns)
left_quiet f facts count true = each_flat IsQuiet (leaves f facts) (range_with_len 0 count) (λ n. each_if IsQuiet (is_scope f facts (value_of n)) (left_at_return n) refl)
left_quiet f facts count false = tt

module _ (facts : ValueId → Option Facts) (f : Function) (s : ValueId) (scope : is_scope f (known_or facts) s ≡ true) (count : ℕ) where
  own_scope : (m : Mark) → (m.subject.0 == s.0) ≡ true → is_scope f (known_or facts) m.subject ≡ true
  own_scope m e = ap (is_scope f (known_or facts)) (same_value m.subject s (eqb-true m.subject.0 s.0 e)) ∙ scope

  -- a mark turns the scope's switch where it is the scope's own
  one_turns : (m : Mark) → filter_map turns (filter_map (means s.0) (mark_entries f (known_or facts) count m)) ≡ filter_map runs.turned_by (option_to_list (sort_for s m))
  one_turns m =
      let own = scope_entries f (known_or facts) m in
      let lost = lost_entries f (known_or facts) count m in
      ap (filter_map turns) (filter_map-append (means s.0) own lost)
      ∙ filter_map-append turns (filter_map (means s.0) own) (filter_map (means s.0) lost)
      ∙ ap₂ (λ x y. x ++ y)
      (ap (filter_map turns) (entry_read s m (is_scope f (known_or facts) m.subject))
      ∙ entry_turns m.sort (m.subject.0 == s.0) (is_scope f (known_or facts) m.subject) (own_scope m))
      (quiet_turns s.0 lost (lost_quiet f (known_or facts) count m.subject m.sort))
      ∙ append-nil (filter_map runs.turned_by (option_to_list (sort_for s m)))

  marks_turn : (marks : List Mark) → filter_map turns (filter_map (means s.0) (flat_map (mark_entries f (known_or facts) count) marks)) ≡ filter_map runs.turned_by (filter_map (sort_for s) marks)
  marks_turn [] = refl
  marks_turn (m ∷ marks) =
      let here = mark_entries f (known_or facts) count m in
      let later = flat_map (mark_entries f (known_or facts) count) marks in
      ap (filter_map turns) (filter_map-append (means s.0) here later)
      ∙ filter_map-append turns (filter_map (means s.0) here) (filter_map (means s.0) later)
      ∙ ap₂ (λ x y. x ++ y) (one_turns m) (marks_turn marks)
      ∙ onto (sort_for s m) (filter_map (sort_for s) marks)

  alike_at : (item : Item) → TurnAlike (marks_for s.0 (scopes_of count facts f) item) (filter_map (sort_for s) (marks_of facts f item))
  alike_at item =
      let own = flat_map (mark_entries f (known_or facts) count) (marks_of facts f item) in
      let left = returned f (known_or facts) count (is_return f item) in
      ap (filter_map turns) (filter_map-append (means s.0) own left)
      ∙ filter_map-append turns (filter_map (means s.0) own) (filter_map (means s.0) left)
      ∙ ap₂ (λ x y. x ++ y) (marks_turn (marks_of facts f item)) (quiet_turns s.0 left (left_quiet f (known_or facts) count (is_return f item)))
      ∙ append-nil (filter_map runs.turned_by (filter_map (sort_for s) (marks_of facts f item)))

  alike_along : (items : List Item) → TurnAlike (scope_along count facts f s items) (sorts_along facts f s items)
  alike_along [] = refl
  alike_along (i ∷ items) =
      filter_map-append turns (marks_for s.0 (scopes_of count facts f) i) (scope_along count facts f s items)
      ∙ ap₂ (λ x y. x ++ y) (alike_at i) (alike_along items)
      ∙ sym (filter_map-append runs.turned_by (filter_map (sort_for s) (marks_of facts f i)) (sorts_along facts f s items))

pub open_while_on : AreOpenWhileOn
open_while_on count facts f s scope items = on_while_held (scope_along count facts f s items) (sorts_along facts f s items) (alike_along facts f s scope count items)

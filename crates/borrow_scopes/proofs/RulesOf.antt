-- The rules of the table are those on scopes.
use Rattle.std.proofs.Common.{◌≡◌, ℕ, refl, Bool, true, false, Option}
use Rattle.std.specs.List.{AllByRecursion, flat_map, range_with_len}
use Rattle.sil_ast.specs.declared.function.Function.{Function}
use Rattle.sil_ast.specs.declared.place.ValueId.{ValueId}
use Rattle.sil_cfg.specs.Returns.{is_return}
use Rattle.sil_cfg.specs.declared.item.Item.{Item}
use Rattle.sil_rules.specs.Rules.{group_of}
use Rattle.sil_rules.specs.declared.group.Group.TheVariants as group
use Rattle.reach_engine_marks.specs.declared.path_checks.entry.Entry as entry
use Rattle.reach_engine_marks.proofs.PathChecks.RulesShown.{each_append, each_flat, each_if, shown_rule}
use Rattle.ownership_kinds_chains.specs.OwnershipChains.Facts.{has, known_or, value_of}
use Rattle.ownership_kinds_chains.specs.declared.ownership_chains.facts.Facts.{Facts}
use Rattle.ownership_kinds_chains.specs.OwnershipMarks.Marks.{marks_of}
use Rattle.ownership_kinds_chains.specs.declared.ownership_marks.mark.Mark as mark
use Rattle.ownership_kinds_chains.specs.declared.ownership_marks.mark.MarkSort.{MarkSort}
use Rattle.ownership_kinds_chains.specs.declared.ownership_marks.mark.MarkSort.TheVariants.{End, Use, Begin}
use Rattle.borrow_scopes.specs.Scopes.{entry_of, is_scope, leaves, left_at_return, lent_bases, lost_at_end, lost_entries}
use Rattle.borrow_scopes.specs.Scopes.{lost_from, lost_with, mark_entries, returned, scope_entries, scopes_of, turned_by}
use Rattle.borrow_scopes.specs.inner.Laws.{AreOnScopes}

abbrev IsOn : entry.Entry → Type 0
IsOn e = group_of e.mark.rule ≡ group.Scopes

turned_on : (sort : MarkSort) → group_of (turned_by sort).rule ≡ group.Scopes
turned_on Use = refl
turned_on End = refl
turned_on Begin = refl

module _ (f : Function) (facts : ValueId → Facts) where
  each_own : (m : mark.Mark) → AllByRecursion IsOn (scope_entries f facts m)
  each_own m = each_if IsOn (is_scope f facts m.subject) (entry_of m) (turned_on m.sort)

  each_from : (b : ValueId) (n : ℕ) → AllByRecursion IsOn (lost_from f facts b n)
  each_from b n = each_if IsOn (has (lent_bases f facts n) b.0) (lost_at_end n) refl

  each_lost : (count : ℕ) (v : ValueId) (sort : MarkSort) → AllByRecursion IsOn (lost_with f facts count v sort)
  each_lost count v End = each_flat IsOn (lost_from f facts v) (range_with_len 0 count) (each_from v)
  each_lost count v Use = tt
  each_lost count v Begin = tt

  each_mark : (count : ℕ) (m : mark.Mark) → AllByRecursion IsOn (mark_entries f facts count m)
  each_mark count m = each_append IsOn (scope_entries f facts m) (lost_entries f facts count m) (each_own m) (each_lost count m.subject m.sort)

  each_left : (n : ℕ) → AllByRecursion IsOn (leaves f facts n)
  each_left n = each_if IsOn (is_scope f facts (value_of n)) (left_at_return n) refl

  each_returned : (count : ℕ) (b : Bool) → AllByRecursion IsOn (returned f facts count b)
  each_returned count true = each_flat IsOn (leaves f facts) (range_with_len 0 count) each_left
  each_returned count false = tt

each_scope : (count : ℕ) (facts : ValueId → Option Facts) (f : Function) (item : Item) → AllByRecursion IsOn (scopes_of count facts f item)
each_scope count facts f item =
    each_append IsOn (flat_map (mark_entries f (known_or facts) count) (marks_of facts f item)) (returned f (known_or facts) count (is_return f item))
    (each_flat IsOn (mark_entries f (known_or facts) count) (marks_of facts f item) (each_mark f (known_or facts) count))
    (each_returned f (known_or facts) count (is_return f item))

pub on_scopes : AreOnScopes
on_scopes count facts f = shown_rule (λ r. group_of r ≡ group.Scopes) f (scopes_of count facts f) (each_scope count facts f)

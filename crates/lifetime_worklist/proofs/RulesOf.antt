-- The rules of the lives are those on lifetimes.
use Rattle.std.proofs.Common.{◌≡◌, ℕ, refl, Bool, true, false, Option}
use Rattle.std.specs.List.{AllByRecursion, flat_map, range_with_len}
use Rattle.sil_ast.specs.declared.function.Function.{Function}
use Rattle.sil_ast.specs.declared.place.ValueId.{ValueId}
use Rattle.sil_cfg.specs.Returns.{is_return}
use Rattle.sil_cfg.specs.declared.item.Item.{Item}
use Rattle.sil_rules.specs.Rules.{group_of}
use Rattle.sil_rules.specs.declared.group.Group.TheVariants as group
use Rattle.reach_engine_marks.specs.declared.path_checks.entry.Entry as entry
use Rattle.reach_engine_marks.proofs.PathChecks.RulesShown.{each_append, each_flat, each_if, shown_rule}
use Rattle.ownership_kinds_chains.specs.OwnershipChains.Facts.{is_owned, known_or, value_of}
use Rattle.ownership_kinds_chains.specs.declared.ownership_chains.facts.Facts.{Facts}
use Rattle.ownership_kinds_chains.specs.OwnershipMarks.Marks.{marks_of}
use Rattle.ownership_kinds_chains.specs.declared.ownership_marks.mark.Mark.{Mark}
use Rattle.ownership_kinds_chains.specs.declared.ownership_marks.mark.MarkSort.{MarkSort}
use Rattle.ownership_kinds_chains.specs.declared.ownership_marks.mark.MarkSort.TheVariants.{End, Use, Begin}
use Rattle.lifetime_worklist.specs.Lives.{entry_of, leaves, left_at_return, lives_by, lives_of, returned, turned_by}
use Rattle.lifetime_worklist.specs.inner.Laws.{AreOnLifetimes}

abbrev IsOn : entry.Entry → Type 0
IsOn e = group_of e.mark.rule ≡ group.Lifetimes

turned_on : (sort : MarkSort) → group_of (turned_by sort).rule ≡ group.Lifetimes
turned_on Use = refl
turned_on End = refl
turned_on Begin = refl

module _ (facts : ValueId → Facts) where
  each_mark : (m : Mark) → AllByRecursion IsOn (lives_by facts m)
  each_mark m = each_if IsOn (is_owned (facts m.subject).kind) (entry_of m) (turned_on m.sort)

  each_left : (n : ℕ) → AllByRecursion IsOn (leaves facts n)
  each_left n = each_if IsOn (is_owned (facts (value_of n)).kind) (left_at_return n) refl

  each_returned : (count : ℕ) (b : Bool) → AllByRecursion IsOn (returned facts count b)
  each_returned count true = each_flat IsOn (leaves facts) (range_with_len 0 count) each_left
  each_returned count false = tt

each_life : (count : ℕ) (facts : ValueId → Option Facts) (f : Function) (item : Item) → AllByRecursion IsOn (lives_of count facts f item)
each_life count facts f item =
    each_append IsOn (flat_map (lives_by (known_or facts)) (marks_of facts f item)) (returned (known_or facts) count (is_return f item))
    (each_flat IsOn (lives_by (known_or facts)) (marks_of facts f item) (each_mark (known_or facts))) (each_returned (known_or facts) count (is_return f item))

pub on_lifetimes : AreOnLifetimes
on_lifetimes count facts f = shown_rule (λ r. group_of r ≡ group.Lifetimes) f (lives_of count facts f) (each_life count facts f)

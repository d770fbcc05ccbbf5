-- Scopes as runs: a scope is open from a begin to its next end.
use Rattle.std.specs.Prelude.{◌≡◌, ◌↔◌, ℕ, List, true, ◌==◌, cond, filter_map, flat_map, Option, Some, None}
use Rattle.sil_ast.specs.declared.function.Function.{Function}
use Rattle.sil_ast.specs.declared.place.ValueId.{ValueId}
use Rattle.sil_cfg.specs.declared.item.Item.{Item}
use Rattle.reach_engine_marks.specs.PathPatterns.Switch.{IsOn}
use Rattle.reach_engine_marks.specs.PathPatterns.inner.Runs as runs
use Rattle.reach_engine_marks.specs.PathPatterns.inner.Runs.{IsHeld, Sort}
use Rattle.reach_engine_marks.specs.declared.path_patterns.mark.Mark as pattern
use Rattle.reach_engine_marks.specs.PathChecks.Entries.{marks_for}
use Rattle.ownership_kinds_chains.specs.OwnershipChains.Facts.{known_or}
use Rattle.ownership_kinds_chains.specs.declared.ownership_chains.facts.Facts.{Facts}
use Rattle.ownership_kinds_chains.specs.OwnershipMarks.Marks.{marks_of}
use Rattle.ownership_kinds_chains.specs.declared.ownership_marks.mark.Mark.{Mark}
use Rattle.ownership_kinds_chains.specs.declared.ownership_marks.mark.MarkSort.{MarkSort}
use Rattle.ownership_kinds_chains.specs.declared.ownership_marks.mark.MarkSort.TheVariants.{End, Use, Begin}
use Rattle.borrow_scopes.specs.Scopes.{is_scope, scopes_of}

abbrev pub sort_of : MarkSort → Sort
sort_of End = runs.End
sort_of Use = runs.Use
sort_of Begin = runs.Begin

abbrev pub sort_for : ValueId → Mark → Option Sort
sort_for s m = cond (m.subject.0 == s.0) (Some (sort_of m.sort)) None

-- what items do to the scope, one after another, by its marks
abbrev pub sorts_along : (ValueId → Option Facts) → Function → ValueId → List Item → List Sort
sorts_along facts f s items = flat_map (λ item. filter_map (sort_for s) (marks_of facts f item)) items

-- the marks that the table has of it along these items
abbrev pub scope_along : ℕ → (ValueId → Option Facts) → Function → ValueId → List Item → List pattern.Mark
scope_along count facts f s items = flat_map (marks_for s.0 (scopes_of count facts f)) items

-- its switch is on just while it is open: it began, and since then it has only been used
abbrev pub AreOpenWhileOn : Type 0
AreOpenWhileOn = (count : ℕ) (facts : ValueId → Option Facts) (f : Function) (s : ValueId) → is_scope f (known_or facts) s ≡ true → (items : List Item)
    → IsOn (scope_along count facts f s items) ↔ IsHeld (sorts_along facts f s items)

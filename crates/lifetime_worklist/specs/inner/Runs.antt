-- Lives as runs: an Owned value is held from a begin to its next end.
use Rattle.std.specs.Prelude.{◌≡◌, ◌↔◌, ℕ, ◌<◌, List, [], ◌∷◌, ◌++◌, All, Bool, true, false, ◌==◌, cond, filter_map, flat_map, Option, Some, None}
use Rattle.sil_ast.specs.declared.function.Function.{Function}
use Rattle.sil_ast.specs.declared.place.ValueId.{ValueId}
use Rattle.sil_cfg.specs.Returns.{is_return}
use Rattle.sil_cfg.specs.declared.item.Item.{Item}
use Rattle.reach_engine_marks.specs.PathPatterns.Lawful.{AreLawful}
use Rattle.reach_engine_marks.specs.PathPatterns.Switch.{IsInPlace, IsOn}
use Rattle.reach_engine_marks.specs.PathPatterns.inner.Runs as runs
use Rattle.reach_engine_marks.specs.PathPatterns.inner.Runs.{AreRuns, IsHeld, Sort}
use Rattle.reach_engine_marks.specs.declared.path_patterns.mark.Mark as pattern
use Rattle.reach_engine_marks.specs.PathChecks.Entries.{marks_for}
use Rattle.ownership_kinds_chains.specs.OwnershipChains.Facts.{is_owned, known_or}
use Rattle.ownership_kinds_chains.specs.declared.ownership_chains.facts.Facts.{Facts}
use Rattle.ownership_kinds_chains.specs.OwnershipMarks.Marks.{marks_of}
use Rattle.ownership_kinds_chains.specs.declared.ownership_marks.mark.Mark.{Mark}
use Rattle.ownership_kinds_chains.specs.declared.ownership_marks.mark.MarkSort.{MarkSort}
use Rattle.ownership_kinds_chains.specs.declared.ownership_marks.mark.MarkSort.TheVariants.{End, Use, Begin}
use Rattle.lifetime_worklist.specs.Lives.{lives_of}

abbrev pub sort_of : MarkSort → Sort
sort_of End = runs.End
sort_of Use = runs.Use
sort_of Begin = runs.Begin

abbrev pub sort_for : ValueId → Mark → Option Sort
sort_for v m = cond (m.subject.0 == v.0) (Some (sort_of m.sort)) None

-- what an item does to the value, by its marks
abbrev pub sorts_at : (ValueId → Option Facts) → Function → ValueId → Item → List Sort
sorts_at facts f v item = filter_map (sort_for v) (marks_of facts f item)

-- what items do to it, one after another
abbrev pub sorts_along : (ValueId → Option Facts) → Function → ValueId → List Item → List Sort
sorts_along facts f v items = flat_map (sorts_at facts f v) items

-- the marks that the lives have of it along these items
abbrev pub life_along : ℕ → (ValueId → Option Facts) → Function → ValueId → List Item → List pattern.Mark
life_along count facts f v items = flat_map (marks_for v.0 (lives_of count facts f)) items

abbrev pub IsOwned : (ValueId → Option Facts) → ValueId → Type 0
IsOwned facts v = is_owned (known_or facts v).kind ≡ true

abbrev pub HasNoReturn : Function → List Item → Type 0
HasNoReturn f items = All (λ item. is_return f item ≡ false) items

-- its switch is on just while the value is held: it began, and since then it has only been used
abbrev pub AreHeldWhileOn : Type 0
AreHeldWhileOn = (count : ℕ) (facts : ValueId → Option Facts) (f : Function) (v : ValueId) → IsOwned facts v → (items : List Item)
    → IsOn (life_along count facts f v items) ↔ IsHeld (sorts_along facts f v items)

-- before a `return` its marks are lawful just where they are runs of a begin, any number of uses, and an end, of which the last may lack its end
abbrev pub AreLivesRuns : Type 0
AreLivesRuns = (count : ℕ) (facts : ValueId → Option Facts) (f : Function) (v : ValueId) → IsOwned facts v → (items : List Item) → HasNoReturn f items
    → AreLawful IsInPlace (life_along count facts f v items) ↔ ((ended : Bool) × AreRuns ended (sorts_along facts f v items))

-- and with a `return` behind them just where each run has its end
abbrev pub AreEndedRuns : Type 0
AreEndedRuns = (count : ℕ) (facts : ValueId → Option Facts) (f : Function) (v : ValueId) → IsOwned facts v → v.0 < count
    → (items : List Item) → HasNoReturn f items → (last : Item) → is_return f last ≡ true
    → AreLawful IsInPlace (life_along count facts f v (items ++ last ∷ [])) ↔ AreRuns true (sorts_along facts f v (items ++ last ∷ []))

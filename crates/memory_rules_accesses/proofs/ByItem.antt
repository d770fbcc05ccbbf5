-- What the item with a number does, by the marks that are kept for it.
use Rattle.std.proofs.Common.{◌≡◌, ℕ, ◌<◌, List, ap, sym, ◌∙◌, Option, Some}
use Rattle.std.specs.declared.alloc.Global.{Global}
use Rattle.std.specs.declared.vec.Vec.{Vec}
use Rattle.std.proofs.lemmas.Option.{slice_get_within}
use Rattle.sil_ast.specs.declared.function.Function.{Function}
use Rattle.sil_ast.specs.declared.place.ValueId.{ValueId}
use Rattle.sil_cfg.specs.Layout.{Layout, item_at, item_count}
use Rattle.sil_cfg.specs.declared.item.Item.{Item}
use Rattle.reach_engine_marks.specs.PathPatterns.inner.Reads.{accesses_at, AgreesWith}
use Rattle.ownership_kinds_chains.specs.OwnershipChains.Facts.{told_at}
use Rattle.ownership_kinds_chains.specs.declared.ownership_chains.facts.Facts.{Facts}
use Rattle.ownership_kinds_chains.proofs.OwnershipMarks.MarkTables.{same_marks}
use Rattle.ownership_kinds_chains.specs.OwnershipMarks.Known.{AreKindsBy, Known, marks_at}
use Rattle.ownership_kinds_chains.specs.declared.ownership_marks.mark.Mark.{Mark}
use Rattle.memory_rules_accesses.specs.declared.access.Access.{Access}
use Rattle.memory_rules_accesses.specs.declared.source.Source.{Source}
use Rattle.memory_rules_accesses.specs.Accesses.{accesses_of, accesses_with}
use Rattle.memory_rules_accesses.specs.inner.Done.{done_by, told_at_item}

-- what was made of an item with its number's marks
pub told_of_item : (sources : List Source) (f : Function) (g : Layout) (k : Known) (n : ℕ) (item : Item) (marks : List Mark) (made : List Access) →
    made ≡ accesses_with sources marks f item → marks ≡ marks_at k n → item_at g n ≡ Some item → made ≡ told_at_item sources f g k n
told_of_item sources f g k n item marks made is kept e =
    is ∙ ap (λ these. accesses_with sources these f item) kept ∙ sym (ap (done_by sources f (marks_at k n)) e)

-- what is told of an item's number is what the item does
pub told_agrees : (sources : List Source) (f : Function) (g : Layout) (k : Known) (count : ℕ) (facts : ValueId → Option Facts) → AreKindsBy count facts f g k →
    (n : ℕ) (item : Item) → item_at g n ≡ Some item → told_at_item sources f g k n ≡ accesses_of sources facts f item
told_agrees sources f g k count facts by n item e = ap (done_by sources f (marks_at k n)) e ∙ ap (λ marks. accesses_with sources marks f item) (by.marks_are n item e)

-- what is told of every number agrees with what the items do
pub all_agree : (sources : List Source) (f : Function) (g : Layout) (k : Known) (all : List (Vec Access Global)) →
    ((n : ℕ) → n < item_count g → accesses_at all n ≡ told_at_item sources f g k n) →
    (count : ℕ) (facts : ValueId → Option Facts) → AreKindsBy count facts f g k → AgreesWith g (accesses_at all) (accesses_of sources facts f)
all_agree sources f g k all told count facts by n item e = told n (slice_get_within g.kinds n item e) ∙ told_agrees sources f g k count facts by n item e

-- what is made anew of an item is what it does, whichever facts the kinds are by
pub anew_agrees : (sources : List Source) (f : Function) (g : Layout) (k : Known) (count : ℕ) (facts : ValueId → Option Facts) → AreKindsBy count facts f g k →
    (item : Item) → accesses_of sources (told_at k.table) f item ≡ accesses_of sources facts f item
anew_agrees sources f g k count facts by item = ap (λ marks. accesses_with sources marks f item) (same_marks (told_at k.table) facts by.facts_are f item)

use Rattle.std.proofs.Common.{◌≡◌}
use Rattle.count_heap.specs.LayoutsByClass.inner.Kept.{places_until, sizes_until}
use Rattle.count_heap.proofs.layouts_by_class.layouts.all_places.Given as goal

abbrev pub invariant-loop-decl : goal.invariant-loop-decl
invariant-loop-decl l = (l.places ≡ places_until l.table l.decl-index) × (l.sizes.items ≡ sizes_until l.table l.decl-index)

use Rattle.std.proofs.Common.{◌≡◌, ◌+◌, ◌++◌, map, take}
use Rattle.count_heap.specs.LayoutsByClass.ClassFields.{field_leaves}
use Rattle.count_heap.specs.LayoutsByClass.Layouts.{places_from, size_of}
use Rattle.count_heap.proofs.layouts_by_class.places.add_fields.Given as goal

abbrev pub invariant-loop-field : goal.invariant-loop-field
invariant-loop-field l =
    (l.places.places.items ≡ l.fn.places.places.items ++ places_from l.fn.places.size (map (field_leaves l.table) (take l.field-index l.fields)))
    × (l.places.size ≡ l.fn.places.size + size_of (map (field_leaves l.table) (take l.field-index l.fields)))

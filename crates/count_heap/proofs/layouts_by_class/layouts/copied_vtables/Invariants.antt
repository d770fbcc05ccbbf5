use Rattle.std.proofs.Common.{◌≡◌, take}
use Rattle.count_heap.proofs.layouts_by_class.layouts.copied_vtables.Given as goal

abbrev pub invariant-loop-vtable : goal.invariant-loop-vtable
invariant-loop-vtable l = l.copies ≡ take l.vtable-index l.vtables

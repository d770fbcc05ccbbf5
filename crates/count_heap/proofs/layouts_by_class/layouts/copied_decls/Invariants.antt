use Rattle.std.proofs.Common.{◌≡◌, take}
use Rattle.count_heap.proofs.layouts_by_class.layouts.copied_decls.Given as goal

abbrev pub invariant-loop-decl : goal.invariant-loop-decl
invariant-loop-decl l = l.copies ≡ take l.decl-index l.decls

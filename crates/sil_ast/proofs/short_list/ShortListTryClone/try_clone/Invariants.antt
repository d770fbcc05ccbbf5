-- A copy equals its original: the elements so far are copied.
use Rattle.std.proofs.Common.{◌≡◌, take}
use Rattle.sil_ast.proofs.short_list.ShortListTryClone.try_clone.Given as goal

abbrev pub invariant-loop-item : goal.invariant-loop-item
invariant-loop-item g l = l.copies ≡ take l.item-index l.item-items

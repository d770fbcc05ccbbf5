-- A copy equals its original: the elements of a tuple so far are copied.
use Rattle.std.proofs.Common.{◌≡◌, take}
use Rattle.sil_ast.proofs.type_name.+copy.Given as goal

abbrev pub invariant-copy_all-loop-element : goal.invariant-copy_all-loop-element
invariant-copy_all-loop-element l = l.copies ≡ take l.element-index l.elements

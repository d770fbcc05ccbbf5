-- `same` decides equality: the elements of two tuples so far are equal.
use Rattle.std.proofs.Common.{◌≡◌, take}
use Rattle.sil_ast.proofs.type_name.+same.Given as goal

abbrev pub invariant-same_types-loop-i : goal.invariant-same_types-loop-i
invariant-same_types-loop-i l = take l.i l.a ≡ take l.i l.b

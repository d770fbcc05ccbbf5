-- How deep a type is as it is written.
use Rattle.std.specs.Prelude.{ℕ, ◌+◌, max, List, [], ◌∷◌}
use Rattle.sil_ast.specs.declared.type_name.TypeName.{TypeName, fold-TypeName}
use Rattle.sil_ast.specs.declared.type_name.TypeName.TheOpen.{TypeName-F, Int, Named, Optional, Tuple, Weak, Unowned, Address}

-- the largest of some numbers, and 0 of none
abbrev pub largest : List ℕ → ℕ
largest [] = 0
largest (n ∷ ns) = max n (largest ns)

-- the depth of a type whose parts have the depths that stand in their places
abbrev pub depth_over : TypeName-F ℕ → ℕ
depth_over (Int width) = 1
depth_over (Named name) = 1
depth_over (Optional d) = 1 + d
depth_over (Tuple ds) = 1 + largest ds
depth_over (Weak d) = 1 + d
depth_over (Unowned d) = 1 + d
depth_over (Address d) = d

-- the depth of a type as written: a name counts 1, and an address has the depth of what it points to
abbrev pub depth_of : TypeName → ℕ
depth_of = fold-TypeName ℕ depth_over

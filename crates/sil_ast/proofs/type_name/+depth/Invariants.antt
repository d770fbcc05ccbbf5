-- `depth` is the depth as written: the deepest element so far and the deepest of the rest are the deepest of all.
use Rattle.std.proofs.Common.{◌≡◌, ◌^◌, ◌-◌, map, drop, max, min}
use Rattle.sil_ast.specs.TypeName.{depth_of, largest}
use Rattle.sil_ast.proofs.type_name.+depth.Given as goal

abbrev pub invariant-deepest-loop-element : goal.invariant-deepest-loop-element
invariant-deepest-loop-element l =
    max l.deepest (min (largest (map depth_of (drop l.element-index l.elements))) (2 ^ 32 - 1)) ≡ min (largest (map depth_of l.elements)) (2 ^ 32 - 1)

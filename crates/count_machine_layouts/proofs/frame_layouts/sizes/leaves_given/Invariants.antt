use Rattle.std.proofs.Common.{◌≡◌, ◌+◌, drop, map}
use Rattle.std.specs.Prelude.{sum}
use Rattle.sil_types_declarations.specs.TypeDefinitions.Mentions.{direct_types}
use Rattle.sil_types_declarations.specs.TypeDefinitions.Measures.{leaves_of}
use Rattle.count_machine_layouts.proofs.frame_layouts.sizes.leaves_given.Given as goal

abbrev pub invariant-loop-given : goal.invariant-loop-given
invariant-loop-given l = l.leaves + sum (map (leaves_of l.table) (direct_types (drop l.given-index l.results)))
    ≡ sum (map (leaves_of l.table) (direct_types l.results))

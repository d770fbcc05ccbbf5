use Rattle.std.proofs.Common.{◌≡◌, ◌+◌, drop, map}
use Rattle.std.specs.Prelude.{sum}
use Rattle.sil_types_declarations.specs.TypeDefinitions.Measures.{leaves_of}
use Rattle.count_machine_ready.proofs.members.leaves_of_types.Given as goal

abbrev pub invariant-loop-ty : goal.invariant-loop-ty
invariant-loop-ty l = l.leaves + sum (map (leaves_of l.table) (drop l.ty-index l.types)) ≡ sum (map (leaves_of l.table) l.types)

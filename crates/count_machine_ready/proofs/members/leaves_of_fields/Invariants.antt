use Rattle.std.proofs.Common.{◌≡◌, ◌+◌, drop, map}
use Rattle.std.specs.Prelude.{sum}
use Rattle.sil_types.specs.Typing.Shapes.{field_type}
use Rattle.sil_types_declarations.specs.TypeDefinitions.Measures.{leaves_of}
use Rattle.count_machine_ready.proofs.members.leaves_of_fields.Given as goal

abbrev pub invariant-loop-field : goal.invariant-loop-field
invariant-loop-field l = l.leaves + sum (map (leaves_of l.table) (map field_type (drop l.field-index l.fields)))
    ≡ sum (map (leaves_of l.table) (map field_type l.fields))

use Rattle.std.proofs.Common.{◌≡◌, take, map}
use Rattle.numbered_form.specs.Names.{field_name}
use Rattle.sil_types_declarations.proofs.type_declarations.build.field_names.Given as goal

abbrev pub invariant-loop-field : goal.invariant-loop-field
invariant-loop-field l = l.names ≡ map field_name (take l.field-index l.fields)

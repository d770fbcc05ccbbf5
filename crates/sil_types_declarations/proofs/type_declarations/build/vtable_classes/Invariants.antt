use Rattle.std.proofs.Common.{◌≡◌, take, map}
use Rattle.numbered_form.specs.Names.{class_name}
use Rattle.sil_types_declarations.proofs.type_declarations.build.vtable_classes.Given as goal

abbrev pub invariant-loop-vtable : goal.invariant-loop-vtable
invariant-loop-vtable l = l.names ≡ map class_name (take l.vtable-index l.vtables)

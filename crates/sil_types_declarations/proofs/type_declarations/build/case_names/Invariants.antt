use Rattle.std.proofs.Common.{◌≡◌, take, map}
use Rattle.numbered_form.specs.Names.{case_name}
use Rattle.sil_types_declarations.proofs.type_declarations.build.case_names.Given as goal

abbrev pub invariant-loop-case : goal.invariant-loop-case
invariant-loop-case l = l.names ≡ map case_name (take l.case-index l.cases)

use Rattle.std.proofs.Common.{◌≡◌, drop}
use Rattle.sil_types.specs.Typing.Same.{are_same_types}
use Rattle.sil_types.specs.sil_types_declarations.TypeDefinitions.Mentions.{direct_types}
use Rattle.type_check_rows.proofs.same_view.are_given.Given as goal

abbrev pub invariant-loop-part : goal.invariant-loop-part
invariant-loop-part l = are_same_types l.parts (direct_types l.results) ≡ are_same_types (drop l.part-index l.parts) (direct_types l.rest)

use Rattle.std.proofs.Common.{◌≡◌, drop}
use Rattle.std.specs.List.{list_any}
use Rattle.sil_types_declarations.specs.TypeDefinitions.Rules.{is_too_low}
use Rattle.sil_types.proofs.limits.any_too_low.Given as goal

abbrev pub invariant-loop-decl : goal.invariant-loop-decl
invariant-loop-decl l = list_any (is_too_low l.table) (drop l.decl-index l.decls) ≡ list_any (is_too_low l.table) l.decls

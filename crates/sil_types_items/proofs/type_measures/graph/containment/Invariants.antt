use Rattle.std.proofs.Common.{◌≡◌, take, map}
use Rattle.sil_types_declarations.specs.TypeDefinitions.Contained.{lower_places}
use Rattle.sil_types_declarations.specs.TypeDefinitions.Declarations.{all_decls}
use Rattle.sil_types_items.proofs.type_measures.graph.containment.Given as goal

abbrev pub invariant-loop-decl : goal.invariant-loop-decl
invariant-loop-decl l = l.graph ≡ map (lower_places l.table) (take l.decl-index (all_decls l.table))

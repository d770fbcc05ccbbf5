use Rattle.std.proofs.Common.{◌≡◌, take}
use Rattle.std.specs.List.{flat_map}
use Rattle.sil_types_declarations.specs.TypeDefinitions.Contained.{payload_types, names_in, place_list}
use Rattle.sil_types_declarations.specs.TypeDefinitions.Declarations.{all_names}
use Rattle.sil_types_items.proofs.type_measures.graph.payload_places.Given as goal

abbrev pub invariant-loop-case : goal.invariant-loop-case
invariant-loop-case l = l.places ≡ flat_map (place_list (all_names l.table)) (flat_map names_in (flat_map payload_types (take l.case-index l.cases)))

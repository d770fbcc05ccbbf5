use Rattle.std.proofs.Common.{◌≡◌, take, map}
use Rattle.std.specs.List.{flat_map}
use Rattle.sil_types_declarations.specs.TypeDefinitions.Contained.{field_type, names_in, place_list}
use Rattle.sil_types_declarations.specs.TypeDefinitions.Declarations.{all_names}
use Rattle.sil_types_items.proofs.type_measures.graph.field_places.Given as goal

abbrev pub invariant-loop-field : goal.invariant-loop-field
invariant-loop-field l = l.places ≡ flat_map (place_list (all_names l.table)) (flat_map names_in (map field_type (take l.field-index l.fields)))

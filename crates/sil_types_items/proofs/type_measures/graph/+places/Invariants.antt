use Rattle.std.proofs.Common.{◌≡◌, ◌++◌, take}
use Rattle.std.specs.List.{flat_map}
use Rattle.sil_types_declarations.specs.TypeDefinitions.Declarations.{all_names}
use Rattle.sil_types_items.specs.TypeMeasures.inner.Places.{places_in}
use Rattle.sil_types_items.proofs.type_measures.graph.+places.Given as goal

abbrev pub invariant-add_all_places-loop-element : goal.invariant-add_all_places-loop-element
invariant-add_all_places-loop-element l = l.places ≡ l.initial.places ++ flat_map (places_in (all_names l.table)) (take l.element-index l.elements)

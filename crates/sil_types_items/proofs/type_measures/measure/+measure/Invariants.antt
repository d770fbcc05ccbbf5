use Rattle.std.proofs.Common.{◌≡◌, take, map}
use Rattle.sil_types_declarations.specs.TypeDefinitions.Declarations.{all_names}
use Rattle.sil_types_declarations.specs.TypeDefinitions.Measures.{measure_at, measure_with}
use Rattle.sil_types_items.specs.TypeMeasures.inner.Gathered.{gathered}
use Rattle.sil_types_items.proofs.type_measures.measure.+measure.Given as goal

abbrev pub invariant-gather_elements-loop-element : goal.invariant-gather_elements-loop-element
invariant-gather_elements-loop-element l = l.all ≡ gathered (map (measure_with (measure_at (all_names l.table) l.known)) (take l.element-index l.elements))

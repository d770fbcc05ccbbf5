use Rattle.std.proofs.Common.{◌≡◌, length}
use Rattle.sil_types_declarations.specs.TypeDefinitions.Declarations.{all_decls}
use Rattle.sil_types_items.specs.TypeMeasures.inner.Ordered.{AreMeasuredUpTo}
use Rattle.sil_types_items.proofs.type_measures.table.measures.Given as goal

abbrev pub invariant-loop-place : goal.invariant-loop-place
invariant-loop-place l = (length l.measures.items ≡ length (all_decls l.table)) × AreMeasuredUpTo l.table l.order l.measures.items l.place-index

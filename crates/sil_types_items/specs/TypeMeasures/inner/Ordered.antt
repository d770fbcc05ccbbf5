-- Measures that are worked out in an order in which parts stand before wholes.
use Rattle.std.specs.Prelude.{◌≡◌, ℕ, ◌<◌, List, slice_index}
use Rattle.sil_types_declarations.specs.TypeDefinitions.Declarations.{Declarations}
use Rattle.sil_types_declarations.specs.TypeDefinitions.Measures.{measures_within}
use Rattle.sil_types_declarations.specs.declared.type_definitions.measure.Measure.{Measure}
use Rattle.sil_types_items.specs.TypeMeasures.inner.Gathered.{capped, known_at}

-- the first i declarations of the order have their measures, seen through any number of declarations that is enough for them
abbrev pub AreMeasuredUpTo : Declarations → List ℕ → List Measure → ℕ → Type 0
AreMeasuredUpTo d order ms i = (j : ℕ) → j < i → (k : ℕ) → j < k
    → known_at ms (slice_index order j) ≡ capped (known_at (measures_within d k) (slice_index order j))

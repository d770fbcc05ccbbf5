-- What is kept of all classes.
use Rattle.std.specs.Prelude.{◌≡◌, ℕ, List, length, map}
use Rattle.std.specs.List.{range_with_len}
use Rattle.sil_types.specs.sil_types_declarations.TypeDefinitions.Declarations.{Declarations}
use Rattle.count_heap.specs.LayoutsByClass.ClassFields.{leaves_by_field}
use Rattle.count_heap.specs.LayoutsByClass.Layouts.{places_from, size_of}
use Rattle.count_heap.specs.declared.layouts_by_class.field_place.FieldPlace.{FieldPlace}

abbrev pub places_of : Declarations → ℕ → List FieldPlace
places_of d class = places_from 0 (leaves_by_field d class)

abbrev pub class_size : Declarations → ℕ → ℕ
class_size d class = size_of (leaves_by_field d class)

-- of the first declarations of the text
abbrev pub places_until : Declarations → ℕ → List (List FieldPlace)
places_until d n = map (places_of d) (range_with_len 0 n)

abbrev pub sizes_until : Declarations → ℕ → List ℕ
sizes_until d n = map (class_size d) (range_with_len 0 n)

pub record AreLayouts (d : Declarations) (places : List (List FieldPlace)) (sizes : List ℕ) : Type 0 where
  pub places_are : places ≡ places_until d (length d.decls)
  pub sizes_are : sizes ≡ sizes_until d (length d.decls)

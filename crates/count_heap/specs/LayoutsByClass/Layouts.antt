-- How the fields of an object lie side by side: each with one leaf in front of its own, which tells whether the field is written.
use Rattle.std.specs.Prelude.{ℕ, ◌+◌, List, [], ◌∷◌}
use Rattle.count_heap.specs.declared.layouts_by_class.field_place.FieldPlace.{FieldPlace}

-- the places of fields with so many leaves, from a place on
abbrev pub places_from : ℕ → List ℕ → List FieldPlace
places_from from [] = []
places_from from (n ∷ ns) = record { from = from; count = n } ∷ places_from (from + n + 1) ns

-- how many leaves they take
abbrev pub size_of : List ℕ → ℕ
size_of [] = 0
size_of (n ∷ ns) = n + 1 + size_of ns

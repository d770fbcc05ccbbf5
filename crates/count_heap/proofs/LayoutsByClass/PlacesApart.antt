-- Where the places of fields lie.
use Rattle.std.proofs.Common.{◌≡◌, ℕ, zero, suc, ◌+◌, ◌<◌, ◌≤◌, List, [], ◌∷◌, length, refl, arith}
use Rattle.std.specs.Prelude.{slice_index_or}
use Rattle.count_heap.specs.LayoutsByClass.Layouts.{places_from, size_of}
use Rattle.count_heap.specs.declared.layouts_by_class.field_place.FieldPlace.{FieldPlace}

abbrev pub no_place : FieldPlace
no_place = record { from = 0; count = 0 }

abbrev pub place_at : ℕ → List ℕ → ℕ → FieldPlace
place_at from ns i = slice_index_or (places_from from ns) i no_place

pub count_at : (from : ℕ) (ns : List ℕ) (i : ℕ) → (place_at from ns i).count ≡ slice_index_or ns i 0
count_at from [] i = refl
count_at from (n ∷ ns) zero = refl
count_at from (n ∷ ns) (suc i) = count_at (from + n + 1) ns i

-- not in front of the first
pub place_behind : (from : ℕ) (ns : List ℕ) (i : ℕ) → i < length ns → from ≤ (place_at from ns i).from
place_behind from [] i lt = absurd (omega arith)
place_behind from (n ∷ ns) zero lt = omega arith
place_behind from (n ∷ ns) (suc i) lt = omega (arith, place_behind (from + n + 1) ns i (omega arith))

-- within what all take
pub place_within : (from : ℕ) (ns : List ℕ) (i : ℕ) → i < length ns → (place_at from ns i).from + 1 + (place_at from ns i).count ≤ from + size_of ns
place_within from [] i lt = absurd (omega arith)
place_within from (n ∷ ns) zero lt = omega arith
place_within from (n ∷ ns) (suc i) lt = omega (arith, place_within (from + n + 1) ns i (omega arith))

-- one behind another
pub places_apart : (from : ℕ) (ns : List ℕ) (i j : ℕ) → i < j → j < length ns → (place_at from ns i).from + 1 + (place_at from ns i).count ≤ (place_at from ns j).from
places_apart from [] i j less lt = absurd (omega arith)
places_apart from (n ∷ ns) i zero less lt = absurd (omega arith)
places_apart from (n ∷ ns) zero (suc j) less lt = omega (arith, place_behind (from + n + 1) ns j (omega arith))
places_apart from (n ∷ ns) (suc i) (suc j) less lt = places_apart (from + n + 1) ns i j (omega arith) (omega arith)

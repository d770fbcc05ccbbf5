-- Lists that stand one behind the other, and where each of them ends.
use Rattle.std.specs.Prelude.{◌≡◌, ◌≤◌, ℕ, List, [], ◌∷◌, slice_get, slice_range, unwrap_or}

-- the lists behind the first `start` elements
abbrev pub lists_from : {A : Type 0} → ℕ → List A → List ℕ → List (List A)
lists_from start elements [] = []
lists_from start elements (end ∷ ends) = slice_range elements start end ∷ lists_from end elements ends

abbrev pub lists_of : {A : Type 0} → List A → List ℕ → List (List A)
lists_of elements ends = lists_from 0 elements ends

-- none of the ends is before the one before it, and the last is that of all elements
abbrev pub AreEnds : ℕ → List ℕ → ℕ → Type 0
AreEnds start [] count = start ≡ count
AreEnds start (end ∷ ends) count = (start ≤ end) × AreEnds end ends count

-- the list of the item with this number; a number past the last item has none
abbrev pub list_at : {A : Type 0} → List (List A) → ℕ → List A
list_at lists i = unwrap_or (slice_get lists i) []

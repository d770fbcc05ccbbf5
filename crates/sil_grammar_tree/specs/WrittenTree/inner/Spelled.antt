-- Parts of a shared text.
use Rattle.std.specs.Prelude.{ℕ, ◌+◌, ◌≤◌, List, [], length, slice_range, Option, Some, None}
use Rattle.std.specs.declared.rc.Rc.{Rc}
use Rattle.std.specs.declared.vec.Vec.{Vec}

-- some bytes of a text, where there is one
abbrev pub part_of : {A B : Type 0} → Option (Rc (Vec ℕ A) B) → ℕ → ℕ → List ℕ
part_of None from count = []
part_of (Some text) from count = slice_range text.value.items from (from + count)

-- the text is that long
abbrev pub IsInside : {A B : Type 0} → Option (Rc (Vec ℕ A) B) → ℕ → ℕ → Type 0
IsInside None from count = Unit {0}
IsInside (Some text) from count = from + count ≤ length text.value.items

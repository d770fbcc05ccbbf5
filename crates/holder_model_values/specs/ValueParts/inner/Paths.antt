-- Paths: which part of a value is meant, by the numbers of members from the outside to the inside.
use Rattle.std.specs.Prelude.{◌≡◌, ℕ, ◌+◌, List, [], ◌∷◌, Option, Some, map, option_and_then, option_map, set, slice_get, sum, take, unwrap_or}
use Rattle.holder_model_values.specs.RunValues.Leaves.{in_leaves}
use Rattle.holder_model_values.specs.RunValues.Places.{offset}
use Rattle.holder_model_values.specs.RunValues.Shapes.{Shape, Unknown, member_shapes}
use Rattle.holder_model_values.specs.RunValues.Values.{Value, grouped, members_of}

-- at the path from the first shape lies a part of the second: the whole, or a part of the member with this number
pub data IsPart : Shape → List ℕ → Shape → Type 0 where
  here : {s : Shape} → IsPart s [] s
  inside : {s t u : Shape} {k : ℕ} {path : List ℕ} → slice_get (member_shapes s) k ≡ Some t → IsPart t path u → IsPart s (k ∷ path) u

-- how many leaves a shape has
abbrev pub leaf_count : Shape → ℕ
leaf_count s = (in_leaves s).size

-- where the leaves of the one with this number begin, among shapes whose leaves lie side by side
abbrev pub leaf_offset : List Shape → ℕ → ℕ
leaf_offset shapes k = sum (map leaf_count (take k shapes))

abbrev pub member_shape : Shape → ℕ → Shape
member_shape s k = unwrap_or (slice_get (member_shapes s) k) Unknown

-- where the part at a path begins, by where each member does
abbrev pub before_along : (List Shape → ℕ → ℕ) → Shape → List ℕ → ℕ
before_along first s [] = 0
before_along first s (k ∷ path) = first (member_shapes s) k + before_along first (member_shape s k) path

-- how many cells, and how many leaves, lie before the part at a path
abbrev pub cells_before : Shape → List ℕ → ℕ
cells_before s path = before_along offset s path

abbrev pub leaves_before : Shape → List ℕ → ℕ
leaves_before s path = before_along leaf_offset s path

-- the members of a struct or tuple, and none of another value
abbrev pub all_members : Value → List Value
all_members v = unwrap_or (members_of v) []

abbrev pub member_at : Value → ℕ → Option Value
member_at v k = option_and_then (λ vs. slice_get vs k) (members_of v)

-- the part of a value at a path
abbrev pub part_at : Value → List ℕ → Option Value
part_at v [] = Some v
part_at v (k ∷ path) = option_and_then (λ x. part_at x path) (member_at v k)

abbrev pub with_member_at : Value → ℕ → Value → Value
with_member_at v k x = unwrap_or (option_map (λ vs. grouped (set vs k x)) (members_of v)) v

-- the value with this one as its part at a path
abbrev pub with_part_at : Value → List ℕ → Value → Value
with_part_at v [] w = w
with_part_at v (k ∷ path) w = with_member_at v k (with_part_at (unwrap_or (member_at v k) v) path w)

-- Two lists whose elements match one by one.
use Rattle.std.specs.Prelude.{List, [], ◌∷◌}

pub data Matched {A B : Type 0} (match_ : A → B → Type 0) : List A → List B → Type 0 where
  none : Matched match_ [] []
  both : (x : A) (y : B) (xs : List A) (ys : List B) → match_ x y → Matched match_ xs ys → Matched match_ (x ∷ xs) (y ∷ ys)

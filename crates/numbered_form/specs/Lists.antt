-- What holds of all elements of a list, part by part.
use Rattle.std.specs.Prelude.{List, [], ◌∷◌, ⊤, Bool, true, false}

-- P holds of each element
abbrev pub Each : {A : Type 0} → (A → Type 0) → List A → Type 0
Each P [] = ⊤
Each P (x ∷ xs) = P x × Each P xs

abbrev pub is_empty : {A : Type 0} → List A → Bool
is_empty [] = true
is_empty (x ∷ xs) = false

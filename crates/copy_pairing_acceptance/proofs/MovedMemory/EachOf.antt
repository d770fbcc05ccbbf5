-- What holds of each element of joined lists, and of an element that a list has.
use Rattle.std.proofs.Common.{◌≡◌, ℕ, zero, suc, ◌<◌, List, [], ◌∷◌, ◌++◌, length, subst, arith}
use Rattle.std.specs.Prelude.{Contains, slice_index_or}
use Rattle.std.specs.List.{flat_map}
use Rattle.numbered_form.specs.Lists.{Each}

pub each_append : {A : Type 0} (P : A → Type 0) (xs ys : List A) → Each P xs → Each P ys → Each P (xs ++ ys)
each_append P [] ys a b = b
each_append P (x ∷ xs) ys a b = (a.0, each_append P xs ys a.1 b)

pub each_flat : {A B : Type 0} (P : B → Type 0) (g : A → List B) → ((x : A) → Each P (g x)) → (xs : List A) → Each P (flat_map g xs)
each_flat P g all [] = tt
each_flat P g all (x ∷ xs) = each_append P (g x) (flat_map g xs) (all x) (each_flat P g all xs)

pub each_contained : {A : Type 0} (P : A → Type 0) (xs : List A) (x : A) → Each P xs → Contains xs x → P x
each_contained P [] x h c = absurd (let lt : c.0 < 0 = c.1 in omega arith)
each_contained P (y ∷ xs) x h c = at c.0 c.1 c.2 (each_contained P xs x h.1)
  where
    at : (k : ℕ) → k < length (y ∷ xs) → slice_index_or (y ∷ xs) k x ≡ x → (Contains xs x → P x) → P x
    at zero lt e more = subst P e h.0
    at (suc k) lt e more = more (k, omega arith, e)

-- Lists that a loop goes through: the element at its index, and what is made of one element more.
use Rattle.std.proofs.Common.{◌≡◌, ℕ, zero, suc, ◌+◌, ◌<◌, List, [], ◌∷◌, ◌++◌, length, take, get_or, refl, sym, ap, ◌∙◌, subst, arith, Some}
use Rattle.std.specs.Prelude.{slice_get}
use Rattle.std.proofs.lemmas.List.{take_more}
use Rattle.std.proofs.lemmas.Option.{slice_get-get_or}

pub item_at : {A : Type 0} (xs ys : List A) (k : ℕ) (x : A) → ys ≡ xs → k < length ys → x ≡ get_or ys k x → slice_get xs k ≡ Some x
item_at xs ys k x same lt is = subst (λ zs. slice_get zs k ≡ Some x) same (slice_get-get_or ys k x lt ∙ ap Some (sym is))

-- the elements so far, and one more
pub further : {A : Type 0} (xs ys : List A) (k : ℕ) (x : A) → ys ≡ xs → k < length ys → x ≡ get_or ys k x → take (k + 1) xs ≡ take k xs ++ x ∷ []
further xs ys k x same lt is = subst (λ zs. take (k + 1) zs ≡ take k zs ++ x ∷ []) same (take_more ys k x lt ∙ ap (λ y. take k ys ++ y ∷ []) (sym is))

-- what holds of each element by its index, and of one more
module _ {A : Type 0} where
  pub each_more : (xs : List A) (x : A) (holds : ℕ → A → Type 0) → ((n : ℕ) (y : A) → slice_get xs n ≡ Some y → holds n y) → holds (length xs) x
      → (n : ℕ) (y : A) → slice_get (xs ++ x ∷ []) n ≡ Some y → holds n y
  each_more [] x holds each last zero y at = let same : x ≡ y = cc in subst (holds 0) same last
  each_more [] x holds each last (suc n) y at = absurd (cc)
  each_more (z ∷ xs) x holds each last zero y at = each zero y at
  each_more (z ∷ xs) x holds each last (suc n) y at = each_more xs x (λ k. holds (suc k)) (λ k w there. each (suc k) w there) last n y at

pub element_there : {A : Type 0} (xs : List A) (k : ℕ) → k < length xs → (x : A) × (slice_get xs k ≡ Some x)
element_there [] k lt = absurd (omega arith)
element_there (x ∷ xs) zero lt = (x, refl)
element_there (x ∷ xs) (suc k) lt = element_there xs k (omega arith)

-- What holds of each element of a list, where lists are cut, joined and changed.
use Rattle.std.proofs.Common.{◌≡◌, ◌<◌, ◌++◌, ℕ, zero, suc, List, [], ◌∷◌, length, take, drop, replicate, slice_get, Some, refl, subst, arith}
use Rattle.std.specs.List.{flat_map}
use Rattle.std.proofs.lemmas.Option.{none-some, same_Some}
use Rattle.numbered_form.specs.Lists.{Each}
use Rattle.holder_model.specs.holder_model_values.RunValues.Cells.{Cell}
use Rattle.holder_model.specs.holder_model_values.RunValues.Memory.{put_cells}

pub get_within : {A : Type 0} (xs : List A) (k : ℕ) (x : A) → slice_get xs k ≡ Some x → k < length xs
get_within [] k x e = absurd (none-some x e)
get_within (y ∷ xs) zero x e = omega arith
get_within (y ∷ xs) (suc k) x e = omega (arith, get_within xs k x e)

module _ {A : Type 0} (P : A → Type 0) where
  pub each_at : (xs : List A) (k : ℕ) (x : A) → Each P xs → slice_get xs k ≡ Some x → P x
  each_at [] k x h e = absurd (none-some x e)
  each_at (y ∷ xs) zero x h e = subst P (same_Some y x e) h.0
  each_at (y ∷ xs) (suc k) x h e = each_at xs k x h.1 e

  pub each_from : (xs : List A) → ((k : ℕ) (x : A) → slice_get xs k ≡ Some x → P x) → Each P xs
  each_from [] h = tt
  each_from (x ∷ xs) h = (h 0 x refl, each_from xs (λ k y e. h (suc k) y e))

  pub each_append : (xs ys : List A) → Each P xs → Each P ys → Each P (xs ++ ys)
  each_append [] ys h k = k
  each_append (x ∷ xs) ys h k = (h.0, each_append xs ys h.1 k)

  pub each_parts : (xs ys : List A) → Each P (xs ++ ys) → Each P xs × Each P ys
  each_parts [] ys h = (tt, h)
  each_parts (x ∷ xs) ys h = let r = each_parts xs ys h.1 in ((h.0, r.0), r.1)

  pub each_cut : (n : ℕ) (xs : List A) → Each P xs → Each P (take n xs) × Each P (drop n xs)
  each_cut zero xs h = (tt, h)
  each_cut (suc n) [] h = (tt, tt)
  each_cut (suc n) (x ∷ xs) h = let r = each_cut n xs h.1 in ((h.0, r.0), r.1)

  pub each_replicate : (n : ℕ) (x : A) → P x → Each P (replicate n x)
  each_replicate zero x h = tt
  each_replicate (suc n) x h = (h, each_replicate n x h)

pub each_of : {A : Type 0} (P Q : A → Type 0) → ((x : A) → P x → Q x) → (xs : List A) → Each P xs → Each Q xs
each_of P Q g [] h = tt
each_of P Q g (x ∷ xs) h = (g x h.0, each_of P Q g xs h.1)

pub each_flat : {A B : Type 0} (P : B → Type 0) (f : A → List B) (xs : List A) → Each (λ x. Each P (f x)) xs → Each P (flat_map f xs)
each_flat P f [] h = tt
each_flat P f (x ∷ xs) h = each_append P (f x) (flat_map f xs) h.0 (each_flat P f xs h.1)

pub each_put : (P : Cell → Type 0) (cells : List Cell) (i : ℕ) (new : List Cell) → Each P cells → Each P new → Each P (put_cells cells i new)
each_put P cells zero [] h k = h
each_put P cells (suc i) [] h k = h
each_put P [] zero (c ∷ cs) h k = tt
each_put P [] (suc i) (c ∷ cs) h k = tt
each_put P (old ∷ cells) zero (c ∷ cs) h k = (k.0, each_put P cells zero cs h.1 k.1)
each_put P (old ∷ cells) (suc i) (c ∷ cs) h k = (h.0, each_put P cells i (c ∷ cs) h.1 k)

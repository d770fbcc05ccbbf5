-- Lists in parts.
use Rattle.std.proofs.Common.{◌≡◌, inl, inr, List, [], ◌∷◌, ◌++◌, map, refl, sym, ap}
use Rattle.numbered_form.specs.Lists.{Each}
use Rattle.numbered_form.proofs.PointChecks.Among.{Among}

pub split_among : {A : Type 0} (xs : List A) (y : A) → Among y xs → (front rest : List A) × (xs ≡ front ++ y ∷ rest)
split_among [] y c = absurd c
split_among (x ∷ xs) y (inl same) = ([], xs, ap (λ z. z ∷ xs) (sym same))
split_among (x ∷ xs) y (inr more) = let s = split_among xs y more in (x ∷ s.0, s.1, ap (λ zs. x ∷ zs) s.2)

pub each_split : {A : Type 0} (P : A → Type 0) (xs : List A) → ((front rest : List A) (x : A) → xs ≡ front ++ x ∷ rest → P x) → Each P xs
each_split P [] h = tt
each_split P (x ∷ xs) h = (h [] xs x refl, each_split P xs (λ front rest y e. h (x ∷ front) rest y (ap (λ zs. x ∷ zs) e)))

pub mapped_append : {A B : Type 0} (g : A → B) (xs ys : List A) → map g (xs ++ ys) ≡ map g xs ++ map g ys
mapped_append g [] ys = refl
mapped_append g (x ∷ xs) ys = ap (λ zs. g x ∷ zs) (mapped_append g xs ys)

pub each_so : {A : Type 0} (P Q : A → Type 0) → ((x : A) → P x → Q x) → (xs : List A) → Each P xs → Each Q xs
each_so P Q go [] h = tt
each_so P Q go (x ∷ xs) h = (go x h.0, each_so P Q go xs h.1)

-- What holds of two lists, place by place.
use Rattle.std.proofs.Common.{◌≡◌, List, [], ◌∷◌, ◌++◌, map, ap₂, refl, flat_map}
use Rattle.std.specs.List.{AllZip}
use Rattle.numbered_form.specs.Lists.{Each}

-- and what holds of each element of the first
pub with_each : {A B : Type 0} (P : A → Type 0) (R : A → B → Type 0) (xs : List A) (ys : List B) → Each P xs → AllZip R xs ys → AllZip (λ x y. P x × R x y) xs ys
with_each P R [] [] e z = tt
with_each P R [] (y ∷ ys) e z = absurd z
with_each P R (x ∷ xs) [] e z = absurd z
with_each P R (x ∷ xs) (y ∷ ys) e z = ((e.0, z.0), with_each P R xs ys e.1 z.1)

pub zip_weaker : {A B : Type 0} (R Q : A → B → Type 0) → ((x : A) (y : B) → R x y → Q x y) → (xs : List A) (ys : List B) → AllZip R xs ys → AllZip Q xs ys
zip_weaker R Q h [] [] z = tt
zip_weaker R Q h [] (y ∷ ys) z = absurd z
zip_weaker R Q h (x ∷ xs) [] z = absurd z
zip_weaker R Q h (x ∷ xs) (y ∷ ys) z = (h x y z.0, zip_weaker R Q h xs ys z.1)

pub zip_left : {A B C : Type 0} (f : A → C) (R : A → B → Type 0) (Q : C → B → Type 0) → ((x : A) (y : B) → R x y → Q (f x) y) → (xs : List A) (ys : List B) → AllZip R xs ys → AllZip Q (map f xs) ys
zip_left f R Q h [] [] z = tt
zip_left f R Q h [] (y ∷ ys) z = absurd z
zip_left f R Q h (x ∷ xs) [] z = absurd z
zip_left f R Q h (x ∷ xs) (y ∷ ys) z = (h x y z.0, zip_left f R Q h xs ys z.1)

pub zip_right : {A B C : Type 0} (f : B → C) (R : A → B → Type 0) (Q : A → C → Type 0) → ((x : A) (y : B) → R x y → Q x (f y)) → (xs : List A) (ys : List B) → AllZip R xs ys → AllZip Q xs (map f ys)
zip_right f R Q h [] [] z = tt
zip_right f R Q h [] (y ∷ ys) z = absurd z
zip_right f R Q h (x ∷ xs) [] z = absurd z
zip_right f R Q h (x ∷ xs) (y ∷ ys) z = (h x y z.0, zip_right f R Q h xs ys z.1)

pub zip_append : {A B : Type 0} (R : A → B → Type 0) (xs : List A) (ys : List B) (us : List A) (vs : List B) → AllZip R xs ys → AllZip R us vs → AllZip R (xs ++ us) (ys ++ vs)
zip_append R [] [] us vs z y = y
zip_append R [] (y ∷ ys) us vs z w = absurd z
zip_append R (x ∷ xs) [] us vs z w = absurd z
zip_append R (x ∷ xs) (y ∷ ys) us vs z w = (z.0, zip_append R xs ys us vs z.1 w)

pub zip_flat : {A B C D : Type 0} (f : A → List C) (g : B → List D) (R : A → B → Type 0) (Q : C → D → Type 0) → ((x : A) (y : B) → R x y → AllZip Q (f x) (g y))
    → (xs : List A) (ys : List B) → AllZip R xs ys → AllZip Q (flat_map f xs) (flat_map g ys)
zip_flat f g R Q h [] [] z = tt
zip_flat f g R Q h [] (y ∷ ys) z = absurd z
zip_flat f g R Q h (x ∷ xs) [] z = absurd z
zip_flat f g R Q h (x ∷ xs) (y ∷ ys) z = zip_append Q (f x) (g y) (flat_map f xs) (flat_map g ys) (h x y z.0) (zip_flat f g R Q h xs ys z.1)

-- what follows for each element of the second
pub zip_each : {A B : Type 0} (R : A → B → Type 0) (P : B → Type 0) → ((x : A) (y : B) → R x y → P y) → (xs : List A) (ys : List B) → AllZip R xs ys → Each P ys
zip_each R P h [] [] z = tt
zip_each R P h [] (y ∷ ys) z = absurd z
zip_each R P h (x ∷ xs) [] z = absurd z
zip_each R P h (x ∷ xs) (y ∷ ys) z = (h x y z.0, zip_each R P h xs ys z.1)

-- the elements of the first are read from those of the second
pub zip_read : {A B : Type 0} (v : B → A) (xs : List A) (ys : List B) → AllZip (λ x y. x ≡ v y) xs ys → xs ≡ map v ys
zip_read v [] [] z = refl
zip_read v [] (y ∷ ys) z = absurd z
zip_read v (x ∷ xs) [] z = absurd z
zip_read v (x ∷ xs) (y ∷ ys) z = ap₂ (λ a rest. a ∷ rest) z.0 (zip_read v xs ys z.1)

-- the two have the same parts
pub zip_same : {A B C : Type 0} (f : A → C) (g : B → C) (xs : List A) (ys : List B) → AllZip (λ x y. g y ≡ f x) xs ys → map g ys ≡ map f xs
zip_same f g [] [] z = refl
zip_same f g [] (y ∷ ys) z = absurd z
zip_same f g (x ∷ xs) [] z = absurd z
zip_same f g (x ∷ xs) (y ∷ ys) z = ap₂ (λ a rest. a ∷ rest) z.0 (zip_same f g xs ys z.1)

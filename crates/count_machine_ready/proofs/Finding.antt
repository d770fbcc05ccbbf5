-- A builtin is found by its name among the operations, from an index on.
use Rattle.std.proofs.Common.{◌≡◌, ℕ, suc, ◌+◌, ◌<◌, List, [], ◌∷◌, length, drop, get_or, map, refl, sym, ap, ◌∙◌, Bool, false, add-one}
use Rattle.std.specs.Prelude.{cond, find, Some, None}
use Rattle.std.specs.List.{flat_map}
use Rattle.std.specs.Option.{option_or}
use Rattle.std.proofs.Math.Seq.{drop-cons}
use Rattle.std.proofs.lemmas.List.Folds.{find-append}

-- what is found from an index on is found at it, or behind it
pub found_step : {A B : Type 0} (p : B → Bool) (f : A → List B) (xs : List A) (i : ℕ) (d : A) → i < length xs →
    find p (flat_map f (drop i xs)) ≡ option_or (find p (f (get_or xs i d))) (find p (flat_map f (drop (i + 1) xs)))
found_step {A} {B} p f xs i d h =
    ap (λ ys. find p (flat_map f ys)) (drop-cons xs i d h)
    ∙ find-append p (f (get_or xs i d)) (flat_map f (drop (suc i) xs))
    ∙ ap (λ k. option_or (find p (f (get_or xs i d))) (find p (flat_map f (drop k xs)))) (sym (add-one i))

pub found_here : {A B : Type 0} (p : B → Bool) (f : A → List B) (xs : List A) (i : ℕ) (d : A) (found : B) → i < length xs →
    Some found ≡ find p (f (get_or xs i d)) → Some found ≡ find p (flat_map f (drop i xs))
found_here p f xs i d found h e = ap (λ o. option_or o (find p (flat_map f (drop (i + 1) xs)))) e ∙ sym (found_step p f xs i d h)

pub not_found_here : {A B : Type 0} (p : B → Bool) (f : A → List B) (xs : List A) (i : ℕ) (d : A) → i < length xs →
    None ≡ find p (f (get_or xs i d)) → find p (flat_map f (drop i xs)) ≡ find p (flat_map f (drop (i + 1) xs))
not_found_here p f xs i d h e = found_step p f xs i d h ∙ ap (λ o. option_or o (find p (flat_map f (drop (i + 1) xs)))) (sym e)

-- tests that agree on the builtins of an operation find the same
pub find_alike : {A B : Type 0} (p q : B → Bool) (f : A → B) → ((x : A) → p (f x) ≡ q (f x)) → (xs : List A) → find p (map f xs) ≡ find q (map f xs)
find_alike p q f alike [] = refl
find_alike p q f alike (x ∷ xs) = ap (λ b. cond b (Some (f x)) (find p (map f xs))) (alike x)
    ∙ ap (λ o. cond (q (f x)) (Some (f x)) o) (find_alike p q f alike xs)

pub find_none : {A B : Type 0} (p : B → Bool) (f : A → B) → ((x : A) → false ≡ p (f x)) → (xs : List A) → None ≡ find p (map f xs)
find_none p f none [] = refl
find_none p f none (x ∷ xs) = find_none p f none xs ∙ ap (λ b. cond b (Some (f x)) (find p (map f xs))) (none x)

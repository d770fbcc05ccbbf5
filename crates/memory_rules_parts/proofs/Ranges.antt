-- Lists that are joined over a range of numbers.
use Rattle.std.proofs.Common.{◌≡◌, ℕ, ◌+◌, List, [], ◌∷◌, ◌++◌, map, sym, ap, ap₂, ◌∙◌, append-nil, append_assoc, arith}
use Rattle.std.specs.List.{flat_map, range_with_len}
use Rattle.std.proofs.lemmas.Grind.{flat_map-append}
use Rattle.std.proofs.lemmas.List.Folds.{flat_map-map}
use Rattle.std.proofs.lemmas.List.FromFn.{map-range_with_len_more}

pub flat_map_one_more : {X : Type 0} (f : ℕ → List X) (n : ℕ) → flat_map f (range_with_len 0 (n + 1)) ≡ flat_map f (range_with_len 0 n) ++ f n
flat_map_one_more f n =
    sym (flat_map-map (λ x. x) f (range_with_len 0 (n + 1))) ∙ ap (flat_map (λ x. x)) (map-range_with_len_more f 0 n n (omega arith))
    ∙ flat_map-append (λ x. x) (map f (range_with_len 0 n)) (f n ∷ []) ∙ ap₂ (λ u v. u ++ v) (flat_map-map (λ x. x) f (range_with_len 0 n)) (append-nil (f n))

-- a list that grows by one piece for each number
pub grown : {X : Type 0} (f : ℕ → List X) (n : ℕ) (initial old new : List X) → old ≡ initial ++ flat_map f (range_with_len 0 n) → new ≡ old ++ f n
    → new ≡ initial ++ flat_map f (range_with_len 0 (n + 1))
grown f n initial old new before more =
    more ∙ ap (λ v. v ++ f n) before ∙ append_assoc initial (flat_map f (range_with_len 0 n)) (f n) ∙ ap (λ v. initial ++ v) (sym (flat_map_one_more f n))

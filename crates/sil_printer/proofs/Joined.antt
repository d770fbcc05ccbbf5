-- Texts of items one behind the other: the step of a loop, and what is made of each item.
use Rattle.std.proofs.Common.{◌≡◌, ℕ, ◌+◌, ◌<◌, ◌≤◌, List, [], ◌∷◌, ◌++◌, length, take, get_or, map, refl, ap, sym, ◌∙◌, zero-add, arith}
use Rattle.std.specs.List.{join_by, enumerate_from}
use Rattle.std.proofs.lemmas.Grind.{common_steps}
use Rattle.std.proofs.lemmas.List.{take_more, take_all}
use Rattle.std.proofs.lemmas.List.FromFn.{length-enumerate_from, get_or-enumerate_from}
use Rattle.std.proofs.lemmas.List.Folds.{flat_map-map}
use Rattle.sil_printer.specs.Words.{separator_before, each_behind}
use Rattle.sil_printer.proofs.Appended.{appended_three}

-- one more item behind the same bytes
pub each_behind_step : {X : Type 0} (lead : List ℕ) (f : X → List ℕ) (xs : List X) (i : ℕ) (x : X) (start before led after : List ℕ)
    → i < length xs → x ≡ get_or xs i x
    → before ≡ start ++ each_behind lead f (take i xs) → led ≡ before ++ lead → after ≡ led ++ f x
    → after ≡ start ++ each_behind lead f (take (i + 1) xs)
each_behind_step lead f xs i x start before led after within here at_before at_led at_after =
    grind (arith, common_steps, take_more xs i x within)

join_by_more : {X : Type 0} (f : X → List ℕ) (s : List ℕ) (xs : List X) (x : X)
    → join_by f s (xs ++ x ∷ []) ≡ (join_by f s xs ++ separator_before s (length xs)) ++ f x
join_by_more f s [] x = grind (arith, common_steps)
join_by_more f s (y ∷ ys) x = grind (arith, common_steps)

join_by_next : {X : Type 0} (f : X → List ℕ) (s : List ℕ) (xs : List X) (i : ℕ) (x : X) → i < length xs
    → join_by f s (take (i + 1) xs) ≡ (join_by f s (take i xs) ++ separator_before s i) ++ f (get_or xs i x)
join_by_next f s xs i x within =
    let length_is : length (take i xs) ≡ i = grind (arith, common_steps) in
    ap (join_by f s) (take_more xs i x within) ∙ join_by_more f s (take i xs) (get_or xs i x)
    ∙ ap (λ n. (join_by f s (take i xs) ++ separator_before s n) ++ f (get_or xs i x)) length_is

-- a separator and one more item
pub join_by_step : {X : Type 0} (f : X → List ℕ) (s : List ℕ) (xs : List X) (i : ℕ) (x : X) (start before parted after : List ℕ)
    → i < length xs → x ≡ get_or xs i x
    → before ≡ start ++ join_by f s (take i xs) → parted ≡ before ++ separator_before s i → after ≡ parted ++ f x
    → after ≡ start ++ join_by f s (take (i + 1) xs)
join_by_step f s xs i x start before parted after within here at_before at_parted at_after =
    appended_three start before parted after (join_by f s (take i xs)) (separator_before s i) (f (get_or xs i x))
    at_before at_parted (at_after ∙ ap (λ item. parted ++ f item) here)
    ∙ ap (λ text. start ++ text) (sym (join_by_next f s xs i x within))

-- a separator and one more item with its number
pub join_numbered_step : {X : Type 0} (f : ℕ → X → List ℕ) (s : List ℕ) (xs : List X) (i : ℕ) (x : X) (start before parted after : List ℕ)
    → i < length xs → x ≡ get_or xs i x
    → before ≡ start ++ join_by (λ (k, y). f k y) s (take i (enumerate_from 0 xs)) → parted ≡ before ++ separator_before s i → after ≡ parted ++ f i x
    → after ≡ start ++ join_by (λ (k, y). f k y) s (take (i + 1) (enumerate_from 0 xs))
join_numbered_step {X} f s xs i x start before parted after within here at_before at_parted at_after =
    let same_length = length-enumerate_from 0 xs in
    let within_numbered : i < length (enumerate_from 0 xs) = omega arith in
    let pair_here : (i, x) ≡ get_or (enumerate_from 0 xs) i (i, x) =
    sym (get_or-enumerate_from 0 xs i (i, x) within ∙ ap (λ k. (k, get_or xs i x)) (zero-add i) ∙ ap (λ y. (i, y)) (sym here)) in
    join_by_step (λ (k, y). f k y) s (enumerate_from 0 xs) i (i, x) start before parted after within_numbered pair_here at_before at_parted at_after

-- all items with their numbers
pub join_numbered_all : {X : Type 0} (f : ℕ → X → List ℕ) (s : List ℕ) (xs : List X) (i : ℕ) (start after : List ℕ) → length xs ≤ i
    → after ≡ start ++ join_by (λ (k, y). f k y) s (take i (enumerate_from 0 xs))
    → after ≡ start ++ join_by (λ (k, y). f k y) s (enumerate_from 0 xs)
join_numbered_all f s xs i start after past at_after =
    let same_length = length-enumerate_from 0 xs in
    at_after ∙ ap (λ items. start ++ join_by (λ (k, y). f k y) s items) (take_all i (enumerate_from 0 xs) (omega arith))

-- items made of others
pub join_by_map : {X Y : Type 0} (f : Y → List ℕ) (h : X → Y) (s : List ℕ) (xs : List X)
    → join_by f s (map h xs) ≡ join_by (λ x. f (h x)) s xs
join_by_map f h s [] = refl
join_by_map f h s (x ∷ xs) = ap (λ rest. f (h x) ++ rest) (flat_map-map (λ y. s ++ f y) h xs)

-- Pieces of a list that are joined, and windows that begin past a list's end.
use Rattle.std.proofs.Common.{◌≡◌, ℕ, ◌+◌, suc, ◌-◌, ◌<◌, ◌≤◌, min, List, [], ◌∷◌, ◌++◌, length, take, drop, get_or, sym, ap, ◌∙◌, arith, inl, inr}
use Rattle.std.specs.List.{flat_map}
use Rattle.std.proofs.lemmas.List.{drop_all, drop-drop, drop-take, length-drop, length-take, take_all, take-append-drop, take-take}
use Rattle.std.proofs.lemmas.Bool.{cases_lt}
use Rattle.std.proofs.lemmas.Grind.{common_steps, flat_map-append}
use Rattle.std.proofs.Math.Seq.{drop-append_seam, drop-cons, take-append_seam}
use Rattle.count_machine_model.specs.MachineSteps.Operands.{laid_over}

pub length-window : {A : Type 0} (n from : ℕ) (xs : List A) → length (take n (drop from xs)) ≡ min n (length xs - from)
length-window n from xs = length-take n (drop from xs) ∙ ap (λ k. min n k) (length-drop from xs)

-- the i-th piece stands behind those before it
pub piece : {X A : Type 0} (f : X → List A) (xs : List X) (i : ℕ) (d : X) → i < length xs →
    take (length (f (get_or xs i d))) (drop (length (flat_map f (take i xs))) (flat_map f xs)) ≡ f (get_or xs i d)
piece f xs i d h =
    let x = get_or xs i d in
    let split : xs ≡ take i xs ++ (x ∷ drop (suc i) xs) = sym (take-append-drop i xs) ∙ ap (λ ys. take i xs ++ ys) (drop-cons xs i d h) in
    let joined : flat_map f xs ≡ flat_map f (take i xs) ++ flat_map f (x ∷ drop (suc i) xs) = ap (flat_map f) split ∙ flat_map-append f (take i xs) (x ∷ drop (suc i) xs) in
    ap (λ ys. take (length (f x)) (drop (length (flat_map f (take i xs))) ys)) joined
    ∙ ap (take (length (f x))) (drop-append_seam (flat_map f (take i xs)) (flat_map f (x ∷ drop (suc i) xs)))
    ∙ take-append_seam (f x) (flat_map f (drop (suc i) xs))

-- leaves laid past the end change nothing
laid_over-past : {A : Type 0} (from : ℕ) (xs ys : List A) → length ys ≤ from → laid_over from xs ys ≡ ys
laid_over-past from xs ys h = grind (arith, common_steps)

pub laid_over-capped : {A : Type 0} (from to cap : ℕ) (xs ys : List A) → to ≡ min from cap → length ys ≤ cap → laid_over to xs ys ≡ laid_over from xs ys
laid_over-capped from to cap xs ys e h =
    elim (cases_lt cap from) [
      | inl past ↦ laid_over-past to xs ys (omega arith) ∙ sym (laid_over-past from xs ys (omega arith))
      | inr within ↦ let same : to ≡ from = omega arith in ap (λ n. laid_over n xs ys) same
    ]

pub window-capped : {A : Type 0} (from to cap size : ℕ) (xs : List A) → to ≡ min from cap → length xs ≤ cap → take size (drop to xs) ≡ take size (drop from xs)
window-capped from to cap size xs e h =
    elim (cases_lt cap from) [
      | inl past ↦ ap (take size) (drop_all to xs (omega arith) ∙ sym (drop_all from xs (omega arith)))
      | inr within ↦ let same : to ≡ from = omega arith in ap (λ n. take size (drop n xs)) same
    ]

-- windows of windows

take_take-min : {A : Type 0} (n m : ℕ) (xs : List A) → take n (take m xs) ≡ take (min n m) xs
take_take-min n m xs =
    elim (cases_lt m n) [
      | inl less ↦ let e : min n m ≡ m = omega arith in rw e (take_all n (take m xs) (omega (arith, length-take m xs)))
      | inr more ↦ let e : min n m ≡ n = omega arith in rw e (take-take n m xs more)
    ]

drop_take-less : {A : Type 0} (k m : ℕ) (xs : List A) → drop k (take m xs) ≡ take (m - k) (drop k xs)
drop_take-less k m xs =
    elim (cases_lt m k) [
      | inl less ↦ let e : m - k ≡ 0 = omega arith in rw e (drop_all k (take m xs) (omega (arith, length-take m xs)))
      | inr more ↦ let e : m ≡ k + (m - k) = omega arith in ap (λ n. drop k (take n xs)) e ∙ drop-take k (m - k) xs
    ]

pub part-window : {A : Type 0} (n k m from : ℕ) (xs : List A) → take (min n (m - k)) (drop (from + k) xs) ≡ take n (drop k (take m (drop from xs)))
part-window n k m from xs =
    ap (λ ys. take (min n (m - k)) ys) (sym (drop-drop k from xs)) ∙ sym (take_take-min n (m - k) (drop k (drop from xs))) ∙ ap (take n) (sym (drop_take-less k m (drop from xs)))

-- a part of a window is laid over the list
pub part-laid : {A : Type 0} (base at from operand_size size to_at cap begin count to : ℕ) (xs new : List A) →
    begin ≡ min (base + at + from) cap → count ≡ min size (operand_size - from) → to ≡ min (base + to_at) cap → length xs ≤ cap → new ≡ laid_over to (take count (drop begin xs)) xs →
    new ≡ laid_over (base + to_at) (take size (drop from (take operand_size (drop (base + at) xs)))) xs
part-laid base at from operand_size size to_at cap begin count to xs new b c t h e =
    e ∙ laid_over-capped (base + to_at) to cap (take count (drop begin xs)) xs t h
    ∙ ap (λ ys. laid_over (base + to_at) ys xs)
    (window-capped (base + at + from) begin cap count xs b h ∙ ap (λ n. take n (drop (base + at + from) xs)) c ∙ part-window size from operand_size (base + at) xs)

-- a window of one
pub one_of : {A : Type 0} (from : ℕ) (xs : List A) (d : A) → from < length xs → take 1 (drop from xs) ≡ get_or xs from d ∷ []
one_of from xs d h = ap (take 1) (drop-cons xs from d h)

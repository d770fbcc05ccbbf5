-- The first of some faults, found in one pass over a list.
use Rattle.std.proofs.Common.{◌≡◌, ℕ, ◌+◌, ◌<◌, List, [], ◌∷◌, ◌++◌, length, get_or, drop, refl, sym, ap, ◌∙◌, Option, Some, arith, Result, Ok, Err}
use Rattle.std.specs.Prelude.{IfOk}
use Rattle.std.specs.List.{flat_map}
use Rattle.std.proofs.lemmas.List.{append_assoc, at_drop_more}
use Rattle.numbered_form.specs.PointChecks.inner.Faults.{least, lesser, numbered}
use Rattle.numbered_form.specs.declared.point_checks.fault.PointFault.{PointFault}

pub least-append : (found : Option PointFault) (xs ys : List PointFault) → least found (xs ++ ys) ≡ least (least found xs) ys
least-append found [] ys = refl
least-append found (x ∷ xs) ys = least-append (Some (lesser found x)) xs ys

-- one element more
pub least_step : {A : Type 0} (g : A → List PointFault) (xs : List A) (i : ℕ) (d : A) (found next all : Option PointFault) → i < length xs →
    least found (flat_map g (drop i xs)) ≡ all → next ≡ least found (g (get_or xs i d)) → least next (flat_map g (drop (i + 1) xs)) ≡ all
least_step g xs i d found next all lt before e =
    ap (λ f. least f (flat_map g (drop (i + 1) xs))) e ∙ sym (least-append found (g (get_or xs i d)) (flat_map g (drop (i + 1) xs))) ∙
    sym (at_drop_more (λ ys. least found (flat_map g ys)) xs i d lt) ∙ before

numbered_more : {A : Type 0} (g : ℕ → A → List PointFault) (xs : List A) (i n : ℕ) (d : A) (found : Option PointFault) → i < length xs →
    least found (numbered g n (drop i xs)) ≡ least (least found (g n (get_or xs i d))) (numbered g (n + 1) (drop (i + 1) xs))
numbered_more g xs i n d found lt =
    at_drop_more (λ ys. least found (numbered g n ys)) xs i d lt ∙ least-append found (g n (get_or xs i d)) (numbered g (n + 1) (drop (i + 1) xs))

-- one element more that has a number
pub numbered_step : {A : Type 0} (g : ℕ → A → List PointFault) (xs : List A) (i n : ℕ) (d : A) (found next all : Option PointFault) → i < length xs →
    least found (numbered g n (drop i xs)) ≡ all → next ≡ least found (g n (get_or xs i d)) → least next (numbered g (n + 1) (drop (i + 1) xs)) ≡ all
numbered_step g xs i n d found next all lt before e =
    ap (λ f. least f (numbered g (n + 1) (drop (i + 1) xs))) e ∙ sym (numbered_more g xs i n d found lt) ∙ before

pub numbered-append : {A : Type 0} (g : ℕ → A → List PointFault) (n : ℕ) (xs ys : List A) → numbered g n (xs ++ ys) ≡ numbered g n xs ++ numbered g (n + length xs) ys
numbered-append g n [] ys = ap (λ k. numbered g k ys) (omega arith)
numbered-append g n (x ∷ xs) ys =
    let next : n + 1 + length xs ≡ n + length (x ∷ xs) = omega arith in
    ap (λ rest. g n x ++ rest) (numbered-append g (n + 1) xs ys) ∙ ap (λ k. g n x ++ (numbered g (n + 1) xs ++ numbered g k ys)) next ∙
    sym (append_assoc (g n x) (numbered g (n + 1) xs) (numbered g (n + length (x ∷ xs)) ys))

-- some faults, and more behind them
pub least_two : (found next all : Option PointFault) (xs ys : List PointFault) → next ≡ least found xs → all ≡ least next ys → all ≡ least found (xs ++ ys)
least_two found next all xs ys one other = other ∙ ap (λ f. least f ys) one ∙ sym (least-append found xs ys)

pub least_four : (found r m t all : Option PointFault) (xs ys zs ws : List PointFault) →
    r ≡ least found xs → m ≡ least r ys → t ≡ least m zs → all ≡ least t ws → all ≡ least found (xs ++ (ys ++ (zs ++ ws)))
least_four found r m t all xs ys zs ws a b c e = least_two found r all xs (ys ++ (zs ++ ws)) a (least_two r m all ys (zs ++ ws) b (least_two m t all zs ws c e))

pub least_item : {A : Type 0} (g : A → List PointFault) (xs : List A) (i : ℕ) (x : A) (found next all : Option PointFault) → i < length xs → x ≡ get_or xs i x →
    least found (flat_map g (drop i xs)) ≡ all → next ≡ least found (g x) → least next (flat_map g (drop (i + 1) xs)) ≡ all
least_item g xs i x found next all lt is before e = least_step g xs i x found next all lt before (e ∙ ap (λ y. least found (g y)) is)

pub numbered_item : {A : Type 0} (g : ℕ → A → List PointFault) (xs : List A) (i n : ℕ) (x : A) (found next all : Option PointFault) → i < length xs → x ≡ get_or xs i x →
    least found (numbered g n (drop i xs)) ≡ all → next ≡ least found (g n x) → least next (numbered g (n + 1) (drop (i + 1) xs)) ≡ all
numbered_item g xs i n x found next all lt is before e = numbered_step g xs i n x found next all lt before (e ∙ ap (λ y. least found (g n y)) is)

-- the last of what is numbered
pub numbered_last : {A : Type 0} (g : ℕ → A → List PointFault) (xs : List A) (x : A) (last : ℕ) (found next all : Option PointFault) → last ≡ length xs →
    next ≡ least found (numbered g 0 xs) → all ≡ least next (g last x) → all ≡ least found (numbered g 0 (xs ++ x ∷ []))
numbered_last g xs x last found next all is before e =
    let number : last ≡ 0 + length xs = omega arith in
    least_two found next all (numbered g 0 xs) (numbered g (0 + length xs) (x ∷ [])) before
    (least_two next all all (g (0 + length xs) x) [] (e ∙ ap (λ n. least next (g n x)) number) refl) ∙
    ap (least found) (sym (numbered-append g 0 xs (x ∷ [])))

pub ok_along : {E : Type 0} (r : Result (Option PointFault) E) (P Q : Option PointFault → Type 0) → ((o : Option PointFault) → P o → Q o) → IfOk r P → IfOk r Q
ok_along (Ok o) P Q h p = h o p
ok_along (Err e) P Q h p = tt

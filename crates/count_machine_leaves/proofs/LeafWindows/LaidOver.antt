-- Leaves laid over a list, element by element.
use Rattle.std.proofs.Common.{◌≡◌, ℕ, zero, suc, ◌+◌, ◌-◌, ◌<◌, ◌≤◌, List, [], ◌∷◌, ◌++◌, length, replicate, take, drop, set, get_or, refl, sym, ap, ◌∙◌, arith, zero-add}
use Rattle.std.proofs.lemmas.Grind.{common_steps}
use Rattle.std.proofs.Math.Nat.{suc-add, suc-sub-suc, sub-zero}
use Rattle.std.proofs.lemmas.List.{length-take-le, take_more, length-take, length-drop, get_or-drop, get_or-take, drop_more, length-replicate, replicate-append-replicate, replicate_more}
use Rattle.count_machine_model.specs.MachineSteps.Operands.{laid_over}

-- the same by recursion
abbrev pub laid : {A : Type 0} → ℕ → List A → List A → List A
laid from xs [] = []
laid zero [] (y ∷ ys) = y ∷ ys
laid zero (x ∷ xs) (y ∷ ys) = x ∷ laid zero xs ys
laid (suc from) xs (y ∷ ys) = y ∷ laid from xs ys

laid_nothing : {A : Type 0} (ys : List A) → laid zero [] ys ≡ ys
laid_nothing [] = refl
laid_nothing (y ∷ ys) = refl

from_start : {A : Type 0} (xs ys : List A) → take (length ys) xs ++ drop (length xs) ys ≡ laid zero xs ys
from_start [] [] = refl
from_start [] (y ∷ ys) = refl
from_start (x ∷ xs) [] = refl
from_start (x ∷ xs) (y ∷ ys) = ap (λ zs. x ∷ zs) (from_start xs ys)

pub laid_is : {A : Type 0} (from : ℕ) (xs ys : List A) → laid_over from xs ys ≡ laid from xs ys
laid_is zero xs [] = grind (arith, common_steps)
laid_is zero xs (y ∷ ys) = simp (sub-zero, zero-add) (from_start xs (y ∷ ys))
laid_is (suc from) xs [] = grind (arith, common_steps)
laid_is (suc from) xs (y ∷ ys) =
    rw (suc-sub-suc (length ys) from, suc-add from (length xs)) (ap (λ zs. y ∷ zs) (laid_is from xs ys))

pub laid_one : {A : Type 0} (from : ℕ) (x : A) (ys : List A) → laid from (x ∷ []) ys ≡ set ys from x
laid_one zero x [] = refl
laid_one (suc from) x [] = refl
laid_one zero x (y ∷ ys) = ap (λ zs. x ∷ zs) (laid_nothing ys)
laid_one (suc from) x (y ∷ ys) = ap (λ zs. y ∷ zs) (laid_one from x ys)

pub one_laid_over : {A : Type 0} (from : ℕ) (x : A) (ys : List A) → laid_over from (x ∷ []) ys ≡ set ys from x
one_laid_over from x ys = laid_is from (x ∷ []) ys ∙ laid_one from x ys

pub length-laid : {A : Type 0} (from : ℕ) (xs ys : List A) → length (laid from xs ys) ≡ length ys
length-laid from xs [] = refl
length-laid zero [] (y ∷ ys) = refl
length-laid zero (x ∷ xs) (y ∷ ys) = ap suc (length-laid zero xs ys)
length-laid (suc from) xs (y ∷ ys) = ap suc (length-laid from xs ys)

pub laid-append : {A : Type 0} (from : ℕ) (xs zs ys : List A) → laid from (xs ++ zs) ys ≡ laid (from + length xs) zs (laid from xs ys)
laid-append from xs zs [] = refl
laid-append zero [] zs (y ∷ ys) = refl
laid-append zero (x ∷ xs) zs (y ∷ ys) = simp zero-add (ap (λ rest. x ∷ rest) (simp zero-add at (laid-append zero xs zs ys)))
laid-append (suc from) xs zs (y ∷ ys) = rw (suc-add from (length xs)) (ap (λ rest. y ∷ rest) (laid-append from xs zs ys))

-- the step of a loop that lays one more
pub laid_more : {A : Type 0} (from i : ℕ) (xs ys : List A) (d : A) → i < length xs →
    laid_over from (take (i + 1) xs) ys ≡ set (laid_over from (take i xs) ys) (from + i) (get_or xs i d)
laid_more from i xs ys d h =
    let one = laid_one (from + i) (get_or xs i d) (laid from (take i xs) ys) in
    let both = laid-append from (take i xs) (get_or xs i d ∷ []) ys in
    rw (laid_is from (take (i + 1) xs) ys, laid_is from (take i xs) ys, take_more xs i d h, both, length-take-le i xs (omega arith)) one

pub laid_past : {A : Type 0} (from : ℕ) (xs ys : List A) → length ys ≤ from → laid from xs ys ≡ ys
laid_past from xs [] h = refl
laid_past zero xs (y ∷ ys) h = absurd (omega arith)
laid_past (suc from) xs (y ∷ ys) h = ap (λ zs. y ∷ zs) (laid_past from xs ys (omega arith))

-- leaves of the list itself, laid over others of it

pub get_or-laid_behind : {A : Type 0} (from : ℕ) (xs ys : List A) (k : ℕ) (d : A) → from + length xs ≤ k → get_or (laid from xs ys) k d ≡ get_or ys k d
get_or-laid_behind from xs [] k d h = refl
get_or-laid_behind zero [] (y ∷ ys) k d h = refl
get_or-laid_behind zero (x ∷ xs) (y ∷ ys) zero d h = absurd (omega arith)
get_or-laid_behind zero (x ∷ xs) (y ∷ ys) (suc k) d h = get_or-laid_behind zero xs ys k d (omega arith)
get_or-laid_behind (suc from) xs (y ∷ ys) zero d h = refl
get_or-laid_behind (suc from) xs (y ∷ ys) (suc k) d h = get_or-laid_behind from xs ys k d (omega arith)

pub get_or-laid_before : {A : Type 0} (from : ℕ) (xs ys : List A) (k : ℕ) (d : A) → k < from → get_or (laid from xs ys) k d ≡ get_or ys k d
get_or-laid_before from xs [] k d h = refl
get_or-laid_before zero xs (y ∷ ys) k d h = absurd (omega arith)
get_or-laid_before (suc from) xs (y ∷ ys) zero d h = refl
get_or-laid_before (suc from) xs (y ∷ ys) (suc k) d h = get_or-laid_before from xs ys k d (omega arith)

pub laid_before : {A : Type 0} (from : ℕ) (x : A) (xs ys : List A) → set (laid (suc from) xs ys) from x ≡ laid from (x ∷ xs) ys
laid_before from x xs [] = refl
laid_before zero x xs (y ∷ ys) = refl
laid_before (suc from) x xs (y ∷ ys) = ap (λ zs. y ∷ zs) (laid_before from x xs ys)

-- the step of a loop that goes up
pub moved_down : {A : Type 0} (from to i : ℕ) (ys : List A) (d : A) → to ≤ from → from + i < length ys →
    set (laid_over to (take i (drop from ys)) ys) (to + i) (get_or (laid_over to (take i (drop from ys)) ys) (from + i) d)
    ≡ laid_over to (take (i + 1) (drop from ys)) ys
moved_down from to i ys d h k =
    let is = laid_is to (take i (drop from ys)) ys in
    let untouched = get_or-laid_behind to (take i (drop from ys)) ys (from + i) d (simp length-take (omega arith)) in
    let more = laid_more to i (drop from ys) ys d (simp length-drop (omega arith)) in
    let there = get_or-drop from ys i d in
    let same = ap (λ zs. get_or zs (from + i) d) is ∙ untouched ∙ sym there in
    ap (set (laid_over to (take i (drop from ys)) ys) (to + i)) same ∙ sym more

-- the step of a loop that goes down
pub moved_up : {A : Type 0} (from to i : ℕ) (zs ys : List A) (d : A) → from ≤ to → i < length zs → get_or zs i d ≡ get_or ys (from + i) d →
    set (laid_over (to + (i + 1)) (drop (i + 1) zs) ys) (to + i) (get_or (laid_over (to + (i + 1)) (drop (i + 1) zs) ys) (from + i) d)
    ≡ laid_over (to + i) (drop i zs) ys
moved_up from to i zs ys d h k e =
    let above : to + (i + 1) ≡ suc (to + i) = omega arith in
    let rest = drop (i + 1) zs in
    let is = rw above at (laid_is (to + (i + 1)) rest ys) in
    let untouched = get_or-laid_before (suc (to + i)) rest ys (from + i) d (omega arith) in
    let same = ap (λ xs. get_or xs (from + i) d) is ∙ untouched ∙ sym e in
    let before = laid_before (to + i) (get_or zs i d) rest ys in
    rw (above, same, is, before, drop_more zs i d k) (sym (laid_is (to + i) (get_or zs i d ∷ rest) ys))

pub moved_up_by : {A : Type 0} (from to n count : ℕ) (leaves ys : List A) (d : A) → from ≤ to → to + count ≤ length ys → 0 < n → n ≤ count →
    leaves ≡ laid_over (to + n) (drop n (take count (drop from ys))) ys →
    set leaves (to + (n - 1)) (get_or leaves (from + (n - 1)) d) ≡ laid_over (to + (n - 1)) (drop (n - 1) (take count (drop from ys))) ys
moved_up_by from to n count leaves ys d h within some most is =
    let i = n - 1 in
    let zs = take count (drop from ys) in
    let step : n ≡ i + 1 = omega arith in
    let short : i < length zs = simp (length-take, length-drop) (omega arith) in
    let there : get_or zs i d ≡ get_or ys (from + i) d = get_or-take count (drop from ys) i d (omega arith) ∙ get_or-drop from ys i d in
    let now : leaves ≡ laid_over (to + (i + 1)) (drop (i + 1) zs) ys = is ∙ ap (λ m. laid_over (to + m) (drop m zs) ys) step in
    ap (λ xs. set xs (to + i) (get_or xs (from + i) d)) now ∙ moved_up from to i zs ys d h short there

-- the step of a loop that lays one and the same
pub laid_same : {A : Type 0} (from i : ℕ) (x : A) (ys : List A) → set (laid_over from (replicate i x) ys) (from + i) x ≡ laid_over from (replicate (i + 1) x) ys
laid_same from i x ys =
    let one = laid_one (from + i) x (laid from (replicate i x) ys) in
    let both = laid-append from (replicate i x) (x ∷ []) ys in
    let more : laid from (replicate (i + 1) x) ys ≡ laid (from + i) (x ∷ []) (laid from (replicate i x) ys) =
    ap (λ zs. laid from zs ys) (sym (replicate_more i x)) ∙ both ∙ ap (λ n. laid (from + n) (x ∷ []) (laid from (replicate i x) ys)) (length-replicate i x) in
    ap (λ zs. set zs (from + i) x) (laid_is from (replicate i x) ys) ∙ sym one ∙ sym more ∙ sym (laid_is from (replicate (i + 1) x) ys)

-- where such a loop comes to the list's end
pub laid_full : {A : Type 0} (from i count : ℕ) (x : A) (ys : List A) → i ≤ count → length ys ≤ from + i →
    laid_over from (replicate i x) ys ≡ laid_over from (replicate count x) ys
laid_full from i count x ys h past =
    let whole : replicate i x ++ replicate (count - i) x ≡ replicate count x =
    replicate-append-replicate i (count - i) x ∙ ap (λ n. replicate n x) (omega arith) in
    let rest : laid (from + length (replicate i x)) (replicate (count - i) x) (laid from (replicate i x) ys) ≡ laid from (replicate i x) ys =
    laid_past _ _ _ (simp (length-laid, length-replicate) past) in
    laid_is from (replicate i x) ys ∙ sym rest ∙ sym (laid-append from (replicate i x) (replicate (count - i) x) ys)
    ∙ ap (λ zs. laid from zs ys) whole ∙ sym (laid_is from (replicate count x) ys)

-- a tag before a payload, and others behind it
pub case_laid : {A : Type 0} (to : ℕ) (tag : A) (payload blanks ys : List A) →
    laid_over (to + 1 + length payload) blanks (laid_over to (tag ∷ []) (laid_over (to + 1) payload ys)) ≡ laid_over to (tag ∷ payload ++ blanks) ys
case_laid to tag payload blanks ys =
    let next : to + 1 ≡ suc to = omega arith in
    let behind : to + 1 + length payload ≡ to + suc (length payload) = omega arith in
    let first : laid_over to (tag ∷ []) (laid_over (to + 1) payload ys) ≡ laid to (tag ∷ payload) ys =
    one_laid_over to tag (laid_over (to + 1) payload ys)
    ∙ ap (λ zs. set zs to tag) (laid_is (to + 1) payload ys ∙ ap (λ k. laid k payload ys) next)
    ∙ laid_before to tag payload ys in
    ap (laid_over (to + 1 + length payload) blanks) first
    ∙ laid_is (to + 1 + length payload) blanks (laid to (tag ∷ payload) ys)
    ∙ ap (λ k. laid k blanks (laid to (tag ∷ payload) ys)) behind
    ∙ sym (laid-append to (tag ∷ payload) blanks ys)
    ∙ sym (laid_is to (tag ∷ payload ++ blanks) ys)

-- nothing, laid over a list
pub laid_over-nil : {A : Type 0} (from : ℕ) (ys : List A) → laid_over from [] ys ≡ ys
laid_over-nil from ys = grind (arith, common_steps)

pub nothing_laid : {A : Type 0} (from : ℕ) (ys : List A) → laid_over from [] ys ≡ ys
nothing_laid from ys = laid_over-nil from ys

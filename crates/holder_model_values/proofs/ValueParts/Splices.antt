-- Lists in three parts: the middle is read, and another takes its place.
use Rattle.std.proofs.Common.{◌≡◌, ◌≤◌, ◌+◌, ◌++◌, ℕ, zero, suc, List, [], ◌∷◌, length, take, drop, refl, sym, ap, ◌∙◌, append_assoc, arith}
use Rattle.std.proofs.lemmas.List.{drop-append-le, drop-drop, drop_at, length-append, length-drop, length-take, length-take-le, take-append-drop, take-append-le, take_at}
use Rattle.holder_model_values.specs.RunValues.Cells.{Cell}
use Rattle.holder_model_values.specs.RunValues.Memory.{put_cells}
use Rattle.holder_model_values.specs.ValueParts.inner.LeafLists.{spliced}

pub read_middle : {A : Type 0} (xs mid ys : List A) (i n : ℕ) → length xs ≡ i → length mid ≡ n → take n (drop i (xs ++ (mid ++ ys))) ≡ mid
read_middle xs mid ys i n e f = ap (take n) (drop_at xs (mid ++ ys) i e) ∙ take_at mid ys n f

pub spliced_middle : {A : Type 0} (xs old ys new : List A) (i : ℕ) → length xs ≡ i → length new ≡ length old → spliced (xs ++ (old ++ ys)) i new ≡ xs ++ (new ++ ys)
spliced_middle xs old ys new i e f =
    let all = xs ++ (old ++ ys) in
    let rest : drop (i + length new) all ≡ ys =
    sym (drop-drop (length new) i all) ∙ ap (drop (length new)) (drop_at xs (old ++ ys) i e) ∙ drop_at old ys (length new) (sym f) in
    ap (λ front. front ++ (new ++ drop (i + length new) all)) (take_at xs (old ++ ys) i e) ∙ ap (λ back. xs ++ (new ++ back)) rest

-- cells that are put

pub put_none : (cells : List Cell) (i : ℕ) → put_cells cells i [] ≡ cells
put_none cells zero = refl
put_none cells (suc i) = refl

pub put_length : (cells : List Cell) (i : ℕ) (new : List Cell) → length (put_cells cells i new) ≡ length cells
put_length cells zero [] = refl
put_length cells (suc i) [] = refl
put_length [] zero (c ∷ cs) = refl
put_length [] (suc i) (c ∷ cs) = refl
put_length (old ∷ cells) zero (c ∷ cs) = ap suc (put_length cells zero cs)
put_length (old ∷ cells) (suc i) (c ∷ cs) = ap suc (put_length cells i (c ∷ cs))

pub put_all : (old new : List Cell) → length new ≡ length old → put_cells old 0 new ≡ new
put_all [] [] e = refl
put_all (o ∷ old) [] e = absurd (omega arith)
put_all [] (c ∷ cs) e = absurd (omega arith)
put_all (o ∷ old) (c ∷ cs) e = ap (λ ds. c ∷ ds) (put_all old cs (omega arith))

-- behind others, and before others
pub put_behind : (xs cells : List Cell) (i : ℕ) (new : List Cell) → put_cells (xs ++ cells) (length xs + i) new ≡ xs ++ put_cells cells i new
put_behind [] cells i new = ap (λ n. put_cells cells n new) (omega arith)
put_behind (x ∷ xs) cells i [] = put_none (x ∷ (xs ++ cells)) (suc (length xs) + i) ∙ sym (ap (λ ds. x ∷ (xs ++ ds)) (put_none cells i))
put_behind (x ∷ xs) cells i (c ∷ cs) =
    let next : suc (length xs) + i ≡ suc (length xs + i) = omega arith in
    ap (λ n. put_cells (x ∷ (xs ++ cells)) n (c ∷ cs)) next ∙ ap (λ ds. x ∷ ds) (put_behind xs cells i (c ∷ cs))

pub put_before : (cells ys : List Cell) (i : ℕ) (new : List Cell) → i + length new ≤ length cells → put_cells (cells ++ ys) i new ≡ put_cells cells i new ++ ys
put_before cells ys zero [] le = refl
put_before cells ys (suc i) [] le = refl
put_before [] ys zero (c ∷ cs) le = absurd (omega arith)
put_before [] ys (suc i) (c ∷ cs) le = absurd (omega arith)
put_before (old ∷ cells) ys zero (c ∷ cs) le = ap (λ ds. c ∷ ds) (put_before cells ys zero cs (omega arith))
put_before (old ∷ cells) ys (suc i) (c ∷ cs) le = ap (λ ds. old ∷ ds) (put_before cells ys i (c ∷ cs) (omega arith))

pub put_within : (xs old ys : List Cell) (i : ℕ) (new : List Cell) → i + length new ≤ length old
    → put_cells (xs ++ (old ++ ys)) (length xs + i) new ≡ xs ++ (put_cells old i new ++ ys)
put_within xs old ys i new le = put_behind xs (old ++ ys) i new ∙ ap (λ ds. xs ++ ds) (put_before old ys i new le)

pub put_middle : (xs old ys new : List Cell) (i : ℕ) → length xs ≡ i → length new ≡ length old → put_cells (xs ++ (old ++ ys)) i new ≡ xs ++ (new ++ ys)
put_middle xs old ys new i e f =
    let at : i ≡ length xs + 0 = omega arith in
    ap (λ n. put_cells (xs ++ (old ++ ys)) n new) at ∙ put_within xs old ys 0 new (omega arith) ∙ ap (λ ds. xs ++ (ds ++ ys)) (put_all old new f)

-- a list is in three parts wherever it is cut
in_three : {A : Type 0} (xs : List A) (i n : ℕ) → xs ≡ take i xs ++ (take n (drop i xs) ++ drop (i + n) xs)
in_three xs i n =
    sym (ap (λ ls. take i xs ++ ls) (ap (λ ls. take n (drop i xs) ++ ls) (sym (drop-drop n i xs)) ∙ take-append-drop n (drop i xs)) ∙ take-append-drop i xs)

length_mid : {A : Type 0} (xs : List A) (i n : ℕ) → i + n ≤ length xs → n ≡ length (take n (drop i xs))
length_mid xs i n le = sym (length-take-le n (drop i xs) (omega (arith, le, length-drop i xs)))

-- among others

pub read_within : {A : Type 0} (xs old ys : List A) (i n : ℕ) → i + n ≤ length old → take n (drop (length xs + i) (xs ++ (old ++ ys))) ≡ take n (drop i old)
read_within xs old ys i n le =
    let rest : n ≤ length (drop i old) = omega (arith, length-drop i old) in
    let early : i ≤ length old = omega (arith, le) in
    ap (take n) (sym (drop-drop i (length xs) (xs ++ (old ++ ys))) ∙ ap (drop i) (drop_at xs (old ++ ys) (length xs) refl) ∙ drop-append-le i old ys early)
    ∙ take-append-le n (drop i old) ys rest

pub spliced_length : {A : Type 0} (xs : List A) (i : ℕ) (ys : List A) → i + length ys ≤ length xs → length (spliced xs i ys) ≡ length xs
spliced_length xs i ys le =
    length-append (take i xs) (ys ++ drop (i + length ys) xs)
    ∙ omega (arith, le, length-append ys (drop (i + length ys) xs), length-drop (i + length ys) xs, length-take i xs)

around : {A : Type 0} (xs front mid back ys : List A) → xs ++ ((front ++ (mid ++ back)) ++ ys) ≡ (xs ++ front) ++ (mid ++ (back ++ ys))
around xs front mid back ys = simp append_assoc

pub spliced_within : {A : Type 0} (xs old ys : List A) (i : ℕ) (new : List A) → i + length new ≤ length old
    → spliced (xs ++ (old ++ ys)) (length xs + i) new ≡ xs ++ (spliced old i new ++ ys)
spliced_within xs old ys i new le =
    let front = take i old in
    let mid = take (length new) (drop i old) in
    let back = drop (i + length new) old in
    let first : length front ≡ i = length-take-le i old (omega (arith, le)) in
    let behind : length (xs ++ front) ≡ length xs + i = length-append xs front ∙ omega (arith, first) in
    ap (λ ls. spliced (xs ++ (ls ++ ys)) (length xs + i) new) (in_three old i (length new))
    ∙ ap (λ ls. spliced ls (length xs + i) new) (around xs front mid back ys)
    ∙ spliced_middle (xs ++ front) mid (back ++ ys) new (length xs + i) behind (length_mid old i (length new) le)
    ∙ sym (around xs front new back ys)

-- what is put is spliced, where there is room
pub put_is_spliced : (cells : List Cell) (i : ℕ) (new : List Cell) → i + length new ≤ length cells → put_cells cells i new ≡ spliced cells i new
put_is_spliced cells i new le =
    let front = take i cells in
    let mid = take (length new) (drop i cells) in
    let back = drop (i + length new) cells in
    ap (λ cs. put_cells cs i new) (in_three cells i (length new)) ∙ put_middle front mid back new i (length-take-le i cells (omega (arith, le))) (length_mid cells i (length new) le)

-- The index from bases to scopes: a row has each scope once, as the last of those that are in it.
use Rattle.std.proofs.Common.{◌≡◌, ℕ, zero, suc, ◌+◌, ◌-◌, ◌<◌, ◌≤◌, ◌≢◌, get_or, List, [], ◌∷◌, ◌++◌, length, refl, sym}
use Rattle.std.proofs.Common.{ap, ◌∙◌, ◌⊎◌, inl, inr, arith, Bool, true, false, cond, All, eq-eqb, add-one, Some, None}
use Rattle.std.specs.Prelude.{◌||◌, ◌==◌, filter, slice_get}
use Rattle.std.specs.List.{range_with_len}
use Rattle.std.specs.declared.alloc.Global.{Global}
use Rattle.std.specs.declared.vec.Vec.{Vec}
use Rattle.std.proofs.Math.ListN.{set}
use Rattle.std.proofs.lemmas.Bool.{cases_eq, cases_lt, ne_eqb}
use Rattle.std.proofs.lemmas.List.{append-nil}
use Rattle.std.proofs.lemmas.List.Elements.{All-cons, All-filter, All-nil, filter-append}
use Rattle.std.proofs.lemmas.List.Folds.{list_any-append}
use Rattle.std.proofs.lemmas.Option.{slice_get_cases}
use Rattle.sil_cfg.proofs.Blocks.{all_get}
use Rattle.sil_cfg.proofs.Gets.{last_get, length_push}
use Rattle.sil_ast.specs.declared.place.ValueId.{ValueId}
use Rattle.reach_engine_marks.proofs.PathChecks.Accesses.{accesses_kept, accesses_last, accesses_past, accesses_there}
use Rattle.ownership_kinds_chains.specs.OwnershipChains.Facts.{has}
use Rattle.borrow_scopes.specs.inner.Tables.{borrowers_at, ends_with, is_one, with_last, with_last_if}

ends_pushed : (scopes : List ℕ) (n : ℕ) → ends_with (scopes ++ n ∷ []) n ≡ true
ends_pushed scopes n =
    let at : length (scopes ++ n ∷ []) - 1 ≡ length scopes = omega (arith, length_push scopes n) in
    ap (λ o. is_one o n) (ap (slice_get (scopes ++ n ∷ [])) at ∙ last_get scopes n) ∙ eq-eqb n n refl

-- the scope goes in once
put_once : (scopes : List ℕ) (n : ℕ) → with_last (with_last scopes n) n ≡ with_last scopes n
put_once scopes n = at (ends_with scopes n) refl
  where
    at : (b : Bool) → ends_with scopes n ≡ b → with_last (with_last scopes n) n ≡ with_last scopes n
    at true e = ap (λ v. with_last v n) (ap (λ b. cond b scopes (scopes ++ n ∷ [])) e)
    at false e =
        let new : with_last scopes n ≡ scopes ++ n ∷ [] = ap (λ b. cond b scopes (scopes ++ n ∷ [])) e in
        ap (λ v. with_last v n) new ∙ ap (λ b. cond b (scopes ++ n ∷ []) ((scopes ++ n ∷ []) ++ n ∷ [])) (ends_pushed scopes n) ∙ sym new

put_either : (p q : Bool) (scopes : List ℕ) (n : ℕ) → with_last_if q (with_last_if p scopes n) n ≡ with_last_if (p || q) scopes n
put_either true true scopes n = put_once scopes n
put_either true false scopes n = refl
put_either false true scopes n = refl
put_either false false scopes n = refl

last_or : (p q : Bool) → (p || q) ≡ (p || (q || false))
last_or true q = refl
last_or false true = refl
last_or false false = refl

-- one base more
pub more_bases : (bases : List ValueId) (x : ValueId) (b : ℕ) (scopes : List ℕ) (n : ℕ) →
    with_last_if (x.0 == b) (with_last_if (has bases b) scopes n) n ≡ with_last_if (has (bases ++ x ∷ []) b) scopes n
more_bases bases x b scopes n =
    put_either (has bases b) (x.0 == b) scopes n ∙ ap (λ p. with_last_if p scopes n) (last_or (has bases b) (x.0 == b) ∙ sym (list_any-append (λ y. y.0 == b) bases (x ∷ [])))

none_is : (scopes : List ℕ) (n k : ℕ) → All (λ x. x < n) scopes → is_one (slice_get scopes k) n ≡ false
none_is scopes n k below = at (slice_get_cases scopes k).1
  where
    at : ((x : ℕ) × (k < length scopes) × (slice_get scopes k ≡ Some x) × (get_or scopes k x ≡ x)) ⊎ ((length scopes ≤ k) × (slice_get scopes k ≡ None)) → is_one (slice_get scopes k) n ≡ false
    at (inl h) = let lt : h.0 < n = all_get (λ x. x < n) scopes k h.0 below h.2 in ap (λ o. is_one o n) h.2 ∙ ne_eqb h.0 n (λ e. omega arith)
    at (inr h) = ap (λ o. is_one o n) h.1

below_end : (a n end : ℕ) → a + n ≤ end → All (λ x. x < end) (range_with_len a n)
below_end a zero end le = All-nil (λ x. x < end)
below_end a (suc n) end le = All-cons (λ x. x < end) a (range_with_len (a + 1) n) (omega arith) (below_end (a + 1) n end (omega arith))

range_more : (a n : ℕ) → range_with_len a (suc n) ≡ range_with_len a n ++ (a + n) ∷ []
range_more a zero = let e : a ≡ a + zero = omega arith in ap (λ v. v ∷ []) e
range_more a (suc n) = let e : (a + 1) + n ≡ a + suc n = omega arith in ap (λ v. a ∷ v) (range_more (a + 1) n ∙ ap (λ v. range_with_len (a + 1) n ++ v ∷ []) e)

-- one value more, of which the test tells whether it goes in
pub more_values : (p : ℕ → Bool) (n : ℕ) → with_last_if (p n) (filter p (range_with_len 0 n)) n ≡ filter p (range_with_len 0 (n + 1))
more_values p n = put (p n) ∙ sym parts
  where
    old : List ℕ
    old = filter p (range_with_len 0 n)

    fresh : ends_with old n ≡ false
    fresh = none_is old n (length old - 1) (All-filter p (λ x. x < n) (range_with_len 0 n) (below_end 0 n n (omega arith)))

    put : (b : Bool) → with_last_if b (filter p (range_with_len 0 n)) n ≡ filter p (range_with_len 0 n) ++ cond b (n ∷ []) []
    put true = ap (λ b. cond b (filter p (range_with_len 0 n)) (filter p (range_with_len 0 n) ++ n ∷ [])) fresh
    put false = sym (append-nil (filter p (range_with_len 0 n)))

    parts : filter p (range_with_len 0 (n + 1)) ≡ filter p (range_with_len 0 n) ++ cond (p n) (n ∷ []) []
    parts =
        let e : 0 + n ≡ n = omega arith in
        ap (λ k. filter p (range_with_len 0 k)) (add-one n) ∙ ap (filter p) (range_more 0 n ∙ ap (λ k. range_with_len 0 n ++ k ∷ []) e) ∙ filter-append p (range_with_len 0 n) (n ∷ [])

-- a row with no scope in it adds nothing
pub row_added : (rows : List (Vec ℕ Global)) (x : Vec ℕ Global) → x.items ≡ [] → (b : ℕ) → borrowers_at (rows ++ x ∷ []) b ≡ borrowers_at rows b
row_added rows x empty b = at (cases_lt b (length rows))
  where
    past : (b ≡ length rows) ⊎ (b ≢ length rows) → length rows ≤ b → borrowers_at (rows ++ x ∷ []) b ≡ borrowers_at rows b
    past (inl e) le = accesses_last rows x b e ∙ empty ∙ sym (accesses_past rows b le)
    past (inr ne) le = let more : length (rows ++ x ∷ []) ≡ length rows + 1 = length_push rows x in accesses_past (rows ++ x ∷ []) b (omega arith) ∙ sym (accesses_past rows b le)

    at : (b < length rows) ⊎ (length rows ≤ b) → borrowers_at (rows ++ x ∷ []) b ≡ borrowers_at rows b
    at (inl lt) = accesses_kept rows x b lt
    at (inr le) = past (cases_eq b (length rows)) le

set_same : (rows : List (Vec ℕ Global)) (base : ℕ) (y : Vec ℕ Global) → base < length rows → borrowers_at (set rows base y) base ≡ y.items
set_same [] base y lt = absurd (omega arith)
set_same (r ∷ rows) zero y lt = refl
set_same (r ∷ rows) (suc base) y lt = set_same rows base y (omega arith)

set_other : (rows : List (Vec ℕ Global)) (base b : ℕ) (y : Vec ℕ Global) → (base ≡ b → ⊥) → borrowers_at (set rows base y) b ≡ borrowers_at rows b
set_other [] base b y ne = refl
set_other (r ∷ rows) zero zero y ne = absurd (ne refl)
set_other (r ∷ rows) zero (suc b) y ne = refl
set_other (r ∷ rows) (suc base) zero y ne = refl
set_other (r ∷ rows) (suc base) (suc b) y ne = set_other rows base b y (λ e. ne (ap suc e))

-- the scope goes into the row of the base, and into no other
pub row_set : (rows : List (Vec ℕ Global)) (base : ℕ) (x y : Vec ℕ Global) (n : ℕ) → base < length rows → x ≡ get_or rows base x → y.items ≡ with_last x.items n →
    (b : ℕ) → borrowers_at (set rows base y) b ≡ with_last_if (base == b) (borrowers_at rows b) n
row_set rows base x y n lt is new b = at (cases_eq base b)
  where
    at : (base ≡ b) ⊎ (base ≢ b) → borrowers_at (set rows base y) b ≡ with_last_if (base == b) (borrowers_at rows b) n
    at (inl e) =
        ap (borrowers_at (set rows base y)) (sym e) ∙ set_same rows base y lt ∙ new ∙ ap (λ v. with_last v n) (sym (accesses_there rows base x lt is))
        ∙ ap (λ i. with_last (borrowers_at rows i) n) e ∙ ap (λ q. with_last_if q (borrowers_at rows b) n) (sym (eq-eqb base b e))
    at (inr ne) = set_other rows base b y ne ∙ ap (λ q. with_last_if q (borrowers_at rows b) n) (sym (ne_eqb base b ne))

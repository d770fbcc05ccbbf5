-- Lists of values in ascending order, and how two of them are put together.
use Rattle.std.proofs.Common.{◌≡◌, ◌≢◌, ℕ, zero, suc, ◌+◌, ◌<◌, ◌≤◌, List, [], ◌∷◌, ◌++◌, length, get_or, drop, refl, sym}
use Rattle.std.proofs.Common.{ap, ap₂, ◌∙◌, subst, arith, Bool, true, false, cond, ◌⊎◌, inl, inr, append_assoc}
use Rattle.std.specs.Prelude.{map, filter, ◌||◌, ◌==◌}
use Rattle.std.specs.List.{range_with_len}
use Rattle.std.proofs.lemmas.Bool.{cases_eq}
use Rattle.std.proofs.lemmas.Bool.Decides.{nat_tests}
use Rattle.std.proofs.lemmas.List.{append-nil, drop_all, drop_more}
use Rattle.sil_ast.specs.declared.place.ValueId.{ValueId}
use Rattle.ownership_kinds_chains.specs.declared.ownership_chains.bases.Turn.{Turn}
use Rattle.ownership_kinds_chains.specs.OwnershipChains.Facts.{value_of, listed, has}
use Rattle.ownership_kinds_chains.specs.OwnershipChains.inner.Settling.{IsListed}
use Rattle.ownership_kinds_chains.specs.OwnershipChains.inner.Union.{at, IsFirst, AreSame, IsTurn}

-- the n values from a on whose numbers pass the test
abbrev pub listed_from : ℕ → ℕ → (ℕ → Bool) → List ValueId
listed_from a n test = map value_of (filter test (range_with_len a n))

keep : (p : ℕ → Bool) (a n : ℕ) → p a ≡ true → listed_from a (suc n) p ≡ value_of a ∷ listed_from (a + 1) n p
keep p a n e = ap (λ b. map value_of (cond b (a ∷ filter p (range_with_len (a + 1) n)) (filter p (range_with_len (a + 1) n)))) e

skip : (p : ℕ → Bool) (a n : ℕ) → p a ≡ false → listed_from a (suc n) p ≡ listed_from (a + 1) n p
skip p a n e = ap (λ b. map value_of (cond b (a ∷ filter p (range_with_len (a + 1) n)) (filter p (range_with_len (a + 1) n)))) e

-- no listed value is before the first that is looked at
head_ge : (p : ℕ → Bool) (a n : ℕ) (x : ValueId) (rest : List ValueId) → listed_from a n p ≡ x ∷ rest → a ≤ x.0
head_ge p a zero x rest h = absurd (cc)
head_ge p a (suc n) x rest h = by (p a) refl (λ g. head_ge p (a + 1) n x rest g)
  where
    by : (b : Bool) → p a ≡ b → (listed_from (a + 1) n p ≡ x ∷ rest → a + 1 ≤ x.0) → a ≤ x.0
    by true e next =
        let both : value_of a ∷ listed_from (a + 1) n p ≡ x ∷ rest = sym (keep p a n e) ∙ h in
        let same : value_of a ≡ x = cc in
        let number : a ≡ x.0 = ap (λ v. v.0) same in
        omega arith
    by false e next = let ge : a + 1 ≤ x.0 = next (sym (skip p a n e) ∙ h) in omega arith

-- tests that agree where they are asked
same_from : (p q : ℕ → Bool) (a n : ℕ) → ((z : ℕ) → z < a + n → p z ≡ q z) → listed_from a n p ≡ listed_from a n q
same_from p q a zero h = refl
same_from p q a (suc n) h = ap₂ (λ b v. map value_of (cond b (a ∷ v) v)) (h a (omega arith)) (same_filter (a + 1) n (λ z lt. h z (omega arith)))
  where
    same_filter : (a n : ℕ) → ((z : ℕ) → z < a + n → p z ≡ q z) → filter p (range_with_len a n) ≡ filter q (range_with_len a n)
    same_filter a zero h = refl
    same_filter a (suc n) h = ap₂ (λ b v. cond b (a ∷ v) v) (h a (omega arith)) (same_filter (a + 1) n (λ z lt. h z (omega arith)))

pub listed_same : (p q : ℕ → Bool) (count : ℕ) → ((z : ℕ) → z < count → p z ≡ q z) → listed count p ≡ listed count q
listed_same p q count h = same_from p q 0 count (λ z lt. h z (omega arith))

none_from : (p : ℕ → Bool) (a n : ℕ) → ((z : ℕ) → a ≤ z → p z ≡ false) → listed_from a n p ≡ []
none_from p a zero h = refl
none_from p a (suc n) h = skip p a n (h a (omega arith)) ∙ none_from p (a + 1) n (λ z le. h z (omega arith))

pub none_listed : (count : ℕ) (p : ℕ → Bool) → ((z : ℕ) → p z ≡ false) → [] ≡ listed count p
none_listed count p h = sym (none_from p 0 count (λ z _. h z))

equal : (a b : ℕ) → a ≡ b → (a == b) ≡ true
equal a b e = grind (arith, nat_tests)

other : (a b : ℕ) → a ≢ b → (a == b) ≡ false
other a b n = grind (arith, nat_tests)

-- a listed value is one that passes the test
has_before : (p : ℕ → Bool) (a n z : ℕ) → z < a → has (listed_from a n p) z ≡ false
has_before p a zero z lt = refl
has_before p a (suc n) z lt = by (p a) refl (has_before p (a + 1) n z (omega arith))
  where
    by : (b : Bool) → p a ≡ b → has (listed_from (a + 1) n p) z ≡ false → has (listed_from a (suc n) p) z ≡ false
    by true e rest = ap (λ v. has v z) (keep p a n e) ∙ ap₂ (λ b c. b || c) (other a z (omega arith)) rest
    by false e rest = ap (λ v. has v z) (skip p a n e) ∙ rest

has_from : (p : ℕ → Bool) (a n z : ℕ) → a ≤ z → z < a + n → has (listed_from a n p) z ≡ p z
has_from p a zero z ge lt = absurd (omega arith)
has_from p a (suc n) z ge lt = by (cases_eq a z) (p a) refl (λ g. has_from p (a + 1) n z g (omega arith))
  where
    by : (a ≡ z) ⊎ (a ≢ z) → (b : Bool) → p a ≡ b → (a + 1 ≤ z → has (listed_from (a + 1) n p) z ≡ p z) → has (listed_from a (suc n) p) z ≡ p z
    by (inl s) true e rest = ap (λ v. has v z) (keep p a n e) ∙ ap (λ b. b || has (listed_from (a + 1) n p) z) (equal a z s) ∙ sym (sym (ap p s) ∙ e)
    by (inl s) false e rest = ap (λ v. has v z) (skip p a n e) ∙ has_before p (a + 1) n z (omega arith) ∙ sym (sym (ap p s) ∙ e)
    by (inr s) true e rest = ap (λ v. has v z) (keep p a n e) ∙ ap (λ b. b || has (listed_from (a + 1) n p) z) (other a z s) ∙ rest (omega arith)
    by (inr s) false e rest = ap (λ v. has v z) (skip p a n e) ∙ rest (omega arith)

-- what is listed by a test is listed by what it has
pub listed_listed : (p : ℕ → Bool) (count : ℕ) → IsListed count (listed count p)
listed_listed p count = listed_same p (has (listed count p)) count (λ z lt. sym (has_from p 0 count z (omega arith) (omega arith)))

alone_from : (v : ValueId) (a n : ℕ) → a ≤ v.0 → v.0 < a + n → v ∷ [] ≡ listed_from a n (has (v ∷ []))
alone_from v a zero ge lt = absurd (omega arith)
alone_from v a (suc n) ge lt = by (cases_eq v.0 a) (λ g. alone_from v (a + 1) n g (omega arith))
  where
    by : (v.0 ≡ a) ⊎ (v.0 ≢ a) → (a + 1 ≤ v.0 → v ∷ [] ≡ listed_from (a + 1) n (has (v ∷ []))) → v ∷ [] ≡ listed_from a (suc n) (has (v ∷ []))
    by (inl e) rest =
        ap₂ (λ x xs. x ∷ xs) (ap value_of e) (sym (none_from (has (v ∷ [])) (a + 1) n (λ z le. ap (λ b. b || false) (other v.0 z (omega arith))))) ∙
        sym (keep (has (v ∷ [])) a n (ap (λ b. b || false) (equal v.0 a e)))
    by (inr m) rest = rest (omega arith) ∙ sym (skip (has (v ∷ [])) a n (ap (λ b. b || false) (other v.0 a m)))

pub alone_listed : (v : ValueId) (count : ℕ) → v.0 < count → IsListed count (v ∷ [])
alone_listed v count lt = alone_from v 0 count (omega arith) (omega arith)

-- both lists go on behind a value that was taken, and so does the list of both
record Goes (p q r : ℕ → Bool) (a n : ℕ) (x : ValueId) (one other : List ValueId) : Type 0 where
  from : ℕ
  len : ℕ
  one_is : one ≡ listed_from from len p
  other_is : other ≡ listed_from from len q
  all_is : listed_from a n r ≡ x ∷ listed_from from len r

or_comm : (a b : Bool) → (a || b) ≡ (b || a)
or_comm true true = refl
or_comm true false = refl
or_comm false true = refl
or_comm false false = refl

module _ (p q r : ℕ → Bool) (each : (z : ℕ) → r z ≡ (p z || q z)) where
  either : (z : ℕ) (b c : Bool) → p z ≡ b → q z ≡ c → r z ≡ (b || c)
  either z b c e f = each z ∙ ap₂ (λ x y. x || y) e f

  -- the first of one list is before that of the other
  goes_one : (a n : ℕ) (x : ValueId) (rest : List ValueId) → listed_from a n p ≡ x ∷ rest → ((y : ValueId) (more : List ValueId) → listed_from a n q ≡ y ∷ more → x.0 < y.0)
      → Goes p q r a n x rest (listed_from a n q)
  goes_one a zero x rest h less = absurd (cc)
  goes_one a (suc n) x rest h less = by (p a) (q a) refl refl (goes_one (a + 1) n x rest)
    where
      by : (b c : Bool) → p a ≡ b → q a ≡ c →
          (listed_from (a + 1) n p ≡ x ∷ rest → ((y : ValueId) (more : List ValueId) → listed_from (a + 1) n q ≡ y ∷ more → x.0 < y.0) → Goes p q r (a + 1) n x rest (listed_from (a + 1) n q)) →
          Goes p q r a (suc n) x rest (listed_from a (suc n) q)
      by true true e f go =
          let both : value_of a ∷ listed_from (a + 1) n p ≡ x ∷ rest = sym (keep p a n e) ∙ h in
          let same : value_of a ≡ x = cc in
          let number : a ≡ x.0 = ap (λ v. v.0) same in
          let below : x.0 < a = less (value_of a) (listed_from (a + 1) n q) (keep q a n f) in
          absurd (omega arith)
      by true false e f go =
          let both : value_of a ∷ listed_from (a + 1) n p ≡ x ∷ rest = sym (keep p a n e) ∙ h in
          let same : value_of a ≡ x = cc in
          let behind : rest ≡ listed_from (a + 1) n p = cc in
          record { from = a + 1; len = n; one_is = behind; other_is = skip q a n f; all_is = keep r a n (either a true false e f) ∙ ap (λ v. v ∷ listed_from (a + 1) n r) same }
      by false true e f go =
          let ge : a + 1 ≤ x.0 = head_ge p (a + 1) n x rest (sym (skip p a n e) ∙ h) in
          let below : x.0 < a = less (value_of a) (listed_from (a + 1) n q) (keep q a n f) in
          absurd (omega arith)
      by false false e f go =
          let g = go (sym (skip p a n e) ∙ h) (λ y more m. less y more (skip q a n f ∙ m)) in
          record { from = g.from; len = g.len; one_is = g.one_is; other_is = skip q a n f ∙ g.other_is; all_is = skip r a n (either a false false e f) ∙ g.all_is }

  -- both begin with the same
  goes_both : (a n : ℕ) (x : ValueId) (rest more : List ValueId) → listed_from a n p ≡ x ∷ rest → listed_from a n q ≡ x ∷ more → Goes p q r a n x rest more
  goes_both a zero x rest more h k = absurd (cc)
  goes_both a (suc n) x rest more h k = by (p a) (q a) refl refl (goes_both (a + 1) n x rest more)
    where
      by : (b c : Bool) → p a ≡ b → q a ≡ c → (listed_from (a + 1) n p ≡ x ∷ rest → listed_from (a + 1) n q ≡ x ∷ more → Goes p q r (a + 1) n x rest more) → Goes p q r a (suc n) x rest more
      by true true e f go =
          let one : value_of a ∷ listed_from (a + 1) n p ≡ x ∷ rest = sym (keep p a n e) ∙ h in
          let two : value_of a ∷ listed_from (a + 1) n q ≡ x ∷ more = sym (keep q a n f) ∙ k in
          let same : value_of a ≡ x = cc in
          let behind : rest ≡ listed_from (a + 1) n p = cc in
          let after : more ≡ listed_from (a + 1) n q = cc in
          record { from = a + 1; len = n; one_is = behind; other_is = after; all_is = keep r a n (either a true true e f) ∙ ap (λ v. v ∷ listed_from (a + 1) n r) same }
      by true false e f go =
          let one : value_of a ∷ listed_from (a + 1) n p ≡ x ∷ rest = sym (keep p a n e) ∙ h in
          let same : value_of a ≡ x = cc in
          let number : a ≡ x.0 = ap (λ v. v.0) same in
          let ge : a + 1 ≤ x.0 = head_ge q (a + 1) n x more (sym (skip q a n f) ∙ k) in
          absurd (omega arith)
      by false true e f go =
          let two : value_of a ∷ listed_from (a + 1) n q ≡ x ∷ more = sym (keep q a n f) ∙ k in
          let same : value_of a ≡ x = cc in
          let number : a ≡ x.0 = ap (λ v. v.0) same in
          let ge : a + 1 ≤ x.0 = head_ge p (a + 1) n x rest (sym (skip p a n e) ∙ h) in
          absurd (omega arith)
      by false false e f go =
          let g = go (sym (skip p a n e) ∙ h) (sym (skip q a n f) ∙ k) in
          record { from = g.from; len = g.len; one_is = g.one_is; other_is = g.other_is; all_is = skip r a n (either a false false e f) ∙ g.all_is }

  -- where neither has anything
  neither : (a n : ℕ) → listed_from a n p ≡ [] → listed_from a n q ≡ [] → listed_from a n r ≡ []
  neither a zero h k = refl
  neither a (suc n) h k = by (p a) (q a) refl refl (neither (a + 1) n)
    where
      by : (b c : Bool) → p a ≡ b → q a ≡ c → (listed_from (a + 1) n p ≡ [] → listed_from (a + 1) n q ≡ [] → listed_from (a + 1) n r ≡ []) → listed_from a (suc n) r ≡ []
      by true c e f go = let no : value_of a ∷ listed_from (a + 1) n p ≡ [] = sym (keep p a n e) ∙ h in absurd (cc)
      by false true e f go = let no : value_of a ∷ listed_from (a + 1) n q ≡ [] = sym (keep q a n f) ∙ k in absurd (cc)
      by false false e f go = skip r a n (either a false false e f) ∙ go (sym (skip p a n e) ∙ h) (sym (skip q a n f) ∙ k)

-- what of two lists is left to put together, and what is done
pub record Merges (count : ℕ) (p q : ℕ → Bool) (one : List ValueId) (i : ℕ) (other : List ValueId) (j : ℕ) (all : List ValueId) : Type 0 where
  pub from : ℕ
  pub len : ℕ
  pub one_left : drop i one ≡ listed_from from len p
  pub other_left : drop j other ≡ listed_from from len q
  pub all_left : listed count (λ b. p b || q b) ≡ all ++ listed_from from len (λ b. p b || q b)

pub merges_over : (count : ℕ) (p q : ℕ → Bool) (one : List ValueId) (i : ℕ) (other : List ValueId) (j : ℕ) (all : List ValueId) → length one ≤ i → length other ≤ j → Merges count p q one i other j all
    → all ≡ listed count (λ b. p b || q b)
merges_over count p q one i other j all one_over other_over m =
    let none = neither p q (λ b. p b || q b) (λ z. refl) m.from m.len (sym m.one_left ∙ drop_all i one one_over) (sym m.other_left ∙ drop_all j other other_over) in
    sym (m.all_left ∙ ap (λ v. all ++ v) none ∙ append-nil all)

-- the head of what is left is the next value
head_is : (xs : List ValueId) (i : ℕ) (d y : ValueId) (rest : List ValueId) → drop i xs ≡ y ∷ rest → (i < length xs) × (get_or xs i d ≡ y)
head_is [] zero d y rest h = absurd (cc)
head_is [] (suc i) d y rest h = absurd (cc)
head_is (x ∷ xs) zero d y rest h = (omega arith, cc)
head_is (x ∷ xs) (suc i) d y rest h = let e = head_is xs i d y rest h in (omega (arith, e.0), e.1)

first_less : (one : List ValueId) (i : ℕ) (other : List ValueId) (j : ℕ) (x : ValueId) → IsFirst one i other j x → (y : ValueId) (rest : List ValueId) → drop j other ≡ y ∷ rest → x.0 < y.0
first_less one i other j x f y rest h =
    let e = head_is other j (value_of 0) y rest h in
    let less : x.0 < (at other j).0 = f.before e.0 in
    subst (λ (v : ValueId). x.0 < v.0) e.1 less

module _ (count : ℕ) (p q : ℕ → Bool) (one : List ValueId) (i : ℕ) (other : List ValueId) (j : ℕ) (all : List ValueId) (m : Merges count p q one i other j all) where
  left : (xs : List ValueId) (k : ℕ) (x : ValueId) → k < length xs → x ≡ at xs k → drop k xs ≡ x ∷ drop (k + 1) xs
  left xs k x lt e = drop_more xs k (value_of 0) lt ∙ ap (λ v. v ∷ drop (k + 1) xs) (sym e)

  push : (x : ValueId) (more : List ValueId) → listed_from m.from m.len (λ b. p b || q b) ≡ x ∷ more → listed count (λ b. p b || q b) ≡ (all ++ x ∷ []) ++ more
  push x more e = m.all_left ∙ ap (λ v. all ++ v) e ∙ sym (append_assoc all (x ∷ []) more)

  at_turn : (t : Turn) (k l : ℕ) → t.one ≡ k → t.other ≡ l → Merges count p q one k other l (all ++ t.value ∷ []) → Merges count p q one t.one other t.other (all ++ t.value ∷ [])
  at_turn t k l e f h = subst (λ x. Merges count p q one x other t.other (all ++ t.value ∷ [])) (sym e) (subst (λ y. Merges count p q one k other y (all ++ t.value ∷ [])) (sym f) h)

  takes_one : (x : ValueId) → IsFirst one i other j x → Merges count p q one (i + 1) other j (all ++ x ∷ [])
  takes_one x f =
      let g = goes_one p q (λ b. p b || q b) (λ z. refl) m.from m.len x (drop (i + 1) one) (sym m.one_left ∙ left one i x f.there f.value_is)
      (λ y rest h. first_less one i other j x f y rest (m.other_left ∙ h)) in
      record { from = g.from; len = g.len; one_left = g.one_is; other_left = m.other_left ∙ g.other_is; all_left = push x (listed_from g.from g.len (λ b. p b || q b)) g.all_is }

  takes_other : (x : ValueId) → IsFirst other j one i x → Merges count p q one i other (j + 1) (all ++ x ∷ [])
  takes_other x f =
      let g = goes_one q p (λ b. p b || q b) (λ z. or_comm (p z) (q z)) m.from m.len x (drop (j + 1) other) (sym m.other_left ∙ left other j x f.there f.value_is)
      (λ y rest h. first_less other j one i x f y rest (m.one_left ∙ h)) in
      record { from = g.from; len = g.len; one_left = m.one_left ∙ g.other_is; other_left = g.one_is; all_left = push x (listed_from g.from g.len (λ b. p b || q b)) g.all_is }

  takes_both : (x : ValueId) → AreSame one i other j x → Merges count p q one (i + 1) other (j + 1) (all ++ x ∷ [])
  takes_both x f =
      let g = goes_both p q (λ b. p b || q b) (λ z. refl) m.from m.len x (drop (i + 1) one) (drop (j + 1) other) (sym m.one_left ∙ left one i x f.one_there f.is_one)
      (sym m.other_left ∙ left other j x f.other_there f.is_other) in
      record { from = g.from; len = g.len; one_left = g.one_is; other_left = g.other_is; all_left = push x (listed_from g.from g.len (λ b. p b || q b)) g.all_is }

  pub merges_more : (t : Turn) → IsTurn one i other j t → Merges count p q one t.one other t.other (all ++ t.value ∷ [])
  merges_more t (inl h) = at_turn t (i + 1) j h.1 h.2 (takes_one t.value h.0)
  merges_more t (inr (inl h)) = at_turn t i (j + 1) h.1 h.2 (takes_other t.value h.0)
  merges_more t (inr (inr h)) = at_turn t (i + 1) (j + 1) h.1 h.2 (takes_both t.value h.0)

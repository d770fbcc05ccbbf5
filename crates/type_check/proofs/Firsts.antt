-- What is found rule by rule and place by place is the first.
use Rattle.std.proofs.Common.{◌≡◌, ℕ, zero, suc, ◌+◌, ◌<◌, ◌≤◌, List, [], ◌∷◌, ◌++◌, length, refl, sym, ap, ◌∙◌, subst, arith, ◌⊎◌, inl, inr, Bool, true, false, Option, Some, None}
use Rattle.std.specs.Prelude.{slice_get, ⊤, if◌then◌else◌, unwrap_or}
use Rattle.std.specs.Option.{option_or}
use Rattle.sil_rules.specs.Order.{NotAfter, IsFirst, IsLeast}
use Rattle.sil_rules.specs.Rules.{number_of}
use Rattle.sil_rules.specs.declared.rule.Rule.{Rule}
use Rattle.type_check.specs.inner.Firsts.{Judged, first_broken, first_from, IsAtSome}

-- the rule is one of these, and broken
abbrev pub IsIn : List Judged → Rule → Type 0
IsIn [] r = ⊥
IsIn (j ∷ js) r = ((j.broken ≡ true) × (j.rule ≡ r)) ⊎ IsIn js r

-- no rule is before the number
abbrev pub AreAfter : ℕ → List Judged → Type 0
AreAfter n [] = ⊤
AreAfter n (j ∷ js) = (n ≤ number_of j.rule) × AreAfter n js

-- the rules stand in order
abbrev pub AreInOrder : List Judged → Type 0
AreInOrder [] = ⊤
AreInOrder (j ∷ js) = AreAfter (number_of j.rule) js × AreInOrder js

abbrev pub IsFirstRule : List Judged → Option Rule → Type 0
IsFirstRule js None = (r : Rule) → IsIn js r → ⊥
IsFirstRule js (Some r) = IsIn js r × ((s : Rule) → IsIn js s → number_of r ≤ number_of s)

after : (n : ℕ) (js : List Judged) → AreAfter n js → (s : Rule) → IsIn js s → n ≤ number_of s
after n [] all s h = absurd h
after n (j ∷ js) all s (inl h) = subst (λ r. n ≤ number_of r) h.1 all.0
after n (j ∷ js) all s (inr h) = after n js all.1 s h

first_of_more : (j : Judged) (js : List Judged) (b : Bool) → j.broken ≡ b → AreAfter (number_of j.rule) js → (rest : Option Rule) → IsFirstRule js rest
    → IsFirstRule (j ∷ js) (if b then Some j.rule else rest)
first_of_more j js true e all rest first = (inl (e, refl), least)
  where
    least : (s : Rule) → IsIn (j ∷ js) s → number_of j.rule ≤ number_of s
    least s (inl h) = subst (λ r. number_of j.rule ≤ number_of r) h.1 (omega arith)
    least s (inr h) = after (number_of j.rule) js all s h
first_of_more j js false e all None first = none
  where
    none : (r : Rule) → IsIn (j ∷ js) r → ⊥
    none r (inl h) = cc (h.0, e)
    none r (inr h) = first r h
first_of_more j js false e all (Some r) first = (inr first.0, least)
  where
    least : (s : Rule) → IsIn (j ∷ js) s → number_of r ≤ number_of s
    least s (inl h) = absurd (cc (h.0, e))
    least s (inr h) = first.1 s h

pub first_rule : (js : List Judged) → AreInOrder js → IsFirstRule js (first_broken js)
first_rule [] rise = λ r h. h
first_rule (j ∷ js) rise = first_of_more j js j.broken refl rise.0 (first_broken js) (first_rule js rise.1)

module _ {X A : Type 0} (key : A → List ℕ) (Is : ℕ → X → A → Type 0) where
  -- it is at the first place, or behind it
  split : (n : ℕ) (x : X) (xs : List X) (a : A) (k : ℕ) (y : X) → slice_get (x ∷ xs) k ≡ Some y → Is (n + k) y a → Is n x a ⊎ IsAtSome Is (n + 1) xs a
  split n x xs a zero y e h = inl (subst (λ m. Is m x a) (omega arith) (subst (λ z. Is (n + 0) z a) (sym (ap (λ o. unwrap_or o x) e)) h))
  split n x xs a (suc k) y e h = inr (record { index = k; place = y; there = e; is = subst (λ m. Is m y a) (omega arith) h })

  split_at : (n : ℕ) (x : X) (xs : List X) (a : A) → IsAtSome Is n (x ∷ xs) a → Is n x a ⊎ IsAtSome Is (n + 1) xs a
  split_at n x xs a h = split n x xs a h.index h.place h.there h.is

  here_at : (n : ℕ) (x : X) (xs : List X) (a : A) → Is n x a → IsAtSome Is n (x ∷ xs) a
  here_at n x xs a h = record { index = 0; place = x; there = refl; is = subst (λ m. Is m x a) (omega arith) h }

  behind_at : (n : ℕ) (x : X) (xs : List X) (a : A) → IsAtSome Is (n + 1) xs a → IsAtSome Is n (x ∷ xs) a
  behind_at n x xs a h = record { index = suc h.index; place = h.place; there = h.there; is = subst (λ m. Is m h.place a) (omega arith) h.is }

  module _ (find : ℕ → X → Option A) (first : (n : ℕ) (x : X) → IsFirst key (Is n x) (find n x))
      (ordered : (n m : ℕ) (x y : X) (a b : A) → n < m → Is n x a → Is m y b → NotAfter (key a) (key b)) where
    first_here : (n : ℕ) (x : X) (xs : List X) (a : A) → IsLeast key (Is n x) a → IsLeast key (IsAtSome Is n (x ∷ xs)) a
    first_here n x xs a least = record { shown = here_at n x xs a least.shown; first = λ b h. by b (split_at n x xs b h) }
      where
        by : (b : A) → Is n x b ⊎ IsAtSome Is (n + 1) xs b → NotAfter (key a) (key b)
        by b (inl h) = least.first b h
        by b (inr h) = ordered n (n + 1 + h.index) x h.place a b (omega arith) least.shown h.is

    first_behind : (n : ℕ) (x : X) (xs : List X) (rest : Option A) → ((a : A) → ¬ Is n x a) → IsFirst key (IsAtSome Is (n + 1) xs) rest → IsFirst key (IsAtSome Is n (x ∷ xs)) rest
    first_behind n x xs None none first_one = λ a h. by a (split_at n x xs a h)
      where
        by : (a : A) → Is n x a ⊎ IsAtSome Is (n + 1) xs a → ⊥
        by a (inl h) = none a h
        by a (inr h) = first_one a h
    first_behind n x xs (Some a) none least = record { shown = behind_at n x xs a least.shown; first = λ b h. by b (split_at n x xs b h) }
      where
        by : (b : A) → Is n x b ⊎ IsAtSome Is (n + 1) xs b → NotAfter (key a) (key b)
        by b (inl h) = absurd (none b h)
        by b (inr h) = least.first b h

    joined : (n : ℕ) (x : X) (xs : List X) (one rest : Option A) → IsFirst key (Is n x) one → IsFirst key (IsAtSome Is (n + 1) xs) rest → IsFirst key (IsAtSome Is n (x ∷ xs)) (option_or one rest)
    joined n x xs None rest none first_one = first_behind n x xs rest none first_one
    joined n x xs (Some a) rest least first_one = first_here n x xs a least

    -- what is found first at some places is the first of what is at all of them
    pub first_of_places : (n : ℕ) (xs : List X) → IsFirst key (IsAtSome Is n xs) (first_from find n xs)
    first_of_places n [] = λ a h. none_there h.index h.place h.there
      where
        none_there : (k : ℕ) (x : X) → slice_get [] k ≡ Some x → ⊥
        none_there zero x e = cc e
        none_there (suc k) x e = cc e
    first_of_places n (x ∷ xs) = joined n x xs (find n x) (first_from find (n + 1) xs) (first n x) (first_of_places (n + 1) xs)

-- counted from 0, a place's number is its index
pub at_zero : {X A : Type 0} (Is : ℕ → X → A → Type 0) (k : ℕ) (x : X) (a : A) → Is k x a → Is (0 + k) x a
at_zero Is k x a h = subst (λ n. Is n x a) (omega arith) h

pub of_zero : {X A : Type 0} (Is : ℕ → X → A → Type 0) (k : ℕ) (x : X) (a : A) → Is (0 + k) x a → Is k x a
of_zero Is k x a h = subst (λ n. Is n x a) (omega arith) h

-- behind some places comes one more
pub first_behind_all : {X A : Type 0} (find : ℕ → X → Option A) (n : ℕ) (xs : List X) (y : X) → first_from find n (xs ++ y ∷ []) ≡ option_or (first_from find n xs) (find (n + length xs) y)
first_behind_all {X} {A} find n [] y = last (find n y) ∙ ap (λ k. find k y) (omega arith)
  where
    last : (o : Option A) → option_or o None ≡ o
    last None = refl
    last (Some a) = refl
first_behind_all {X} {A} find n (x ∷ xs) y = by (find n x) (first_behind_all find (n + 1) xs y)
  where
    by : (o : Option A) → first_from find (n + 1) (xs ++ y ∷ []) ≡ option_or (first_from find (n + 1) xs) (find (n + 1 + length xs) y)
        → option_or o (first_from find (n + 1) (xs ++ y ∷ [])) ≡ option_or (option_or o (first_from find (n + 1) xs)) (find (n + length (x ∷ xs)) y)
    by None e = e ∙ ap (λ k. option_or (first_from find (n + 1) xs) (find k y)) (omega arith)
    by (Some a) e = refl

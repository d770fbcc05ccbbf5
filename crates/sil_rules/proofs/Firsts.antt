-- The first of what is shown: of two kinds of refusals, and in other words.
use Rattle.std.proofs.Common.{ℕ, List, sym, subst, ◌⊎◌, inl, inr, Option, Some, None}
use Rattle.sil_rules.specs.Order.{NotAfter, IsLeast, IsFirst, Either, IsEarlier}
use Rattle.sil_rules.proofs.Keys.{not_after_trans}

module _ {A : Type 0} (key : A → List ℕ) where
  -- what one is first of, another shows too, and all that the other shows comes behind: it is first of either
  pub least_of_either : (One Other : A → Type 0) (a : A) → IsLeast key One a → ((b : A) → Other b → NotAfter (key a) (key b)) → IsLeast key (Either One Other) a
  least_of_either One Other a least behind = record { shown = inl least.shown; first = λ b shown. all b shown }
    where
      all : (b : A) → One b ⊎ Other b → NotAfter (key a) (key b)
      all b (inl one) = least.first b one
      all b (inr other) = behind b other

  -- the ways in which something is shown may change places
  pub least_swap : (One Other : A → Type 0) (a : A) → IsLeast key (Either One Other) a → IsLeast key (Either Other One) a
  least_swap One Other a least = record { shown = swap a least.shown; first = λ b shown. least.first b (back b shown) }
    where
      swap : (b : A) → One b ⊎ Other b → Other b ⊎ One b
      swap b (inl one) = inr one
      swap b (inr other) = inl other

      back : (b : A) → Other b ⊎ One b → One b ⊎ Other b
      back b (inl other) = inr other
      back b (inr one) = inl one

  -- the first of one kind, where all of the other kind comes behind
  pub first_some : (One Other : A → Type 0) (a : A) → IsFirst key One (Some a) → ((b : A) → Other b → NotAfter (key a) (key b)) → IsFirst key (Either One Other) (Some a)
  first_some One Other a first behind = least_of_either One Other a first behind

  -- the first of the other kind, where nothing of the one is shown
  pub first_none : (One Other : A → Type 0) (r : Option A) → IsFirst key One None → IsFirst key Other r → IsFirst key (Either One Other) r
  first_none One Other None none first = λ a shown. neither a shown
    where
      neither : (a : A) → One a ⊎ Other a → ⊥
      neither a (inl one) = none a one
      neither a (inr other) = first a other
  first_none One Other (Some b) none first = least_swap Other One b (least_of_either Other One b first (λ a one. absurd (none a one)))

  pub first_earlier : (One Other : A → Type 0) (a b r : Option A) → IsFirst key One a → IsFirst key Other b → IsEarlier key a b r → IsFirst key (Either One Other) r
  first_earlier One Other None b r none first e = subst (IsFirst key (Either One Other)) (sym e) (first_none One Other b none first)
  first_earlier One Other (Some a) None r first none e =
      subst (IsFirst key (Either One Other)) (sym e) (least_of_either One Other a first (λ b other. absurd (none b other)))
  first_earlier One Other (Some a) (Some b) r first second (inl e) =
      subst (IsFirst key (Either One Other)) (sym e.0) (least_of_either One Other a first (λ c other. not_after_trans (key a) (key b) (key c) e.1 (second.first c other)))
  first_earlier One Other (Some a) (Some b) r first second (inr e) =
      subst (IsFirst key (Either One Other)) (sym e.0)
      (least_swap Other One b (least_of_either Other One b second (λ c one. not_after_trans (key b) (key a) (key c) e.1 (first.first c one))))

module _ {A : Type 0} (key : A → List ℕ) (One Other : A → Type 0) (to : (a : A) → One a → Other a) (back : (a : A) → Other a → One a) where
  -- what is shown in other words has the same first
  pub first_same : (r : Option A) → IsFirst key One r → IsFirst key Other r
  first_same None none = λ a h. none a (back a h)
  first_same (Some a) least = record { shown = to a least.shown; first = λ b h. least.first b (back b h) }

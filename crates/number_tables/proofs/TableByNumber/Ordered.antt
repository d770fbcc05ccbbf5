-- Chains through a change of one slot.
use Rattle.std.proofs.Common.{◌≡◌, ℕ, ◌+◌, ◌<◌, ◌⊎◌, inl, inr, sym, ap, ◌∙◌, subst, arith}
use Rattle.std.proofs.lemmas.Bool.{cases_order}
use Rattle.number_tables.specs.TableByNumber.inner.Chains.{AreChains, IsBelow, IsInChain, IsTaken, TOP}

module _ (mask : ℕ) (bucket key next : ℕ → ℕ) (are : AreChains mask bucket key next) where
  -- of two entries of a chain one is a slot with a lower key
  pub ordered : (b p q : ℕ) → IsInChain mask bucket key b p → IsInChain mask bucket key b q → (p ≡ q → ⊥)
      → ((IsTaken mask key p × (bucket (key p) ≡ b)) × (key p < key q)) ⊎ ((IsTaken mask key q × (bucket (key q) ≡ b)) × (key q < key p))
  ordered b p q (inl h) (inl g) differ = absurd (differ (h.0 ∙ sym g.0))
  ordered b p q (inl h) (inr g) differ =
      let head : key p ≡ TOP = are.heads p (omega arith) (omega arith) in
      let slot : key q < TOP = are.below_heads q g.0.0 in
      inr (g, omega arith)
  ordered b p q (inr h) (inl g) differ =
      let head : key q ≡ TOP = are.heads q (omega arith) (omega arith) in
      let slot : key p < TOP = are.below_heads p h.0.0 in
      inl (h, omega arith)
  ordered b p q (inr h) (inr g) differ =
      elim (cases_order (key p) (key q)) [
        | inl same ↦ absurd (differ (are.apart p q h.0 g.0 same))
        | inr (inl lower) ↦ inl (h, lower)
        | inr (inr greater) ↦ inr (g, greater)
      ]

  pub one_bucket : (b c p : ℕ) → IsInChain mask bucket key b p → IsInChain mask bucket key c p → b ≡ c
  one_bucket b c p (inl h) (inl g) = omega arith
  one_bucket b c p (inl h) (inr g) = absurd (omega arith)
  one_bucket b c p (inr h) (inl g) = absurd (omega arith)
  one_bucket b c p (inr h) (inr g) = sym h.1 ∙ g.1

  -- what stands next in a chain is no free slot
  pub next_not_free : (b above t s : ℕ) → IsBelow mask bucket key b above t → mask + 1 < s → key s ≡ 0 → t ≡ s → ⊥
  next_not_free b above t s below slot free is =
      let none : t ≡ 0 = below.ends (ap key is ∙ free) in omega arith

module _ (mask : ℕ) (bucket key : ℕ → ℕ) where
  -- the same of equal numbers
  pub carry : (b c above over t u : ℕ) → b ≡ c → above ≡ over → t ≡ u → IsBelow mask bucket key b above t → IsBelow mask bucket key c over u
  carry b c above over t u e f g below =
      subst (λ x. IsBelow mask bucket key x over u) e (subst (λ x. IsBelow mask bucket key b x u) f (subst (λ x. IsBelow mask bucket key b above x) g below))

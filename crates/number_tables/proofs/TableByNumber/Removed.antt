-- A slot loses its key.
use Rattle.std.proofs.Common.{◌≡◌, ℕ, ◌+◌, ◌<◌, ◌≤◌, inl, inr, sym, ap, ◌∙◌, subst, arith}
use Rattle.std.proofs.lemmas.Bool.{cases_eq, cases_order}
use Rattle.number_tables.specs.TableByNumber.inner.Chains.{AreChains, IsBelow, IsInChain, IsTaken, TOP}
use Rattle.number_tables.proofs.TableByNumber.Ordered.{carry, one_bucket, ordered}

module _ (mask : ℕ) (bucket key next : ℕ → ℕ) (are : AreChains mask bucket key next) where
  module _ (s p : ℕ) (key' next' : ℕ → ℕ)
      (taken : IsTaken mask key s) (b : ℕ) (chain : IsInChain mask bucket key b p) (link : next p ≡ s)
      (key-s : key' s ≡ 0) (key-other : (e : ℕ) → (e ≡ s → ⊥) → key' e ≡ key e)
      (next-p : next' p ≡ next s) (next-other : (e : ℕ) → (e ≡ p → ⊥) → next' e ≡ next e) where
    at_p : IsBelow mask bucket key b (key p) s
    at_p = subst (λ t. IsBelow mask bucket key b (key p) t) link (are.links b p chain)

    in_b : bucket (key s) ≡ b
    in_b = (at_p.inside taken.1).1

    at_s : IsBelow mask bucket key b (key s) (next s)
    at_s = are.links b s (inr (taken, in_b))

    not_s : (u : ℕ) → IsTaken mask key' u → u ≡ s → ⊥
    not_s u h is = let none : key' u ≡ 0 = ap key' is ∙ key-s in omega (arith, h.1)

    taken_before : (u : ℕ) → IsTaken mask key' u → IsTaken mask key u
    taken_before u h = (h.0, subst (λ n. 1 ≤ n) (key-other u (not_s u h)) h.1)

    -- a link that stays
    kept : (c above t : ℕ) → IsBelow mask bucket key c above t → (t ≡ s → ⊥) → IsBelow mask bucket key' c above t
    kept c above t below other =
        let same : key' t ≡ key t = key-other t other in
        record {
          falls = rw same below.falls;
          inside = rw same below.inside;
          ends = rw same below.ends;
          greatest = λ u h in_bucket under.
              let was : key' u ≡ key u = key-other u (not_s u h) in
              let le : key u ≤ key t = below.greatest u (taken_before u h) (ap bucket (sym was) ∙ in_bucket) (subst (λ n. n < above) was under) in
              omega arith;
        }

    next_differs : next s ≡ s → ⊥
    next_differs is = let same : key (next s) ≡ key s = ap key is in omega (arith, at_s.falls)

    -- the link past the slot
    past : IsBelow mask bucket key' b (key p) (next s)
    past =
        let same : key' (next s) ≡ key (next s) = key-other (next s) next_differs in
        let falls : key (next s) < key s = at_s.falls in
        let under_p : key s < key p = at_p.falls in
        record {
          falls = omega arith;
          inside = rw same at_s.inside;
          ends = rw same at_s.ends;
          greatest = λ u h in_bucket under.
              let was : key' u ≡ key u = key-other u (not_s u h) in
              let now = ap bucket (sym was) ∙ in_bucket in
              let le : key u ≤ key s = at_p.greatest u (taken_before u h) now (subst (λ n. n < key p) was under) in
              elim (cases_order (key u) (key s)) [
                | inl equal ↦ absurd (not_s u h (are.apart u s (taken_before u h) taken equal))
                | inr (inl lower) ↦ let last : key u ≤ key (next s) = at_s.greatest u (taken_before u h) now lower in omega arith
                | inr (inr greater) ↦ absurd (omega arith)
              ];
        }

    -- no other link goes to the slot
    only_link : (c q : ℕ) → IsInChain mask bucket key c q → (q ≡ p → ⊥) → next q ≡ s → ⊥
    only_link c q in_chain other is =
        let at_q : IsBelow mask bucket key c (key q) s = subst (λ t. IsBelow mask bucket key c (key q) t) is (are.links c q in_chain) in
        let same : c ≡ b = sym (at_q.inside taken.1).1 ∙ in_b in
        let under_p : key s < key p = at_p.falls in
        let under_q : key s < key q = at_q.falls in
        elim (ordered mask bucket key next are b p q chain (subst (λ x. IsInChain mask bucket key x q) same in_chain) (λ e. other (sym e))) [
          | inl h ↦ let le : key p ≤ key s = at_q.greatest p h.0.0 (h.0.1 ∙ sym same) h.1 in omega arith
          | inr h ↦ let le : key q ≤ key s = at_p.greatest q h.0.0 h.0.1 h.1 in omega arith
        ]

    head_differs : (c q : ℕ) → q ≡ c + 1 → c ≤ mask → q ≡ s → ⊥
    head_differs c q is le same = omega (arith, taken.0)

    before : (c q : ℕ) → IsInChain mask bucket key' c q → (q ≡ s → ⊥) × IsInChain mask bucket key c q
    before c q (inl h) = (head_differs c q h.0 h.1, inl h)
    before c q (inr h) = (not_s q h.0, inr (taken_before q h.0, ap bucket (sym (key-other q (not_s q h.0))) ∙ h.1))

    links_then : (c q : ℕ) → IsInChain mask bucket key' c q → IsBelow mask bucket key' c (key' q) (next' q)
    links_then c q in_chain =
        let was = before c q in_chain in
        elim (cases_eq q p) [
          | inl is ↦
              let same = one_bucket mask bucket key next are b c p chain (subst (λ x. IsInChain mask bucket key c x) is was.1) in
              carry mask bucket key' b c (key p) (key' q) (next s) (next' q) same (ap key (sym is) ∙ sym (key-other q was.0)) (sym (ap next' is ∙ next-p)) past
          | inr other ↦ rw (key-other q was.0, next-other q other) (kept c (key q) (next q) (are.links c q was.1) (only_link c q was.1 other))
        ]

    pub removed : AreChains mask bucket key' next'
    removed = record {
      end = key-other 0 (λ is. let zero : s ≡ 0 = sym is in omega (arith, taken.0)) ∙ are.end;
      heads = λ q from to. key-other q (λ is. let same : q ≡ s = is in omega (arith, taken.0)) ∙ are.heads q from to;
      below_heads = λ q behind. elim (cases_eq q s) [
        | inl is ↦ let now : key' q ≡ 0 = ap key' is ∙ key-s in omega arith
        | inr other ↦ subst (λ n. n < TOP) (sym (key-other q other)) (are.below_heads q behind)
      ];
      apart = λ u v h g same. are.apart u v (taken_before u h) (taken_before v g) (sym (key-other u (not_s u h)) ∙ same ∙ key-other v (not_s v g));
      links = links_then;
    }

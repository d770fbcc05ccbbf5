-- A free slot gets a key.
use Rattle.std.proofs.Common.{◌≡◌, ℕ, ◌+◌, ◌<◌, ◌≤◌, inl, inr, sym, ap, ◌∙◌, subst, arith}
use Rattle.std.proofs.lemmas.Bool.{cases_eq, cases_order}
use Rattle.number_tables.specs.TableByNumber.inner.Chains.{AreChains, IsAbsent, IsBelow, IsInChain, IsTaken, TOP}
use Rattle.number_tables.proofs.TableByNumber.Ordered.{carry, next_not_free, one_bucket, ordered}

module _ (mask : ℕ) (bucket key next : ℕ → ℕ) (are : AreChains mask bucket key next) where
  module _ (s k p : ℕ) (key' next' : ℕ → ℕ)
      (slot : mask + 1 < s) (free : key s ≡ 0) (some : 1 ≤ k) (low : k < TOP) (absent : IsAbsent mask key k)
      (chain : IsInChain mask bucket key (bucket k) p) (greater : k < key p) (last : key (next p) ≤ k)
      (key-s : key' s ≡ k) (key-other : (e : ℕ) → (e ≡ s → ⊥) → key' e ≡ key e)
      (next-s : next' s ≡ next p) (next-p : next' p ≡ s) (next-other : (e : ℕ) → (e ≡ s → ⊥) → (e ≡ p → ⊥) → next' e ≡ next e) where
    taken_before : (u : ℕ) → (u ≡ s → ⊥) → IsTaken mask key' u → IsTaken mask key u
    taken_before u other h = (h.0, subst (λ n. 1 ≤ n) (key-other u other) h.1)

    -- a link that stays
    kept : (b above t : ℕ) → IsBelow mask bucket key b above t → (bucket k ≡ b → k < above → k ≤ key t) → IsBelow mask bucket key' b above t
    kept b above t below passes =
        let other = next_not_free mask bucket key next are b above t s below slot free in
        let same : key' t ≡ key t = key-other t other in
        record {
          falls = rw same below.falls;
          inside = rw same below.inside;
          ends = rw same below.ends;
          greatest = λ u taken in_bucket under. elim (cases_eq u s) [
            | inl is ↦
                let now : key' u ≡ k = ap key' is ∙ key-s in
                let le : k ≤ key t = passes (ap bucket (sym now) ∙ in_bucket) (subst (λ n. n < above) now under) in
                omega arith
            | inr differs ↦
                let was : key' u ≡ key u = key-other u differs in
                let le : key u ≤ key t = below.greatest u (taken_before u differs taken) (ap bucket (sym was) ∙ in_bucket) (subst (λ n. n < above) was under) in
                omega arith
          ];
        }

    at_p : IsBelow mask bucket key (bucket k) (key p) (next p)
    at_p = are.links (bucket k) p chain

    strictly : key (next p) < k
    strictly =
        elim (cases_order (key (next p)) k) [
          | inl same ↦
              let there : mask + 1 < next p = (at_p.inside (subst (λ n. 1 ≤ n) (sym same) some)).0 in
              absurd (absent (next p) there same)
          | inr (inl lower) ↦ lower
          | inr (inr greater) ↦ absurd (omega arith)
        ]

    -- the new slot's link
    new_link : IsBelow mask bucket key' (bucket k) k (next p)
    new_link =
        let below : IsBelow mask bucket key (bucket k) k (next p) = record {
          falls = strictly;
          inside = at_p.inside;
          ends = at_p.ends;
          greatest = λ u taken in_bucket under. at_p.greatest u taken in_bucket (omega arith);
        } in
        kept (bucket k) k (next p) below (λ _ under. absurd (omega arith))

    -- the link to the new slot
    link_to_new : IsBelow mask bucket key' (bucket k) (key p) s
    link_to_new = record {
      falls = subst (λ n. n < key p) (sym key-s) greater;
      inside = λ _. (slot, ap bucket key-s);
      ends = λ none. let same : k ≡ 0 = sym key-s ∙ none in absurd (omega arith);
      greatest = λ u taken in_bucket under. elim (cases_eq u s) [
        | inl is ↦ let same : key' u ≡ key' s = ap key' is in omega arith
        | inr differs ↦
            let was : key' u ≡ key u = key-other u differs in
            let le : key u ≤ key (next p) = at_p.greatest u (taken_before u differs taken) (ap bucket (sym was) ∙ in_bucket) (subst (λ n. n < key p) was under) in
            let below : key (next p) < k = strictly in
            omega arith
      ];
    }

    -- another link passes the new slot, where it is in its bucket and below
    passes : (b q : ℕ) → IsInChain mask bucket key b q → (q ≡ p → ⊥) → bucket k ≡ b → k < key q → k ≤ key (next q)
    passes b q in_chain other same_bucket under =
        elim (ordered mask bucket key next are (bucket k) p q chain (subst (λ c. IsInChain mask bucket key c q) (sym same_bucket) in_chain) (λ is. other (sym is))) [
          | inl h ↦
              let le : key p ≤ key (next q) = (are.links b q in_chain).greatest p h.0.0 (h.0.1 ∙ same_bucket) h.1 in
              omega arith
          | inr h ↦
              let le : key q ≤ key (next p) = at_p.greatest q h.0.0 h.0.1 h.1 in
              let below : key (next p) < k = strictly in
              absurd (omega arith)
        ]

    before : (b q : ℕ) → (q ≡ s → ⊥) → IsInChain mask bucket key' b q → IsInChain mask bucket key b q
    before b q other (inl h) = inl h
    before b q other (inr h) = inr (taken_before q other h.0, ap bucket (sym (key-other q other)) ∙ h.1)

    of_new : (b q : ℕ) → q ≡ s → IsInChain mask bucket key' b q → bucket k ≡ b
    of_new b q is (inl h) = absurd (omega arith)
    of_new b q is (inr h) = ap bucket (sym (ap key' is ∙ key-s)) ∙ h.1

    links_then : (b q : ℕ) → IsInChain mask bucket key' b q → IsBelow mask bucket key' b (key' q) (next' q)
    links_then b q in_chain =
        elim (cases_eq q s) [
          | inl is ↦
              carry mask bucket key' (bucket k) b k (key' q) (next p) (next' q) (of_new b q is in_chain) (sym (ap key' is ∙ key-s)) (sym (ap next' is ∙ next-s)) new_link
          | inr other ↦ elim (cases_eq q p) [
            | inl is ↦
                let same = one_bucket mask bucket key next are (bucket k) b p chain (subst (λ x. IsInChain mask bucket key b x) is (before b q other in_chain)) in
                carry mask bucket key' (bucket k) b (key p) (key' q) s (next' q) same (ap key (sym is) ∙ sym (key-other q other)) (sym (ap next' is ∙ next-p)) link_to_new
            | inr also ↦
                let was = before b q other in_chain in
                rw (key-other q other, next-other q other also) (kept b (key q) (next q) (are.links b q was) (passes b q was also))
          ]
        ]

    still_apart : (u v : ℕ) → IsTaken mask key' u → IsTaken mask key' v → key' u ≡ key' v → u ≡ v
    still_apart u v h g same =
        elim (cases_eq u s) [
          | inl is ↦ elim (cases_eq v s) [
            | inl also ↦ is ∙ sym also
            | inr other ↦ absurd (absent v g.0 (sym (key-other v other) ∙ sym same ∙ ap key' is ∙ key-s))
          ]
          | inr other ↦ elim (cases_eq v s) [
            | inl is ↦ absurd (absent u h.0 (sym (key-other u other) ∙ same ∙ ap key' is ∙ key-s))
            | inr also ↦ are.apart u v (taken_before u other h) (taken_before v also g) (sym (key-other u other) ∙ same ∙ key-other v also)
          ]
        ]

    pub inserted : AreChains mask bucket key' next'
    inserted = record {
      end = key-other 0 (λ is. let zero : s ≡ 0 = sym is in absurd (omega arith)) ∙ are.end;
      heads = λ q from to. key-other q (λ is. let same : q ≡ s = is in absurd (omega arith)) ∙ are.heads q from to;
      below_heads = λ q behind. elim (cases_eq q s) [
        | inl is ↦ let now : key' q ≡ k = ap key' is ∙ key-s in omega arith
        | inr other ↦ subst (λ n. n < TOP) (sym (key-other q other)) (are.below_heads q behind)
      ];
      apart = still_apart;
      links = links_then;
    }

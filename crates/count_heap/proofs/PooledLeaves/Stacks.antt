-- Stacks through a change of one piece.
use Rattle.std.proofs.Common.{◌≡◌, ℕ, zero, suc, ◌+◌, ◌<◌, ◌≤◌, inl, inr, refl, sym, ap, ◌∙◌, subst, arith}
use Rattle.std.proofs.lemmas.Bool.{cases_eq}
use Rattle.count_heap.specs.PooledLeaves.inner.Stacks.{AreStacks, IsFreeRef, level}

-- levels of a reference whose piece is as deep as before
level_same : (depth depth' : ℕ → ℕ) (e : ℕ) → ((p : ℕ) → e ≡ suc p → depth' p ≡ depth p) → level depth' e ≡ level depth e
level_same depth depth' zero h = refl
level_same depth depth' (suc p) h = h p refl

module _ (count : ℕ) (size depth next top : ℕ → ℕ) (are : AreStacks count size depth next top) where
  -- ---- the top of a stack is taken

  module _ (s p : ℕ) (is_top : top s ≡ suc p) (depth' top' : ℕ → ℕ)
      (depth-p : depth' p ≡ 0) (depth-other : (q : ℕ) → (q ≡ p → ⊥) → depth' q ≡ depth q)
      (top-s : top' s ≡ next p) (top-other : (t : ℕ) → (t ≡ s → ⊥) → top' t ≡ top t) where
    pub popped_was : (p < count) × (size p ≡ s) × (1 ≤ depth p)
    popped_was = are.top_free s p is_top

    was_free : (q : ℕ) → 1 ≤ depth' q → (q ≡ p → ⊥) × (1 ≤ depth q)
    was_free q free =
        elim (cases_eq q p) [
          | inl is ↦ let none : depth' q ≡ 0 = ap depth' is ∙ depth-p in absurd (omega arith)
          | inr other ↦ (other, subst (λ n. 1 ≤ n) (depth-other q other) free)
        ]

    -- a reference to another piece stays
    ref_stays : (t e : ℕ) → IsFreeRef count size depth t e → (e ≡ suc p → ⊥) → IsFreeRef count size depth' t e
    ref_stays t e ref other q is =
        let was = ref q is in
        let differs : q ≡ p → ⊥ = λ same. other (is ∙ ap suc same) in
        (was.0, was.1, subst (λ n. 1 ≤ n) (sym (depth-other q differs)) was.2)

    level_stays : (e : ℕ) → (e ≡ suc p → ⊥) → level depth' e ≡ level depth e
    level_stays e other = level_same depth depth' e (λ q is. depth-other q (λ same. other (is ∙ ap suc same)))

    level_top : level depth (top s) ≡ depth p
    level_top = ap (level depth) is_top

    -- what lies under the top isn't the top
    under : next p ≡ suc p → ⊥
    under is =
        let lower : level depth (next p) + 1 ≡ depth p = are.next_lower p popped_was.0 popped_was.2 in
        let same : level depth (next p) ≡ depth p = ap (level depth) is in omega arith

    -- nothing lies on the top
    above : (q : ℕ) → q < count → 1 ≤ depth q → next q ≡ suc p → ⊥
    above q lt free is =
        let lower : level depth (next q) + 1 ≡ depth q = are.next_lower q lt free in
        let same : level depth (next q) ≡ depth p = ap (level depth) is in
        let size_q : s ≡ size q = sym popped_was.1 ∙ (are.next_free q lt free p is).1 in
        let high : depth q ≤ level depth (top (size q)) = are.top_highest q lt free in
        let top_q : level depth (top (size q)) ≡ depth p = ap (λ t. level depth (top t)) (sym size_q) ∙ level_top in
        omega arith

    other_top : (t : ℕ) → (t ≡ s → ⊥) → top t ≡ suc p → ⊥
    other_top t differs is = differs (sym (are.top_free t p is).1 ∙ popped_was.1)

    top_free' : (t : ℕ) → IsFreeRef count size depth' t (top' t)
    top_free' t =
        elim (cases_eq t s) [
          | inl is ↦
              let ref : IsFreeRef count size depth' (size p) (next p) = ref_stays (size p) (next p) (are.next_free p popped_was.0 popped_was.2) under in
              subst (λ e. IsFreeRef count size depth' t e) (sym (ap top' is ∙ top-s)) (subst (λ u. IsFreeRef count size depth' u (next p)) (popped_was.1 ∙ sym is) ref)
          | inr differs ↦ subst (λ e. IsFreeRef count size depth' t e) (sym (top-other t differs)) (ref_stays t (top t) (are.top_free t) (other_top t differs))
        ]

    top_highest' : (q : ℕ) → q < count → 1 ≤ depth' q → depth' q ≤ level depth' (top' (size q))
    top_highest' q lt free =
        let was = was_free q free in
        let same : depth' q ≡ depth q = depth-other q was.0 in
        let high : depth q ≤ level depth (top (size q)) = are.top_highest q lt was.1 in
        elim (cases_eq (size q) s) [
          | inl is ↦
              let top_is : level depth (top (size q)) ≡ depth p = ap (λ t. level depth (top t)) is ∙ level_top in
              let lower : level depth (next p) + 1 ≡ depth p = are.next_lower p popped_was.0 popped_was.2 in
              let differs : depth q ≡ depth p → ⊥ = λ equal. was.0 (are.apart q p lt popped_was.0 was.1 (is ∙ sym popped_was.1) equal) in
              let now : level depth' (top' (size q)) ≡ level depth (next p) = ap (level depth') (ap top' is ∙ top-s) ∙ level_stays (next p) under in
              omega arith
          | inr other ↦
              let now : level depth' (top' (size q)) ≡ level depth (top (size q)) = ap (level depth') (top-other (size q) other) ∙ level_stays (top (size q)) (other_top (size q) other) in
              omega arith
        ]

    pub popped : AreStacks count size depth' next top'
    popped = record {
      top_free = top_free';
      top_highest = top_highest';
      next_free = λ q lt free. let was = was_free q free in ref_stays (size q) (next q) (are.next_free q lt was.1) (above q lt was.1);
      next_lower = λ q lt free.
          let was = was_free q free in
          let lower : level depth (next q) + 1 ≡ depth q = are.next_lower q lt was.1 in
          omega (arith, level_stays (next q) (above q lt was.1), depth-other q was.0);
      apart = λ q r lt lt' free same_size same_depth.
          let was = was_free q free in
          let free_r : 1 ≤ depth' r = omega arith in
          let was_r = was_free r free_r in
          are.apart q r lt lt' was.1 same_size (sym (depth-other q was.0) ∙ same_depth ∙ depth-other r was_r.0);
    }

  -- ---- a piece is put on the top of its stack

  module _ (p : ℕ) (there : p < count) (taken : depth p ≡ 0) (depth' next' top' : ℕ → ℕ)
      (depth-p : depth' p ≡ level depth (top (size p)) + 1) (depth-other : (q : ℕ) → (q ≡ p → ⊥) → depth' q ≡ depth q)
      (next-p : next' p ≡ top (size p)) (next-other : (q : ℕ) → (q ≡ p → ⊥) → next' q ≡ next q)
      (top-s : top' (size p) ≡ suc p) (top-other : (t : ℕ) → (t ≡ size p → ⊥) → top' t ≡ top t) where
    -- what was free isn't the piece
    not_p : (t e : ℕ) → IsFreeRef count size depth t e → e ≡ suc p → ⊥
    not_p t e ref is = omega (arith, (ref p is).2)

    keeps : (t e : ℕ) → IsFreeRef count size depth t e → IsFreeRef count size depth' t e
    keeps t e ref q is =
        let was = ref q is in
        let differs : q ≡ p → ⊥ = λ same. not_p t e ref (is ∙ ap suc same) in
        (was.0, was.1, subst (λ n. 1 ≤ n) (sym (depth-other q differs)) was.2)

    level_keeps : (t e : ℕ) → IsFreeRef count size depth t e → level depth' e ≡ level depth e
    level_keeps t e ref = level_same depth depth' e (λ q is. depth-other q (λ same. not_p t e ref (is ∙ ap suc same)))

    free_before : (q : ℕ) → (q ≡ p → ⊥) → 1 ≤ depth' q → 1 ≤ depth q
    free_before q differs free = subst (λ n. 1 ≤ n) (depth-other q differs) free

    -- deeper than all others of its size
    deepest : (q : ℕ) → q < count → (q ≡ p → ⊥) → 1 ≤ depth' q → size q ≡ size p → depth' q < depth' p
    deepest q lt differs free same =
        let high : depth q ≤ level depth (top (size q)) = are.top_highest q lt (free_before q differs free) in
        let top_is : level depth (top (size q)) ≡ level depth (top (size p)) = ap (λ t. level depth (top t)) same in
        omega (arith, depth-other q differs)

    level_new : level depth' (top' (size p)) ≡ depth' p
    level_new = ap (level depth') top-s

    top_free'' : (t : ℕ) → IsFreeRef count size depth' t (top' t)
    top_free'' t =
        elim (cases_eq t (size p)) [
          | inl is ↦ λ q ref.
              let same : suc q ≡ suc p = sym ref ∙ ap top' is ∙ top-s in
              let q_is : q ≡ p = omega arith in
              (subst (λ n. n < count) (sym q_is) there, ap size q_is ∙ sym is, let d : depth' q ≡ depth' p = ap depth' q_is in omega (arith, depth-p))
          | inr differs ↦ subst (λ e. IsFreeRef count size depth' t e) (sym (top-other t differs)) (keeps t (top t) (are.top_free t))
        ]

    top_highest'' : (q : ℕ) → q < count → 1 ≤ depth' q → depth' q ≤ level depth' (top' (size q))
    top_highest'' q lt free =
        elim (cases_eq (size q) (size p)) [
          | inl is ↦
              let now : level depth' (top' (size q)) ≡ depth' p = ap (λ t. level depth' (top' t)) is ∙ level_new in
              elim (cases_eq q p) [
                | inl same ↦ let d : depth' q ≡ depth' p = ap depth' same in omega arith
                | inr differs ↦ let low : depth' q < depth' p = deepest q lt differs free is in omega arith
              ]
          | inr other ↦
              let differs : q ≡ p → ⊥ = λ same. other (ap size same) in
              let high : depth q ≤ level depth (top (size q)) = are.top_highest q lt (free_before q differs free) in
              let now : level depth' (top' (size q)) ≡ level depth (top (size q)) = ap (level depth') (top-other (size q) other) ∙ level_keeps (size q) (top (size q)) (are.top_free (size q)) in
              omega (arith, depth-other q differs)
        ]

    next_free'' : (q : ℕ) → q < count → 1 ≤ depth' q → IsFreeRef count size depth' (size q) (next' q)
    next_free'' q lt free =
        elim (cases_eq q p) [
          | inl is ↦
              subst (λ e. IsFreeRef count size depth' (size q) e) (sym (ap next' is ∙ next-p))
              (subst (λ s. IsFreeRef count size depth' s (top (size p))) (sym (ap size is)) (keeps (size p) (top (size p)) (are.top_free (size p))))
          | inr differs ↦
              subst (λ e. IsFreeRef count size depth' (size q) e) (sym (next-other q differs)) (keeps (size q) (next q) (are.next_free q lt (free_before q differs free)))
        ]

    next_lower'' : (q : ℕ) → q < count → 1 ≤ depth' q → level depth' (next' q) + 1 ≡ depth' q
    next_lower'' q lt free =
        elim (cases_eq q p) [
          | inl is ↦
              let now : level depth' (next' q) ≡ level depth (top (size p)) = ap (level depth') (ap next' is ∙ next-p) ∙ level_keeps (size p) (top (size p)) (are.top_free (size p)) in
              let d : depth' q ≡ depth' p = ap depth' is in omega (arith, depth-p)
          | inr differs ↦
              let was = free_before q differs free in
              let lower : level depth (next q) + 1 ≡ depth q = are.next_lower q lt was in
              let now : level depth' (next' q) ≡ level depth (next q) = ap (level depth') (next-other q differs) ∙ level_keeps (size q) (next q) (are.next_free q lt was) in
              omega (arith, depth-other q differs)
        ]

    apart'' : (q r : ℕ) → q < count → r < count → 1 ≤ depth' q → size q ≡ size r → depth' q ≡ depth' r → q ≡ r
    apart'' q r lt lt' free same_size same_depth =
        let free_r : 1 ≤ depth' r = omega arith in
        elim (cases_eq q p) [
          | inl is ↦ elim (cases_eq r p) [
            | inl also ↦ is ∙ sym also
            | inr differs ↦
                let low : depth' r < depth' p = deepest r lt' differs free_r (sym same_size ∙ ap size is) in
                let d : depth' q ≡ depth' p = ap depth' is in absurd (omega arith)
          ]
          | inr differs ↦ elim (cases_eq r p) [
            | inl is ↦
                let low : depth' q < depth' p = deepest q lt differs free (same_size ∙ ap size is) in
                let d : depth' r ≡ depth' p = ap depth' is in absurd (omega arith)
            | inr also ↦ are.apart q r lt lt' (free_before q differs free) same_size (sym (depth-other q differs) ∙ same_depth ∙ depth-other r also)
          ]
        ]

    pub pushed : AreStacks count size depth' next' top'
    pushed = record { top_free = top_free''; top_highest = top_highest''; next_free = next_free''; next_lower = next_lower''; apart = apart'' }

  -- ---- a further piece that is given out

  module _ (size' depth' next' : ℕ → ℕ) (new : depth' count ≡ 0)
      (size-old : (q : ℕ) → q < count → size' q ≡ size q) (depth-old : (q : ℕ) → q < count → depth' q ≡ depth q) (next-old : (q : ℕ) → q < count → next' q ≡ next q) where
    old : (q : ℕ) → q < count + 1 → 1 ≤ depth' q → q < count
    old q lt free =
        elim (cases_eq q count) [
          | inl is ↦ let none : depth' q ≡ 0 = ap depth' is ∙ new in absurd (omega arith)
          | inr differs ↦ omega arith
        ]

    carried : (t e : ℕ) → IsFreeRef count size depth t e → IsFreeRef (count + 1) size' depth' t e
    carried t e ref q is =
        let was = ref q is in
        let lt : q < count + 1 = omega (arith, was.0) in
        (lt, size-old q was.0 ∙ was.1, subst (λ n. 1 ≤ n) (sym (depth-old q was.0)) was.2)

    level_carried : (t e : ℕ) → IsFreeRef count size depth t e → level depth' e ≡ level depth e
    level_carried t e ref = level_same depth depth' e (λ q is. depth-old q (ref q is).0)

    pub one_more : AreStacks (count + 1) size' depth' next' top
    one_more = record {
      top_free = λ t. carried t (top t) (are.top_free t);
      top_highest = λ q lt free.
          let was = old q lt free in
          let high : depth q ≤ level depth (top (size q)) = are.top_highest q was (subst (λ n. 1 ≤ n) (depth-old q was) free) in
          let now : level depth' (top (size' q)) ≡ level depth (top (size q)) = ap (λ t. level depth' (top t)) (size-old q was) ∙ level_carried (size q) (top (size q)) (are.top_free (size q)) in
          omega (arith, depth-old q was);
      next_free = λ q lt free.
          let was = old q lt free in
          let ref = carried (size q) (next q) (are.next_free q was (subst (λ n. 1 ≤ n) (depth-old q was) free)) in
          subst (λ e. IsFreeRef (count + 1) size' depth' (size' q) e) (sym (next-old q was)) (subst (λ t. IsFreeRef (count + 1) size' depth' t (next q)) (sym (size-old q was)) ref);
      next_lower = λ q lt free.
          let was = old q lt free in
          let before = subst (λ n. 1 ≤ n) (depth-old q was) free in
          let lower : level depth (next q) + 1 ≡ depth q = are.next_lower q was before in
          let now : level depth' (next' q) ≡ level depth (next q) = ap (level depth') (next-old q was) ∙ level_carried (size q) (next q) (are.next_free q was before) in
          omega (arith, depth-old q was);
      apart = λ q r lt lt' free same_size same_depth.
          let was = old q lt free in
          let free_r : 1 ≤ depth' r = omega arith in
          let was_r = old r lt' free_r in
          are.apart q r was was_r (subst (λ n. 1 ≤ n) (depth-old q was) free) (sym (size-old q was) ∙ same_size ∙ size-old r was_r) (sym (depth-old q was) ∙ same_depth ∙ depth-old r was_r);
    }

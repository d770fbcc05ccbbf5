use Rattle.std.proofs.Common.{◌≡◌, ◌≢◌, ℕ, ◌+◌, ◌*◌, ◌<◌, List, length, refl, sym, ap, ◌∙◌, subst, arith, ◌⊎◌, inl, inr}
use Rattle.std.proofs.lemmas.Bool.{cases_eq}
use Rattle.reach_engine.specs.declared.scan.Step.{Step}
use Rattle.reach_engine.specs.declared.scan.Step.TheVariants.{Go, Bad}
use Rattle.reach_engine.proofs.Runs.{go-bad, same_Go}
use Rattle.reach_engine.specs.inner.Bits.{bit_in}
use Rattle.reach_engine.specs.inner.Columns.{cell, Has, OthersStay, Put}
use Rattle.reach_engine.proofs.ColumnTaken.{cell_apart}

-- what is kept while a subject is put back, from the rows below i
pub record Turning (f : ℕ → ℕ → Step) (states width u item : ℕ) (first bundle before bad : List ℕ) (i : ℕ) : Type 0 where
  pub size : length bundle ≡ length first
  pub bad_size : length bad ≡ length before
  pub from : (t : ℕ) → t < states → Has bundle width t u → (s : ℕ) × (s < i) × Has first width s u × (f s item ≡ Go t)
  pub to : (s t : ℕ) → s < i → Has first width s u → f s item ≡ Go t → Has bundle width t u
  pub others : OthersStay states width u first bundle
  pub bad_from : bit_in bad u ≡ 1 → (bit_in before u ≡ 1) ⊎ ((s : ℕ) × (code : ℕ) × (s < i) × Has first width s u × (f s item ≡ Bad code))
  pub bad_kept : bit_in before u ≡ 1 → bit_in bad u ≡ 1
  pub bad_to : (s code : ℕ) → s < i → Has first width s u → f s item ≡ Bad code → bit_in bad u ≡ 1
  pub innocent : (v : ℕ) → v ≢ u → bit_in bad v ≡ bit_in before v

module _ (f : ℕ → ℕ → Step) (states width u item : ℕ) (lu : u < 64 * width) where
  -- row i doesn't have the subject
  pub turn_skip : (first bundle before bad : List ℕ) (i : ℕ) → Turning f states width u item first bundle before bad i → (Has first width i u → ⊥)
      → Turning f states width u item first bundle before bad (i + 1)
  turn_skip first bundle before bad i h none = record {
    size = h.size;
    bad_size = h.bad_size;
    from = λ t lt x. let p = h.from t lt x in (p.0, (let l : p.0 < i = p.1 in omega arith), p.2, p.3);
    to = λ s t ls x y. to_at s t ls x y (cases_eq s i);
    others = h.others;
    bad_from = λ x. bad_more (h.bad_from x);
    bad_kept = h.bad_kept;
    bad_to = λ s c ls x y. bad_at s c ls x y (cases_eq s i);
    innocent = h.innocent;
  }
    where
      to_at : (s t : ℕ) → s < i + 1 → Has first width s u → f s item ≡ Go t → (s ≡ i) ⊎ (s ≢ i) → Has bundle width t u
      to_at s t ls x y (inl e) = absurd (none (subst (λ k. Has first width k u) e x))
      to_at s t ls x y (inr n) = h.to s t (omega arith) x y

      bad_more : (bit_in before u ≡ 1) ⊎ ((s : ℕ) × (code : ℕ) × (s < i) × Has first width s u × (f s item ≡ Bad code))
          → (bit_in before u ≡ 1) ⊎ ((s : ℕ) × (code : ℕ) × (s < i + 1) × Has first width s u × (f s item ≡ Bad code))
      bad_more (inl e) = inl e
      bad_more (inr p) = inr (p.0, p.1, (let l : p.0 < i = p.2 in omega arith), p.3, p.4)

      bad_at : (s c : ℕ) → s < i + 1 → Has first width s u → f s item ≡ Bad c → (s ≡ i) ⊎ (s ≢ i) → bit_in bad u ≡ 1
      bad_at s c ls x y (inl e) = absurd (none (subst (λ k. Has first width k u) e x))
      bad_at s c ls x y (inr n) = h.bad_to s c (omega arith) x y

  -- row i has it, and its step is taken
  pub turn_put : (first bundle next before bad after : List ℕ) (i : ℕ) → Turning f states width u item first bundle before bad i → Has first width i u →
      length next ≡ length bundle → length after ≡ length bad → Put (f i item) width u bundle next bad after → Turning f states width u item first next before after (i + 1)
  turn_put first bundle next before bad after i h has size bad_size put = at (f i item) refl put
    where
      at : (r : Step) → f i item ≡ r → Put r width u bundle next bad after → Turning f states width u item first next before after (i + 1)
      at (Go t) e p = record {
        size = size ∙ h.size;
        bad_size = bad_size ∙ h.bad_size;
        from = λ x lx y. from_at x lx y (cases_eq x t);
        to = λ s x ls y z. to_at s x ls y z (cases_eq s i) (cases_eq x t);
        others = λ s v ls lv n. p.1 (cell width s v) (cell_apart width s t v u lv lu (λ _ q. n q)) ∙ h.others s v ls lv n;
        bad_from = λ x. bad_more (h.bad_from (sym (ap (λ w. bit_in w u) p.2) ∙ x));
        bad_kept = λ x. ap (λ w. bit_in w u) p.2 ∙ h.bad_kept x;
        bad_to = λ s c ls y z. bad_at s c ls y z (cases_eq s i);
        innocent = λ v n. ap (λ w. bit_in w v) p.2 ∙ h.innocent v n;
      }
        where
          from_at : (x : ℕ) → x < states → Has next width x u → (x ≡ t) ⊎ (x ≢ t) → (s : ℕ) × (s < i + 1) × Has first width s u × (f s item ≡ Go x)
          from_at x lx y (inl q) = (i, (omega arith), has, e ∙ ap Go (sym q))
          from_at x lx y (inr n) = let o = h.from x lx (sym (p.1 (cell width x u) (cell_apart width x t u u lu lu (λ q _. n q))) ∙ y) in (o.0, (let l : o.0 < i = o.1 in omega arith), o.2, o.3)

          to_at : (s x : ℕ) → s < i + 1 → Has first width s u → f s item ≡ Go x → (s ≡ i) ⊎ (s ≢ i) → (x ≡ t) ⊎ (x ≢ t) → Has next width x u
          to_at s x ls y z c (inl q) = ap (λ k. bit_in next (cell width k u)) q ∙ p.0
          to_at s x ls y z (inl c) (inr n) = absurd (n (same_Go x t (sym z ∙ ap (λ k. f k item) c ∙ e)))
          to_at s x ls y z (inr c) (inr n) = p.1 (cell width x u) (cell_apart width x t u u lu lu (λ q _. n q)) ∙ h.to s x (omega arith) y z

          bad_more : (bit_in before u ≡ 1) ⊎ ((s : ℕ) × (code : ℕ) × (s < i) × Has first width s u × (f s item ≡ Bad code))
              → (bit_in before u ≡ 1) ⊎ ((s : ℕ) × (code : ℕ) × (s < i + 1) × Has first width s u × (f s item ≡ Bad code))
          bad_more (inl q) = inl q
          bad_more (inr o) = inr (o.0, o.1, (let l : o.0 < i = o.2 in omega arith), o.3, o.4)

          bad_at : (s c : ℕ) → s < i + 1 → Has first width s u → f s item ≡ Bad c → (s ≡ i) ⊎ (s ≢ i) → bit_in after u ≡ 1
          bad_at s c ls y z (inl q) = absurd (go-bad t c (sym e ∙ ap (λ k. f k item) (sym q) ∙ z))
          bad_at s c ls y z (inr n) = ap (λ w. bit_in w u) p.2 ∙ h.bad_to s c (omega arith) y z
      at (Bad d) e p = record {
        size = size ∙ h.size;
        bad_size = bad_size ∙ h.bad_size;
        from = λ x lx y. let o = h.from x lx (sym (ap (λ w. bit_in w (cell width x u)) p.0) ∙ y) in (o.0, (let l : o.0 < i = o.1 in omega arith), o.2, o.3);
        to = λ s x ls y z. to_at s x ls y z (cases_eq s i);
        others = λ s v ls lv n. ap (λ w. bit_in w (cell width s v)) p.0 ∙ h.others s v ls lv n;
        bad_from = λ x. inr (i, d, (omega arith), has, e);
        bad_kept = λ x. p.1;
        bad_to = λ s c ls y z. p.1;
        innocent = λ v n. p.2 v n ∙ h.innocent v n;
      }
        where
          to_at : (s x : ℕ) → s < i + 1 → Has first width s u → f s item ≡ Go x → (s ≡ i) ⊎ (s ≢ i) → Has next width x u
          to_at s x ls y z (inl q) = absurd (go-bad x d (sym z ∙ ap (λ k. f k item) q ∙ e))
          to_at s x ls y z (inr n) = ap (λ w. bit_in w (cell width x u)) p.0 ∙ h.to s x (omega arith) y z

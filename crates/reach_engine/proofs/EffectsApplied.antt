-- Bundles that are moved by effects.
use Rattle.std.proofs.Common.{◌≡◌, ◌≢◌, ℕ, zero, suc, ◌+◌, ◌*◌, ◌/◌, ◌%◌, ◌<◌, ◌≤◌, List, length, get_or, take, drop, min, max, refl, sym, ap, ap₂, ◌∙◌, subst, arith, ◌⊎◌, inl, inr}
use Rattle.std.proofs.lemmas.Bool.{cases_eq, cases_lt}
use Rattle.std.proofs.lemmas.Nat.Bits.{bit_at-lt}
use Rattle.reach_engine.specs.inner.Bits.{bit_in}
use Rattle.reach_engine.specs.inner.Columns.{cell, Has}
use Rattle.reach_engine.specs.inner.Effects.{effect_rows, RowAdded, BadAdded, Applied}
use Rattle.reach_engine.proofs.RowsMoved.{bit_in_part}

-- what is kept while the row is added to the rows of the states below i
pub record Adding (states width : ℕ) (row words : List ℕ) (from : ℕ) (first rows : List ℕ) (i : ℕ) : Type 0 where
  pub size : length rows ≡ length first
  pub added : RowAdded width row words from i first rows
  pub rest : (t v : ℕ) → i ≤ t → v < 64 * width → bit_in rows (cell width t v) ≡ bit_in first (cell width t v)

pub add_none : (states width : ℕ) (row words : List ℕ) (from : ℕ) (first : List ℕ) → Adding states width row words from first first 0
add_none states width row words from first = record { size = refl; added = λ t v lt. absurd (omega arith); rest = λ t v le lv. refl }

rows_apart : (s t width : ℕ) → s < t → s * width + width ≤ t * width
rows_apart s t width lt = grind arith

pub add_more : (states width : ℕ) (row words mask : List ℕ) (from : ℕ) (first rows next : List ℕ) (i start n : ℕ) → length row ≡ width → start ≡ from + i * width → width ≤ n →
    mask ≡ take n (drop start words) →
    Adding states width row words from first rows i → length next ≡ length rows →
    ((k : ℕ) → k < 64 * length row → bit_in next (64 * (i * width) + k) ≡ max (bit_in rows (64 * (i * width) + k)) (min (bit_in row k) (bit_in mask k))) →
    ((k : ℕ) → k < 64 * (i * width) → bit_in next k ≡ bit_in rows k) → ((k : ℕ) → 64 * (i * width + length row) ≤ k → bit_in next k ≡ bit_in rows k) →
    Adding states width row words from first next (i + 1)
add_more states width row words mask from first rows next i start n row_size start_is wide mask_is h size inside below above = record {
  size = size ∙ h.size;
  added = λ t v lt lv. added_at t v lt lv (cases_eq t i);
  rest = λ t v le lv. other t v (omega arith) lv ∙ h.rest t v (omega arith) lv;
}
  where
    other : (t v : ℕ) → t ≢ i → v < 64 * width → bit_in next (cell width t v) ≡ bit_in rows (cell width t v)
    other t v ne lv = at (cases_lt t i)
      where
        at : (t < i) ⊎ (i ≤ t) → bit_in next (cell width t v) ≡ bit_in rows (cell width t v)
        at (inl l) = let up : t * width + width ≤ i * width = rows_apart t i width l in below (cell width t v) (omega arith)
        at (inr l) = let up : i * width + width ≤ t * width = rows_apart i t width (omega arith) in above (cell width t v) (omega (arith, row_size))

    mask_bit : (v : ℕ) → v < 64 * width → bit_in mask v ≡ bit_in words (64 * from + cell width i v)
    mask_bit v lv =
        let place : 64 * start + v ≡ 64 * from + cell width i v = omega arith in
        ap (λ ws. bit_in ws v) mask_is ∙ bit_in_part words start n v (omega arith) ∙ ap (bit_in words) place

    here : (v : ℕ) → v < 64 * width → bit_in next (cell width i v) ≡ max (bit_in first (cell width i v)) (min (bit_in row v) (bit_in words (64 * from + cell width i v)))
    here v lv =
        let place : cell width i v ≡ 64 * (i * width) + v = omega arith in
        ap (bit_in next) place ∙ inside v (omega (arith, row_size))
        ∙ ap₂ max (ap (bit_in rows) (sym place) ∙ h.rest i v (omega arith) lv) (ap (min (bit_in row v)) (mask_bit v lv))

    added_at : (t v : ℕ) → t < i + 1 → v < 64 * width → (t ≡ i) ⊎ (t ≢ i)
        → bit_in next (cell width t v) ≡ max (bit_in first (cell width t v)) (min (bit_in row v) (bit_in words (64 * from + cell width t v)))
    added_at t v lt lv (inl e) = subst (λ k. bit_in next (cell width k v) ≡ max (bit_in first (cell width k v)) (min (bit_in row v) (bit_in words (64 * from + cell width k v)))) (sym e) (here v lv)
    added_at t v lt lv (inr ne) = other t v ne lv ∙ h.added t v (omega arith) lv

bit_below : (words : List ℕ) (k : ℕ) → bit_in words k < 2
bit_below words k = bit_at-lt (get_or words (k / 64) 0) (k % 64)

max_from : (a b c : ℕ) → a < 2 → b < 2 → c < 2 → max a (min b c) ≡ 1 → (a ≡ 1) ⊎ ((b ≡ 1) × (c ≡ 1))
max_from (suc a) b c la lb lc h = inl (omega arith)
max_from zero (suc b) (suc c) la lb lc h = inr (omega arith, omega arith)
max_from zero zero c la lb lc h = absurd (omega arith)
max_from zero (suc b) zero la lb lc h = absurd (omega arith)

max_kept : (a b : ℕ) → a < 2 → b < 2 → a ≡ 1 → max a b ≡ 1
max_kept a b la lb h = omega arith

max_to : (a b c : ℕ) → a < 2 → b ≡ 1 → c ≡ 1 → max a (min b c) ≡ 1
max_to a b c la hb hc = omega arith

min_below : (a b : ℕ) → a < 2 → min a b < 2
min_below a b la = omega arith

zero_one : ◌≡◌ {A = ℕ} 0 1 → ⊥
zero_one h = omega arith

pub apply_none : (states width : ℕ) (words : List ℕ) (from : ℕ) (old new before : List ℕ) → ((k : ℕ) → bit_in new k ≡ 0) → Applied states width words from old new before before 0
apply_none states width words from old new before clear = record {
  goes_from = λ t v lt lv x. absurd (zero_one (sym (clear (cell width t v)) ∙ x));
  goes_to = λ s t v ls. absurd (omega arith);
  bad_from = λ v lv x. inl x;
  bad_kept = λ v lv x. x;
  bad_to = λ s v ls. absurd (omega arith);
  above = λ v le. refl;
}

-- one state more: its row of the bundle was added
pub apply_more : (states width : ℕ) (words : List ℕ) (from : ℕ) (old row now new before bad after : List ℕ) (i place start n : ℕ) → i < states → place ≡ from + i * (effect_rows states * width) →
    start ≡ i * width → width ≤ n → row ≡ take n (drop start old) →
    Applied states width words from old now before bad i → RowAdded width row words place states now new → BadAdded states width row words place bad after →
    ((v : ℕ) → 64 * width ≤ v → bit_in after v ≡ bit_in bad v) →
    Applied states width words from old new before after (i + 1)
apply_more states width words from old row now new before bad after i place start n li place_is start_is wide row_is h rows bads over = record {
  goes_from = λ t v lt lv x. from_at t v lt lv (max_from (bit_in now (cell width t v)) (bit_in row v) (bit_in words (64 * place + cell width t v)) (bit_below now (cell width t v)) (bit_below row v)
      (bit_below words (64 * place + cell width t v)) (sym (rows t v lt lv) ∙ x));
  goes_to = λ s t v ls lt lv x y. to_at s t v ls lt lv x y (cases_eq s i);
  bad_from = λ v lv x. blame_at v lv (max_from (bit_in bad v) (bit_in row v) (bit_in words (64 * place + cell width states v)) (bit_below bad v) (bit_below row v)
      (bit_below words (64 * place + cell width states v)) (sym (bads v lv) ∙ x));
  bad_kept = λ v lv x. bad_stays v lv (h.bad_kept v lv x);
  bad_to = λ s v ls lv x y. bad_at s v ls lv x y (cases_eq s i);
  above = λ v le. over v le ∙ h.above v le;
}
  where
    row_bit : (v : ℕ) → v < 64 * width → bit_in row v ≡ bit_in old (cell width i v)
    row_bit v lv =
        let same : 64 * start + v ≡ cell width i v = omega arith in
        ap (λ ws. bit_in ws v) row_is ∙ bit_in_part old start n v (omega arith) ∙ ap (bit_in old) same

    word_at : (t v : ℕ) → 64 * place + cell width t v ≡ 64 * from + cell width (i * effect_rows states + t) v
    word_at t v = omega arith

    from_at : (t v : ℕ) → t < states → v < 64 * width → (bit_in now (cell width t v) ≡ 1) ⊎ ((bit_in row v ≡ 1) × (bit_in words (64 * place + cell width t v) ≡ 1)) →
        (s : ℕ) × (s < i + 1) × Has old width s v × (bit_in words (64 * from + cell width (s * effect_rows states + t) v) ≡ 1)
    from_at t v lt lv (inl x) = let p = h.goes_from t v lt lv x in (p.0, (let l : p.0 < i = p.1 in omega arith), p.2, p.3)
    from_at t v lt lv (inr x) = (i, (omega arith), sym (row_bit v lv) ∙ x.0, ap (bit_in words) (sym (word_at t v)) ∙ x.1)

    stays : (t v : ℕ) → t < states → v < 64 * width → Has now width t v → Has new width t v
    stays t v lt lv x = rows t v lt lv ∙ max_kept (bit_in now (cell width t v)) (min (bit_in row v) (bit_in words (64 * place + cell width t v))) (bit_below now (cell width t v))
        (min_below (bit_in row v) (bit_in words (64 * place + cell width t v)) (bit_below row v)) x

    to_at : (s t v : ℕ) → s < i + 1 → t < states → v < 64 * width → Has old width s v → bit_in words (64 * from + cell width (s * effect_rows states + t) v) ≡ 1 → (s ≡ i) ⊎ (s ≢ i) → Has new width t v
    to_at s t v ls lt lv x y (inr ne) = stays t v lt lv (h.goes_to s t v (omega arith) lt lv x y)
    to_at s t v ls lt lv x y (inl e) =
        rows t v lt lv ∙ max_to (bit_in now (cell width t v)) (bit_in row v) (bit_in words (64 * place + cell width t v)) (bit_below now (cell width t v))
        (row_bit v lv ∙ ap (λ k. bit_in old (cell width k v)) (sym e) ∙ x) (ap (bit_in words) (word_at t v)
        ∙ ap (λ k. bit_in words (64 * from + cell width (k * effect_rows states + t) v)) (sym e) ∙ y)

    blame_at : (v : ℕ) → v < 64 * width → (bit_in bad v ≡ 1) ⊎ ((bit_in row v ≡ 1) × (bit_in words (64 * place + cell width states v) ≡ 1)) →
        (bit_in before v ≡ 1) ⊎ ((s : ℕ) × (s < i + 1) × Has old width s v × (bit_in words (64 * from + cell width (s * effect_rows states + states) v) ≡ 1))
    blame_at v lv (inr x) = inr (i, (omega arith), sym (row_bit v lv) ∙ x.0, ap (bit_in words) (sym (word_at states v)) ∙ x.1)
    blame_at v lv (inl x) = sooner (h.bad_from v lv x)
      where
        sooner : (bit_in before v ≡ 1) ⊎ ((s : ℕ) × (s < i) × Has old width s v × (bit_in words (64 * from + cell width (s * effect_rows states + states) v) ≡ 1)) →
            (bit_in before v ≡ 1) ⊎ ((s : ℕ) × (s < i + 1) × Has old width s v × (bit_in words (64 * from + cell width (s * effect_rows states + states) v) ≡ 1))
        sooner (inl y) = inl y
        sooner (inr p) = inr (p.0, (let l : p.0 < i = p.1 in omega arith), p.2, p.3)

    bad_stays : (v : ℕ) → v < 64 * width → bit_in bad v ≡ 1 → bit_in after v ≡ 1
    bad_stays v lv x = bads v lv ∙ max_kept (bit_in bad v) (min (bit_in row v) (bit_in words (64 * place + cell width states v))) (bit_below bad v)
        (min_below (bit_in row v) (bit_in words (64 * place + cell width states v)) (bit_below row v)) x

    bad_at : (s v : ℕ) → s < i + 1 → v < 64 * width → Has old width s v → bit_in words (64 * from + cell width (s * effect_rows states + states) v) ≡ 1 → (s ≡ i) ⊎ (s ≢ i) → bit_in after v ≡ 1
    bad_at s v ls lv x y (inr ne) = bad_stays v lv (h.bad_to s v (omega arith) lv x y)
    bad_at s v ls lv x y (inl e) =
        bads v lv ∙ max_to (bit_in bad v) (bit_in row v) (bit_in words (64 * place + cell width states v)) (bit_below bad v)
        (row_bit v lv ∙ ap (λ k. bit_in old (cell width k v)) (sym e) ∙ x) (ap (bit_in words) (word_at states v)
        ∙ ap (λ k. bit_in words (64 * from + cell width (k * effect_rows states + states) v)) (sym e) ∙ y)

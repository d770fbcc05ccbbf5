-- Effects are found from bundles of all subjects in one state, and say what each bundle becomes.
use Rattle.std.proofs.Common.{◌≡◌, ◌≢◌, ℕ, zero, suc, ◌+◌, ◌*◌, ◌/◌, ◌%◌, ◌<◌, ◌≤◌, List, ◌++◌, length, get_or, refl, sym, ap, ap₂, ◌∙◌, subst, arith, ◌⊎◌, inl, inr}
use Rattle.std.specs.Int.{bit_at}
use Rattle.std.proofs.lemmas.Bool.{cases_eq, cases_lt}
use Rattle.std.proofs.lemmas.List.{get_or_append_left, get_or-append-add, length-append}
use Rattle.std.proofs.lemmas.Nat.{div-mul-add, mod-mul-add}
use Rattle.std.proofs.lemmas.Nat.Bits.{bit_at-lt}
use Rattle.sil_cfg.specs.Flow.{Flow, block_count, items_at}
use Rattle.reach_engine.specs.declared.scan.Step.{Step}
use Rattle.reach_engine.specs.declared.scan.Step.TheVariants.{Go, Bad}
use Rattle.reach_engine.specs.inner.Run.{run}
use Rattle.reach_engine.specs.inner.Bits.{bit_in}
use Rattle.reach_engine.specs.inner.Columns.{cell, Has, AllMoved}
use Rattle.reach_engine.specs.inner.Effects.{effect_rows, IsEffect, AreEffects, AreKnown, EffectAdded, Applied}
use Rattle.reach_engine.proofs.SubjectsMoved.{has_below}

-- bits of two lists one behind the other
pub bit_left : (xs ys : List ℕ) (k : ℕ) → k < 64 * length xs → bit_in (xs ++ ys) k ≡ bit_in xs k
bit_left xs ys k lt = ap (λ x. bit_at x (k % 64)) (get_or_append_left xs ys 0 (k / 64) (omega arith))

pub bit_right : (xs ys : List ℕ) (k : ℕ) → bit_in (xs ++ ys) (64 * length xs + k) ≡ bit_in ys k
bit_right xs ys k =
    let place : (64 * length xs + k) / 64 ≡ length xs + k / 64 = omega arith in
    let bit : (64 * length xs + k) % 64 ≡ k % 64 = omega arith in
    ap₂ (λ n m. bit_at (get_or (xs ++ ys) n 0) m) place bit ∙ ap (λ x. bit_at x (k % 64)) (get_or-append-add xs ys (k / 64) 0)

-- the same effect in other words
effect_moved : (f : ℕ → ℕ → ℕ → Step) (states subjects width s : ℕ) (items old new : List ℕ) (first second : ℕ) → subjects ≤ 64 * width →
    ((t v : ℕ) → t ≤ states → v < 64 * width → bit_in new (cell width (second + t) v) ≡ bit_in old (cell width (first + t) v)) →
    IsEffect f states subjects width s items old first → IsEffect f states subjects width s items new second
effect_moved f states subjects width s items old new first second fits same h = record {
  goes = λ t u lt lu. let e = same t u (omega arith) (omega arith) in (λ x. (h.goes t u lt lu).0 (sym e ∙ x), λ x. e ∙ (h.goes t u lt lu).1 x);
  stays = h.stays;
  breaks = λ u lu. let e = same states u (omega arith) (omega arith) in (λ x. (h.breaks u lu).0 (sym e ∙ x), λ x. e ∙ (h.breaks u lu).1 x);
  unused = λ t v lt le lv. let e = same t v (omega arith) lv in (λ x. (h.unused t v lt le lv).0 (sym e ∙ x), λ x. e ∙ (h.unused t v lt le lv).1 x);
  innocent = λ v le lv x. h.innocent v le lv (sym (same states v (omega arith) lv) ∙ x);
}

rows_before : (j i n width t : ℕ) → j < i → t < n → (j * n + t) * width + width ≤ i * n * width
rows_before j i n width t lt lr =
    let a : j * n + t + 1 ≤ i * n = blocks j i n t lt lr in
    rows (j * n + t) (i * n) width a
  where
    blocks : (j i n t : ℕ) → j < i → t < n → j * n + t + 1 ≤ i * n
    blocks j i n t lt lr = grind arith

    rows : (a b w : ℕ) → a + 1 ≤ b → a * w + w ≤ b * w
    rows a b w le = grind arith

-- one effect more
pub effects_more : (g : Flow ℕ) (f : ℕ → ℕ → ℕ → Step) (states subjects width : ℕ) (old new items : List ℕ) (i : ℕ) → subjects ≤ 64 * width → length old ≡ i * (effect_rows states * width) →
    items ≡ items_at g (i / states) →
    AreEffects g f states subjects width old i → EffectAdded f states subjects width (i % states) items old new → AreEffects g f states subjects width new (i + 1)
effects_more g f states subjects width old new items i fits size items_are h added j lt = at (cases_eq j i)
  where
    kept : (j t v : ℕ) → j < i → t ≤ states → v < 64 * width → bit_in new (cell width (j * effect_rows states + t) v) ≡ bit_in old (cell width (j * effect_rows states + t) v)
    kept j t v lj lt lv =
        let up : (j * effect_rows states + t) * width + width ≤ i * effect_rows states * width = rows_before j i (effect_rows states) width t lj (omega arith) in
        ap (λ ws. bit_in ws (cell width (j * effect_rows states + t) v)) added.parts ∙ bit_left old added.words (cell width (j * effect_rows states + t) v) (omega arith)

    last : (t v : ℕ) → t ≤ states → v < 64 * width → bit_in new (cell width (i * effect_rows states + t) v) ≡ bit_in added.words (cell width (0 + t) v)
    last t v lt lv =
        let place : cell width (i * effect_rows states + t) v ≡ 64 * length old + cell width (0 + t) v = omega arith in
        ap₂ bit_in added.parts place ∙ bit_right old added.words (cell width (0 + t) v)

    at : (j ≡ i) ⊎ (j ≢ i) → IsEffect f states subjects width (j % states) (items_at g (j / states)) new (j * effect_rows states)
    at (inr ne) = effect_moved f states subjects width (j % states) (items_at g (j / states)) old new (j * effect_rows states) (j * effect_rows states) fits
        (λ t v lr lv. kept j t v (omega arith) lr lv) (h j (omega arith))
    at (inl e) =
        subst (λ k. IsEffect f states subjects width (k % states) (items_at g (k / states)) new (k * effect_rows states)) (sym e)
        (subst (λ xs. IsEffect f states subjects width (i % states) xs new (i * effect_rows states)) items_are
        (effect_moved f states subjects width (i % states) items added.words new 0 (i * effect_rows states) fits last added.effect))

zero_one : ◌≡◌ {A = ℕ} 0 1 → ⊥
zero_one h = omega arith

same_bit : (x y : ℕ) → x < 2 → y < 2 → (x ≡ 1 → y ≡ 1) → (y ≡ 1 → x ≡ 1) → x ≡ y
same_bit zero zero lx ly a b = refl
same_bit zero (suc y) lx ly a b = b (omega arith) ∙ omega arith
same_bit (suc x) y lx ly a b = let e : y ≡ 1 = a (omega arith) in omega arith

bit_below : (words : List ℕ) (k : ℕ) → bit_in words k < 2
bit_below words k = bit_at-lt (get_or words (k / 64) 0) (k % 64)

-- a bundle of all subjects in state s
pub record IsBasis (states width s : ℕ) (bundle : List ℕ) : Type 0 where
  pub here : (v : ℕ) → v < 64 * width → Has bundle width s v
  pub only : (t v : ℕ) → v < 64 * width → Has bundle width t v → t ≡ s

pub basis_set : (states width s : ℕ) (old new : List ℕ) → ((k : ℕ) → bit_in old k ≡ 0) →
    ((k : ℕ) → k < 64 * width → bit_in new (64 * (s * width) + k) ≡ 1) → ((k : ℕ) → k < 64 * (s * width) → bit_in new k ≡ bit_in old k) →
    ((k : ℕ) → 64 * (s * width + width) ≤ k → bit_in new k ≡ bit_in old k) →
    IsBasis states width s new
basis_set states width s old new clear inside below above = record {
  here = λ v lv. let place : cell width s v ≡ 64 * (s * width) + v = omega arith in ap (bit_in new) place ∙ inside v lv;
  only = λ t v lv x. only_at t v lv x (cases_lt t s) (cases_lt s t);
}
  where
    apart : (a b : ℕ) → a < b → a * width + width ≤ b * width
    apart a b lt = grind arith

    only_at : (t v : ℕ) → v < 64 * width → Has new width t v → (t < s) ⊎ (s ≤ t) → (s < t) ⊎ (t ≤ s) → t ≡ s
    only_at t v lv x (inl l) c = absurd (let up : t * width + width ≤ s * width = apart t s l in zero_one (sym (below (cell width t v) (omega arith) ∙ clear (cell width t v)) ∙ x))
    only_at t v lv x (inr l) (inl m) = absurd (let up : s * width + width ≤ t * width = apart s t m in zero_one (sym (above (cell width t v) (omega arith) ∙ clear (cell width t v)) ∙ x))
    only_at t v lv x (inr l) (inr m) = omega arith

-- the bundle, moved over the items, and the subjects that broke, are the effect
pub basis_moved : (f : ℕ → ℕ → ℕ → Step) (states subjects width s : ℕ) (items basis bundle before bad : List ℕ) → subjects ≤ 64 * width → s < states → length bundle ≡ states * width →
    IsBasis states width s basis → ((k : ℕ) → bit_in before k ≡ 0) → AllMoved f states subjects width items basis bundle before bad → IsEffect f states subjects width s items (bundle ++ bad) 0
basis_moved f states subjects width s items basis bundle before bad fits ls size basis_is clear all = record {
  goes = λ t u lt lu.
      (λ x. goes_at u lu t ((all.moved u lu).from t lt (sym (left t u lt (omega arith)) ∙ x)), λ y. left t u lt (omega arith) ∙ (all.moved u lu).to s t ls (basis_is.here u (omega arith)) y);
  stays = λ t u lu y. has_below states width u t bundle size ((all.moved u lu).to s t ls (basis_is.here u (omega arith)) y);
  breaks = λ u lu. (λ x. breaks_at u lu ((all.blamed u lu).from (sym (right u) ∙ x)), λ p. right u ∙ (all.blamed u lu).to s p.0 ls (basis_is.here u (omega arith)) p.1);
  unused = λ t v lt le lv. (
    λ x. basis_is.only t v lv (sym (all.unused t v lt le lv) ∙ sym (left t v lt lv) ∙ x),
    λ e. left t v lt lv ∙ all.unused t v lt le lv ∙ subst (λ k. Has basis width k v) (sym e) (basis_is.here v lv),
  );
  innocent = λ v le lv x. zero_one (sym (all.unblamed v le ∙ clear v) ∙ sym (right v) ∙ x);
}
  where
    left : (t v : ℕ) → t < states → v < 64 * width → bit_in (bundle ++ bad) (cell width (0 + t) v) ≡ bit_in bundle (cell width t v)
    left t v lt lv =
        let place : cell width (0 + t) v ≡ cell width t v = omega arith in
        let up : t * width + width ≤ states * width = apart t states lt in
        ap (bit_in (bundle ++ bad)) place ∙ bit_left bundle bad (cell width t v) (omega arith)
      where
        apart : (a b : ℕ) → a < b → a * width + width ≤ b * width
        apart a b lt = grind arith

    right : (v : ℕ) → bit_in (bundle ++ bad) (cell width (0 + states) v) ≡ bit_in bad v
    right v = let place : cell width (0 + states) v ≡ 64 * length bundle + v = omega arith in ap (bit_in (bundle ++ bad)) place ∙ bit_right bundle bad v

    goes_at : (u : ℕ) → u < subjects → (t : ℕ) → (k : ℕ) × (k < states) × Has basis width k u × (run (f u) (Go k) items ≡ Go t) → run (f u) (Go s) items ≡ Go t
    goes_at u lu t p = let e : p.0 ≡ s = basis_is.only p.0 u (omega arith) p.2 in subst (λ k. run (f u) (Go k) items ≡ Go t) e p.3

    breaks_at : (u : ℕ) → u < subjects → (bit_in before u ≡ 1) ⊎ ((k : ℕ) × (code : ℕ) × (k < states) × Has basis width k u × (run (f u) (Go k) items ≡ Bad code))
        → (code : ℕ) × (run (f u) (Go s) items ≡ Bad code)
    breaks_at u lu (inl x) = absurd (zero_one (sym (clear u) ∙ x))
    breaks_at u lu (inr p) = let e : p.0 ≡ s = basis_is.only p.0 u (omega arith) p.3 in (p.1, subst (λ k. run (f u) (Go k) items ≡ Bad p.1) e p.4)

-- a bundle that was moved by the effects of its states
pub applied_moved : (f : ℕ → ℕ → ℕ → Step) (states subjects width : ℕ) (items words : List ℕ) (from first : ℕ) (old new before after : List ℕ) → subjects ≤ 64 * width → from ≡ first * width →
    ((s : ℕ) → s < states → IsEffect f states subjects width s items words (first + s * effect_rows states)) →
    Applied states width words from old new before after states → AllMoved f states subjects width items old new before after
applied_moved f states subjects width items words from first old new before after fits from_is effects h = record {
  moved = λ u lu. record {
    from = λ t lt x. let p = h.goes_from t u lt (omega arith) x in (p.0, p.1, p.2, ((effects p.0 p.1).goes t u lt lu).0 (ap (bit_in words) (sym (place p.0 t u)) ∙ p.3));
    to = λ s t ls x y. let lt : t < states = (effects s ls).stays t u lu y in h.goes_to s t u ls lt (omega arith) x (ap (bit_in words) (place s t u) ∙ ((effects s ls).goes t u lt lu).1 y);
  };
  blamed = λ u lu. record {
    from = λ x. blamed_at u lu (h.bad_from u (omega arith) x);
    kept = λ x. h.bad_kept u (omega arith) x;
    to = λ s code ls x y. h.bad_to s u ls (omega arith) x (ap (bit_in words) (place s states u) ∙ ((effects s ls).breaks u lu).1 (code, y));
  };
  unused = λ t v lt le lv. same_bit (bit_in new (cell width t v)) (bit_in old (cell width t v)) (bit_below new (cell width t v)) (bit_below old (cell width t v)) (unused_from t v lt le lv)
      (λ x. h.goes_to t t v lt lt lv x (ap (bit_in words) (place t t v) ∙ ((effects t lt).unused t v lt le lv).1 refl));
  unblamed = λ v le. unblamed_at v le (cases_lt v (64 * width));
}
  where
    place : (s t v : ℕ) → 64 * from + cell width (s * effect_rows states + t) v ≡ cell width (first + s * effect_rows states + t) v
    place s t v = omega arith

    blamed_at : (u : ℕ) → u < subjects → (bit_in before u ≡ 1) ⊎ ((s : ℕ) × (s < states) × Has old width s u × (bit_in words (64 * from + cell width (s * effect_rows states + states) u) ≡ 1)) →
        (bit_in before u ≡ 1) ⊎ ((s : ℕ) × (code : ℕ) × (s < states) × Has old width s u × (run (f u) (Go s) items ≡ Bad code))
    blamed_at u lu (inl x) = inl x
    blamed_at u lu (inr p) = let q = ((effects p.0 p.1).breaks u lu).0 (ap (bit_in words) (sym (place p.0 states u)) ∙ p.3) in inr (p.0, q.0, p.1, p.2, q.1)

    unused_from : (t v : ℕ) → t < states → subjects ≤ v → v < 64 * width → Has new width t v → Has old width t v
    unused_from t v lt le lv x =
        let p = h.goes_from t v lt lv x in
        let e : t ≡ p.0 = ((effects p.0 p.1).unused t v lt le lv).0 (ap (bit_in words) (sym (place p.0 t v)) ∙ p.3) in
        subst (λ k. Has old width k v) (sym e) p.2

    innocent_at : (v : ℕ) → subjects ≤ v → v < 64 * width
        → (bit_in before v ≡ 1) ⊎ ((s : ℕ) × (s < states) × Has old width s v × (bit_in words (64 * from + cell width (s * effect_rows states + states) v) ≡ 1)) → bit_in before v ≡ 1
    innocent_at v le lv (inl x) = x
    innocent_at v le lv (inr p) = absurd ((effects p.0 p.1).innocent v le lv (ap (bit_in words) (sym (place p.0 states v)) ∙ p.3))

    unblamed_at : (v : ℕ) → subjects ≤ v → (v < 64 * width) ⊎ (64 * width ≤ v) → bit_in after v ≡ bit_in before v
    unblamed_at v le (inr l) = h.above v l
    unblamed_at v le (inl lv) = same_bit (bit_in after v) (bit_in before v) (bit_below after v) (bit_below before v) (λ x. innocent_at v le lv (h.bad_from v lv x)) (λ x. h.bad_kept v lv x)

-- the effects of a block's states, of those of all blocks
pub block_effects : (g : Flow ℕ) (f : ℕ → ℕ → ℕ → Step) (states subjects width b : ℕ) (words : List ℕ) → b < block_count g → AreEffects g f states subjects width words (block_count g * states) →
    (s : ℕ) → s < states → IsEffect f states subjects width s (items_at g b) words (b * states * effect_rows states + s * effect_rows states)
block_effects g f states subjects width b words lb h s ls =
    let j : ℕ = b * states + s in
    let here = h (b * states + s) (within b (block_count g) states s lb ls) in
    let row : (b * states + s) * effect_rows states ≡ b * states * effect_rows states + s * effect_rows states = omega arith in
    subst (λ r. IsEffect f states subjects width s (items_at g b) words r) row
    (subst (λ k. IsEffect f states subjects width s (items_at g k) words ((b * states + s) * effect_rows states)) (div-mul-add b states s ls)
    (subst (λ k. IsEffect f states subjects width k (items_at g ((b * states + s) / states)) words ((b * states + s) * effect_rows states)) (mod-mul-add b states s ls) here))
  where
    within : (b c n s : ℕ) → b < c → s < n → b * n + s < c * n
    within b c n s lb ls = grind arith

pub effects_within : (b c n : ℕ) → b < c → b * n + n ≤ c * n
effects_within b c n lt = grind arith

-- a bundle that was moved by the effects of its block
pub applied_block : (g : Flow ℕ) (f : ℕ → ℕ → ℕ → Step) (states subjects width b : ℕ) (words : List ℕ) (from n : ℕ) (old new before after : List ℕ) → subjects ≤ 64 * width →
    b < block_count g → n ≡ states →
    AreKnown g f states subjects width words → length words ≢ 0 → from ≡ b * (n * ((n + 1) * width)) →
    Applied n width words from old new before after n → AllMoved f states subjects width (items_at g b) old new before after
applied_block g f states subjects width b words from n old new before after fits lb n_is known some =
    subst (λ k. from ≡ b * (k * ((k + 1) * width)) → Applied k width words from old new before after k → AllMoved f states subjects width (items_at g b) old new before after) (sym n_is)
    (λ from_is h. applied_moved f states subjects width (items_at g b) words from (b * states * effect_rows states) old new before after fits (from_is ∙ place)
    (block_effects g f states subjects width b words lb (known.are some)) h)
  where
    place : b * (states * ((states + 1) * width)) ≡ b * states * effect_rows states * width
    place = omega arith

pub effects_size : (f : ℕ → ℕ → ℕ → Step) (states subjects width s i : ℕ) (items old new : List ℕ) → length old ≡ i * (effect_rows states * width) → EffectAdded f states subjects width s items old new
    → length new ≡ (i + 1) * (effect_rows states * width)
effects_size f states subjects width s i items old new size added =
    let long : length (old ++ added.words) ≡ length old + length added.words = length-append old added.words in
    let more : length added.words ≡ effect_rows states * width = added.size in
    let next : i * (effect_rows states * width) + effect_rows states * width ≡ (i + 1) * (effect_rows states * width) = grind arith in
    ap length added.parts ∙ long ∙ ap₂ (λ a b. a + b) size more ∙ next

-- the same, where the number of states was read
pub effect_read : (g : Flow ℕ) (f : ℕ → ℕ → ℕ → Step) (states subjects width n i : ℕ) (items old new : List ℕ) → n ≡ states → items ≡ items_at g (i / n) →
    EffectAdded f states subjects width (i % n) items old new →
    (items ≡ items_at g (i / states)) × EffectAdded f states subjects width (i % states) items old new
effect_read g f states subjects width n i items old new e items_are added =
    (items_are ∙ ap (λ k. items_at g (i / k)) e, subst (λ k. EffectAdded f states subjects width (i % k) items old new) e added)

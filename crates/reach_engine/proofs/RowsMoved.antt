use Rattle.std.proofs.Common.{◌≡◌, ◌≢◌, ℕ, zero, suc, ◌+◌, ◌-◌, ◌*◌, ◌/◌, ◌%◌, ◌<◌, ◌≤◌, List, [], ◌∷◌, length, get_or, take}
use Rattle.std.proofs.Common.{drop, max, sum, refl, sym, ap, ap₂, ◌∙◌, subst, arith, ◌⊎◌, inl, inr, Bool, true, false}
use Rattle.std.specs.Int.{bit_at}
use Rattle.std.proofs.lemmas.Bool.{cases_eq, cases_lt}
use Rattle.std.proofs.lemmas.List.{get_or-take, get_or-drop}
use Rattle.std.proofs.lemmas.Nat.{mul-add-lt}
use Rattle.std.proofs.lemmas.Nat.Bits.{bit_at-lt}
use Rattle.sil_ast.specs.declared.place.EdgeId.{EdgeId}
use Rattle.sil_cfg.specs.Flow.{Flow, items_at, edge_count, IsEdge, edge_to, edge_item, edge_id}
use Rattle.reach_engine.specs.declared.scan.Step.{Step}
use Rattle.reach_engine.specs.declared.scan.Step.TheVariants.{Go, Bad}
use Rattle.reach_engine.specs.inner.Run.{run}
use Rattle.reach_engine.proofs.Runs.{run_split, run_join}
use Rattle.reach_engine.specs.inner.Bits.{bit_in}
use Rattle.reach_engine.specs.inner.Columns.{cell, Has, Blamed, AllMoved}
use Rattle.reach_engine.specs.inner.Reached.{RowHas, EdgeTaken, EdgesTaken, Gains, BreaksIn, BlockTaken}
use Rattle.reach_engine.proofs.SubjectsMoved.{has_below}

-- a cell of block c's rows, from the first of their words on
pub cell_block : (states width c t u : ℕ) → cell width (c * states + t) u ≡ 64 * (c * (states * width)) + cell width t u
cell_block states width c t u = omega arith

pub cell_in : (states width t u : ℕ) → t < states → u < 64 * width → cell width t u < 64 * (states * width)
cell_in states width t u lt lu =
    let e : cell width t u < (64 * width) * states = mul-add-lt t (64 * width) u states lt lu in
    let same : (64 * width) * states ≡ 64 * (states * width) = omega arith in
    omega arith

blocks_apart : (c d row : ℕ) → c < d → c * row + row ≤ d * row
blocks_apart c d row lt = grind arith

bit_below : (words : List ℕ) (k : ℕ) → bit_in words k < 2
bit_below words k = bit_at-lt (get_or words (k / 64) 0) (k % 64)

max_one : (a b : ℕ) → a < 2 → b < 2 → max a b ≡ 1 → (a ≡ 1) ⊎ (b ≡ 1)
max_one zero b la lb h = inr (omega arith)
max_one (suc a) b la lb h = inl (omega arith)

-- what `merge` did, of block d's rows
record Merged (row d : ℕ) (old bundle new : List ℕ) : Type 0 where
  inside : (k : ℕ) → k < 64 * length bundle → bit_in new (64 * (d * row) + k) ≡ max (bit_in old (64 * (d * row) + k)) (bit_in bundle k)
  below : (k : ℕ) → k < 64 * (d * row) → bit_in new k ≡ bit_in old k
  above : (k : ℕ) → 64 * (d * row + length bundle) ≤ k → bit_in new k ≡ bit_in old k

module _ (states width d : ℕ) (old bundle new : List ℕ) (size : length bundle ≡ states * width) (h : Merged (states * width) d old bundle new) where
  -- the bits of block d's rows
  merged_here : (t u : ℕ) → t < states → u < 64 * width → bit_in new (cell width (d * states + t) u) ≡ max (bit_in old (cell width (d * states + t) u)) (bit_in bundle (cell width t u))
  merged_here t u lt lu =
      let place : cell width (d * states + t) u ≡ 64 * (d * (states * width)) + cell width t u = cell_block states width d t u in
      let within : cell width t u < 64 * length bundle = (let w : cell width t u < 64 * (states * width) = cell_in states width t u lt lu in omega arith) in
      ap (bit_in new) place ∙ h.inside (cell width t u) within ∙ ap (λ k. max (bit_in old k) (bit_in bundle (cell width t u))) (sym place)

  -- the bits of other blocks' rows
  merged_there : (c t u : ℕ) → c ≢ d → t < states → u < 64 * width → bit_in new (cell width (c * states + t) u) ≡ bit_in old (cell width (c * states + t) u)
  merged_there c t u ne lt lu = at (cases_lt c d)
    where
      place : cell width (c * states + t) u ≡ 64 * (c * (states * width)) + cell width t u
      place = cell_block states width c t u

      within : cell width t u < 64 * (states * width)
      within = cell_in states width t u lt lu

      at : (c < d) ⊎ (d ≤ c) → bit_in new (cell width (c * states + t) u) ≡ bit_in old (cell width (c * states + t) u)
      at (inl l) = let up : c * (states * width) + states * width ≤ d * (states * width) = blocks_apart c d (states * width) l in h.below (cell width (c * states + t) u) (omega (arith, place, within))
      at (inr l) = let up : d * (states * width) + states * width ≤ c * (states * width) = blocks_apart d c (states * width) (omega arith) in
          h.above (cell width (c * states + t) u) (omega (arith, place, within, size))

  merged_from : (c t u : ℕ) → t < states → u < 64 * width → RowHas new states width c t u → RowHas old states width c t u ⊎ ((c ≡ d) × Has bundle width t u)
  merged_from c t u lt lu x = at (cases_eq c d)
    where
      at : (c ≡ d) ⊎ (c ≢ d) → RowHas old states width c t u ⊎ ((c ≡ d) × Has bundle width t u)
      at (inr n) = inl (sym (merged_there c t u n lt lu) ∙ x)
      at (inl e) = two (max_one (bit_in old (cell width (d * states + t) u)) (bit_in bundle (cell width t u)) (bit_below old (cell width (d * states + t) u)) (bit_below bundle (cell width t u))
          (sym (merged_here t u lt lu) ∙ ap (λ k. bit_in new (cell width (k * states + t) u)) (sym e) ∙ x))
        where
          two : (bit_in old (cell width (d * states + t) u) ≡ 1) ⊎ (bit_in bundle (cell width t u) ≡ 1) → RowHas old states width c t u ⊎ ((c ≡ d) × Has bundle width t u)
          two (inl y) = inl (ap (λ k. bit_in old (cell width (k * states + t) u)) e ∙ y)
          two (inr y) = inr (e, y)

  merged_to : (t u : ℕ) → t < states → u < 64 * width → Has bundle width t u → RowHas new states width d t u
  merged_to t u lt lu x =
      let b : bit_in old (cell width (d * states + t) u) < 2 = bit_below old (cell width (d * states + t) u) in
      let y : bit_in bundle (cell width t u) ≡ 1 = x in
      merged_here t u lt lu ∙ (let m : max (bit_in old (cell width (d * states + t) u)) (bit_in bundle (cell width t u)) ≡ 1 = omega arith in m)

  -- no bit is lost
  merged_grows : (k : ℕ) → bit_in old k ≡ 1 → bit_in new k ≡ 1
  merged_grows k x = at (cases_lt k (64 * (d * (states * width)))) (cases_lt k (64 * (d * (states * width) + length bundle)))
    where
      at : (k < 64 * (d * (states * width))) ⊎ (64 * (d * (states * width)) ≤ k) → (k < 64 * (d * (states * width) + length bundle)) ⊎ (64 * (d * (states * width) + length bundle) ≤ k)
          → bit_in new k ≡ 1
      at (inl l) c = h.below k l ∙ x
      at (inr l) (inr m) = h.above k m ∙ x
      at (inr l) (inl m) =
          let j : ℕ = k - 64 * (d * (states * width)) in
          let place : 64 * (d * (states * width)) + j ≡ k = omega arith in
          let b : bit_in bundle j < 2 = bit_below bundle j in
          let y : bit_in old (64 * (d * (states * width)) + j) ≡ 1 = ap (bit_in old) place ∙ x in
          ap (bit_in new) (sym place) ∙ h.inside j (omega arith) ∙ (let m : max (bit_in old (64 * (d * (states * width)) + j)) (bit_in bundle j) ≡ 1 = omega arith in m)

-- one edge
pub edge_taken : (g : Flow ℕ) (f : ℕ → ℕ → ℕ → Step) (states subjects width : ℕ) (e : EdgeId) (bundle moved old new before after : List ℕ) (offset item : ℕ) (is_new : Bool) →
    subjects ≤ 64 * width → length moved ≡ states * width → item ≡ edge_item g e → offset ≡ edge_to g e * (states * width) →
    AllMoved f states subjects width (item ∷ []) bundle moved before after →
    ((k : ℕ) → k < 64 * length moved → bit_in new (64 * offset + k) ≡ max (bit_in old (64 * offset + k)) (bit_in moved k)) →
    ((k : ℕ) → k < 64 * offset → bit_in new k ≡ bit_in old k) → ((k : ℕ) → 64 * (offset + length moved) ≤ k → bit_in new k ≡ bit_in old k) →
    (is_new ≡ false → new ≡ old) → (is_new ≡ true → sum old < sum new) →
    EdgeTaken g f states subjects width e bundle old new before after is_new
edge_taken g f states subjects width e bundle moved old new before after offset item is_new fits size item_is offset_is all inside below above none some = record {
  grows = merged_grows states width (edge_to g e) old moved new size merged;
  sound = λ c t u lt lu x. sound_at c t u lt lu (merged_from states width (edge_to g e) old moved new size merged c t u lt (omega arith) x);
  unused = λ c t v lt le lv x. unused_at c t v lt le lv (merged_from states width (edge_to g e) old moved new size merged c t v lt lv x);
  goes = λ m t u lm lu x y. let there = (all.moved u lu).to m t lm x (ap (f u m) item_is ∙ y) in
      (has_below states width u t moved size there, merged_to states width (edge_to g e) old moved new size merged t u (has_below states width u t moved size there) (omega arith) there);
  blamed = λ u lu. subst (λ i. Blamed (f u) states width u (i ∷ []) bundle before after) item_is (all.blamed u lu);
  none = none;
  some = some;
}
  where
    merged : Merged (states * width) (edge_to g e) old moved new
    merged = subst (λ o. ((k : ℕ) → k < 64 * length moved → bit_in new (64 * o + k) ≡ max (bit_in old (64 * o + k)) (bit_in moved k)) → ((k : ℕ) → k < 64 * o → bit_in new k ≡ bit_in old k)
        → ((k : ℕ) → 64 * (o + length moved) ≤ k → bit_in new k ≡ bit_in old k) → Merged (states * width) (edge_to g e) old moved new) (sym offset_is)
        (λ a b c. record { inside = a; below = b; above = c }) inside below above

    sound_at : (c t u : ℕ) → t < states → u < subjects → RowHas old states width c t u ⊎ ((c ≡ edge_to g e) × Has moved width t u)
        → RowHas old states width c t u ⊎ ((c ≡ edge_to g e) × ((m : ℕ) × (m < states) × Has bundle width m u × (f u m (edge_item g e) ≡ Go t)))
    sound_at c t u lt lu (inl x) = inl x
    sound_at c t u lt lu (inr x) = let p = (all.moved u lu).from t lt x.1 in inr (x.0, (p.0, p.1, p.2, ap (f u p.0) (sym item_is) ∙ p.3))

    unused_at : (c t v : ℕ) → t < states → subjects ≤ v → v < 64 * width → RowHas old states width c t v ⊎ ((c ≡ edge_to g e) × Has moved width t v)
        → RowHas old states width c t v ⊎ Has bundle width t v
    unused_at c t v lt le lv (inl x) = inl x
    unused_at c t v lt le lv (inr x) = inr (sym (all.unused t v lt le lv) ∙ x.1)

pub edges_more : (g : Flow ℕ) (f : ℕ → ℕ → ℕ → Step) (states subjects width b : ℕ) (bundle old now new before bad after : List ℕ) (i : ℕ) (is_new here then : Bool) →
    i < edge_count g b →
    EdgesTaken g f states subjects width b bundle old now before bad i is_new → EdgeTaken g f states subjects width (edge_id b i) bundle now new bad after here →
    ((here ≡ true) × (then ≡ true)) ⊎ ((here ≡ false) × (then ≡ is_new)) →
    EdgesTaken g f states subjects width b bundle old new before after (i + 1) then
edges_more g f states subjects width b bundle old now new before bad after i is_new here then li h e branch = record {
  grows = λ k x. e.grows k (h.grows k x);
  sound = λ c t u lt lu x. sound_at c t u lt lu (e.sound c t u lt lu x);
  unused = λ c t v lt le lv x. unused_at c t v lt le lv (e.unused c t v lt le lv x);
  goes = λ j m t u lj lm lu x y. goes_at j m t u lj lm lu x y (cases_eq j i);
  kept = λ u lu x. (e.blamed u lu).kept (h.kept u lu x);
  blamed = λ u lu x. blamed_at u lu ((e.blamed u lu).from x);
  breaks = λ j m code u lj lm lu x y. breaks_at j m code u lj lm lu x y (cases_eq j i);
  none = λ x. none_at x branch;
  some = λ x. some_at x branch;
}
  where
    edge : EdgeId
    edge = edge_id b i

    sound_at : (c t u : ℕ) → t < states → u < subjects → RowHas now states width c t u ⊎ ((c ≡ edge_to g edge) × ((m : ℕ) × (m < states) × Has bundle width m u × (f u m (edge_item g edge) ≡ Go t))) →
        RowHas old states width c t u ⊎ ((d : EdgeId) × (m : ℕ) × IsEdge g d × (d.block.0 ≡ b) × (edge_to g d ≡ c) × (m < states) × Has bundle width m u × (f u m (edge_item g d) ≡ Go t))
    sound_at c t u lt lu (inl x) = h.sound c t u lt lu x
    sound_at c t u lt lu (inr x) = inr (edge, x.1.0, li, refl, sym x.0, x.1.1, x.1.2, x.1.3)

    unused_at : (c t v : ℕ) → t < states → subjects ≤ v → v < 64 * width → RowHas now states width c t v ⊎ Has bundle width t v → RowHas old states width c t v ⊎ Has bundle width t v
    unused_at c t v lt le lv (inl x) = h.unused c t v lt le lv x
    unused_at c t v lt le lv (inr x) = inr x

    goes_at : (j m t u : ℕ) → j < i + 1 → m < states → u < subjects → Has bundle width m u → f u m (edge_item g (edge_id b j)) ≡ Go t → (j ≡ i) ⊎ (j ≢ i)
        → (t < states) × RowHas new states width (edge_to g (edge_id b j)) t u
    goes_at j m t u lj lm lu x y (inl q) =
        subst (λ k. (t < states) × RowHas new states width (edge_to g (edge_id b k)) t u) (sym q) (e.goes m t u lm lu x (ap (λ k. f u m (edge_item g (edge_id b k))) (sym q) ∙ y))
    goes_at j m t u lj lm lu x y (inr n) = let p = h.goes j m t u (omega arith) lm lu x y in (p.0, e.grows _ p.1)

    blamed_at : (u : ℕ) → u < subjects → (bit_in bad u ≡ 1) ⊎ ((s : ℕ) × (code : ℕ) × (s < states) × Has bundle width s u × (run (f u) (Go s) (edge_item g edge ∷ []) ≡ Bad code)) →
        (bit_in before u ≡ 1) ⊎ ((d : EdgeId) × (m : ℕ) × (code : ℕ) × IsEdge g d × (d.block.0 ≡ b) × (m < states) × Has bundle width m u × (f u m (edge_item g d) ≡ Bad code))
    blamed_at u lu (inl x) = h.blamed u lu x
    blamed_at u lu (inr x) = inr (edge, x.0, x.1, li, refl, x.2, x.3, x.4)

    breaks_at : (j m code u : ℕ) → j < i + 1 → m < states → u < subjects → Has bundle width m u → f u m (edge_item g (edge_id b j)) ≡ Bad code → (j ≡ i) ⊎ (j ≢ i) → bit_in after u ≡ 1
    breaks_at j m code u lj lm lu x y (inl q) = (e.blamed u lu).to m code lm x (ap (λ k. f u m (edge_item g (edge_id b k))) (sym q) ∙ y)
    breaks_at j m code u lj lm lu x y (inr n) = (e.blamed u lu).kept (h.breaks j m code u (omega arith) lm lu x y)

    none_at : then ≡ false → ((here ≡ true) × (then ≡ true)) ⊎ ((here ≡ false) × (then ≡ is_new)) → new ≡ old
    none_at x (inl p) = let y : then ≡ true = p.1 in absurd (cc)
    none_at x (inr p) = e.none p.0 ∙ h.none (sym p.1 ∙ x)

    up : sum old ≤ sum now
    up = at is_new refl
      where
        at : (v : Bool) → is_new ≡ v → sum old ≤ sum now
        at true q = let y : sum old < sum now = h.some q in omega arith
        at false q = let y : sum now ≡ sum old = ap sum (h.none q) in omega arith

    some_at : then ≡ true → ((here ≡ true) × (then ≡ true)) ⊎ ((here ≡ false) × (then ≡ is_new)) → sum old < sum new
    some_at x (inl p) = let y : sum now < sum new = e.some p.0 in omega (arith, up)
    some_at x (inr p) = let y : sum old < sum now = h.some (sym p.1 ∙ x) in let z : sum new ≡ sum now = ap sum (e.none p.0) in omega arith

-- a part of the words, as a bundle
pub bit_in_part : (words : List ℕ) (a n k : ℕ) → k < 64 * n → bit_in (take n (drop a words)) k ≡ bit_in words (64 * a + k)
bit_in_part words a n k lt =
    let place : (64 * a + k) / 64 ≡ a + k / 64 = omega arith in
    let bit : (64 * a + k) % 64 ≡ k % 64 = omega arith in
    let within : k / 64 < n = omega arith in
    ap (λ x. bit_at x (k % 64)) (get_or-take n (drop a words) (k / 64) 0 within ∙ get_or-drop a words (k / 64) 0) ∙ ap₂ (λ x y. bit_at (get_or words x 0) y) (sym place) (sym bit)

-- exploring a block: its rows as a bundle, then its items, then its edges
pub block_taken : (g : Flow ℕ) (f : ℕ → ℕ → ℕ → Step) (states subjects width b : ℕ) (part bundle old new before bad after items : List ℕ) (is_new : Bool) →
    subjects ≤ 64 * width → part ≡ take (states * width) (drop (b * (states * width)) old) → items ≡ items_at g b → length bundle ≡ states * width →
    AllMoved f states subjects width items part bundle before bad → EdgesTaken g f states subjects width b bundle old new bad after (edge_count g b) is_new →
    BlockTaken g f states subjects width b old new before after is_new
block_taken g f states subjects width b part bundle old new before bad after items is_new fits part_is items_are size all taken = record {
  grows = taken.grows;
  sound = λ c t u lt lu x. sound_at c t u lt lu (taken.sound c t u lt lu x);
  unused = λ c t v lt le lv x. unused_at c t v lt le lv (taken.unused c t v lt le lv x);
  kept = λ u lu x. taken.kept u lu ((all.blamed u lu).kept x);
  blamed = λ u lu x. blamed_at u lu (taken.blamed u lu x);
  block = λ s code u ls lu x r. taken.kept u lu ((all.blamed u lu).to s code ls (in_part s u ls (omega arith) x) (ap (run (f u) (Go s)) items_are ∙ r));
  goes = λ e s t u is from ls lu x r. goes_at e s t u is from ls lu x (run_split (f u) (Go s) (items_at g b) (edge_item g e ∷ []) t r);
  breaks = λ e s m code u is from ls lu x r y. breaks_at e s m code u is from ls lu x r y;
  none = taken.none;
  some = taken.some;
}
  where
    same_bits : (s u : ℕ) → s < states → u < 64 * width → bit_in part (cell width s u) ≡ bit_in old (cell width (b * states + s) u)
    same_bits s u ls lu =
        let within : cell width s u < 64 * (states * width) = cell_in states width s u ls lu in
        ap (λ ws. bit_in ws (cell width s u)) part_is ∙ bit_in_part old (b * (states * width)) (states * width) (cell width s u) within ∙ ap (bit_in old) (sym (cell_block states width b s u))

    in_part : (s u : ℕ) → s < states → u < 64 * width → RowHas old states width b s u → Has part width s u
    in_part s u ls lu x = same_bits s u ls lu ∙ x

    from_part : (s u : ℕ) → s < states → u < 64 * width → Has part width s u → RowHas old states width b s u
    from_part s u ls lu x = sym (same_bits s u ls lu) ∙ x

    edge_of : (e : EdgeId) → e.block.0 ≡ b → e ≡ edge_id b e.index
    edge_of e from = λ i. record { block = record { 0 = from i }; index = e.index }

    in_bundle : (s m u : ℕ) → s < states → u < subjects → RowHas old states width b s u → run (f u) (Go s) (items_at g b) ≡ Go m → Has bundle width m u
    in_bundle s m u ls lu x r = (all.moved u lu).to s m ls (in_part s u ls (omega arith) x) (ap (run (f u) (Go s)) items_are ∙ r)

    sound_at : (c t u : ℕ) → t < states → u < subjects →
        RowHas old states width c t u ⊎ ((e : EdgeId) × (m : ℕ) × IsEdge g e × (e.block.0 ≡ b) × (edge_to g e ≡ c) × (m < states) × Has bundle width m u × (f u m (edge_item g e) ≡ Go t)) →
        RowHas old states width c t u ⊎ Gains g (f u) states width b u old c t
    sound_at c t u lt lu (inl x) = inl x
    sound_at c t u lt lu (inr x) =
        let p = (all.moved u lu).from x.1 x.5 x.6 in
        inr (record {
          edge = x.0;
          from = p.0;
          is_edge = x.2;
          leaves = x.3;
          to = x.4;
          within = p.1;
          there = from_part p.0 u p.1 (omega arith) p.2;
          runs = run_join (f u) (Go p.0) (items_at g b) (edge_item g x.0 ∷ []) x.1 (Go t) (ap (run (f u) (Go p.0)) (sym items_are) ∙ p.3) x.7;
        })

    unused_at : (c t v : ℕ) → t < states → subjects ≤ v → v < 64 * width → RowHas old states width c t v ⊎ Has bundle width t v → RowHas old states width c t v ⊎ RowHas old states width b t v
    unused_at c t v lt le lv (inl x) = inl x
    unused_at c t v lt le lv (inr x) = inr (from_part t v lt lv (sym (all.unused t v lt le lv) ∙ x))

    item_blame : (u : ℕ) → u < subjects → (bit_in before u ≡ 1) ⊎ ((s : ℕ) × (code : ℕ) × (s < states) × Has part width s u × (run (f u) (Go s) items ≡ Bad code))
        → (bit_in before u ≡ 1) ⊎ BreaksIn g (f u) states width b u old
    item_blame u lu (inl x) = inl x
    item_blame u lu (inr x) = inr (record { from = x.0; code = x.1; within = x.2; there = from_part x.0 u x.2 (omega arith) x.3; runs = inl (ap (run (f u) (Go x.0)) (sym items_are) ∙ x.4) })

    blamed_at : (u : ℕ) → u < subjects → (bit_in bad u ≡ 1) ⊎ ((e : EdgeId) × (m : ℕ) × (code : ℕ) × IsEdge g e × (e.block.0 ≡ b) × (m < states) × Has bundle width m u
        × (f u m (edge_item g e) ≡ Bad code)) → (bit_in before u ≡ 1) ⊎ BreaksIn g (f u) states width b u old
    blamed_at u lu (inl x) = item_blame u lu ((all.blamed u lu).from x)
    blamed_at u lu (inr x) =
        let p = (all.moved u lu).from x.1 x.5 x.6 in
        inr (record { from = p.0; code = x.2; within = p.1; there = from_part p.0 u p.1 (omega arith) p.2; runs = inr (x.0, x.3, x.4, x.1, ap (run (f u) (Go p.0)) (sym items_are) ∙ p.3, x.7) })

    goes_at : (e : EdgeId) (s t u : ℕ) → IsEdge g e → e.block.0 ≡ b → s < states → u < subjects → RowHas old states width b s u
        → (m : ℕ) × (run (f u) (Go s) (items_at g b) ≡ Go m) × (run (f u) (Go m) (edge_item g e ∷ []) ≡ Go t) → (t < states) × RowHas new states width (edge_to g e) t u
    goes_at e s t u is from ls lu x p =
        let there = in_bundle s p.0 u ls lu x p.1 in
        let index : e.index < edge_count g b = subst (λ k. e.index < edge_count g k) from is in
        subst (λ d. (t < states) × RowHas new states width (edge_to g d) t u) (sym (edge_of e from))
        (taken.goes e.index p.0 t u index (has_below states width u p.0 bundle size there) lu there (ap (λ d. f u p.0 (edge_item g d)) (sym (edge_of e from)) ∙ p.2))

    breaks_at : (e : EdgeId) (s m code u : ℕ) → IsEdge g e → e.block.0 ≡ b → s < states → u < subjects → RowHas old states width b s u → run (f u) (Go s) (items_at g b) ≡ Go m
        → f u m (edge_item g e) ≡ Bad code → bit_in after u ≡ 1
    breaks_at e s m code u is from ls lu x r y =
        let there = in_bundle s m u ls lu x r in
        let index : e.index < edge_count g b = subst (λ k. e.index < edge_count g k) from is in
        taken.breaks e.index m code u index (has_below states width u m bundle size there) lu there (ap (λ d. f u m (edge_item g d)) (sym (edge_of e from)) ∙ y)

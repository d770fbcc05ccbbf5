use Rattle.std.proofs.Common.{◌≡◌, ◌≢◌, ℕ, zero, suc, ◌+◌, ◌-◌, ◌*◌, ◌/◌, ◌%◌, ◌<◌, ◌≤◌, List, [], ◌∷◌, ◌++◌, length, get_or, refl, sym, ap, ◌∙◌, subst, arith, ◌⊎◌, inl, inr}
use Rattle.std.specs.Prelude.{Contains}
use Rattle.std.specs.List.Sorted.{IsStrictlyIncreasing}
use Rattle.std.specs.Int.{bit_at}
use Rattle.std.proofs.lemmas.Bool.{cases_eq, cases_lt}
use Rattle.std.proofs.lemmas.List.{get_or_past, get_or_default}
use Rattle.std.proofs.lemmas.Nat.Bits.{bit_at-zero}
use Rattle.reach_engine.specs.declared.scan.Step.{Step}
use Rattle.reach_engine.specs.declared.scan.Step.TheVariants.{Go, Bad}
use Rattle.reach_engine.specs.inner.Run.{run}
use Rattle.reach_engine.proofs.Runs.{run_split, run_join, run-append, go-bad, same_Go, run_end_bad}
use Rattle.reach_engine.specs.inner.Bits.{bit_in}
use Rattle.reach_engine.specs.inner.Columns.{cell, Has, Moved, Blamed, OthersStay, AllMoved}

-- only rows of the array have a subject
pub has_below : (states width u s : ℕ) (words : List ℕ) → length words ≡ states * width → Has words width s u → s < states
has_below states width u s words size h = at (cases_lt s states)
  where
    zero_one : ◌≡◌ {A = ℕ} 0 1 → ⊥
    zero_one e = omega arith

    place : (states ≤ s) → length words ≤ cell width s u / 64
    place le =
        let rows : states * width ≤ s * width = grind arith in
        let up : cell width s u ≡ 64 * (s * width) + u = grind arith in
        omega arith

    at : (s < states) ⊎ (states ≤ s) → s < states
    at (inl lt) = lt
    at (inr le) = absurd (zero_one (sym (ap (λ n. bit_at n (cell width s u % 64)) (get_or_past words (cell width s u / 64) 0 (place le)) ∙ bit_at-zero (cell width s u % 64)) ∙ h))

-- the same, where the subject's bits are the same
pub Moved_same : (f : ℕ → ℕ → Step) (states width u : ℕ) (items old new old2 new2 : List ℕ) →
    ((s : ℕ) → s < states → bit_in old2 (cell width s u) ≡ bit_in old (cell width s u)) → ((s : ℕ) → s < states → bit_in new2 (cell width s u) ≡ bit_in new (cell width s u)) →
    length new ≡ states * width → Moved f states width u items old new → Moved f states width u items old2 new2
Moved_same f states width u items old new old2 new2 a b size h = record {
  from = λ t lt x. let p = h.from t lt (sym (b t lt) ∙ x) in (p.0, p.1, a p.0 p.1 ∙ p.2, p.3);
  to = λ s t ls x y. let there = h.to s t ls (sym (a s ls) ∙ x) y in b t (has_below states width u t new size there) ∙ there;
}

pub Blamed_same : (f : ℕ → ℕ → Step) (states width u : ℕ) (items old old2 before after before2 after2 : List ℕ) →
    ((s : ℕ) → s < states → bit_in old2 (cell width s u) ≡ bit_in old (cell width s u)) → bit_in before2 u ≡ bit_in before u → bit_in after2 u ≡ bit_in after u →
    Blamed f states width u items old before after → Blamed f states width u items old2 before2 after2
Blamed_same f states width u items old old2 before after before2 after2 a b c h = record {
  from = λ x. at (h.from (sym c ∙ x));
  kept = λ x. c ∙ h.kept (sym b ∙ x);
  to = λ s d ls x y. c ∙ h.to s d ls (sym (a s ls) ∙ x) y;
}
  where
    at : (bit_in before u ≡ 1) ⊎ ((s : ℕ) × (code : ℕ) × (s < states) × Has old width s u × (run f (Go s) items ≡ Bad code)) →
        (bit_in before2 u ≡ 1) ⊎ ((s : ℕ) × (code : ℕ) × (s < states) × Has old2 width s u × (run f (Go s) items ≡ Bad code))
    at (inl e) = inl (b ∙ e)
    at (inr p) = inr (p.0, p.1, p.2, a p.0 p.2 ∙ p.3, p.4)

-- items, and then more items
pub Moved_then : (f : ℕ → ℕ → Step) (states width u : ℕ) (xs ys old mid new : List ℕ) → length mid ≡ states * width →
    Moved f states width u xs old mid → Moved f states width u ys mid new → Moved f states width u (xs ++ ys) old new
Moved_then f states width u xs ys old mid new size a b = record {
  from = λ t lt x. let p = b.from t lt x in let q = a.from p.0 p.1 p.2 in (q.0, q.1, q.2, run_join f (Go q.0) xs ys p.0 (Go t) q.3 p.3);
  to = λ s t ls x y. let p = run_split f (Go s) xs ys t y in let there = a.to s p.0 ls x p.1 in b.to p.0 t (has_below states width u p.0 mid size there) there p.2;
}

pub Blamed_then : (f : ℕ → ℕ → Step) (states width u : ℕ) (xs ys old mid before bad after : List ℕ) → length mid ≡ states * width →
    Moved f states width u xs old mid → Blamed f states width u xs old before bad → Blamed f states width u ys mid bad after → Blamed f states width u (xs ++ ys) old before after
Blamed_then f states width u xs ys old mid before bad after size m a b = record {
  from = λ x. later (b.from x);
  kept = λ x. b.kept (a.kept x);
  to = λ s c ls x y. breaks s c ls x y (run f (Go s) xs) refl;
}
  where
    Kept : Type 0
    Kept = (bit_in before u ≡ 1) ⊎ ((s : ℕ) × (code : ℕ) × (s < states) × Has old width s u × (run f (Go s) (xs ++ ys) ≡ Bad code))

    sooner : (bit_in before u ≡ 1) ⊎ ((s : ℕ) × (code : ℕ) × (s < states) × Has old width s u × (run f (Go s) xs ≡ Bad code))
        → (bit_in before u ≡ 1) ⊎ ((s : ℕ) × (code : ℕ) × (s < states) × Has old width s u × (run f (Go s) (xs ++ ys) ≡ Bad code))
    sooner (inl e) = inl e
    sooner (inr p) = inr (p.0, p.1, p.2, p.3, run_end_bad f (Go p.0) xs ys p.1 p.4)

    later : (bit_in bad u ≡ 1) ⊎ ((s : ℕ) × (code : ℕ) × (s < states) × Has mid width s u × (run f (Go s) ys ≡ Bad code))
        → (bit_in before u ≡ 1) ⊎ ((s : ℕ) × (code : ℕ) × (s < states) × Has old width s u × (run f (Go s) (xs ++ ys) ≡ Bad code))
    later (inl e) = sooner (a.from e)
    later (inr p) = let q = m.from p.0 p.2 p.3 in inr (q.0, p.1, q.1, q.2, run_join f (Go q.0) xs ys p.0 (Bad p.1) q.3 p.4)

    breaks : (s c : ℕ) → s < states → Has old width s u → run f (Go s) (xs ++ ys) ≡ Bad c → (r : Step) → run f (Go s) xs ≡ r → bit_in after u ≡ 1
    breaks s c ls x y (Go t) e = let there = m.to s t ls x e in b.to t c (has_below states width u t mid size there) there (ap (λ r. run f r ys) (sym e) ∙ sym (run-append f (Go s) xs ys) ∙ y)
    breaks s c ls x y (Bad d) e = b.kept (a.to s d ls x e)

pub AllMoved_then : (f : ℕ → ℕ → ℕ → Step) (states subjects width : ℕ) (xs ys old mid new before bad after : List ℕ) → length mid ≡ states * width →
    AllMoved f states subjects width xs old mid before bad → AllMoved f states subjects width ys mid new bad after → AllMoved f states subjects width (xs ++ ys) old new before after
AllMoved_then f states subjects width xs ys old mid new before bad after size a b = record {
  moved = λ u lu. Moved_then (f u) states width u xs ys old mid new size (a.moved u lu) (b.moved u lu);
  blamed = λ u lu. Blamed_then (f u) states width u xs ys old mid before bad after size (a.moved u lu) (a.blamed u lu) (b.blamed u lu);
  unused = λ s v ls le lv. b.unused s v ls le lv ∙ a.unused s v ls le lv;
  unblamed = λ v le. b.unblamed v le ∙ a.unblamed v le;
}

-- other items that take a subject to the same states move it in the same way
pub Moved_as : (f g : ℕ → ℕ → Step) (states width u : ℕ) (xs ys old new : List ℕ) → ((s : ℕ) → s < states → run f (Go s) xs ≡ run g (Go s) ys) → Moved f states width u xs old new
    → Moved g states width u ys old new
Moved_as f g states width u xs ys old new same h = record {
  from = λ t lt x. let p = h.from t lt x in (p.0, p.1, p.2, sym (same p.0 p.1) ∙ p.3);
  to = λ s t ls x y. h.to s t ls x (same s ls ∙ y);
}

pub Blamed_as : (f g : ℕ → ℕ → Step) (states width u : ℕ) (xs ys old before after : List ℕ) → ((s : ℕ) → s < states → run f (Go s) xs ≡ run g (Go s) ys) → Blamed f states width u xs old before after
    → Blamed g states width u ys old before after
Blamed_as f g states width u xs ys old before after same h = record {
  from = λ x. at (h.from x);
  kept = h.kept;
  to = λ s c ls x y. h.to s c ls x (same s ls ∙ y);
}
  where
    at : (bit_in before u ≡ 1) ⊎ ((s : ℕ) × (code : ℕ) × (s < states) × Has old width s u × (run f (Go s) xs ≡ Bad code))
        → (bit_in before u ≡ 1) ⊎ ((s : ℕ) × (code : ℕ) × (s < states) × Has old width s u × (run g (Go s) ys ≡ Bad code))
    at (inl e) = inl e
    at (inr p) = inr (p.0, p.1, p.2, p.3, sym (same p.0 p.2) ∙ p.4)

pub AllMoved_as : (f g : ℕ → ℕ → ℕ → Step) (states subjects width : ℕ) (xs ys old new before after : List ℕ) → ((u s : ℕ) → u < subjects → s < states → run (f u) (Go s) xs ≡ run (g u) (Go s) ys) →
    AllMoved f states subjects width xs old new before after → AllMoved g states subjects width ys old new before after
AllMoved_as f g states subjects width xs ys old new before after same h = record {
  moved = λ u lu. Moved_as (f u) (g u) states width u xs ys old new (λ s ls. same u s lu ls) (h.moved u lu);
  blamed = λ u lu. Blamed_as (f u) (g u) states width u xs ys old before after (λ s ls. same u s lu ls) (h.blamed u lu);
  unused = h.unused;
  unblamed = h.unblamed;
}

pub AllMoved_none : (f : ℕ → ℕ → ℕ → Step) (states subjects width : ℕ) (old bad : List ℕ) → AllMoved f states subjects width [] old old bad bad
AllMoved_none f states subjects width old bad = record {
  moved = λ u lu. record { from = λ t lt x. (t, lt, x, refl); to = λ s t ls x y. subst (λ k. Has old width k u) (same_Go s t y) x };
  blamed = λ u lu. record { from = λ x. inl x; kept = λ x. x; to = λ s c ls x y. absurd (go-bad s c y) };
  unused = λ s v ls le lv. refl;
  unblamed = λ v le. refl;
}

-- is the number among the first j?
pub find_in : (ts : List ℕ) (j u : ℕ) → ((i : ℕ) × (i < j) × (get_or ts i 0 ≡ u)) ⊎ ((i : ℕ) → i < j → get_or ts i 0 ≢ u)
find_in ts zero u = inr (λ i lt. absurd (omega arith))
find_in ts (suc j) u = at (find_in ts j u) (cases_eq (get_or ts j 0) u)
  where
    at : ((i : ℕ) × (i < j) × (get_or ts i 0 ≡ u)) ⊎ ((i : ℕ) → i < j → get_or ts i 0 ≢ u) → (get_or ts j 0 ≡ u) ⊎ (get_or ts j 0 ≢ u)
        → ((i : ℕ) × (i < suc j) × (get_or ts i 0 ≡ u)) ⊎ ((i : ℕ) → i < suc j → get_or ts i 0 ≢ u)
    at (inl p) c = inl (p.0, (let l : p.0 < j = p.1 in omega arith), p.2)
    at (inr n) (inl e) = inl (j, (omega arith), e)
    at (inr n) (inr m) = inr (λ i lt. pick i lt (cases_eq i j))
      where
        pick : (i : ℕ) → i < suc j → (i ≡ j) ⊎ (i ≢ j) → get_or ts i 0 ≢ u
        pick i lt (inl e) = λ x. m (ap (λ k. get_or ts k 0) (sym e) ∙ x)
        pick i lt (inr d) = n i (omega arith)

increasing : (ts : List ℕ) → IsStrictlyIncreasing ts → (i k : ℕ) → i + suc k < length ts → get_or ts i 0 < get_or ts (i + suc k) 0
increasing ts h i zero lt = let e : i + 1 ≡ i + suc zero = omega arith in subst (λ n. get_or ts i 0 < get_or ts n 0) e (h i (omega arith))
increasing ts h i (suc k) lt =
    let below : get_or ts i 0 < get_or ts (i + suc k) 0 = increasing ts h i k (omega arith) in
    let next : get_or ts (i + suc k) 0 < get_or ts ((i + suc k) + 1) 0 = h (i + suc k) (omega arith) in
    let e : (i + suc k) + 1 ≡ i + suc (suc k) = omega arith in
    let more : get_or ts (i + suc k) 0 < get_or ts (i + suc (suc k)) 0 = subst (λ n. get_or ts (i + suc k) 0 < get_or ts n 0) e next in
    omega arith

pub apart : (ts : List ℕ) → IsStrictlyIncreasing ts → (i j : ℕ) → i < j → j < length ts → get_or ts i 0 ≢ get_or ts j 0
apart ts h i j lt within e =
    let k : ℕ = j - suc i in
    let at : i + suc k ≡ j = omega arith in
    let less : get_or ts i 0 < get_or ts j 0 = subst (λ n. get_or ts i 0 < get_or ts n 0) at (increasing ts h i k (omega arith)) in
    omega arith

-- what is kept while the first j of the touched subjects were turned
pub record TurnedSome (f : ℕ → ℕ → ℕ → Step) (states width item : ℕ) (ts first now before bad : List ℕ) (j : ℕ) : Type 0 where
  pub size : length now ≡ states * width
  pub bad_size : length bad ≡ width
  pub moved : (i : ℕ) → i < j → Moved (f (get_or ts i 0)) states width (get_or ts i 0) (item ∷ []) first now
  pub blamed : (i : ℕ) → i < j → Blamed (f (get_or ts i 0)) states width (get_or ts i 0) (item ∷ []) first before bad
  pub rest : (s v : ℕ) → s < states → v < 64 * width → ((i : ℕ) → i < j → get_or ts i 0 ≢ v) → bit_in now (cell width s v) ≡ bit_in first (cell width s v)
  pub innocent : (v : ℕ) → ((i : ℕ) → i < j → get_or ts i 0 ≢ v) → bit_in bad v ≡ bit_in before v

pub turned_more : (f : ℕ → ℕ → ℕ → Step) (states width item : ℕ) (ts first now next before bad after : List ℕ) (j u : ℕ) → u ≡ get_or ts j 0 → IsStrictlyIncreasing ts → j < length ts →
    ((i : ℕ) → i < length ts → get_or ts i 0 < 64 * width) → length next ≡ length now → length after ≡ length bad →
    TurnedSome f states width item ts first now before bad j →
    Moved (f u) states width u (item ∷ []) now next → OthersStay states width u now next → Blamed (f u) states width u (item ∷ []) now bad after → ((v : ℕ) → v ≢ u → bit_in after v ≡ bit_in bad v) →
    TurnedSome f states width item ts first next before after (j + 1)
turned_more f states width item ts first now next before bad after j u u_is up lt below size bad_size h moved others blamed innocent = record {
  size = size ∙ h.size;
  bad_size = bad_size ∙ h.bad_size;
  moved = λ i l. moved_at i l (cases_eq i j);
  blamed = λ i l. blamed_at i l (cases_eq i j);
  rest = λ s v ls lv n. others s v ls lv (λ e. n j (omega arith) (sym u_is ∙ sym e)) ∙ h.rest s v ls lv (λ i l. n i (omega arith));
  innocent = λ v n. innocent v (λ e. n j (omega arith) (sym u_is ∙ sym e)) ∙ h.innocent v (λ i l. n i (omega arith));
}
  where
    lu : u < 64 * width
    lu = subst (λ k. k < 64 * width) (sym u_is) (below j lt)

    fresh : (i : ℕ) → i < j → get_or ts i 0 ≢ u
    fresh i l e = apart ts up i j l lt (e ∙ u_is)

    column : (s : ℕ) → s < states → bit_in first (cell width s u) ≡ bit_in now (cell width s u)
    column s ls = sym (h.rest s u ls lu fresh)

    here : Moved (f u) states width u (item ∷ []) first next
    here = Moved_same (f u) states width u (item ∷ []) now next first next column (λ s ls. refl) (size ∙ h.size) moved

    here_blamed : Blamed (f u) states width u (item ∷ []) first before after
    here_blamed = Blamed_same (f u) states width u (item ∷ []) now first bad after before after column (sym (h.innocent u fresh)) refl blamed

    moved_at : (i : ℕ) → i < j + 1 → (i ≡ j) ⊎ (i ≢ j) → Moved (f (get_or ts i 0)) states width (get_or ts i 0) (item ∷ []) first next
    moved_at i l (inl e) = subst (λ k. Moved (f k) states width k (item ∷ []) first next) (u_is ∙ ap (λ k. get_or ts k 0) (sym e)) here
    moved_at i l (inr n) =
        let li : i < j = omega arith in
        Moved_same (f (get_or ts i 0)) states width (get_or ts i 0) (item ∷ []) first now first next (λ s ls. refl) (λ s ls. others s (get_or ts i 0) ls (below i (omega arith)) (fresh i li))
        h.size (h.moved i li)

    blamed_at : (i : ℕ) → i < j + 1 → (i ≡ j) ⊎ (i ≢ j) → Blamed (f (get_or ts i 0)) states width (get_or ts i 0) (item ∷ []) first before after
    blamed_at i l (inl e) = subst (λ k. Blamed (f k) states width k (item ∷ []) first before after) (u_is ∙ ap (λ k. get_or ts k 0) (sym e)) here_blamed
    blamed_at i l (inr n) =
        let li : i < j = omega arith in
        Blamed_same (f (get_or ts i 0)) states width (get_or ts i 0) (item ∷ []) first first before bad before after (λ s ls. refl) refl (innocent (get_or ts i 0) (fresh i li)) (h.blamed i li)

pub turned_none : (f : ℕ → ℕ → ℕ → Step) (states width item : ℕ) (ts first bad : List ℕ) → length first ≡ states * width → length bad ≡ width → TurnedSome f states width item ts first first bad bad 0
turned_none f states width item ts first bad size bad_size = record {
  size = size;
  bad_size = bad_size;
  moved = λ i l. absurd (omega arith);
  blamed = λ i l. absurd (omega arith);
  rest = λ s v ls lv n. refl;
  innocent = λ v n. refl;
}

-- all touched subjects were turned, and the others stay by themselves
pub turned_all : (f : ℕ → ℕ → ℕ → Step) (states subjects width item : ℕ) (ts first now before bad : List ℕ) (j : ℕ) → length ts ≤ j → j ≤ length ts → subjects ≤ 64 * width →
    ((i : ℕ) → i < length ts → get_or ts i 0 < subjects) → ((u s : ℕ) → u < subjects → s < states → (Contains ts u → ⊥) → f u s item ≡ Go s) → length first ≡ states * width →
    TurnedSome f states width item ts first now before bad j → AllMoved f states subjects width (item ∷ []) first now before bad
turned_all f states subjects width item ts first now before bad j ge le fits below stays size h = record {
  moved = λ u lu. moved_at u lu (find_in ts j u);
  blamed = λ u lu. blamed_at u lu (find_in ts j u);
  unused = λ s v ls lv w. h.rest s v ls w (λ i l e. let b : get_or ts i 0 < subjects = below i (omega arith) in omega arith);
  unblamed = λ v lv. h.innocent v (λ i l e. let b : get_or ts i 0 < subjects = below i (omega arith) in omega arith);
}
  where
    out : (u : ℕ) → ((i : ℕ) → i < j → get_or ts i 0 ≢ u) → Contains ts u → ⊥
    out u n p = let l : p.0 < length ts = p.1 in n p.0 (omega arith) (get_or_default ts p.0 0 u p.1 ∙ p.2)

    moved_at : (u : ℕ) → u < subjects → ((i : ℕ) × (i < j) × (get_or ts i 0 ≡ u)) ⊎ ((i : ℕ) → i < j → get_or ts i 0 ≢ u) → Moved (f u) states width u (item ∷ []) first now
    moved_at u lu (inl p) = subst (λ k. Moved (f k) states width k (item ∷ []) first now) p.2 (h.moved p.0 p.1)
    moved_at u lu (inr n) =
        let same : (s : ℕ) → s < states → bit_in now (cell width s u) ≡ bit_in first (cell width s u) = λ s ls. h.rest s u ls (omega arith) n in
        record {
          from = λ t lt x. (t, lt, sym (same t lt) ∙ x, stays u t lu lt (out u n));
          to = λ s t ls x y. let e : s ≡ t = same_Go s t (sym (stays u s lu ls (out u n)) ∙ y) in subst (λ k. Has now width k u) e (same s ls ∙ x);
        }

    blamed_at : (u : ℕ) → u < subjects → ((i : ℕ) × (i < j) × (get_or ts i 0 ≡ u)) ⊎ ((i : ℕ) → i < j → get_or ts i 0 ≢ u) → Blamed (f u) states width u (item ∷ []) first before bad
    blamed_at u lu (inl p) = subst (λ k. Blamed (f k) states width k (item ∷ []) first before bad) p.2 (h.blamed p.0 p.1)
    blamed_at u lu (inr n) = record {
      from = λ x. inl (sym (h.innocent u n) ∙ x);
      kept = λ x. h.innocent u n ∙ x;
      to = λ s c ls x y. absurd (go-bad s c (sym (stays u s lu ls (out u n)) ∙ y));
    }

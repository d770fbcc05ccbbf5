-- Trails as paths from spot to spot, which can be cut and joined.
use Rattle.std.proofs.Common.{◌<◌, ◌≡◌, ℕ, zero, suc, ◌+◌, ◌≤◌, List, [], ◌∷◌, ◌++◌, length, take, refl, sym, ap, ◌∙◌, subst, arith, append_assoc, ◌⊎◌, inl, inr, Some, length-append}
use Rattle.std.specs.List.{slice_get}
use Rattle.std.proofs.lemmas.List.{append-nil, take-append-drop, take_all}
use Rattle.std.proofs.lemmas.Option.{slice_get_within}
use Rattle.sil_ast.specs.declared.place.EdgeId.{EdgeId}
use Rattle.sil_cfg.specs.Flow.{Flow, items_at, IsEdge, edge_to, edge_item}
use Rattle.sil_cfg.specs.Walk.{IsWalkFrom, end_from, passed, IsTrail}

-- between two items: a block, and how many of its items are behind
pub record Spot : Type 0 where
  pub block : ℕ
  pub done : ℕ

-- the next item is the block's own
pub record StaysIn {A : Type 0} (g : Flow A) (p : Spot) (i : A) (q : Spot) : Type 0 where
  pub next : slice_get (items_at g p.block) p.done ≡ Some i
  pub to : q ≡ record { block = p.block; done = suc p.done }

-- the next item is an edge's
pub record Leaves {A : Type 0} (g : Flow A) (p : Spot) (i : A) (q : Spot) : Type 0 where
  pub edge : EdgeId
  pub from : edge.block.0 ≡ p.block
  pub is_edge : IsEdge g edge
  pub all_done : p.done ≡ length (items_at g p.block)
  pub next : i ≡ edge_item g edge
  pub to : q ≡ record { block = edge_to g edge; done = 0 }

abbrev pub Moves : {A : Type 0} → Flow A → Spot → A → Spot → Type 0
Moves g p i q = StaysIn g p i q ⊎ Leaves g p i q

-- the items lead from one spot to another
abbrev pub Path : {A : Type 0} → Flow A → Spot → List A → Spot → Type 0
Path g p [] q = p ≡ q
Path g p (i ∷ t) q = (m : Spot) × Moves g p i m × Path g m t q

pub Path-append : {A : Type 0} (g : Flow A) (u v : List A) (p m q : Spot) → Path g p u m → Path g m v q → Path g p (u ++ v) q
Path-append g [] v p m q a b = subst (λ s. Path g s v q) (sym a) b
Path-append g (i ∷ u) v p m q a b = (a.0, a.1, Path-append g u v a.0 m q a.2 b)

pub Path-split : {A : Type 0} (g : Flow A) (u v : List A) (p q : Spot) → Path g p (u ++ v) q → (m : Spot) × Path g p u m × Path g m v q
Path-split g [] v p q a = (p, refl, a)
Path-split g (i ∷ u) v p q a =
    let r = Path-split g u v a.0 q a.2 in
    (r.0, (a.0, a.1, r.1), r.2)

slice_get_middle : {A : Type 0} (pre post : List A) (x : A) → slice_get (pre ++ x ∷ post) (length pre) ≡ Some x
slice_get_middle [] post x = refl
slice_get_middle (y ∷ pre) post x = slice_get_middle pre post x

-- along a block's own items
inner : {A : Type 0} (g : Flow A) (b : ℕ) (pre mid post : List A) → items_at g b ≡ pre ++ (mid ++ post) →
    Path g (record { block = b; done = length pre }) mid (record { block = b; done = length pre + length mid })
inner g b pre [] post e = ap (λ n. let s : Spot = record { block = b; done = n } in s) (omega arith)
inner g b pre (x ∷ mid) post e =
    let there : slice_get (items_at g b) (length pre) ≡ Some x = rw e (slice_get_middle pre (mid ++ post) x) in
    let e2 : items_at g b ≡ (pre ++ x ∷ []) ++ (mid ++ post) = e ∙ sym (append_assoc pre (x ∷ []) (mid ++ post)) in
    let more = inner g b (pre ++ x ∷ []) mid post e2 in
    let one : length (pre ++ x ∷ []) ≡ suc (length pre) = omega (arith, length-append pre (x ∷ [])) in
    let from : Path g (record { block = b; done = suc (length pre) }) mid (record { block = b; done = length (pre ++ x ∷ []) + length mid }) =
    subst (λ n. Path g (record { block = b; done = n }) mid (record { block = b; done = length (pre ++ x ∷ []) + length mid })) one more in
    let total : length (pre ++ x ∷ []) + length mid ≡ length pre + suc (length mid) = omega arith in (
      record { block = b; done = suc (length pre) },
      inl (record { next = there; to = refl }),
      subst (λ n. Path g (record { block = b; done = suc (length pre) }) mid (record { block = b; done = n })) total from,
    )

-- a walk and a part of its last block lead somewhere in that block
pub Path-from_walk : {A : Type 0} (g : Flow A) (b : ℕ) (w : List EdgeId) (k : ℕ) → IsWalkFrom g b w →
    (n : ℕ) × Path g (record { block = b; done = 0 }) (passed g w ++ take k (items_at g (end_from g b w))) (record { block = end_from g b w; done = n })
Path-from_walk g b [] k h = (
  length (take k (items_at g b)),
  subst (λ n. Path g (record { block = b; done = 0 }) (take k (items_at g b)) (record { block = b; done = n })) (omega arith)
      (inner g b [] (take k (items_at g b)) _ (sym (take-append-drop k (items_at g b)))),
)
Path-from_walk {A} g b (e ∷ w) k h =
    let ih = Path-from_walk g (edge_to g e) w k h.2 in
    let own : List A = items_at g e.block.0 in
    let rest : List A = passed g w ++ take k (items_at g (end_from g (edge_to g e) w)) in
    let whole = inner g e.block.0 [] own [] (sym (append-nil own)) in
    let atb : Path g (record { block = e.block.0; done = 0 }) own (record { block = e.block.0; done = length own }) =
    subst (λ n. Path g (record { block = e.block.0; done = 0 }) own (record { block = e.block.0; done = n })) (omega arith) whole in
    let step : Path g (record { block = e.block.0; done = length own }) (edge_item g e ∷ rest) (record { block = end_from g (edge_to g e) w; done = ih.0 }) =
    (record { block = edge_to g e; done = 0 }, inr (record { edge = e; from = refl; is_edge = h.1; all_done = refl; next = refl; to = refl }), ih.1) in
    let all = Path-append g own (edge_item g e ∷ rest) _ _ _ atb step in (
      ih.0,
      subst (λ x. Path g (record { block = x; done = 0 }) (passed g (e ∷ w) ++ take k (items_at g (end_from g b (e ∷ w)))) (record { block = end_from g b (e ∷ w); done = ih.0 }))
          h.0 (rw append_assoc all),
    )

take_next : {A : Type 0} (xs : List A) (k : ℕ) (x : A) → slice_get xs k ≡ Some x → take (suc k) xs ≡ take k xs ++ x ∷ []
take_next [] k x e = cc
take_next (y ∷ xs) zero x e = cc
take_next (y ∷ xs) (suc k) x e = ap (λ v. y ∷ v) (take_next xs k x e)

abbrev HasWalk : {A : Type 0} → Flow A → ℕ → ℕ → List A → Type 0
HasWalk g b k t = (w : List EdgeId) × (n : ℕ) × IsWalkFrom g b w × (take k (items_at g b) ++ t ≡ passed g w ++ take n (items_at g (end_from g b w)))

after_own : {A : Type 0} (g : Flow A) (t : List A) (b k : ℕ) (i : A) → slice_get (items_at g b) k ≡ Some i → HasWalk g b (suc k) t → HasWalk g b k (i ∷ t)
after_own g t b k i s r =
    let e : take (suc k) (items_at g b) ≡ take k (items_at g b) ++ i ∷ [] = take_next _ k i s in
    let a : (take k (items_at g b) ++ i ∷ []) ++ t ≡ take k (items_at g b) ++ (i ∷ t) = append_assoc (take k (items_at g b)) (i ∷ []) t in
    (r.0, r.1, r.2, sym a ∙ ap (λ v. v ++ t) (sym e) ∙ r.3)

after_edge : {A : Type 0} (g : Flow A) (t : List A) (b k : ℕ) (i : A) (e : EdgeId) → e.block.0 ≡ b → IsEdge g e → k ≡ length (items_at g b) → i ≡ edge_item g e
    → HasWalk g (edge_to g e) 0 t → HasWalk g b k (i ∷ t)
after_edge g t b k i e from is_edge done next r =
    let whole : take k (items_at g b) ≡ items_at g e.block.0 = take_all k (items_at g b) (omega arith) ∙ ap (items_at g) (sym from) in
    let at : take k (items_at g b) ++ (i ∷ t) ≡ items_at g e.block.0 ++ edge_item g e ∷ (passed g r.0 ++ take r.1 (items_at g (end_from g (edge_to g e) r.0))) =
    ap (λ v. v ++ (i ∷ t)) whole ∙ ap (λ v. items_at g e.block.0 ++ (v ∷ t)) next ∙ ap (λ v. items_at g e.block.0 ++ (edge_item g e ∷ v)) r.3 in
    (e ∷ r.0, r.1, (from, is_edge, r.2), at ∙ sym (append_assoc (items_at g e.block.0) (edge_item g e ∷ passed g r.0) _))

-- the walk of a path that begins behind k items of the block b
Walk-from_path : {A : Type 0} (g : Flow A) (t : List A) (b k : ℕ) (q : Spot) → k ≤ length (items_at g b) → Path g (record { block = b; done = k }) t q → HasWalk g b k t
Walk-from_path g [] b k q le a = ([], k, tt, append-nil (take k (items_at g b)))
Walk-from_path g (i ∷ t) b k q le (m, inl s, c) =
    let c2 : Path g (record { block = b; done = suc k }) t q = subst (λ v. Path g v t q) s.to c in
    after_own g t b k i s.next (Walk-from_path g t b (suc k) q (slice_get_within (items_at g b) k i s.next) c2)
Walk-from_path g (i ∷ t) b k q le (m, inr s, c) =
    let c2 : Path g (record { block = edge_to g s.edge; done = 0 }) t q = subst (λ v. Path g v t q) s.to c in
    after_edge g t b k i s.edge s.from s.is_edge s.all_done s.next (Walk-from_path g t (edge_to g s.edge) 0 q (omega arith) c2)

abbrev pub entry : Spot
entry = record { block = 0; done = 0 }

-- a trail is what a path from the entry meets
pub Path-from_trail : {A : Type 0} (g : Flow A) (w : List EdgeId) (t : List A) → IsTrail g w t → (q : Spot) × Path g entry t q
Path-from_trail g w t h =
    let r = Path-from_walk g 0 w h.count h.walk in
    (record { block = end_from g 0 w; done = r.0 }, subst (λ v. Path g entry v (record { block = end_from g 0 w; done = r.0 })) (sym h.items) r.1)

pub Trail-from_path : {A : Type 0} (g : Flow A) (t : List A) (q : Spot) → 0 < length t → Path g entry t q → (w : List EdgeId) × IsTrail g w t
Trail-from_path g t q some a =
    let r = Walk-from_path g t 0 0 q (omega arith) a in
    (r.0, record { walk = r.2; begun = some; count = r.1; items = r.3 })

-- a part of a trail, from its begin, is a trail
pub Trail-front : {A : Type 0} (g : Flow A) (w : List EdgeId) (u v : List A) → 0 < length u → IsTrail g w (u ++ v) → (x : List EdgeId) × IsTrail g x u
Trail-front g w u v some h =
    let a = Path-from_trail g w (u ++ v) h in
    let r = Path-split g u v entry a.0 a.1 in
    Trail-from_path g u r.0 some r.1

pub some_pushed : {A : Type 0} (u : List A) (i : A) → 0 < length (u ++ i ∷ [])
some_pushed u i = omega (arith, length-append u (i ∷ []))

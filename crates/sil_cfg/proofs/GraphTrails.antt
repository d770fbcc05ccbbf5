-- The trails of a function's graph are the function's, by numbers.
use Rattle.std.proofs.Common.{◌≡◌, ℕ, zero, suc, ◌<◌, List, [], ◌∷◌, ◌++◌, length, take, refl, sym, ap, ◌∙◌, subst}
use Rattle.std.specs.Prelude.{unwrap_or}
use Rattle.std.specs.List.{slice_get}
use Rattle.sil_ast.specs.declared.place.EdgeId.{EdgeId}
use Rattle.sil_ast.specs.declared.function.Function.{Function}
use Rattle.sil_cfg.specs.declared.item.Item.{Item}
use Rattle.sil_cfg.specs.declared.item.Item.TheVariants.{Edge}
use Rattle.sil_cfg.specs.Layout.{Layout}
use Rattle.sil_cfg.specs.Flow.{items_at, IsEdge, edge_to, edge_item, numbered}
use Rattle.sil_cfg.specs.Items.{flow_of}
use Rattle.sil_cfg.specs.inner.Build.{AreItems, IsGraphOf}
use Rattle.sil_cfg.specs.Walk.{IsWalkFrom, end_from, passed, IsTrail}
use Rattle.sil_cfg.proofs.Numbers.{AreItems-append}

pub AreItems-take : (kinds : List Item) (numbers : List ℕ) (items : List Item) (n : ℕ) → AreItems kinds numbers items → AreItems kinds (take n numbers) (take n items)
AreItems-take kinds numbers items zero h = tt
AreItems-take kinds [] [] (suc n) h = tt
AreItems-take kinds [] (x ∷ items) (suc n) h = absurd h
AreItems-take kinds (i ∷ numbers) [] (suc n) h = absurd h
AreItems-take kinds (i ∷ numbers) (x ∷ items) (suc n) h = (h.0, AreItems-take kinds numbers items n h.1)

pub AreItems-length : (kinds : List Item) (numbers : List ℕ) (items : List Item) → AreItems kinds numbers items → length numbers ≡ length items
AreItems-length kinds [] [] h = refl
AreItems-length kinds [] (x ∷ items) h = absurd h
AreItems-length kinds (i ∷ numbers) [] h = absurd h
AreItems-length kinds (i ∷ numbers) (x ∷ items) h = ap suc (AreItems-length kinds numbers items h.1)

module _ (g : Layout) (f : Function) (is : IsGraphOf g f) where
  to_same : (e : EdgeId) → edge_to (numbered g) e ≡ edge_to (flow_of f) e
  to_same e = ap (λ (ts : List ℕ). unwrap_or (slice_get ts e.index) 0) (is.targets e.block.0)

  edge_there : (e : EdgeId) → IsEdge (numbered g) e → IsEdge (flow_of f) e
  edge_there e h = subst (λ (ts : List ℕ). e.index < length ts) (is.targets e.block.0) h

  edge_back : (e : EdgeId) → IsEdge (flow_of f) e → IsEdge (numbered g) e
  edge_back e h = subst (λ (ts : List ℕ). e.index < length ts) (sym (is.targets e.block.0)) h

  pub walk_there : (b : ℕ) (w : List EdgeId) → IsWalkFrom (numbered g) b w → IsWalkFrom (flow_of f) b w
  walk_there b [] h = tt
  walk_there b (e ∷ w) h = (h.0, edge_there e h.1, subst (λ c. IsWalkFrom (flow_of f) c w) (to_same e) (walk_there (edge_to (numbered g) e) w h.2))

  pub walk_back : (b : ℕ) (w : List EdgeId) → IsWalkFrom (flow_of f) b w → IsWalkFrom (numbered g) b w
  walk_back b [] h = tt
  walk_back b (e ∷ w) h = (h.0, edge_back e h.1, walk_back (edge_to (numbered g) e) w (subst (λ c. IsWalkFrom (flow_of f) c w) (sym (to_same e)) h.2))

  end_same : (b : ℕ) (w : List EdgeId) → end_from (numbered g) b w ≡ end_from (flow_of f) b w
  end_same b [] = refl
  end_same b (e ∷ w) = end_same (edge_to (numbered g) e) w ∙ ap (λ c. end_from (flow_of f) c w) (to_same e)

  passed_same : (b : ℕ) (w : List EdgeId) → IsWalkFrom (flow_of f) b w → AreItems g.kinds (passed (numbered g) w) (passed (flow_of f) w)
  passed_same b [] h = tt
  passed_same b (e ∷ w) h =
      AreItems-append g.kinds (items_at (numbered g) e.block.0) (edge_item (numbered g) e ∷ passed (numbered g) w) (items_at (flow_of f) e.block.0) (Edge e ∷ passed (flow_of f) w)
      (is.items e.block.0) (is.edges e h.1, passed_same (edge_to (flow_of f) e) w h.2)

  along : (w : List EdgeId) (n : ℕ) → IsWalkFrom (flow_of f) 0 w →
      AreItems g.kinds (passed (numbered g) w ++ take n (items_at (numbered g) (end_from (numbered g) 0 w))) (passed (flow_of f) w ++ take n (items_at (flow_of f) (end_from (flow_of f) 0 w)))
  along w n h =
      let last : AreItems g.kinds (items_at (numbered g) (end_from (numbered g) 0 w)) (items_at (flow_of f) (end_from (flow_of f) 0 w)) =
      subst (λ c. AreItems g.kinds (items_at (numbered g) (end_from (numbered g) 0 w)) (items_at (flow_of f) c)) (end_same 0 w) (is.items (end_from (numbered g) 0 w)) in
      AreItems-append g.kinds (passed (numbered g) w) (take n (items_at (numbered g) (end_from (numbered g) 0 w))) (passed (flow_of f) w) (take n (items_at (flow_of f) (end_from (flow_of f) 0 w)))
      (passed_same 0 w h) (AreItems-take g.kinds (items_at (numbered g) (end_from (numbered g) 0 w)) (items_at (flow_of f) (end_from (flow_of f) 0 w)) n last)

  -- a trail of the graph is one of the function
  pub trail_there : (w : List EdgeId) (trail : List ℕ) → IsTrail (numbered g) w trail → (items : List Item) × AreItems g.kinds trail items × IsTrail (flow_of f) w items
  trail_there w trail h =
      let walk = walk_there 0 w h.walk in
      let items : List Item = passed (flow_of f) w ++ take h.count (items_at (flow_of f) (end_from (flow_of f) 0 w)) in
      let same : AreItems g.kinds trail items = subst (λ (v : List ℕ). AreItems g.kinds v items) (sym h.items) (along w h.count walk) in
      (items, same, record { walk = walk; begun = subst (λ n. 0 < n) (AreItems-length g.kinds trail items same) h.begun; count = h.count; items = refl })

  -- and the other way round
  pub trail_back : (w : List EdgeId) (items : List Item) → IsTrail (flow_of f) w items → (trail : List ℕ) × AreItems g.kinds trail items × IsTrail (numbered g) w trail
  trail_back w items h =
      let trail : List ℕ = passed (numbered g) w ++ take h.count (items_at (numbered g) (end_from (numbered g) 0 w)) in
      let same : AreItems g.kinds trail items = subst (λ (v : List Item). AreItems g.kinds trail v) (sym h.items) (along w h.count h.walk) in
      (trail, same, record { walk = walk_back 0 w h.walk; begun = subst (λ n. 0 < n) (sym (AreItems-length g.kinds trail items same)) h.begun; count = h.count; items = refl })

-- A trail of a function in which a copy became a move is cut from a trail of the function itself along the same walk.
use Rattle.std.proofs.Common.{◌≡◌, ℕ, zero, suc, ◌<◌, List, [], ◌∷◌, ◌++◌, length, take, refl, sym, ap, ◌∙◌, subst, arith}
use Rattle.std.specs.Prelude.{slice_get, unwrap_or}
use Rattle.copy_pairing_model.specs.Copies.{IsCopy, IsDestroy}
use Rattle.copy_pairing_model.specs.Rewritten.{moved}
use Rattle.sil_ast.specs.declared.function.Function.{Function}
use Rattle.sil_ast.specs.declared.place.EdgeId.{EdgeId}
use Rattle.sil_ast.specs.declared.place.PointId.{PointId}
use Rattle.sil_ast.specs.declared.place.ValueId.{ValueId}
use Rattle.sil_cfg.specs.Flow.{edge_to, items_at}
use Rattle.sil_cfg.specs.Items.{flow_of, point_at}
use Rattle.sil_cfg.specs.Walk.{IsWalkFrom, end_from, last_block, passed}
use Rattle.sil_cfg.specs.declared.item.Item.{Item}
use Rattle.sil_cfg.specs.declared.item.Item.TheVariants as item
use Rattle.copy_pairing_acceptance.specs.MovedMemory.inner.Items.{AreCut, Cut, gone, moved as moves, none, same}
use Rattle.copy_pairing_acceptance.proofs.MovedMemory.MovedItems.{block_cut, cut_append, edge_same, targets_same}

-- the front of a list that is cut
front_cut : {f other : Function} {c v : ValueId} {t u : List Item} → Cut f other c v t u → (n : ℕ) → (k : ℕ) × Cut f other c v (take k t) (take n u)
front_cut none zero = (0, none)
front_cut none (suc n) = (0, none)
front_cut (same i j h r) zero = (0, none)
front_cut (same i j h r) (suc n) = let z = front_cut r n in (suc z.0, same i j h z.1)
front_cut (moves i j h r) zero = (0, none)
front_cut (moves i j h r) (suc n) = let z = front_cut r n in (suc z.0, moves i j h z.1)
front_cut (gone i h r) n = let z = front_cut r n in (suc z.0, gone i h z.1)

some_cut : {f other : Function} {c v : ValueId} {t u : List Item} → Cut f other c v t u → 0 < length u → 0 < length t
some_cut none lt = lt
some_cut (same i j h r) lt = omega arith
some_cut (moves i j h r) lt = omega arith
some_cut (gone i h r) lt = omega arith

module _ (f : Function) (p : PointId) (c v : ValueId) (last : ℕ) (copy : IsCopy f p c v) (destroy : IsDestroy f (point_at p.block.0 last) v) (behind : p.index < last)
    (empty : destroy.inst.results ≡ []) where
  abbrev f' : Function
  f' = moved p last f

  targets : (b : ℕ) → (flow_of f').targets b ≡ (flow_of f).targets b
  targets b = targets_same f p c v last copy destroy behind empty b

  to_same : (e : EdgeId) → edge_to (flow_of f') e ≡ edge_to (flow_of f) e
  to_same e = ap (λ ts. unwrap_or (slice_get ts e.index) 0) (targets e.block.0)

  walk_same : (b : ℕ) (w : List EdgeId) → IsWalkFrom (flow_of f') b w → IsWalkFrom (flow_of f) b w
  walk_same b [] h = tt
  walk_same b (e ∷ w) h = (
    h.0,
    subst (λ (ts : List ℕ). e.index < length ts) (targets e.block.0) h.1,
    subst (λ x. IsWalkFrom (flow_of f) x w) (to_same e) (walk_same (edge_to (flow_of f') e) w h.2),
  )

  end_same : (b : ℕ) (w : List EdgeId) → end_from (flow_of f') b w ≡ end_from (flow_of f) b w
  end_same b [] = refl
  end_same b (e ∷ w) = end_same (edge_to (flow_of f') e) w ∙ ap (λ x. end_from (flow_of f) x w) (to_same e)

  passed_cut : (w : List EdgeId) → Cut f f' c v (passed (flow_of f) w) (passed (flow_of f') w)
  passed_cut [] = none
  passed_cut (e ∷ w) =
      cut_append (block_cut f p c v last copy destroy behind empty e.block.0)
      (same (item.Edge e) (item.Edge e) (edge_same f p c v last copy destroy behind empty e) (passed_cut w))

  pub trails_cut : AreCut f f' c v
  trails_cut w u h =
      let b : ℕ = last_block (flow_of f) w in
      let own = block_cut f p c v last copy destroy behind empty b in
      let front = front_cut own h.count in
      let at_end : last_block (flow_of f') w ≡ b = end_same 0 w in
      let is : u ≡ passed (flow_of f') w ++ take h.count (items_at (flow_of f') b) =
      h.items ∙ ap (λ n. passed (flow_of f') w ++ take h.count (items_at (flow_of f') n)) at_end in
      let trail : List Item = passed (flow_of f) w ++ take front.0 (items_at (flow_of f) b) in
      let cut : Cut f f' c v trail u = subst (Cut f f' c v trail) (sym is) (cut_append (passed_cut w) front.1) in
      record {
        trail = trail;
        is = record { walk = walk_same 0 w h.walk; begun = some_cut cut h.begun; count = front.0; items = refl };
        cut = cut;
      }

-- A run trail, the oldest item first, is a path of the function's flow.
use Rattle.std.proofs.Common.{◌≡◌, ℕ, ◌<◌, ◌≤◌, List, [], ◌∷◌, ◌++◌, length, reverse, refl, sym, subst, arith, inl, inr, Some, slice_get}
use Rattle.std.specs.Prelude.{All}
use Rattle.std.proofs.lemmas.List.{reverse-append}
use Rattle.std.proofs.lemmas.List.Elements.{All-weaker}
use Rattle.sil_ast.specs.declared.function.Block.{Block}
use Rattle.sil_ast.specs.declared.function.Function.{Function}
use Rattle.sil_ast.specs.declared.place.BlockId.{BlockId}
use Rattle.sil_ast.specs.declared.place.EdgeId.{EdgeId}
use Rattle.sil_ast.specs.declared.place.PointId.{PointId}
use Rattle.sil_cfg.specs.Items.{flow_of, items_in, last_in}
use Rattle.sil_cfg.specs.declared.item.Item.{Item}
use Rattle.sil_cfg.specs.declared.item.Item.TheVariants as item
use Rattle.sil_cfg.proofs.Paths.{Leaves, Moves, Path, Path-append, Spot, Trail-from_path, entry, some_pushed}
use Rattle.sil_cfg_items.specs.Parts.{edge_in, terminator_in}
use Rattle.sil_verifier_values.specs.sil_verifier_accepted.TypedGraphLaws.inner.Ready.{AvoidsEntry, HasFittingEdges}
use Rattle.sil_verifier_values.specs.holder_model.Edges.{edge_of}
use Rattle.sil_verifier_values.specs.holder_model.Standing.{behind, first_point, point_behind, target_of}
use Rattle.sil_verifier_trails.specs.RunTrails.inner.RunTrails.{ComesAt, IsEnteredOnce, IsNext, IsRunTrail, TakesEdge}
use Rattle.sil_verifier_trails.specs.RunTrails.inner.Laws.{AreEnteredOnce, AreTrails}
use Rattle.sil_verifier_trails.proofs.RunTrails.BlockItems.{all_stand, count_before, count_first, count_next, edge_there, exit_stands, inst_stands, inst_within, target_avoids, target_same}

abbrev spot : ℕ → ℕ → Spot
spot b n = record { block = b; done = n }

-- the spot of a point, as long as no exit is passed
abbrev spot_at : PointId → Spot
spot_at p = spot p.block.0 (count_before p.block.0 p.index)

-- behind an item
abbrev spot_behind : Function → Item → Spot
spot_behind f item.Entry = spot_at (first_point 0)
spot_behind f (item.Inst p) = spot_at (point_behind p)
spot_behind f (item.Edge e) = spot_at (behind f (item.Edge e))
spot_behind f (item.Exit p) = spot_at (point_behind p)

abbrev spot_of : Function → List Item → Spot
spot_of f [] = entry
spot_of f (i ∷ t) = spot_behind f i

-- the point is none past the one behind the block's instructions
abbrev IsWithin : Function → PointId → Type 0
IsWithin f p = p.index ≤ last_in (slice_get f.blocks p.block.0)

same_spot : (b d n m : ℕ) → b ≡ d → n ≡ m → spot b n ≡ spot d m
same_spot b d n m e h = λ i. record { block = e i; done = h i }

entry_stands : (blocks : List Block) → 0 < length blocks → slice_get (items_in 0 (slice_get blocks 0)) 0 ≡ Some item.Entry
entry_stands [] lt = absurd (omega arith)
entry_stands (b ∷ blocks) lt = refl

module _ (f : Function) (once : IsEnteredOnce f) where
  edge_leaves : (p : PointId) (k : ℕ) → IsWithin f p → TakesEdge f p k →
      Leaves (flow_of f) (spot_at p) (item.Edge (edge_of p k)) (spot_behind f (item.Edge (edge_of p k)))
  edge_leaves p k le h =
      let last = h.at_end in
      let o = slice_get f.blocks p.block.0 in
      let avoids = target_avoids f.blocks once p.block.0 k last.terminator last.there h.has_edge in
      record {
        edge = edge_of p k;
        from = refl;
        is_edge = edge_there k o last.terminator last.there h.has_edge;
        all_done = all_stand p.block.0 p.index o last.terminator last.behind_insts le last.there h.goes_on;
        next = refl;
        to = same_spot _ _ _ 0 (sym (target_same k o)) (count_first (target_of (edge_in (terminator_in o) k)) avoids);
      }

  -- an item that comes at a point moves from its spot to the one behind the item
  comes_moves : (p : PointId) (i : Item) → IsWithin f p → ComesAt f p i → Moves (flow_of f) (spot_at p) i (spot_behind f i)
  comes_moves p item.Entry le h = absurd h
  comes_moves p (item.Inst q) le h =
      let P : PointId → Type 0 = λ q. Moves (flow_of f) (spot_at p) (item.Inst q) (spot_behind f (item.Inst q)) in
      subst P (sym h.0) (inl (record {
        next = inst_stands p.block.0 p.index (slice_get f.blocks p.block.0) h.1 h.2;
        to = same_spot p.block.0 p.block.0 _ _ refl (count_next p.block.0 p.index);
      }))
  comes_moves p (item.Exit q) le h =
      let P : PointId → Type 0 = λ q. Moves (flow_of f) (spot_at p) (item.Exit q) (spot_behind f (item.Exit q)) in
      let last = h.1.at_end in
      subst P (sym h.0) (inl (record {
        next = exit_stands p.block.0 p.index (slice_get f.blocks p.block.0) last.terminator last.behind_insts le last.there h.1.leaves;
        to = same_spot p.block.0 p.block.0 _ _ refl (count_next p.block.0 p.index);
      }))
  comes_moves p (item.Edge e) le h =
      let P : BlockId → Type 0 = λ b. let d : EdgeId = record { block = b; index = e.index } in Moves (flow_of f) (spot_at p) (item.Edge d) (spot_behind f (item.Edge d)) in
      subst P (sym h.0) (inr (edge_leaves p e.index le h.1))

  -- behind an instruction the point is within its block still
  comes_within : (p q : PointId) → ComesAt f p (item.Inst q) → IsWithin f (point_behind q)
  comes_within p q h = subst (λ q. IsWithin f (point_behind q)) (sym h.0) (inst_within p.index (slice_get f.blocks p.block.0) h.1 h.2)

  next_within : (t : List Item) (q : PointId) → IsNext f t (item.Inst q) → IsWithin f (point_behind q)
  next_within [] q h = absurd h
  next_within (item.Entry ∷ t) q h = comes_within (behind f item.Entry) q h
  next_within (item.Inst p ∷ t) q h = comes_within (behind f (item.Inst p)) q h
  next_within (item.Edge e ∷ t) q h = comes_within (behind f (item.Edge e)) q h
  next_within (item.Exit p ∷ t) q h = absurd h

  next_moves : (t : List Item) (i : Item) → IsRunTrail f (i ∷ t) → Moves (flow_of f) (spot_of f t) i (spot_behind f i)
  next_moves [] item.Entry h = inl (record { next = entry_stands f.blocks h.0; to = refl })
  next_moves [] (item.Inst p) h = absurd h.0
  next_moves [] (item.Edge e) h = absurd h.0
  next_moves [] (item.Exit p) h = absurd h.0
  next_moves (item.Entry ∷ t) i h = comes_moves (behind f item.Entry) i (omega arith) h.0
  next_moves (item.Inst p ∷ t) i h = comes_moves (behind f (item.Inst p)) i (next_within t p h.1.0) h.0
  next_moves (item.Edge e ∷ t) i h = comes_moves (behind f (item.Edge e)) i (omega arith) h.0
  next_moves (item.Exit p ∷ t) i h = absurd h.0

  pub run_path : (t : List Item) → IsRunTrail f t → Path (flow_of f) entry (reverse t) (spot_of f t)
  run_path [] h = refl
  run_path (i ∷ t) h =
      subst (λ items. Path (flow_of f) entry items (spot_behind f i)) (sym (reverse-append (i ∷ []) t))
      (Path-append (flow_of f) (reverse t) (i ∷ []) entry (spot_of f t) (spot_behind f i) (run_path t h.1) (spot_behind f i, next_moves t i h, refl))

pub are_trails : AreTrails
are_trails f once [] h = tt
are_trails f once (i ∷ t) h =
    Trail-from_path (flow_of f) (reverse t ++ i ∷ []) (spot_behind f i) (some_pushed (reverse t) i)
    (subst (λ items. Path (flow_of f) entry items (spot_behind f i)) (reverse-append (i ∷ []) t) (run_path f once (i ∷ t) h))

pub are_entered_once : AreEnteredOnce
are_entered_once functions f ready =
    All-weaker (HasFittingEdges f) (λ (b : Block). All AvoidsEntry b.terminator.edges) (λ b h. h.entry) f.blocks ready.edges

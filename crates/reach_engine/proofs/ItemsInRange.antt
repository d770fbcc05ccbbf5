-- The items of a trail are items of the graph.
use Rattle.std.proofs.Common.{◌≡◌, ℕ, ◌<◌, List, [], ◌∷◌, ◌++◌, length, map, get_or, refl, sym, ap, ◌∙◌, subst, Option, Some, None, All, arith}
use Rattle.std.specs.Prelude.{unwrap_or, option_map}
use Rattle.std.specs.List.{slice_get}
use Rattle.std.proofs.lemmas.List.{length-map}
use Rattle.std.proofs.lemmas.List.Elements.{All-append, All-nil, All-cons, All-take}
use Rattle.std.proofs.lemmas.Option.{slice_get-get_or, slice_get-map}
use Rattle.sil_ast.specs.declared.place.EdgeId.{EdgeId}
use Rattle.sil_cfg.specs.declared.layout.EdgeFlow.{EdgeFlow}
use Rattle.sil_cfg.specs.Layout.{Layout, BlockLayout, no_block, no_edge, block_at, edge_at, item_count, IsEdgeSound, IsBlockSound, IsSound}
use Rattle.sil_cfg.specs.Flow.{IsEdge, items_at, edge_item, edge_to, block_count, numbered}
use Rattle.sil_cfg.specs.Walk.{IsWalkFrom, end_from, passed, IsTrail}
use Rattle.sil_cfg.proofs.Blocks.{all_get}
use Rattle.sil_cfg.proofs.Gets.{last_get}

none_sound : (g : Layout) → IsBlockSound g no_block
none_sound g = record { items = All-nil _; edges = All-nil _; few_edges = omega arith; last = omega arith }

pub block_is_sound : (g : Layout) → IsSound g → (b : ℕ) → IsBlockSound g (block_at g b)
block_is_sound g sound b = at (slice_get g.blocks b) refl
  where
    at : (o : Option BlockLayout) → slice_get g.blocks b ≡ o → IsBlockSound g (unwrap_or o no_block)
    at None e = none_sound g
    at (Some x) e = all_get (IsBlockSound g) g.blocks b x sound.blocks e

pub edge_is_sound : (g : Layout) → IsSound g → (e : EdgeId) → IsEdge (numbered g) e → IsEdgeSound g (edge_at g e)
edge_is_sound g sound e is =
    let edges : List EdgeFlow = (block_at g e.block.0).edges in
    let long : length (map (λ (x : EdgeFlow). x.target) edges) ≡ length edges = simp length-map in
    let within : e.index < length edges = omega arith in
    let there : slice_get edges e.index ≡ Some (get_or edges e.index no_edge) = slice_get-get_or edges e.index no_edge within in
    subst (λ (o : Option EdgeFlow). IsEdgeSound g (unwrap_or o no_edge)) (sym there)
    (all_get (IsEdgeSound g) edges e.index (get_or edges e.index no_edge) (block_is_sound g sound e.block.0).edges there)

-- an edge goes to a block of the graph
pub edge_target : (g : Layout) → IsSound g → (e : EdgeId) → IsEdge (numbered g) e → edge_to (numbered g) e < block_count (numbered g)
edge_target g sound e is =
    let edges : List EdgeFlow = (block_at g e.block.0).edges in
    let long : length (map (λ (x : EdgeFlow). x.target) edges) ≡ length edges = simp length-map in
    let within : e.index < length edges = omega arith in
    let there : slice_get edges e.index ≡ Some (get_or edges e.index no_edge) = slice_get-get_or edges e.index no_edge within in
    let target : edge_to (numbered g) e ≡ (get_or edges e.index no_edge).target =
    ap (λ (o : Option ℕ). unwrap_or o 0) (slice_get-map (λ (x : EdgeFlow). x.target) edges e.index ∙ ap (option_map (λ (x : EdgeFlow). x.target)) there) in
    let below = all_get (IsEdgeSound g) edges e.index (get_or edges e.index no_edge) (block_is_sound g sound e.block.0).edges there in
    subst (λ n. n < block_count (numbered g)) (sym target) below.0

pub items_below : (g : Layout) → IsSound g → (b : ℕ) → All (λ i. i < item_count g) (items_at (numbered g) b)
items_below g sound b = (block_is_sound g sound b).items

passed_below : (g : Layout) → IsSound g → (b : ℕ) (w : List EdgeId) → IsWalkFrom (numbered g) b w → All (λ i. i < item_count g) (passed (numbered g) w)
passed_below g sound b [] h = All-nil (λ i. i < item_count g)
passed_below g sound b (e ∷ w) h =
    All-append (λ i. i < item_count g) (items_at (numbered g) e.block.0) (edge_item (numbered g) e ∷ passed (numbered g) w) (items_below g sound e.block.0)
    (All-cons (λ i. i < item_count g) (edge_item (numbered g) e) (passed (numbered g) w) (edge_is_sound g sound e h.1).1 (passed_below g sound (edge_to (numbered g) e) w h.2))

pub trail_below : (g : Layout) → IsSound g → (w : List EdgeId) (trail : List ℕ) → IsTrail (numbered g) w trail → All (λ i. i < item_count g) trail
trail_below g sound w trail h = subst (λ (v : List ℕ). All (λ i. i < item_count g) v) (sym h.items)
    (All-append (λ i. i < item_count g) (passed (numbered g) w) _ (passed_below g sound 0 w h.walk)
    (All-take (λ i. i < item_count g) h.count (items_at (numbered g) (end_from (numbered g) 0 w)) (items_below g sound (end_from (numbered g) 0 w))))

pub last_below : (g : Layout) → IsSound g → (w : List EdgeId) (before : List ℕ) (i : ℕ) → IsTrail (numbered g) w (before ++ i ∷ []) → i < item_count g
last_below g sound w before i h = all_get (λ j. j < item_count g) (before ++ i ∷ []) (length before) i (trail_below g sound w (before ++ i ∷ []) h) (last_get before i)

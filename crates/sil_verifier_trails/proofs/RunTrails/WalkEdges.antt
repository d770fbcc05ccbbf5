-- The walk of a trail is of the edges that its items take.
use Rattle.std.proofs.Common.{◌≡◌, ℕ, zero, suc, List, [], ◌∷◌, ◌++◌, append-nil, length, take, refl, ap, ap₂, ◌∙◌, Bool, true, false, Option, Some, None, slice_get}
use Rattle.std.specs.Prelude.{filter_map}
use Rattle.std.specs.List.{cons_option}
use Rattle.std.proofs.lemmas.List.Elements.{filter_map-append}
use Rattle.sil_ast.specs.declared.function.Block.{Block}
use Rattle.sil_ast.specs.declared.function.Function.{Function}
use Rattle.sil_ast.specs.declared.inst.Inst.{Inst}
use Rattle.sil_ast.specs.declared.place.EdgeId.{EdgeId}
use Rattle.sil_ast.specs.declared.place.PointId.{PointId}
use Rattle.sil_cfg.specs.Flow.{items_at}
use Rattle.sil_cfg.specs.Items.{ends_function, exit_of, flow_of, insts_from, items_in, point_at}
use Rattle.sil_cfg.specs.Walk.{last_block, passed}
use Rattle.sil_cfg.specs.declared.item.Item.{Item}
use Rattle.sil_cfg.specs.declared.item.Item.TheVariants as item
use Rattle.sil_verifier_trails.specs.RunTrails.inner.RunTrails.{edge_taken}
use Rattle.sil_verifier_trails.specs.RunTrails.inner.Laws.{AreAlongEdges, AreNext}

abbrev TakesNone : List Item → Type 0
TakesNone items = filter_map edge_taken items ≡ []

none_of_insts : (b j : ℕ) (insts : List Inst) (p : PointId) (ends : Bool) → TakesNone (insts_from b j insts ++ exit_of p ends)
none_of_insts b j [] p true = refl
none_of_insts b j [] p false = refl
none_of_insts b j (x ∷ insts) p ends = none_of_insts b (suc j) insts p ends

none_of_block : (b : ℕ) (o : Option Block) → TakesNone (items_in b o)
none_of_block b None = refl
none_of_block zero (Some block) = none_of_insts 0 0 block.insts (point_at 0 (length block.insts)) (ends_function block.terminator.op)
none_of_block (suc b) (Some block) = none_of_insts (suc b) 0 block.insts (point_at (suc b) (length block.insts)) (ends_function block.terminator.op)

no_edge : (o : Option EdgeId) (edges : List EdgeId) → cons_option o edges ≡ [] → (o ≡ None) × (edges ≡ [])
no_edge None edges e = (refl, e)
no_edge (Some x) edges e = cc

none_of_first : (n : ℕ) (items : List Item) → TakesNone items → TakesNone (take n items)
none_of_first zero items h = refl
none_of_first (suc n) [] h = refl
none_of_first (suc n) (i ∷ items) h =
    let none = no_edge (edge_taken i) (filter_map edge_taken items) h in
    ap₂ cons_option none.0 (none_of_first n items none.1)

module _ (f : Function) where
  edges_passed : (w : List EdgeId) → filter_map edge_taken (passed (flow_of f) w) ≡ w
  edges_passed [] = refl
  edges_passed (e ∷ w) =
      filter_map-append edge_taken (items_at (flow_of f) e.block.0) (item.Edge e ∷ passed (flow_of f) w)
      ∙ ap₂ (λ x y. x ++ (e ∷ y)) (none_of_block e.block.0 (slice_get f.blocks e.block.0)) (edges_passed w)

pub along_edges : AreAlongEdges
along_edges f w items h =
    let last = last_block (flow_of f) w in
    ap (filter_map edge_taken) h.items
    ∙ filter_map-append edge_taken (passed (flow_of f) w) (take h.count (items_at (flow_of f) last))
    ∙ ap₂ (λ x y. x ++ y) (edges_passed f w) (none_of_first h.count (items_at (flow_of f) last) (none_of_block last (slice_get f.blocks last)))
    ∙ append-nil w

pub are_next : AreNext
are_next f [] i going h = absurd going
are_next f (item.Entry ∷ t) i going h = h
are_next f (item.Inst p ∷ t) i going h = h
are_next f (item.Edge e ∷ t) i going h = h
are_next f (item.Exit p ∷ t) i going h = absurd going

-- A switch along the walks of a function whose copy was a move: where it keeps its pattern without the copy, it kept it with the copy, if the
-- old marks from the copy to the gone destroy take it where the new ones do.
use Rattle.std.proofs.Common.{◌≡◌, ◌≢◌, ◌⊎◌, inl, inr, ℕ, ◌<◌, List, [], ◌∷◌, ◌++◌, length, sym, ap, ◌∙◌, subst, append_assoc}
use Rattle.std.specs.List.{flat_map}
use Rattle.std.proofs.lemmas.Bool.{cases_eq}
use Rattle.sil_ast.specs.declared.function.Function.{Function}
use Rattle.sil_ast.specs.declared.place.EdgeId.{EdgeId}
use Rattle.sil_ast.specs.declared.place.PointId.{PointId}
use Rattle.sil_ast.specs.declared.place.ValueId.{ValueId}
use Rattle.sil_cfg.specs.Flow.{IsEdge, edge_to, items_at}
use Rattle.sil_cfg.specs.Items.{flow_of}
use Rattle.sil_cfg.specs.Walk.{IsWalkFrom, end_from, passed}
use Rattle.sil_cfg.specs.declared.item.Item.{Item}
use Rattle.sil_cfg.specs.declared.item.Item.TheVariants as item
use Rattle.reach_engine.specs.declared.scan.Step.TheVariants.{Go}
use Rattle.reach_engine.specs.inner.Run.{run}
use Rattle.reach_engine_marks.specs.PathPatterns.Along.{IsKept}
use Rattle.reach_engine_marks.specs.PathPatterns.Switch.{IsInPlace}
use Rattle.reach_engine_marks.specs.declared.path_patterns.mark.Mark.{Mark}
use Rattle.reach_engine_marks.specs.PathPatterns.inner.Automaton.{mark_step}
use Rattle.copy_pairing_acceptance.specs.MovedFunctions.inner.Structure.{old_item}
use Rattle.copy_pairing_acceptance.proofs.MovedFunctions.Items as items
use Rattle.copy_pairing_acceptance.proofs.MovedFunctions.Items.{gone, head, inside, new_items, new_tail, old_items, old_tail, same_end, same_edge_to, same_targets}
use Rattle.copy_pairing_acceptance.proofs.MovedFunctions.KeptOnWalks.{Leads, Turns, kept_leads, leads_join, leads_kept, leads_split, turns_join, turns_split}
use Rattle.copy_pairing_acceptance.proofs.MovedFunctions.Places.{after}
use Rattle.copy_pairing_acceptance.proofs.MovedFunctions.Split.{IsSplit}

module _ {f : Function} {p : PointId} {last : ℕ} {c v : ValueId} (s : IsSplit f p last c v) where
  pub new_edge : (e : EdgeId) → IsEdge (flow_of f) e → IsEdge (flow_of (after s)) e
  new_edge e h = subst (λ (ts : List ℕ). e.index < length ts) (sym (same_targets s e.block.0)) h

  pub new_walk : (b : ℕ) (w : List EdgeId) → IsWalkFrom (flow_of f) b w → IsWalkFrom (flow_of (after s)) b w
  new_walk b [] h = tt
  new_walk b (e ∷ w) h =
      (h.0, new_edge e h.1, subst (λ n. IsWalkFrom (flow_of (after s)) n w) (sym (same_edge_to s e)) (new_walk (edge_to (flow_of f) e) w h.2))

  -- from the copy to the gone destroy
  abbrev pub TurnBack : (Item → List Mark) → (Item → List Mark) → Type 0
  TurnBack old new = (a b : ℕ) → Turns (new (item.Inst p) ++ flat_map old (inside s)) a b → Turns (old (item.Inst p) ++ (flat_map old (inside s) ++ old (gone s))) a b

  module _ (old new : Item → List Mark) (same : (i : Item) → i ≢ item.Inst p → new i ≡ old (old_item p last i)) (back : TurnBack old new) where
    in_block : (a b : ℕ) → Leads new (items_at (flow_of (after s)) p.block.0) a b → Leads old (items_at (flow_of f) p.block.0) a b
    in_block a b h =
        let parts = leads_split new (head s) (item.Inst p ∷ (inside s ++ new_tail s)) a b (ap (λ xs. run mark_step (Go a) (flat_map new xs)) (sym (new_items s)) ∙ h) in
        let rest = leads_split new (item.Inst p ∷ inside s) (new_tail s) parts.0 b parts.2 in
        let window : Turns (new (item.Inst p) ++ flat_map old (inside s)) parts.0 rest.0 =
        ap (λ ms. run mark_step (Go parts.0) (new (item.Inst p) ++ ms)) (sym (items.inside_alike s old new same)) ∙ rest.1 in
        let was = turns_split (old (item.Inst p)) (flat_map old (inside s) ++ old (gone s)) parts.0 rest.0 (back parts.0 rest.0 window) in
        let within = turns_split (flat_map old (inside s)) (old (gone s)) was.0 rest.0 was.2 in
        let first : Leads old (head s) a parts.0 = ap (run mark_step (Go a)) (sym (items.head_alike s old new same)) ∙ parts.1 in
        let last_of : Leads old (old_tail s) rest.0 b = ap (run mark_step (Go rest.0)) (sym (items.tail_alike s old new same)) ∙ rest.2 in
        ap (λ xs. run mark_step (Go a) (flat_map old xs)) (old_items s)
        ∙ leads_join old (head s) (item.Inst p ∷ (inside s ++ gone s ∷ old_tail s)) a parts.0 b first
        (turns_join (old (item.Inst p)) (flat_map old (inside s ++ gone s ∷ old_tail s)) parts.0 was.0 b was.1
        (leads_join old (inside s) (gone s ∷ old_tail s) was.0 within.0 b within.1
        (turns_join (old (gone s)) (flat_map old (old_tail s)) within.0 rest.0 b within.2 last_of)))

    by_block : (n a b : ℕ) → Leads new (items_at (flow_of (after s)) n) a b → Leads old (items_at (flow_of f) n) a b
    by_block n a b h = at (cases_eq n p.block.0)
      where
        at : (n ≡ p.block.0) ⊎ (n ≡ p.block.0 → ⊥) → Leads old (items_at (flow_of f) n) a b
        at (inl e) =
            ap (λ k. run mark_step (Go a) (flat_map old (items_at (flow_of f) k))) e
            ∙ in_block a b (ap (λ k. run mark_step (Go a) (flat_map new (items_at (flow_of (after s)) k))) (sym e) ∙ h)
        at (inr ne) = ap (run mark_step (Go a)) (sym (items.elsewhere_alike s old new same n ne)) ∙ h

    onwards : (todo : List EdgeId) (n a b : ℕ) → Leads new (passed (flow_of (after s)) todo ++ items_at (flow_of (after s)) (end_from (flow_of f) n todo)) a b
        → Leads old (passed (flow_of f) todo ++ items_at (flow_of f) (end_from (flow_of f) n todo)) a b
    onwards [] n a b h = by_block n a b h
    onwards (e ∷ todo) n a b h =
        let own = items_at (flow_of f) e.block.0 in
        let rest = passed (flow_of f) todo ++ items_at (flow_of f) (end_from (flow_of f) (edge_to (flow_of f) e) todo) in
        let new_own = items_at (flow_of (after s)) e.block.0 in
        let new_rest = passed (flow_of (after s)) todo ++ items_at (flow_of (after s)) (end_from (flow_of f) (edge_to (flow_of f) e) todo) in
        let by = leads_split new new_own (item.Edge e ∷ new_rest) a b
        (ap (λ xs. run mark_step (Go a) (flat_map new xs))
        (sym (append_assoc new_own (item.Edge e ∷ passed (flow_of (after s)) todo) (items_at (flow_of (after s)) (end_from (flow_of f) (edge_to (flow_of f) e) todo)))) ∙ h) in
        let over = turns_split (new (item.Edge e)) (flat_map new new_rest) by.0 b by.2 in
        let edge : Turns (old (item.Edge e)) by.0 over.0 = ap (run mark_step (Go by.0)) (sym (items.edge_alike s old new same e)) ∙ over.1 in
        let later = onwards todo (edge_to (flow_of f) e) over.0 b over.2 in
        ap (λ xs. run mark_step (Go a) (flat_map old xs)) (append_assoc own (item.Edge e ∷ passed (flow_of f) todo) (items_at (flow_of f) (end_from (flow_of f) (edge_to (flow_of f) e) todo)))
        ∙ leads_join old own (item.Edge e ∷ rest) a by.0 b (by_block e.block.0 a by.0 by.1) (turns_join (old (item.Edge e)) (flat_map old rest) by.0 over.0 b edge later)

    pub kept_before : IsKept (flow_of (after s)) new IsInPlace → IsKept (flow_of f) old IsInPlace
    kept_before kept = leads_kept old (flow_of f) (λ w walk.
        let h = kept_leads new (flow_of (after s)) kept w (new_walk 0 w walk) in (
          h.0,
          onwards w 0 0 h.0
              (ap (λ n. run mark_step (Go 0) (flat_map new (passed (flow_of (after s)) w ++ items_at (flow_of (after s)) n))) (sym (same_end s 0 w)) ∙ h.1),
        ))

-- A switch along the walks of the function without the copy: where its marks are those of the old items, but for the move, and turn it
-- alike from the copy to the gone destroy, it keeps its pattern if it did.
use Rattle.std.proofs.Common.{◌≡◌, ◌≢◌, ◌⊎◌, inl, inr, ℕ, List, [], ◌∷◌, ◌++◌, refl, sym, ap, ◌∙◌, append_assoc}
use Rattle.std.specs.List.{flat_map}
use Rattle.std.proofs.lemmas.Bool.{cases_eq}
use Rattle.std.proofs.lemmas.List.{append-nil}
use Rattle.sil_ast.specs.declared.function.Function.{Function}
use Rattle.sil_ast.specs.declared.place.EdgeId.{EdgeId}
use Rattle.sil_ast.specs.declared.place.PointId.{PointId}
use Rattle.sil_ast.specs.declared.place.ValueId.{ValueId}
use Rattle.sil_cfg.specs.Flow.{Flow, edge_item, edge_to, items_at}
use Rattle.sil_cfg.specs.Items.{flow_of}
use Rattle.sil_cfg.specs.Walk.{IsWalk, IsWalkFrom, end_from, last_block, passed}
use Rattle.sil_cfg.specs.declared.item.Item.{Item}
use Rattle.sil_cfg.specs.declared.item.Item.TheVariants as item
use Rattle.reach_engine.specs.declared.scan.Step.TheVariants.{Go}
use Rattle.reach_engine.specs.inner.Run.{run}
use Rattle.reach_engine_marks.specs.PathPatterns.Along.{IsKept}
use Rattle.reach_engine_marks.specs.PathPatterns.Switch.{IsInPlace}
use Rattle.reach_engine_marks.specs.declared.path_patterns.mark.Mark.{Mark}
use Rattle.reach_engine_marks.specs.PathPatterns.inner.Automaton.{mark_step}
use Rattle.copy_pairing_acceptance.specs.MovedFunctions.inner.Structure.{old_item}
use Rattle.copy_pairing_acceptance.proofs.MovedFunctions.Items.{edge_alike, elsewhere_alike, gone, head, head_alike, inside, inside_alike, new_items, new_tail, old_items, old_tail, old_walk, same_end}
use Rattle.copy_pairing_acceptance.proofs.MovedFunctions.Items.{tail_alike}
use Rattle.copy_pairing_acceptance.proofs.MovedFunctions.KeptOnWalks.{Leads, Turns, kept_leads, leads_join, leads_kept, leads_split, turns_join, turns_split}
use Rattle.copy_pairing_acceptance.proofs.MovedFunctions.Places.{after}
use Rattle.copy_pairing_acceptance.proofs.MovedFunctions.Split.{IsSplit}

-- ---- walks in two parts

module _ {I : Type 0} (g : Flow I) where
  pub walk_join : (b : ℕ) (w u : List EdgeId) → IsWalkFrom g b w → IsWalkFrom g (end_from g b w) u → IsWalkFrom g b (w ++ u)
  walk_join b [] u h k = k
  walk_join b (e ∷ w) u h k = (h.0, h.1, walk_join (edge_to g e) w u h.2 k)

  pub end_join : (b : ℕ) (w u : List EdgeId) → end_from g b (w ++ u) ≡ end_from g (end_from g b w) u
  end_join b [] u = refl
  end_join b (e ∷ w) u = end_join (edge_to g e) w u

  pub passed_join : (w u : List EdgeId) → passed g (w ++ u) ≡ passed g w ++ passed g u
  passed_join [] u = refl
  passed_join (e ∷ w) u =
      ap (λ v. items_at g e.block.0 ++ edge_item g e ∷ v) (passed_join w u) ∙ sym (append_assoc (items_at g e.block.0) (edge_item g e ∷ passed g w) (passed g u))

module _ {f : Function} {p : PointId} {last : ℕ} {c v : ValueId} (s : IsSplit f p last c v) where
  -- from the copy to the gone destroy the old marks take the switch where the new ones do, from each state to which a walk leads the copy
  abbrev pub TurnAlike : (Item → List Mark) → (Item → List Mark) → Type 0
  TurnAlike old new =
      (w : List EdgeId) (a b : ℕ) → IsWalk (flow_of f) w → last_block (flow_of f) w ≡ p.block.0 → Leads old (passed (flow_of f) w ++ head s) 0 a
      → Turns (old (item.Inst p) ++ (flat_map old (inside s) ++ old (gone s))) a b → Turns (new (item.Inst p) ++ flat_map old (inside s)) a b

  module _ (old new : Item → List Mark) (same : (i : Item) → i ≢ item.Inst p → new i ≡ old (old_item p last i)) (alike : TurnAlike old new) where
    in_block : (w : List EdgeId) (a b : ℕ) → IsWalk (flow_of f) w → last_block (flow_of f) w ≡ p.block.0 → Leads old (passed (flow_of f) w) 0 a
        → Leads old (items_at (flow_of f) p.block.0) a b → Leads new (items_at (flow_of (after s)) p.block.0) a b
    in_block w a b walk ends to h =
        let parts = leads_split old (head s) (item.Inst p ∷ (inside s ++ gone s ∷ old_tail s)) a b (ap (λ xs. run mark_step (Go a) (flat_map old xs)) (sym (old_items s)) ∙ h) in
        let rest = turns_split (old (item.Inst p)) (flat_map old (inside s ++ gone s ∷ old_tail s)) parts.0 b parts.2 in
        let within = leads_split old (inside s) (gone s ∷ old_tail s) rest.0 b rest.2 in
        let gone_by = turns_split (old (gone s)) (flat_map old (old_tail s)) within.0 b within.2 in
        let window = turns_join (old (item.Inst p)) (flat_map old (inside s) ++ old (gone s)) parts.0 rest.0 gone_by.0 rest.1
        (turns_join (flat_map old (inside s)) (old (gone s)) rest.0 within.0 gone_by.0 within.1 gone_by.1) in
        let before = leads_join old (passed (flow_of f) w) (head s) 0 a parts.0 to parts.1 in
        let middle = alike w parts.0 gone_by.0 walk ends before window in
        let first : Leads new (head s) a parts.0 = ap (run mark_step (Go a)) (head_alike s old new same) ∙ parts.1 in
        let then : Turns (new (item.Inst p) ++ flat_map new (inside s)) parts.0 gone_by.0 =
        ap (λ ms. run mark_step (Go parts.0) (new (item.Inst p) ++ ms)) (inside_alike s old new same) ∙ middle in
        let last_of : Leads new (new_tail s) gone_by.0 b = ap (run mark_step (Go gone_by.0)) (tail_alike s old new same) ∙ gone_by.2 in
        ap (λ xs. run mark_step (Go a) (flat_map new xs)) (new_items s)
        ∙ leads_join new (head s) (item.Inst p ∷ (inside s ++ new_tail s)) a parts.0 b first
        (leads_join new (item.Inst p ∷ inside s) (new_tail s) parts.0 gone_by.0 b then last_of)

    by_block : (n : ℕ) (w : List EdgeId) (a b : ℕ) → IsWalk (flow_of f) w → last_block (flow_of f) w ≡ n → Leads old (passed (flow_of f) w) 0 a
        → Leads old (items_at (flow_of f) n) a b → Leads new (items_at (flow_of (after s)) n) a b
    by_block n w a b walk ends to h = at (cases_eq n p.block.0)
      where
        at : (n ≡ p.block.0) ⊎ (n ≡ p.block.0 → ⊥) → Leads new (items_at (flow_of (after s)) n) a b
        at (inl e) =
            ap (λ k. run mark_step (Go a) (flat_map new (items_at (flow_of (after s)) k))) e
            ∙ in_block w a b walk (ends ∙ e) to (ap (λ k. run mark_step (Go a) (flat_map old (items_at (flow_of f) k))) (sym e) ∙ h)
        at (inr ne) = ap (run mark_step (Go a)) (elsewhere_alike s old new same n ne) ∙ h

    onwards : (done todo : List EdgeId) (n a b : ℕ) → IsWalk (flow_of f) done → last_block (flow_of f) done ≡ n → Leads old (passed (flow_of f) done) 0 a
        → IsWalkFrom (flow_of f) n todo → Leads old (passed (flow_of f) todo ++ items_at (flow_of f) (end_from (flow_of f) n todo)) a b
        → Leads new (passed (flow_of (after s)) todo ++ items_at (flow_of (after s)) (end_from (flow_of f) n todo)) a b
    onwards done [] n a b walk ends to more h = by_block n done a b walk ends to h
    onwards done (e ∷ todo) n a b walk ends to more h =
        let own = items_at (flow_of f) e.block.0 in
        let rest = passed (flow_of f) todo ++ items_at (flow_of f) (end_from (flow_of f) (edge_to (flow_of f) e) todo) in
        let new_own = items_at (flow_of (after s)) e.block.0 in
        let new_rest = passed (flow_of (after s)) todo ++ items_at (flow_of (after s)) (end_from (flow_of f) (edge_to (flow_of f) e) todo) in
        let by = leads_split old own (item.Edge e ∷ rest) a b
        (ap (λ xs. run mark_step (Go a) (flat_map old xs))
        (sym (append_assoc own (item.Edge e ∷ passed (flow_of f) todo) (items_at (flow_of f) (end_from (flow_of f) (edge_to (flow_of f) e) todo)))) ∙ h) in
        let over = turns_split (old (item.Edge e)) (flat_map old rest) by.0 b by.2 in
        let block = by_block e.block.0 done a by.0 walk (ends ∙ sym more.0) to by.1 in
        let edge : Turns (new (item.Edge e)) by.0 over.0 = ap (run mark_step (Go by.0)) (edge_alike s old new same e) ∙ over.1 in
        let one : Leads old (item.Edge e ∷ []) by.0 over.0 = ap (run mark_step (Go by.0)) (append-nil (old (item.Edge e))) ∙ over.1 in
        let step : IsWalkFrom (flow_of f) (end_from (flow_of f) 0 done) (e ∷ []) = (more.0 ∙ sym ends, more.1, tt) in
        let come : Leads old (passed (flow_of f) (done ++ e ∷ [])) 0 over.0 =
        ap (λ xs. run mark_step (Go 0) (flat_map old xs)) (passed_join (flow_of f) done (e ∷ []))
        ∙ leads_join old (passed (flow_of f) done) (own ++ item.Edge e ∷ []) 0 a over.0 to (leads_join old own (item.Edge e ∷ []) a by.0 over.0 by.1 one) in
        let later = onwards (done ++ e ∷ []) todo (edge_to (flow_of f) e) over.0 b (walk_join (flow_of f) 0 done (e ∷ []) walk step)
        (end_join (flow_of f) 0 done (e ∷ [])) come more.2 over.2 in
        ap (λ xs. run mark_step (Go a) (flat_map new xs))
        (append_assoc new_own (item.Edge e ∷ passed (flow_of (after s)) todo) (items_at (flow_of (after s)) (end_from (flow_of f) (edge_to (flow_of f) e) todo)))
        ∙ leads_join new new_own (item.Edge e ∷ new_rest) a by.0 b block (turns_join (new (item.Edge e)) (flat_map new new_rest) by.0 over.0 b edge later)

    pub kept_after : IsKept (flow_of f) old IsInPlace → IsKept (flow_of (after s)) new IsInPlace
    kept_after kept = leads_kept new (flow_of (after s)) (λ w walk.
        let was = old_walk s 0 w walk in
        let h = kept_leads old (flow_of f) kept w was in (
          h.0,
          ap (λ n. run mark_step (Go 0) (flat_map new (passed (flow_of (after s)) w ++ items_at (flow_of (after s)) n))) (same_end s 0 w)
              ∙ onwards [] w 0 0 h.0 tt refl refl was h.1,
        ))

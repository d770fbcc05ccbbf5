use Rattle.std.proofs.Common.{◌≡◌, ℕ, zero, suc, ◌+◌, ◌<◌, ◌≤◌, List, [], ◌∷◌, ◌++◌, length, take, refl, sym, ap, ap₂}
use Rattle.std.proofs.Common.{◌∙◌, subst, arith, inl, inr, Option, Some, Bool, true, append_assoc, length-append}
use Rattle.std.specs.List.{slice_get}
use Rattle.std.proofs.lemmas.Option.{same_Some, slice_get_within}
use Rattle.sil_ast.specs.declared.place.EdgeId.{EdgeId}
use Rattle.sil_cfg.specs.Flow.{Flow, block_count, items_at, IsEdge, edge_to, edge_item}
use Rattle.sil_cfg.proofs.Paths.{some_pushed}
use Rattle.sil_cfg.specs.Walk.{IsWalkFrom, end_from, passed}
use Rattle.reach_engine.specs.declared.scan.Step.{Step}
use Rattle.reach_engine.specs.declared.scan.Step.TheVariants.{Go}
use Rattle.reach_engine.specs.declared.frontier.Visit.{Visit}
use Rattle.reach_engine.specs.declared.frontier.Fault.{Fault}
use Rattle.reach_engine.specs.inner.Run.{run}
use Rattle.reach_engine.specs.inner.Table.{mark_at}
use Rattle.reach_engine.specs.inner.Reach.{Enters, ReachesFirst}
use Rattle.reach_engine.specs.inner.Frontier.{Noted, IsQueued, VisitDone, IsNext, IsRoot, HasParent, IsReached, ReachesFrom, IsFault, IsFront, Climbs, edge_list}
use Rattle.reach_engine.proofs.Runs.{run_join}
use Rattle.reach_engine.proofs.AlongWalks.{PairDone, in_along, known_along, edge_first}
use Rattle.reach_engine.proofs.FrontierKept.{Noted_more, IsQueued_more}

-- what reaches first along a walk from the entry
pub ReachesFrom_entry : (g : Flow ℕ) (f : ℕ → ℕ → Step) (w : List EdgeId) (code item : ℕ) → ReachesFirst g f w code item → ReachesFrom g f 0 0 w code item
ReachesFrom_entry g f w code item h = record {
  walk = h.trail.walk;
  count = h.trail.count;
  before = h.before;
  state = h.state;
  parts = sym h.trail.items;
  clean = h.clean;
  breaks = h.breaks;
}

pub ReachesFirst_entry : (g : Flow ℕ) (f : ℕ → ℕ → Step) (w : List EdgeId) (code item : ℕ) → ReachesFrom g f 0 0 w code item → ReachesFirst g f w code item
ReachesFirst_entry g f w code item h = record {
  before = h.before;
  state = h.state;
  trail = record { walk = h.walk; begun = some_pushed h.before item; count = h.count; items = sym h.parts };
  clean = h.clean;
  breaks = h.breaks;
}

-- what is known of the visits is known of their pairs
pairs_done : (g : Flow ℕ) (f : ℕ → ℕ → Step) (q : List Visit) (best : Option Fault) → ((k : ℕ) (v : Visit) → slice_get q k ≡ Some v → VisitDone g f q best v) →
    (b s n : ℕ) → IsQueued q b s n → PairDone g f (IsQueued q) (Noted best) b s n
pairs_done g f q best all b s n h =
    let d = all h.at h.visit h.there in
    let near : h.visit.depth ≤ n = h.near in
    record {
      block = λ code r. Noted_more best code h.visit.depth n (omega arith) (d.block code (ap₂ (λ x y. run f (Go y) (items_at g x)) h.block_is h.state_is ∙ r));
      goes = λ e is from t r. IsQueued_more q (edge_to g e) t (suc h.visit.depth) (suc n) (omega arith)
          ((d.edges e is (from ∙ sym h.block_is)).goes t (ap₂ (λ x y. run f (Go y) (items_at g x ++ edge_item g e ∷ [])) h.block_is h.state_is ∙ r));
      breaks = λ e is from m code r b. Noted_more best code (suc h.visit.depth) (suc n) (omega arith)
          ((d.edges e is (from ∙ sym h.block_is)).breaks m code (ap₂ (λ x y. run f (Go y) (items_at g x)) h.block_is h.state_is ∙ r) b);
    }

-- what reaches first behind a visit does so from the one before, by its edge
before_edge : (g : Flow ℕ) (f : ℕ → ℕ → Step) (u v : Visit) (w : List EdgeId) (code item : ℕ) → IsNext g f u v → ReachesFrom g f v.block v.state w code item →
    ReachesFrom g f u.block u.state (v.edge ∷ w) code item
before_edge g f u v w code item next h =
    let behind : List ℕ = passed g w ++ take h.count (items_at g (end_from g (edge_to g v.edge) w)) in
    let same : behind ≡ h.before ++ item ∷ [] = ap (λ b. passed g w ++ take h.count (items_at g (end_from g b w))) next.to ∙ h.parts in
    record {
      walk = (next.from, next.is_edge, subst (λ b. IsWalkFrom g b w) (sym next.to) h.walk);
      count = h.count;
      before = (items_at g u.block ++ edge_item g v.edge ∷ []) ++ h.before;
      state = h.state;
      parts = append_assoc (items_at g v.edge.block.0) (edge_item g v.edge ∷ passed g w) _ ∙ ap (λ b. items_at g b ++ edge_item g v.edge ∷ behind) next.from
          ∙ ap (λ y. items_at g u.block ++ edge_item g v.edge ∷ y) same ∙ edge_first (items_at g u.block) (h.before ++ item ∷ []) (edge_item g v.edge)
          ∙ sym (append_assoc (items_at g u.block ++ edge_item g v.edge ∷ []) h.before (item ∷ []));
      clean = run_join f (Go u.state) (items_at g u.block ++ edge_item g v.edge ∷ []) h.before v.state (Go h.state) next.runs h.clean;
      breaks = h.breaks;
    }

module _ (g : Flow ℕ) (f : ℕ → ℕ → Step) (q : List Visit) (reached : (k : ℕ) (v : Visit) → slice_get q k ≡ Some v → IsReached g f q k v) where
  parent_of : (k : ℕ) (v : Visit) → 0 < k → IsReached g f q k v → HasParent g f q k v
  parent_of k v pos (inl r) = let zero_is : k ≡ 0 = r.first in absurd (omega arith)
  parent_of k v pos (inr r) = r

  -- what reaches first behind a visit does so by the walk to it
  climb_reaches : (w tail : List EdgeId) (k at : ℕ) (v u : Visit) (code item : ℕ) → slice_get q k ≡ Some v → slice_get q at ≡ Some u → Climbs q k w at →
      ReachesFrom g f u.block u.state tail code item → ReachesFrom g f v.block v.state (w ++ tail) code item × (u.depth ≡ v.depth + length w)
  climb_reaches [] tail k at v u code item there end climb h =
      let same : u ≡ v = same_Some u v (sym end ∙ ap (slice_get q) (sym climb) ∙ there) in
      (subst (λ (x : Visit). ReachesFrom g f x.block x.state tail code item) same h, ap (λ (x : Visit). x.depth) same ∙ (omega arith))
  climb_reaches (e ∷ w) tail k at v u code item there end climb h =
      let x : Visit = climb.1 in
      let r = parent_of climb.0 x climb.2 (reached climb.0 x climb.3) in
      let same : r.parent ≡ v = same_Some r.parent v (sym r.there ∙ ap (slice_get q) climb.4 ∙ there) in
      let next : IsNext g f v x = subst (λ y. IsNext g f y x) same r.next in
      let more = climb_reaches w tail climb.0 at x u code item climb.3 end climb.6 h in
      let deeper : x.depth ≡ suc v.depth = next.deeper in
      let depth : u.depth ≡ x.depth + length w = more.1 in
      (subst (λ d. ReachesFrom g f v.block v.state (d ∷ (w ++ tail)) code item) climb.5 (before_edge g f v x (w ++ tail) code item next more.0), omega arith)

pub walk_push : (g : Flow ℕ) (b : ℕ) (w : List EdgeId) (e : EdgeId) → IsWalkFrom g b w → IsEdge g e → e.block.0 ≡ end_from g b w → IsWalkFrom g b (w ++ e ∷ [])
walk_push g b [] e h is from = (from, is, tt)
walk_push g b (d ∷ w) e h is from = (h.0, h.1, walk_push g (edge_to g d) w e h.2 is from)

pub end_push : (g : Flow ℕ) (b : ℕ) (w : List EdgeId) (e : EdgeId) → end_from g b (w ++ e ∷ []) ≡ edge_to g e
end_push g b [] e = refl
end_push g b (d ∷ w) e = end_push g (edge_to g d) w e

pub passed_push : (g : Flow ℕ) (w : List EdgeId) (e : EdgeId) → passed g (w ++ e ∷ []) ≡ passed g w ++ (items_at g e.block.0 ++ edge_item g e ∷ [])
passed_push g [] e = refl
passed_push g (d ∷ w) e = ap (λ v. items_at g d.block.0 ++ edge_item g d ∷ v) (passed_push g w e) ∙ sym (append_assoc (items_at g d.block.0) (edge_item g d ∷ passed g w) _)

enters_next : (g : Flow ℕ) (f : ℕ → ℕ → Step) (u v : Visit) (w : List EdgeId) → IsNext g f u v → Enters g f w u.block u.state → Enters g f (w ++ v.edge ∷ []) v.block v.state
enters_next g f u v w next h = record {
  walk = walk_push g 0 w v.edge h.walk next.is_edge (next.from ∙ sym h.to);
  to = end_push g 0 w v.edge ∙ next.to;
  runs = ap (run f (Go 0)) (passed_push g w v.edge ∙ ap (λ b. passed g w ++ (items_at g b ++ edge_item g v.edge ∷ [])) next.from)
      ∙ run_join f (Go 0) (passed g w) (items_at g u.block ++ edge_item g v.edge ∷ []) u.state (Go v.state) h.runs next.runs;
}

module _ (g : Flow ℕ) (f : ℕ → ℕ → Step) (q : List Visit) (reached : (k : ℕ) (v : Visit) → slice_get q k ≡ Some v → IsReached g f q k v) where
  -- each visit is entered by a walk
  entered : (n k : ℕ) → k < n → (v : Visit) → slice_get q k ≡ Some v → (w : List EdgeId) × Enters g f w v.block v.state
  entered zero k lt v there = absurd (omega arith)
  entered (suc n) k lt v there = elim (reached k v there) [
    | inl r ↦ ([], record { walk = tt; to = sym r.block; runs = ap Go (sym r.state) })
    | inr r ↦
        let earlier : v.parent < k = r.earlier in
        let from = entered n v.parent (omega arith) r.parent r.there in
        (from.0 ++ v.edge ∷ [], enters_next g f r.parent v from.0 r.next from.1)
  ]

some_first : (q : List Visit) → 0 < length q → (v : Visit) × (slice_get q 0 ≡ Some v)
some_first [] h = absurd (omega arith)
some_first (v ∷ q) h = (v, refl)

module _ (g : Flow ℕ) (f : ℕ → ℕ → Step) (states : ℕ) (q : List Visit) (seen : List Bool) (best : Option Fault) (next : ℕ) (front : IsFront g f states q seen best next) where
  root_is : (v : Visit) → slice_get q 0 ≡ Some v → IsRoot 0 v
  root_is v there = at (front.reached 0 v there)
    where
      at : IsReached g f q 0 v → IsRoot 0 v
      at (inl r) = r
      at (inr r) = let earlier : v.parent < 0 = r.earlier in absurd (omega arith)

  root_queued : (v : Visit) → slice_get q 0 ≡ Some v → IsQueued q v.block v.state v.depth
  root_queued v there = record { at = 0; visit = v; there = there; block_is = refl; state_is = refl; near = omega arith }

  all_done : length q ≤ next → (k : ℕ) (v : Visit) → slice_get q k ≡ Some v → VisitDone g f q best v
  all_done le k v there = let lt : k < length q = slice_get_within q k v there in front.done k v (omega arith) there

  -- a mark stands for a walk
  pub marked_entered : (b s : ℕ) → b < block_count g → s < states → mark_at seen states b s ≡ true → (w : List EdgeId) × Enters g f w b s
  marked_entered b s lb ls h =
      let r = (front.queued b s lb ls h).1 in
      let e = entered g f q front.reached (suc r.at) r.at (omega arith) r.visit r.there in
      (e.0, subst (λ x. Enters g f e.0 x s) r.block_is (subst (λ x. Enters g f e.0 r.visit.block x) r.state_is e.1))

  -- a walk has its mark
  pub entered_marked : length q ≤ next → (b s : ℕ) (w : List EdgeId) → Enters g f w b s → mark_at seen states b s ≡ true
  entered_marked le b s w h =
      let root = some_first q front.first in
      let is = root_is root.0 root.1 in
      let walk : IsWalkFrom g root.0.block w = subst (λ x. IsWalkFrom g x w) (sym is.block) h.walk in
      let runs : run f (Go root.0.state) (passed g w) ≡ Go s = ap (λ x. run f (Go x) (passed g w)) is.state ∙ h.runs in
      let r = in_along g f (IsQueued q) (Noted best) (IsQueued_more q) (Noted_more best) (pairs_done g f q best (all_done le)) w root.0.block root.0.state root.0.depth s
      (root_queued root.0 root.1) walk runs in
      let block : r.visit.block ≡ b = r.block_is ∙ ap (λ x. end_from g x w) is.block ∙ h.to in
      ap₂ (λ x y. mark_at seen states x y) (sym block) (sym r.state_is) ∙ front.marked r.at r.visit r.there

  -- a fault as good as that of any walk is known
  pub noted_walk : length q ≤ next → (w : List EdgeId) (code item : ℕ) → ReachesFirst g f w code item → Noted best code (length w)
  noted_walk le w code item h =
      let root = some_first q front.first in
      let is = root_is root.0 root.1 in
      let from : ReachesFrom g f root.0.block root.0.state w code item =
      subst (λ x. ReachesFrom g f x root.0.state w code item) (sym is.block) (subst (λ x. ReachesFrom g f 0 x w code item) (sym is.state) (ReachesFrom_entry g f w code item h)) in
      let flat : root.0.depth ≡ 0 = is.depth in
      Noted_more best code (root.0.depth + length w) (length w) (omega arith) (known_along g f (IsQueued q) (Noted best) (IsQueued_more q) (Noted_more best) (pairs_done g f q best (all_done le)) w
      root.0.block root.0.state root.0.depth code item (root_queued root.0 root.1) from)

  -- the walk to the fault's visit, and then its edge
  pub fault_walk : (b : Fault) → IsFault g f q b → (w : List EdgeId) → Climbs q 0 w b.visit →
      ReachesFirst g f (w ++ edge_list b.edge) b.code b.item × (length (w ++ edge_list b.edge) ≡ b.length)
  fault_walk b h w climb =
      let root = some_first q front.first in
      let is = root_is root.0 root.1 in
      let r = climb_reaches g f q front.reached w (edge_list b.edge) 0 b.visit root.0 h.visit b.code b.item root.1 h.there climb h.reaches in
      let depth : h.visit.depth ≡ root.0.depth + length w = r.1 in
      let flat : root.0.depth ≡ 0 = is.depth in
      let long : b.length ≡ h.visit.depth + length (edge_list b.edge) = h.length_is in
      let parts : length (w ++ edge_list b.edge) ≡ length w + length (edge_list b.edge) = length-append w (edge_list b.edge) in (
        ReachesFirst_entry g f (w ++ edge_list b.edge) b.code b.item
            (subst (λ x. ReachesFrom g f x 0 (w ++ edge_list b.edge) b.code b.item) is.block (subst (λ x. ReachesFrom g f root.0.block x (w ++ edge_list b.edge) b.code b.item) is.state r.0)),
        omega arith,
      )

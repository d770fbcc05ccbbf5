use Rattle.std.proofs.Common.{◌≡◌, ◌≢◌, ℕ, suc, ◌+◌, ◌*◌, ◌<◌, ◌≤◌, List, [], ◌∷◌, ◌++◌, length, get_or, set, replicate, take}
use Rattle.std.proofs.Common.{refl, sym, ap, ap₂, ◌∙◌, subst, arith, ◌⊎◌, inl, inr, Option, Some, None, Bool, true, false}
use Rattle.std.specs.Prelude.{IfSome}
use Rattle.std.specs.List.{slice_get}
use Rattle.std.proofs.lemmas.List.{append-nil, append_assoc, take_at, get_or_read}
use Rattle.std.proofs.lemmas.Bool.{cases_eq}
use Rattle.std.proofs.lemmas.Nat.{mul-add-lt}
use Rattle.sil_ast.specs.declared.place.EdgeId.{EdgeId}
use Rattle.sil_cfg.specs.Flow.{Flow, block_count, items_at, edge_count, edge_id, IsEdge, edge_to, edge_item}
use Rattle.reach_engine.specs.declared.scan.Step.{Step}
use Rattle.reach_engine.specs.declared.scan.Step.TheVariants.{Go, Bad}
use Rattle.reach_engine.specs.declared.frontier.Visit.{Visit}
use Rattle.reach_engine.specs.declared.frontier.Fault.{Fault}
use Rattle.reach_engine.specs.declared.frontier.Frontier.{Frontier}
use Rattle.reach_engine.specs.inner.Run.{run, BreaksAt}
use Rattle.reach_engine.specs.inner.Table.{mark_at}
use Rattle.reach_engine.specs.inner.Frontier.{Noted, IsQueued, EdgeDone, VisitDone, IsNext, IsFault, IsFront, Grows}
use Rattle.reach_engine.proofs.Runs.{run_join, run_breaks_at, run_end_bad, go-bad, same_Go, same_Bad}
use Rattle.reach_engine.proofs.FrontierKept.{front_push, front_start, last_get, kept_get, EdgeDone_more}

-- the fault that is kept is one of two
pub fault_either : (g : Flow ℕ) (f : ℕ → ℕ → Step) (q : List Visit) (best result : Option Fault) (fault : Fault) →
    IfSome best (IsFault g f q) → IsFault g f q fault → (result ≡ best) ⊎ (result ≡ Some fault) → IfSome result (IsFault g f q)
fault_either g f q best result fault old new (inl e) = subst (λ (o : Option Fault). IfSome o (IsFault g f q)) (sym e) old
fault_either g f q best result fault old new (inr e) = subst (λ (o : Option Fault). IfSome o (IsFault g f q)) (sym e) new

module _ (g : Flow ℕ) (f : ℕ → ℕ → Step) (q : List Visit) (at : ℕ) (v : Visit) (there : slice_get q at ≡ Some v) where
  -- a bad item in the visit's block
  pub block_fault : (code item : ℕ) → BreaksAt f v.state (items_at g v.block) code item →
      IsFault g f q (record { code = code; item = item; length = v.depth; visit = at; edge = None })
  block_fault code item h = record {
    visit = v;
    there = there;
    reaches = record {
      walk = tt;
      count = length (h.before ++ item ∷ []);
      before = h.before;
      state = h.state;
      parts = ap (take (length (h.before ++ item ∷ []))) (h.parts ∙ sym (append_assoc h.before (item ∷ []) h.behind)) ∙ take_at (h.before ++ item ∷ []) h.behind (length (h.before ++ item ∷ [])) refl;
      clean = h.clean;
      breaks = h.breaks;
    };
    length_is = omega arith;
  }

  module _ (e : EdgeId) (is_edge : IsEdge g e) (from : e.block.0 ≡ v.block) (m : ℕ) (passed_is : run f (Go v.state) (items_at g v.block) ≡ Go m) where
    -- a bad edge behind the visit
    pub edge_fault : (code item : ℕ) → item ≡ edge_item g e → f m item ≡ Bad code →
        IsFault g f q (record { code = code; item = item; length = v.depth + 1; visit = at; edge = Some e })
    edge_fault code item item_is bad = record {
      visit = v;
      there = there;
      reaches = record {
        walk = (from, is_edge, tt);
        count = 0;
        before = items_at g v.block;
        state = m;
        parts = append-nil (items_at g e.block.0 ++ edge_item g e ∷ []) ∙ ap₂ (λ b i. items_at g b ++ i ∷ []) from (sym item_is);
        clean = passed_is;
        breaks = bad;
      };
      length_is = refl;
    }

    go_runs : (t : ℕ) → f m (edge_item g e) ≡ Go t → run f (Go v.state) (items_at g v.block ++ edge_item g e ∷ []) ≡ Go t
    go_runs t h = run_join f (Go v.state) (items_at g v.block) (edge_item g e ∷ []) m (Go t) passed_is h

    -- the edge goes on, to a visit that there is
    edge_goes : (best : Option Fault) (q2 : List Visit) (t : ℕ) → f m (edge_item g e) ≡ Go t → IsQueued q2 (edge_to g e) t (suc v.depth) → EdgeDone g f q2 best v e
    edge_goes best q2 t goes queued = record {
      goes = λ s h. subst (λ x. IsQueued q2 (edge_to g e) x (suc v.depth)) (same_Go t s (sym (go_runs t goes) ∙ h)) queued;
      breaks = λ n code h b. absurd (go-bad t code (sym goes ∙ ap (λ x. f x (edge_item g e)) (same_Go m n (sym passed_is ∙ h)) ∙ b));
    }

    pub edge_marked : (states : ℕ) (seen : List Bool) (best : Option Fault) (t : ℕ) → IsFront g f states q seen best at → f m (edge_item g e) ≡ Go t →
        edge_to g e < block_count g → t < states → mark_at seen states (edge_to g e) t ≡ true → EdgeDone g f q best v e
    edge_marked states seen best t front goes lb lt mark =
        let r = (front.queued (edge_to g e) t lb lt mark).1 in
        edge_goes best q t goes (record { at = r.at; visit = r.visit; there = r.there; block_is = r.block_is; state_is = r.state_is; near = front.near r.at r.visit v there r.there })

    pub edge_seen : (states : ℕ) (seen : List Bool) (best : Option Fault) (block t place : ℕ) (r : Bool) → IsFront g f states q seen best at →
        block ≡ edge_to g e → f m (edge_item g e) ≡ Go t → block < block_count g → t < states → place ≡ block * states + t → r ≡ get_or seen place r → r ≡ true → EdgeDone g f q best v e
    edge_seen states seen best block t place r front block_is goes lb lt place_is read is_true =
        let size : length seen ≡ block_count g * states = front.size in
        let within : place < length seen = omega (arith, mul-add-lt block states t (block_count g) lb lt) in
        let mark : get_or seen (edge_to g e * states + t) false ≡ true =
        ap (λ k. get_or seen k false) (ap (λ b. b * states + t) (sym block_is) ∙ sym place_is) ∙ sym (get_or_read seen place r within read false) ∙ is_true in
        edge_marked states seen best t front goes (omega arith) lt mark

    pub edge_pushed : (best : Option Fault) (q2 : List Visit) (block t : ℕ) → block ≡ edge_to g e → f m (edge_item g e) ≡ Go t →
        q2 ≡ q ++ record { block = block; state = t; parent = at; edge = e; depth = v.depth + 1 } ∷ [] → EdgeDone g f q2 best v e
    edge_pushed best q2 block t block_is goes q2_is =
        edge_goes best q2 t goes (record {
          at = length q;
          visit = record { block = block; state = t; parent = at; edge = e; depth = v.depth + 1 };
          there = ap (λ z. slice_get z (length q)) q2_is ∙ last_get q _;
          block_is = block_is;
          state_is = refl;
          near = omega arith;
        })

    pub front_pushed : (states : ℕ) (seen : List Bool) (best : Option Fault) (q2 : List Visit) (block t place : ℕ) → IsFront g f states q seen best at →
        block ≡ edge_to g e → f m (edge_item g e) ≡ Go t → block < block_count g → t < states → place ≡ block * states + t → get_or seen place false ≡ false →
        q2 ≡ q ++ record { block = block; state = t; parent = at; edge = e; depth = v.depth + 1 } ∷ [] →
        IsFront g f states q2 (set seen place true) best at
    front_pushed states seen best q2 block t place front block_is goes lb lt place_is clear q2_is =
        let new : Visit = record { block = block; state = t; parent = at; edge = e; depth = v.depth + 1 } in
        let next : IsNext g f v new = record { is_edge = is_edge; from = from; to = sym block_is; runs = go_runs t goes; deeper = omega arith } in
        let more = front_push g f states q seen best at v new front there next refl lb lt (ap (λ k. get_or seen k false) (sym place_is) ∙ clear) in
        subst (λ z. IsFront g f states z (set seen place true) best at) (sym q2_is) (subst (λ k. IsFront g f states (q ++ new ∷ []) (set seen k true) best at) (sym place_is) more)

-- the search begins with the entry block
pub start_is : (g : Flow ℕ) (f : ℕ → ℕ → Step) (states blocks : ℕ) (root : Visit) (q first : List Visit) (seen : List Bool) → 0 < block_count g → 0 < states → blocks ≡ block_count g →
    seen ≡ replicate (blocks * states) false → first ≡ [] → q ≡ first ++ root ∷ [] → root.block ≡ 0 → root.state ≡ 0 → root.depth ≡ 0 →
    IsFront g f states q (set seen 0 true) None 0
start_is g f states blocks root q first seen some_block some_state blocks_is seen_is none q_is block state depth =
    let begun = front_start g f states root some_block some_state block state depth in
    let q_root : q ≡ root ∷ [] = q_is ∙ ap (λ z. z ++ root ∷ []) none in
    let seen_root : seen ≡ replicate (block_count g * states) false = seen_is ∙ ap (λ n. replicate (n * states) false) blocks_is in
    subst (λ z. IsFront g f states z (set seen 0 true) None 0) (sym q_root) (subst (λ z. IsFront g f states (root ∷ []) (set z 0 true) None 0) (sym seen_root) begun)

-- the visit's block breaks, so its edges aren't taken
pub visit_broken : (g : Flow ℕ) (f : ℕ → ℕ → Step) (q : List Visit) (best : Option Fault) (v : Visit) (code item : ℕ) → BreaksAt f v.state (items_at g v.block) code item →
    Noted best code v.depth → VisitDone g f q best v
visit_broken g f q best v code item h noted =
    let bad = run_breaks_at f v.state (items_at g v.block) code item h in
    record {
      block = λ other r. subst (λ c. Noted best c v.depth) (same_Bad code other (sym bad ∙ r)) noted;
      edges = λ e is from. record {
        goes = λ t r. absurd (go-bad t code (sym r ∙ run_end_bad f (Go v.state) (items_at g v.block) (edge_item g e ∷ []) code bad));
        breaks = λ m other r b. absurd (go-bad m code (sym r ∙ bad));
      };
    }

-- the visit's block is passed, and each edge is done
pub visit_passed : (g : Flow ℕ) (f : ℕ → ℕ → Step) (q : List Visit) (best : Option Fault) (v : Visit) (m n : ℕ) → run f (Go v.state) (items_at g v.block) ≡ Go m →
    edge_count g v.block ≤ n → ((j : ℕ) → j < n → EdgeDone g f q best v (edge_id v.block j)) → VisitDone g f q best v
visit_passed g f q best v m n passed_is all done = record {
  block = λ code r. absurd (go-bad m code (sym passed_is ∙ r));
  edges = λ e is from.
      let within : e.index < edge_count g v.block = subst (λ b. e.index < edge_count g b) from is in
      subst (λ b. EdgeDone g f q best v (edge_id b e.index)) (sym from) (done e.index (omega arith));
}

-- one more edge is done
pub done_more : (g : Flow ℕ) (f : ℕ → ℕ → Step) (old new : Frontier) (v : Visit) (n : ℕ) → Grows old new →
    ((j : ℕ) → j < n → EdgeDone g f old.queue.items old.best v (edge_id v.block j)) →
    EdgeDone g f new.queue.items new.best v (edge_id v.block n) →
    (j : ℕ) → j < n + 1 → EdgeDone g f new.queue.items new.best v (edge_id v.block j)
done_more g f old new v n grows before here j lt = at (cases_eq j n)
  where
    at : (j ≡ n) ⊎ (j ≢ n) → EdgeDone g f new.queue.items new.best v (edge_id v.block j)
    at (inl e) = subst (λ k. EdgeDone g f new.queue.items new.best v (edge_id v.block k)) (sym e) here
    at (inr n) = subst (λ z. EdgeDone g f z new.best v (edge_id v.block j)) (sym grows.queue)
        (EdgeDone_more g f old.queue.items grows.more old.best new.best v (edge_id v.block j) grows.best (before j (omega arith)))

pub kept_there : (old new : Frontier) (at : ℕ) (v : Visit) → Grows old new → slice_get old.queue.items at ≡ Some v → slice_get new.queue.items at ≡ Some v
kept_there old new at v grows there = ap (λ z. slice_get z at) grows.queue ∙ kept_get old.queue.items grows.more at v there

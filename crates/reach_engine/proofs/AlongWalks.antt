-- What is closed under edges holds all along every walk. Any search by pairs of block and state closes such a set
use Rattle.std.proofs.Common.{◌≡◌, ℕ, suc, ◌+◌, ◌≤◌, List, [], ◌∷◌, ◌++◌, length, take, drop, sym, ap, ◌∙◌, subst, arith, ◌⊎◌, inl, inr, append_assoc, take-append-drop}
use Rattle.std.proofs.lemmas.List.{same_from_push}
use Rattle.sil_ast.specs.declared.place.EdgeId.{EdgeId}
use Rattle.sil_cfg.specs.Flow.{Flow, items_at, IsEdge, edge_to, edge_item}
use Rattle.sil_cfg.specs.Walk.{IsWalkFrom, end_from, passed}
use Rattle.reach_engine.specs.declared.scan.Step.{Step}
use Rattle.reach_engine.specs.declared.scan.Step.TheVariants.{Go, Bad}
use Rattle.reach_engine.specs.inner.Run.{run}
use Rattle.reach_engine.specs.inner.Frontier.{ReachesFrom}
use Rattle.reach_engine.proofs.Runs.{run_split, run_breaks, run_end_bad, same_Go, end_cases}

-- the items of the block, and then the edge's
pub edge_first : (own rest : List ℕ) (x : ℕ) → own ++ x ∷ rest ≡ (own ++ x ∷ []) ++ rest
edge_first own rest x = sym (append_assoc own (x ∷ []) rest)

-- the last item is the edge's, or comes behind it
last_cases : (own rest before : List ℕ) (x item : ℕ) → own ++ x ∷ rest ≡ before ++ item ∷ [] →
    ((before ≡ own) × (x ≡ item)) ⊎ ((r : List ℕ) × (rest ≡ r ++ item ∷ []) × (before ≡ (own ++ x ∷ []) ++ r))
last_cases own rest before x item h = at (end_cases rest)
  where
    at : (rest ≡ []) ⊎ ((r : List ℕ) × (last : ℕ) × (rest ≡ r ++ last ∷ [])) →
        ((before ≡ own) × (x ≡ item)) ⊎ ((r : List ℕ) × (rest ≡ r ++ item ∷ []) × (before ≡ (own ++ x ∷ []) ++ r))
    at (inl e) =
        let same = same_from_push own before x item (ap (λ v. own ++ x ∷ v) (sym e) ∙ h) in
        inl (sym same.0, same.1)
    at (inr p) =
        let joined : ((own ++ x ∷ []) ++ p.0) ++ p.1 ∷ [] ≡ before ++ item ∷ [] =
        append_assoc (own ++ x ∷ []) p.0 (p.1 ∷ []) ∙ sym (edge_first own (p.0 ++ p.1 ∷ []) x) ∙ ap (λ v. own ++ x ∷ v) (sym p.2) ∙ h in
        let same = same_from_push ((own ++ x ∷ []) ++ p.0) before p.1 item joined in
        inr (p.0, p.2 ∙ ap (λ y. p.0 ++ y ∷ []) same.1, sym same.0)

-- what is known of a pair after n edges: In is the set of pairs, and Known the codes, each with a bound on the edges
pub record PairDone (g : Flow ℕ) (f : ℕ → ℕ → Step) (In : ℕ → ℕ → ℕ → Type 0) (Known : ℕ → ℕ → Type 0) (b s n : ℕ) : Type 0 where
  pub block : (code : ℕ) → run f (Go s) (items_at g b) ≡ Bad code → Known code n
  pub goes : (e : EdgeId) → IsEdge g e → e.block.0 ≡ b → (t : ℕ) → run f (Go s) (items_at g b ++ edge_item g e ∷ []) ≡ Go t → In (edge_to g e) t (suc n)
  pub breaks : (e : EdgeId) → IsEdge g e → e.block.0 ≡ b → (m code : ℕ) → run f (Go s) (items_at g b) ≡ Go m → f m (edge_item g e) ≡ Bad code → Known code (suc n)

module _ (g : Flow ℕ) (f : ℕ → ℕ → Step) (In : ℕ → ℕ → ℕ → Type 0) (Known : ℕ → ℕ → Type 0)
    (In_more : (b s n m : ℕ) → n ≤ m → In b s n → In b s m) (Known_more : (code n m : ℕ) → n ≤ m → Known code n → Known code m)
    (done : (b s n : ℕ) → In b s n → PairDone g f In Known b s n) where
  -- where a walk from a pair in the set goes, there is a pair in the set
  pub in_along : (w : List EdgeId) (b s n t : ℕ) → In b s n → IsWalkFrom g b w → run f (Go s) (passed g w) ≡ Go t → In (end_from g b w) t (n + length w)
  in_along [] b s n t h walk runs = subst (λ x. In b x (n + 0)) (same_Go s t runs) (In_more b s n (n + 0) (omega arith) h)
  in_along (e ∷ w) b s n t h walk runs =
      let own : items_at g e.block.0 ++ edge_item g e ∷ passed g w ≡ (items_at g b ++ edge_item g e ∷ []) ++ passed g w =
      ap (λ x. items_at g x ++ edge_item g e ∷ passed g w) walk.0 ∙ edge_first (items_at g b) (passed g w) (edge_item g e) in
      let parts = run_split f (Go s) (items_at g b ++ edge_item g e ∷ []) (passed g w) t (ap (run f (Go s)) (sym own) ∙ runs) in
      let next = (done b s n h).goes e walk.1 walk.0 parts.0 parts.1 in
      In_more (end_from g (edge_to g e) w) t (suc n + length w) (n + length (e ∷ w)) (omega arith) (in_along w (edge_to g e) parts.0 (suc n) t next walk.2 parts.2)

  -- where a walk from a pair in the set comes first to a bad item, its code is known
  pub known_along : (w : List EdgeId) (b s n code item : ℕ) → In b s n → ReachesFrom g f b s w code item → Known code (n + length w)
  known_along [] b s n code item there h =
      let bad : run f (Go s) (take h.count (items_at g b)) ≡ Bad code = ap (run f (Go s)) h.parts ∙ run_breaks f (Go s) h.before [] item h.state code h.clean h.breaks in
      let whole : run f (Go s) (items_at g b) ≡ Bad code =
      ap (run f (Go s)) (sym (take-append-drop h.count (items_at g b))) ∙ run_end_bad f (Go s) (take h.count (items_at g b)) (drop h.count (items_at g b)) code bad in
      Known_more code n (n + 0) (omega arith) ((done b s n there).block code whole)
  known_along (e ∷ w) b s n code item there h =
      let behind : List ℕ = passed g w ++ take h.count (items_at g (end_from g (edge_to g e) w)) in
      let whole : items_at g b ++ edge_item g e ∷ behind ≡ h.before ++ item ∷ [] =
      ap (λ x. items_at g x ++ edge_item g e ∷ behind) (sym h.walk.0) ∙ sym (append_assoc (items_at g e.block.0) (edge_item g e ∷ passed g w) _) ∙ h.parts in
      elim (last_cases (items_at g b) behind h.before (edge_item g e) item whole) [
        | inl a ↦
            let clean : run f (Go s) (items_at g b) ≡ Go h.state = ap (run f (Go s)) (sym a.0) ∙ h.clean in
            let bad : f h.state (edge_item g e) ≡ Bad code = ap (f h.state) a.1 ∙ h.breaks in
            Known_more code (suc n) (n + length (e ∷ w)) (omega arith) ((done b s n there).breaks e h.walk.1 h.walk.0 h.state code clean bad)
        | inr a ↦
            let parts = run_split f (Go s) (items_at g b ++ edge_item g e ∷ []) a.0 h.state (ap (run f (Go s)) (sym a.2) ∙ h.clean) in
            let next = (done b s n there).goes e h.walk.1 h.walk.0 parts.0 parts.1 in
            let rest : ReachesFrom g f (edge_to g e) parts.0 w code item = record {
              walk = h.walk.2;
              count = h.count;
              before = a.0;
              state = h.state;
              parts = a.1;
              clean = parts.2;
              breaks = h.breaks;
            } in
            Known_more code (suc n + length w) (n + length (e ∷ w)) (omega arith) (known_along w (edge_to g e) parts.0 (suc n) code item next rest)
      ]

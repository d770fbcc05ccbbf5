use Rattle.std.proofs.Common.{◌≡◌, ℕ, suc, ◌+◌, ◌*◌, ◌^◌, ◌<◌, ◌≤◌, List, [], ◌∷◌, ◌++◌, length, get_or, take, sum, refl, sym, ap, ◌∙◌, subst, arith, ◌⊎◌, inl, inr, Bool, append_assoc}
use Rattle.std.proofs.lemmas.List.{append-nil, take_at}
use Rattle.std.proofs.lemmas.List.Sums.{sum_by-cons}
use Rattle.sil_ast.specs.declared.place.EdgeId.{EdgeId}
use Rattle.sil_cfg.specs.Flow.{Flow, items_at, IsEdge, edge_to, edge_item}
use Rattle.sil_cfg.proofs.Paths.{some_pushed}
use Rattle.sil_cfg.specs.Walk.{passed}
use Rattle.reach_engine.specs.declared.scan.Step.{Step}
use Rattle.reach_engine.specs.declared.scan.Step.TheVariants.{Go, Bad}
use Rattle.reach_engine.specs.inner.Run.{run}
use Rattle.reach_engine.specs.inner.Reach.{Enters, ReachesFirst}
use Rattle.reach_engine.proofs.Runs.{run_join, bad_at}
use Rattle.reach_engine.proofs.EveryWalk.{walk_push, end_push, passed_push}
use Rattle.reach_engine.specs.inner.Bits.{bit_in}
use Rattle.reach_engine.specs.inner.Reached.{RowHas, Gains, BreaksIn, BlockTaken, IsSoFar}

-- one edge more
pub enters_edge : (g : Flow ℕ) (f : ℕ → ℕ → Step) (w : List EdgeId) (e : EdgeId) (b s t : ℕ) → Enters g f w b s → IsEdge g e → e.block.0 ≡ b → run f (Go s) (items_at g b ++ edge_item g e ∷ []) ≡ Go t
    → Enters g f (w ++ e ∷ []) (edge_to g e) t
enters_edge g f w e b s t h is from runs = record {
  walk = walk_push g 0 w e h.walk is (from ∙ sym h.to);
  to = end_push g 0 w e;
  runs = ap (run f (Go 0)) (passed_push g w e ∙ ap (λ x. passed g w ++ (items_at g x ++ edge_item g e ∷ [])) from)
      ∙ run_join f (Go 0) (passed g w) (items_at g b ++ edge_item g e ∷ []) s (Go t) h.runs runs;
}

-- a bad item in the block that the walk enters
pub reaches_block : (g : Flow ℕ) (f : ℕ → ℕ → Step) (w : List EdgeId) (b s code : ℕ) → Enters g f w b s → run f (Go s) (items_at g b) ≡ Bad code → (item : ℕ) × ReachesFirst g f w code item
reaches_block g f w b s code h bad =
    let r = bad_at f s (items_at g b) code bad in (
      r.here,
      record {
        before = passed g w ++ r.front;
        state = r.state;
        trail = record {
          walk = h.walk;
          begun = some_pushed (passed g w ++ r.front) r.here;
          count = length (r.front ++ r.here ∷ []);
          items = append_assoc (passed g w) r.front (r.here ∷ []) ∙ ap (λ v. passed g w ++ v) (sym (ap (λ x. take (length (r.front ++ r.here ∷ [])) (items_at g x)) h.to ∙ ap
              (take (length (r.front ++ r.here ∷ []))) (r.parts ∙ sym (append_assoc r.front (r.here ∷ []) r.rest)) ∙ take_at (r.front ++ r.here ∷ []) r.rest (length (r.front ++ r.here ∷ [])) refl));
        };
        clean = run_join f (Go 0) (passed g w) r.front s (Go r.state) h.runs r.clean;
        breaks = r.breaks;
      },
    )

-- a bad edge behind it
pub reaches_edge : (g : Flow ℕ) (f : ℕ → ℕ → Step) (w : List EdgeId) (e : EdgeId) (b s m code : ℕ) → Enters g f w b s → IsEdge g e → e.block.0 ≡ b → run f (Go s) (items_at g b) ≡ Go m →
    f m (edge_item g e) ≡ Bad code →
    ReachesFirst g f (w ++ e ∷ []) code (edge_item g e)
reaches_edge g f w e b s m code h is from runs bad = record {
  before = passed g w ++ items_at g b;
  state = m;
  trail = record {
    walk = walk_push g 0 w e h.walk is (from ∙ sym h.to);
    begun = some_pushed (passed g w ++ items_at g b) (edge_item g e);
    count = 0;
    items = append_assoc (passed g w) (items_at g b) (edge_item g e ∷ []) ∙ ap (λ x. passed g w ++ (items_at g x ++ edge_item g e ∷ [])) (sym from) ∙ sym (passed_push g w e)
        ∙ sym (append-nil (passed g (w ++ e ∷ [])));
  };
  clean = run_join f (Go 0) (passed g w) (items_at g b) s (Go m) h.runs runs;
  breaks = bad;
}

-- what a block adds is so
pub so_far_more : (g : Flow ℕ) (f : ℕ → ℕ → ℕ → Step) (states subjects width b : ℕ) (old new before after : List ℕ) (is_new : Bool) → subjects ≤ 64 * width → length new ≡ length old →
    length after ≡ length before →
    IsSoFar g f states subjects width old before → BlockTaken g f states subjects width b old new before after is_new → IsSoFar g f states subjects width new after
so_far_more g f states subjects width b old new before after is_new fits size bad_size h t = record {
  size = size ∙ h.size;
  bad_size = bad_size ∙ h.bad_size;
  entry = λ u lu. t.grows _ (h.entry u lu);
  entered = λ c s u ls lu x. entered_at c s u ls lu (t.sound c s u ls lu x);
  unused = λ c s v ls le lv x. unused_at c s v ls le lv (t.unused c s v ls le lv x);
  reached = λ u lu x. reached_at u lu (t.blamed u lu x);
}
  where
    entered_at : (c s u : ℕ) → s < states → u < subjects → RowHas old states width c s u ⊎ Gains g (f u) states width b u old c s → (w : List EdgeId) × Enters g (f u) w c s
    entered_at c s u ls lu (inl x) = h.entered c s u ls lu x
    entered_at c s u ls lu (inr x) =
        let from = h.entered b x.from u x.within lu x.there in
        let e = enters_edge g (f u) from.0 x.edge b x.from s from.1 x.is_edge x.leaves x.runs in
        (from.0 ++ x.edge ∷ [], subst (λ d. Enters g (f u) (from.0 ++ x.edge ∷ []) d s) x.to e)

    unused_at : (c s v : ℕ) → s < states → subjects ≤ v → v < 64 * width → RowHas old states width c s v ⊎ RowHas old states width b s v → ⊥
    unused_at c s v ls le lv (inl x) = h.unused c s v ls le lv x
    unused_at c s v ls le lv (inr x) = h.unused b s v ls le lv x

    breaks_at : (u from code : ℕ) (w : List EdgeId) → Enters g (f u) w b from →
        (run (f u) (Go from) (items_at g b) ≡ Bad code) ⊎ ((e : EdgeId) × IsEdge g e × (e.block.0 ≡ b) × (m : ℕ) × (run (f u) (Go from) (items_at g b) ≡ Go m) × (f u m (edge_item g e) ≡ Bad code)) →
        (v : List EdgeId) × (other : ℕ) × (item : ℕ) × ReachesFirst g (f u) v other item
    breaks_at u from code w e (inl x) = let r = reaches_block g (f u) w b from code e x in (w, code, r.0, r.1)
    breaks_at u from code w e (inr x) = (w ++ x.0 ∷ [], code, edge_item g x.0, reaches_edge g (f u) w x.0 b from x.3 code e x.1 x.2 x.4 x.5)

    reached_at : (u : ℕ) → u < subjects → (bit_in before u ≡ 1) ⊎ BreaksIn g (f u) states width b u old → (w : List EdgeId) × (code : ℕ) × (item : ℕ) × ReachesFirst g (f u) w code item
    reached_at u lu (inl x) = h.reached u lu x
    reached_at u lu (inr x) = let from = h.entered b x.from u x.within lu x.there in breaks_at u x.from x.code from.0 from.1 x.runs

-- no row can gain subjects for ever
pub sum_words : (words : List ℕ) → ((i : ℕ) → get_or words i 0 < 2 ^ 64) → sum words ≤ length words * 2 ^ 64
sum_words [] h = omega arith
sum_words (x ∷ words) h =
    let first : x < 2 ^ 64 = h 0 in
    let rest : sum words ≤ length words * 2 ^ 64 = sum_words words (λ i. h (suc i)) in
    let total : sum (x ∷ words) ≡ x + sum words = sum_by-cons (λ y. y) x words in
    let long : length (x ∷ words) ≡ suc (length words) = refl in
    omega arith

-- A switch that a mark has broken stays in state 2: some block's items bring a subject there exactly where some walk breaks it.
use Rattle.std.proofs.Common.{◌≡◌, ◌⊎◌, inl, inr, ℕ, zero, suc, ◌+◌, ◌<◌, List, [], ◌∷◌, ◌++◌, length, take}
use Rattle.std.proofs.Common.{drop, refl, sym, ap, ◌∙◌, subst, Bool, true, false, cond, Option, Some, None, arith, append_assoc, length-append}
use Rattle.std.proofs.lemmas.List.{take-append-drop, take_all}
use Rattle.sil_ast.specs.declared.place.EdgeId.{EdgeId}
use Rattle.sil_cfg.specs.Flow.{Flow, IsEdge, block_count, edge_to, items_at}
use Rattle.sil_cfg.specs.Walk.{IsTrail, IsWalkFrom, end_from, last_block, passed}
use Rattle.sil_cfg.proofs.Paths.{Trail-front, some_pushed}
use Rattle.reach_engine.specs.declared.scan.Step.{Step}
use Rattle.reach_engine.specs.declared.scan.Step.TheVariants.{Go, Bad}
use Rattle.reach_engine.specs.inner.Reach.{Enters, ReachesFirst}
use Rattle.reach_engine.specs.inner.Reached.{AreExact}
use Rattle.reach_engine.specs.inner.Run.{StaysBelow, run}
use Rattle.reach_engine.specs.inner.Search.{IsClean}
use Rattle.reach_engine.proofs.Runs.{bad_at, run_bad, run_breaks, run_join, run_split, same_Go}
use Rattle.reach_engine_marks.specs.PathPatterns.Switch.{code_of}
use Rattle.reach_engine_marks.specs.declared.path_patterns.mark.Mark.{Mark}
use Rattle.reach_engine_marks.specs.PathPatterns.inner.Automaton.{fits, mark_step, turned}
use Rattle.reach_engine_marks.specs.PathPatterns.inner.Decides.{item_step}
use Rattle.reach_engine_marks.specs.PathPatterns.inner.Reads.{read_step, step_in}
use Rattle.reach_engine_marks.specs.PathChecks.Entries.{means}
use Rattle.reach_engine_marks.specs.declared.path_checks.entry.Entry.{Entry}
use Rattle.reach_engine_marks.specs.PathChecks.inner.Automata.{subject_step}
use Rattle.reach_engine_marks.specs.KeptSubjects.inner.Broken.{AreBroken, AreMarked, GoesBroken, GoesBrokenBefore, is_broken}
use Rattle.reach_engine_marks.specs.KeptSubjects.inner.Settled.{settled, settled_step, subject_settled}

-- ---- an automaton that goes to state 2 in place of breaking, and stays there

record Settles {A : Type 0} (f h : ℕ → A → Step) : Type 0 where
  goes : (s : ℕ) (x : A) → s < 2 → h s x ≡ settled (f s x)
  stays : (x : A) → h 2 x ≡ Go 2
  below : (s : ℕ) (x : A) → s < 2 → StaysBelow 2 (f s x)

module _ {A : Type 0} (f h : ℕ → A → Step) (S : Settles f h) where
  run_stays : (xs : List A) → run h (Go 2) xs ≡ Go 2
  run_stays [] = refl
  run_stays (x ∷ xs) = ap (λ r. run h r xs) (S.stays x) ∙ run_stays xs

  run_settles : (s : ℕ) (xs : List A) → s < 2 → run h (Go s) xs ≡ settled (run f (Go s) xs)
  run_settles s [] lt = refl
  run_settles s (x ∷ xs) lt = ap (λ r. run h r xs) (S.goes s x lt) ∙ at (f s x) (S.below s x lt) (λ t b. run_settles t xs b)
    where
      at : (r : Step) → StaysBelow 2 r → ((t : ℕ) → t < 2 → run h (Go t) xs ≡ settled (run f (Go t) xs)) → run h (settled r) xs ≡ settled (run f r xs)
      at (Go t) b next = next t b
      at (Bad c) b next = run_stays xs ∙ sym (ap settled (run_bad f c xs))

  run_below : (s : ℕ) (xs : List A) → s < 2 → StaysBelow 2 (run f (Go s) xs)
  run_below s [] lt = lt
  run_below s (x ∷ xs) lt = at (f s x) (S.below s x lt) (λ t b. run_below t xs b)
    where
      at : (r : Step) → StaysBelow 2 r → ((t : ℕ) → t < 2 → StaysBelow 2 (run f (Go t) xs)) → StaysBelow 2 (run f r xs)
      at (Go t) b next = next t b
      at (Bad c) b next = subst (StaysBelow 2) (sym (run_bad f c xs)) tt

  settles_items : (marks : ℕ → List A) → Settles (item_step f marks) (item_step h marks)
  settles_items marks = record { goes = λ s i lt. run_settles s (marks i) lt; stays = λ i. run_stays (marks i); below = λ s i lt. run_below s (marks i) lt }

-- the switch of one subject

turned_below : (s : ℕ) (o : Option Bool) → s < 2 → turned s o < 2
turned_below s None lt = lt
turned_below s (Some true) lt = omega arith
turned_below s (Some false) lt = omega arith

mark_below : (s : ℕ) (mark : Mark) → s < 2 → StaysBelow 2 (mark_step s mark)
mark_below s mark lt = at (fits s mark.needs)
  where
    at : (b : Bool) → StaysBelow 2 (cond b (Go (turned s mark.turns)) (Bad (code_of mark)))
    at true = turned_below s mark.turns lt
    at false = tt

by_mark : (o : Option Mark) (s : ℕ) → s < 2 → step_in settled_step s o ≡ settled (step_in mark_step s o)
by_mark None s lt = refl
by_mark (Some mark) zero lt = refl
by_mark (Some mark) (suc zero) lt = refl
by_mark (Some mark) (suc (suc s)) lt = absurd (omega arith)

stays_by : (o : Option Mark) → step_in settled_step 2 o ≡ Go 2
stays_by None = refl
stays_by (Some mark) = refl

below_by : (o : Option Mark) (s : ℕ) → s < 2 → StaysBelow 2 (step_in mark_step s o)
below_by None s lt = lt
below_by (Some mark) s lt = mark_below s mark lt

subject_settles : (entries : ℕ → List Entry) (v : ℕ) → Settles (subject_step entries v) (subject_settled entries v)
subject_settles entries v =
    settles_items (read_step mark_step (means v)) (read_step settled_step (means v))
    (record { goes = λ s e lt. by_mark (means v e) s lt; stays = λ e. stays_by (means v e); below = λ s e lt. below_by (means v e) s lt }) entries

-- ---- along walks

settled_low : (r : Step) → StaysBelow 2 r → settled r ≡ Go 2 → (c : ℕ) × (r ≡ Bad c)
settled_low (Go t) b e = let same : t ≡ 2 = same_Go t 2 e in absurd (omega arith)
settled_low (Bad c) b e = (c, refl)

settled_three : (r : Step) (t : ℕ) → StaysBelow 2 r → settled r ≡ Go t → t < 3
settled_three (Go s) t b e = let same : s ≡ t = same_Go s t e in omega arith
settled_three (Bad c) t b e = let same : 2 ≡ t = same_Go 2 t e in omega arith

module _ (g : Flow ℕ) (f h : ℕ → ℕ → Step) (S : Settles f h) where
  -- a walk that enters a block in a state from which its items lead to state 2 shows a break
  broken : (w : List EdgeId) (b s : ℕ) → Enters g h w b s → run h (Go s) (items_at g b) ≡ Go 2 → IsClean g f → ⊥
  broken w b s enters goes clean =
      let whole : run h (Go 0) (passed g w ++ items_at g b) ≡ Go 2 = run_join h (Go 0) (passed g w) (items_at g b) s (Go 2) enters.runs goes in
      let bad = settled_low (run f (Go 0) (passed g w ++ items_at g b)) (run_below f h S 0 (passed g w ++ items_at g b) (omega arith))
      (sym (run_settles f h S 0 (passed g w ++ items_at g b) (omega arith)) ∙ whole) in
      let first = bad_at f 0 (passed g w ++ items_at g b) bad.0 bad.1 in
      let parts : passed g w ++ items_at g b ≡ (first.front ++ first.here ∷ []) ++ first.rest = first.parts ∙ sym (append_assoc first.front (first.here ∷ []) first.rest) in
      let some : 0 < length (first.front ++ first.here ∷ []) = some_pushed first.front first.here in
      let trail : IsTrail g w ((first.front ++ first.here ∷ []) ++ first.rest) =
      record {
        walk = enters.walk;
        begun = let size = length-append (first.front ++ first.here ∷ []) first.rest in omega arith;
        count = length (items_at g b);
        items = sym parts ∙ ap (λ xs. passed g w ++ xs)
            (sym (take_all (length (items_at g b)) (items_at g b) (omega arith)) ∙ ap (λ x. take (length (items_at g b)) (items_at g x)) (sym enters.to));
      } in
      let front = Trail-front g w (first.front ++ first.here ∷ []) first.rest some trail in
      clean front.0 bad.0 first.here (record { before = first.front; state = first.state; trail = front.1; clean = first.clean; breaks = first.breaks })

  -- a walk that shows a break ends in such a block
  record GoesThere (w : List EdgeId) : Type 0 where
    state : ℕ
    within : state < 3
    enters : Enters g h w (last_block g w) state
    goes : run h (Go state) (items_at g (last_block g w)) ≡ Go 2

  there : (w : List EdgeId) (code item : ℕ) → ReachesFirst g f w code item → GoesThere w
  there w code item r =
      let part = take r.trail.count (items_at g (last_block g w)) in
      let whole : run f (Go 0) (passed g w ++ part) ≡ Bad code =
      ap (run f (Go 0)) (sym r.trail.items) ∙ run_breaks f (Go 0) r.before [] item r.state code r.clean r.breaks in
      let two : run h (Go 0) (passed g w ++ part) ≡ Go 2 = run_settles f h S 0 (passed g w ++ part) (omega arith) ∙ ap settled whole in
      let split = run_split h (Go 0) (passed g w) part 2 two in
      record {
        state = split.0;
        within = settled_three (run f (Go 0) (passed g w)) split.0 (run_below f h S 0 (passed g w) (omega arith))
            (sym (run_settles f h S 0 (passed g w) (omega arith)) ∙ split.1);
        enters = record { walk = r.trail.walk; to = refl; runs = split.1 };
        goes = ap (run h (Go split.0)) (sym (take-append-drop r.trail.count (items_at g (last_block g w))))
            ∙ run_join h (Go split.0) part (drop r.trail.count (items_at g (last_block g w))) 2 (Go 2) split.2
            (run_stays f h S (drop r.trail.count (items_at g (last_block g w))));
      }

end_below : (g : Flow ℕ) → ((e : EdgeId) → IsEdge g e → edge_to g e < block_count g) → (b : ℕ) → b < block_count g → (w : List EdgeId) → IsWalkFrom g b w → end_from g b w < block_count g
end_below g target b lt [] h = lt
end_below g target b lt (e ∷ w) h = end_below g target (edge_to g e) (target e h.1) w h.2

-- the marks of those that go to state 2 in some block are those of the subjects that some walk breaks
pub are_broken : (g : Flow ℕ) (entries : ℕ → List Entry) (first count width : ℕ) (words : List ℕ) (old new : List Bool) → 0 < block_count g
    → ((e : EdgeId) → IsEdge g e → edge_to g e < block_count g)
    → AreExact g (λ u. subject_settled entries (first + u)) 3 count width words
    → AreMarked first count (GoesBrokenBefore g (λ u. subject_settled entries (first + u)) width words (block_count g)) old new
    → AreBroken g entries first count old new
are_broken g entries first count width words old new some target exact marked = record {
  kept = λ v before. (marked v).1 (inl before);
  reached = λ v now. found v ((marked v).0 now);
  clean = λ u lu not_so w code item r.
      let at = there g (subject_step entries (first + u)) (subject_settled entries (first + u)) (subject_settles entries (first + u)) w code item r in
      let below : last_block g w < block_count g = end_below g target 0 some w r.trail.walk in
      let goes : GoesBroken g (λ k. subject_settled entries (first + k)) width words (last_block g w) u =
      record { state = at.state; within = at.within; there = (exact.entered (last_block g w) at.state u below at.within lu).1 (w, at.enters); runs = at.goes } in
      let now : is_broken new (first + u) ≡ true =
      (marked (first + u)).1 (inr (u, lu, refl, record { block = last_block g w; before = below; goes = goes })) in
      let wrong : true ≡ false = sym now ∙ not_so in
      cc;
}
  where
    unclean : (u : ℕ) → u < count → GoesBrokenBefore g (λ k. subject_settled entries (first + k)) width words (block_count g) u → IsClean g (subject_step entries (first + u)) → ⊥
    unclean u lu b =
        let walk = (exact.entered b.block b.goes.state u b.before b.goes.within lu).0 b.goes.there in
        broken g (subject_step entries (first + u)) (subject_settled entries (first + u)) (subject_settles entries (first + u)) walk.0 b.block b.goes.state walk.1 b.goes.runs

    found : (v : ℕ) → (is_broken old v ≡ true) ⊎ ((u : ℕ) × (u < count) × (v ≡ first + u)
        × GoesBrokenBefore g (λ k. subject_settled entries (first + k)) width words (block_count g) u)
        → (is_broken old v ≡ true) ⊎ ((u : ℕ) × (u < count) × (v ≡ first + u) × (IsClean g (subject_step entries v) → ⊥))
    found v (inl before) = inl before
    found v (inr p) =
        inr (p.0, p.1, p.2, subst (λ n. IsClean g (subject_step entries n) → ⊥) (sym p.2) (unclean p.0 p.1 p.3))

-- such an automaton never breaks
pub never_breaks : (g : Flow ℕ) (entries : ℕ → List Entry) (v : ℕ) (w : List EdgeId) (code item : ℕ) → ReachesFirst g (subject_settled entries v) w code item → ⊥
never_breaks g entries v w code item r = at (run (subject_step entries v) (Go 0) (r.before ++ item ∷ []))
    (sym (run_settles (subject_step entries v) (subject_settled entries v) (subject_settles entries v) 0 (r.before ++ item ∷ []) (omega arith))
    ∙ run_breaks (subject_settled entries v) (Go 0) r.before [] item r.state code r.clean r.breaks)
  where
    at : (x : Step) → settled x ≡ Bad code → ⊥
    at (Go t) e = cc
    at (Bad c) e = cc

-- An automaton that decides a pattern breaks on a walk exactly where the pattern does, first with the same code.
use Rattle.std.proofs.Common.{◌≡◌, ℕ, ◌+◌, ◌<◌, get_or, take, drop, take-append-drop, List, [], ◌∷◌, ◌++◌, length, refl, sym, ap, ◌∙◌, subst, append_assoc}
use Rattle.std.specs.Prelude.{flat_map}
use Rattle.std.proofs.lemmas.List.{drop_more}
use Rattle.sil_ast.specs.declared.place.EdgeId.{EdgeId}
use Rattle.sil_cfg.specs.Flow.{Flow}
use Rattle.reach_engine.specs.declared.scan.Step.{Step}
use Rattle.reach_engine.specs.declared.scan.Step.TheVariants.{Go, Bad}
use Rattle.reach_engine.specs.inner.Run.{run}
use Rattle.reach_engine.specs.inner.Reach.{ReachesFirst}
use Rattle.reach_engine.proofs.Runs.{run-append, run_split, run_join, run_breaks, bad_at}
use Rattle.reach_engine_marks.specs.PathPatterns.Lawful.{AreLawful, FirstBreak}
use Rattle.reach_engine_marks.specs.PathPatterns.Along.{Shows}
use Rattle.reach_engine_marks.specs.PathPatterns.inner.Decides.{Judges, Decides}

module _ {M : Type 0} (step : ℕ → M → Step) (InPlace : List M → M → Type 0) (code_of : M → ℕ) (decides : Decides step InPlace code_of) where
  -- a mark that is read is in place
  read_in_place : (marks : List M) (mark : M) (s t : ℕ) → run step (Go 0) marks ≡ Go s → step s mark ≡ Go t → InPlace marks mark
  read_in_place marks mark s t clean e = subst (λ x. Judges x (InPlace marks mark) (code_of mark)) e (decides marks s mark clean)

  -- a mark that is bad isn't, and has the code
  bad_out_of_place : (marks : List M) (mark : M) (s c : ℕ) → run step (Go 0) marks ≡ Go s → step s mark ≡ Bad c → (InPlace marks mark → ⊥) × (c ≡ code_of mark)
  bad_out_of_place marks mark s c clean e = subst (λ x. Judges x (InPlace marks mark) (code_of mark)) e (decides marks s mark clean)

  -- what the automaton reads is lawful
  pub read_lawful : (marks : List M) (s : ℕ) → run step (Go 0) marks ≡ Go s → AreLawful InPlace marks
  read_lawful marks s h before rest mark parts =
      let a = run_split step (Go 0) before (mark ∷ rest) s (ap (run step (Go 0)) (sym parts) ∙ h) in
      let b = run_split step (Go a.0) (mark ∷ []) rest s a.2 in
      read_in_place before mark a.0 b.0 a.1 b.1

  -- and what is lawful it reads
  pub lawful_read : (marks : List M) → AreLawful InPlace marks → (s : ℕ) × (run step (Go 0) marks ≡ Go s)
  lawful_read marks h = at (run step (Go 0) marks) refl
    where
      at : (x : Step) → run step (Go 0) marks ≡ x → (s : ℕ) × (run step (Go 0) marks ≡ Go s)
      at (Go s) e = (s, e)
      at (Bad c) e =
          let b = bad_at step 0 marks c e in
          absurd ((bad_out_of_place b.front b.here b.state c b.clean b.breaks).0 (h b.front b.rest b.here b.parts))

  -- where the automaton breaks behind the marks before, the pattern does
  pub break_sound : (before marks : List M) (s c : ℕ) → run step (Go 0) before ≡ Go s → run step (Go s) marks ≡ Bad c → FirstBreak InPlace code_of before marks c
  break_sound before marks s c clean h =
      let b = bad_at step s marks c h in
      let kept : run step (Go 0) (before ++ b.front) ≡ Go b.state = run_join step (Go 0) before b.front s (Go b.state) clean b.clean in
      let out = bad_out_of_place (before ++ b.front) b.here b.state c kept b.breaks in
      record {
        front = b.front;
        mark = b.here;
        rest = b.rest;
        parts = b.parts;
        kept = read_lawful (before ++ b.front) b.state kept;
        out_of_place = out.0;
        code_is = out.1;
      }

  -- and where the pattern does, the automaton does
  pub break_complete : (before marks : List M) (s c : ℕ) → run step (Go 0) before ≡ Go s → FirstBreak InPlace code_of before marks c → run step (Go s) marks ≡ Bad c
  break_complete before marks s c clean b = at (step kept.0 b.mark) refl
    where
      kept : (t : ℕ) × (run step (Go 0) (before ++ b.front) ≡ Go t)
      kept = lawful_read (before ++ b.front) b.kept

      from : run step (Go s) b.front ≡ Go kept.0
      from = ap (λ x. run step x b.front) (sym clean) ∙ sym (run-append step (Go 0) before b.front) ∙ kept.1

      at : (x : Step) → step kept.0 b.mark ≡ x → run step (Go s) marks ≡ Bad c
      at (Go t) e = absurd (b.out_of_place (read_in_place (before ++ b.front) b.mark kept.0 t kept.1 e))
      at (Bad d) e =
          let out = bad_out_of_place (before ++ b.front) b.mark kept.0 d kept.1 e in
          ap (run step (Go s)) b.parts ∙ run_breaks step (Go s) b.front b.rest b.mark kept.0 c from (e ∙ ap Bad (out.1 ∙ sym b.code_is))

  -- an automaton over items, which reads the marks of each
  module _ (marks : ℕ → List M) (steps : ℕ → ℕ → Step) (reads : (s i : ℕ) → steps s i ≡ run step (Go s) (marks i)) where
    -- a trail is read mark by mark
    trail_marks : (r : Step) (t : List ℕ) → run steps r t ≡ run step r (flat_map marks t)
    trail_marks r [] = refl
    trail_marks (Go s) (i ∷ t) = trail_marks (steps s i) t ∙ ap (λ r. run step r (flat_map marks t)) (reads s i) ∙ sym (run-append step (Go s) (marks i) (flat_map marks t))
    trail_marks (Bad c) (i ∷ t) = trail_marks (Bad c) t ∙ ap (λ r. run step r (flat_map marks t)) (sym (stays c (marks i))) ∙ sym (run-append step (Bad c) (marks i) (flat_map marks t))
      where
        stays : (c : ℕ) (u : List M) → run step (Bad c) u ≡ Bad c
        stays c [] = refl
        stays c (x ∷ u) = stays c u

    module _ (g : Flow ℕ) where
      pub reached_shown : (w : List EdgeId) (c item : ℕ) → ReachesFirst g steps w c item → Shows g marks InPlace code_of w c item
      reached_shown w c item h = record {
        before = h.before;
        trail = h.trail;
        breaks = break_sound (flat_map marks h.before) (marks item) h.state c (sym (trail_marks (Go 0) h.before) ∙ h.clean) (sym (reads h.state item) ∙ h.breaks);
      }

      pub shown_reached : (w : List EdgeId) (c item : ℕ) → Shows g marks InPlace code_of w c item → ReachesFirst g steps w c item
      shown_reached w c item h =
          let read = lawful_read (flat_map marks h.before)
          (λ front rest mark e. h.breaks.kept front (rest ++ h.breaks.front) mark (ap (λ v. v ++ h.breaks.front) e ∙ append_assoc front (mark ∷ rest) h.breaks.front)) in
          record {
            before = h.before;
            state = read.0;
            trail = h.trail;
            clean = trail_marks (Go 0) h.before ∙ read.1;
            breaks = reads read.0 item ∙ break_complete (flat_map marks h.before) (marks item) read.0 c read.1 h.breaks;
          }

-- the accesses read up to one that is bad
pub bad_access : {M : Type 0} (step : ℕ → M → Step) (xs : List M) (i : ℕ) (d : M) (s t c : ℕ) → i < length xs → step t (get_or xs i d) ≡ Bad c →
    run step (Go s) (take i xs) ≡ Go t → run step (Go s) xs ≡ Bad c
bad_access step xs i d s t c lt bad clean =
    let parts : xs ≡ take i xs ++ get_or xs i d ∷ drop (i + 1) xs = sym (take-append-drop i xs) ∙ ap (λ v. take i xs ++ v) (drop_more xs i d lt) in
    ap (run step (Go s)) parts ∙ run_breaks step (Go s) (take i xs) (drop (i + 1) xs) (get_or xs i d) t c clean bad

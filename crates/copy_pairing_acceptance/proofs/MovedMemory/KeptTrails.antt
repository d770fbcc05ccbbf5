-- Where no walk shows a pattern broken, every trail keeps it; and where the trails keep it, no walk shows it broken.
use Rattle.std.proofs.Common.{◌≡◌, ℕ, List, [], ◌∷◌, ◌++◌, refl, sym, ap, ◌∙◌, subst, append_assoc}
use Rattle.std.specs.Prelude.{flat_map}
use Rattle.std.proofs.lemmas.List.{append-nil}
use Rattle.std.proofs.lemmas.Grind.{flat_map-append}
use Rattle.sil_ast.specs.declared.place.EdgeId.{EdgeId}
use Rattle.sil_cfg.specs.Flow.{Flow}
use Rattle.sil_cfg.specs.Walk.{IsTrail}
use Rattle.sil_cfg.proofs.Paths.{Trail-front, some_pushed}
use Rattle.reach_engine.specs.declared.scan.Step.{Step}
use Rattle.reach_engine.specs.declared.scan.Step.TheVariants.{Bad, Go}
use Rattle.reach_engine.specs.inner.Run.{run}
use Rattle.reach_engine.proofs.Runs.{bad_at, run-append, run_bad}
use Rattle.reach_engine_marks.specs.PathPatterns.Along.{IsKept, Shows}
use Rattle.reach_engine_marks.specs.PathPatterns.Lawful.{AreLawful}
use Rattle.reach_engine_marks.specs.PathPatterns.inner.Decides.{Decides}
use Rattle.reach_engine_marks.proofs.PathPatterns.PatternsDecided.{break_sound, read_lawful}

module _ {A M : Type 0} (InPlace : List M → M → Type 0) (code_of : M → ℕ) (g : Flow A) (marks : A → List M) where
  -- a break that a walk shows is on a trail whose marks aren't lawful
  pub shown_unlawful : (w : List EdgeId) (code : ℕ) (item : A) (h : Shows g marks InPlace code_of w code item)
      → AreLawful InPlace (flat_map marks (h.before ++ item ∷ [])) → ⊥
  shown_unlawful w code item h lawful =
      let b = h.breaks in
      let parts : flat_map marks (h.before ++ item ∷ []) ≡ (flat_map marks h.before ++ b.front) ++ b.mark ∷ b.rest =
      flat_map-append marks h.before (item ∷ []) ∙ ap (λ v. flat_map marks h.before ++ v) (append-nil (marks item) ∙ b.parts)
      ∙ sym (append_assoc (flat_map marks h.before) b.front (b.mark ∷ b.rest)) in
      b.out_of_place (lawful (flat_map marks h.before ++ b.front) b.rest b.mark parts)

  module _ (step : ℕ → M → Step) (decides : Decides step InPlace code_of) where
    abbrev by_item : ℕ → A → Step
    by_item s i = run step (Go s) (marks i)

    -- a trail is read mark by mark
    read_marks : (r : Step) (t : List A) → run by_item r t ≡ run step r (flat_map marks t)
    read_marks r [] = refl
    read_marks (Go s) (i ∷ t) = read_marks (by_item s i) t ∙ sym (run-append step (Go s) (marks i) (flat_map marks t))
    read_marks (Bad c) (i ∷ t) =
        read_marks (Bad c) t ∙ ap (λ r. run step r (flat_map marks t)) (sym (run_bad step c (marks i))) ∙ sym (run-append step (Bad c) (marks i) (flat_map marks t))

    pub unshown_kept : ((w : List EdgeId) (code : ℕ) (item : A) → Shows g marks InPlace code_of w code item → ⊥) → IsKept g marks InPlace
    unshown_kept none w t trail = at (run by_item (Go 0) t) refl
      where
        at : (x : Step) → run by_item (Go 0) t ≡ x → AreLawful InPlace (flat_map marks t)
        at (Go s) e = read_lawful step InPlace code_of decides (flat_map marks t) s (sym (read_marks (Go 0) t) ∙ e)
        at (Bad c) e =
            let b = bad_at by_item 0 t c e in
            let parts : t ≡ (b.front ++ b.here ∷ []) ++ b.rest = b.parts ∙ sym (append_assoc b.front (b.here ∷ []) b.rest) in
            let front = Trail-front g w (b.front ++ b.here ∷ []) b.rest (some_pushed b.front b.here) (subst (IsTrail g w) parts trail) in
            absurd (none front.0 c b.here (record {
              before = b.front;
              trail = front.1;
              breaks = break_sound step InPlace code_of decides (flat_map marks b.front) (marks b.here) b.state c (sym (read_marks (Go 0) b.front) ∙ b.clean) b.breaks;
            }))

-- A switch along walks: each trail keeps its pattern just where the marks along each whole walk, with all items of its last block, lead
-- from off to some state.
use Rattle.std.proofs.Common.{◌≡◌, ℕ, suc, ◌<◌, List, [], ◌∷◌, ◌++◌, length, take, drop, refl, sym, ap, ◌∙◌, subst, append_assoc, arith, take-append-drop}
use Rattle.std.specs.List.{flat_map}
use Rattle.std.proofs.lemmas.Grind.{flat_map-append}
use Rattle.std.proofs.lemmas.List.{append-nil, take_all}
use Rattle.sil_ast.specs.declared.place.EdgeId.{EdgeId}
use Rattle.sil_cfg.specs.Flow.{Flow, items_at}
use Rattle.sil_cfg.specs.Walk.{IsTrail, IsWalk, last_block, passed}
use Rattle.sil_cfg.proofs.Paths.{Trail-front, some_pushed}
use Rattle.reach_engine.specs.declared.scan.Step.{Step}
use Rattle.reach_engine.specs.declared.scan.Step.TheVariants.{Bad, Go}
use Rattle.reach_engine.specs.inner.Run.{run}
use Rattle.reach_engine.proofs.Runs.{bad_at, run-append, run_bad, run_join, run_split}
use Rattle.reach_engine_marks.specs.PathPatterns.Along.{IsKept, Shows}
use Rattle.reach_engine_marks.specs.PathPatterns.Lawful.{AreLawful}
use Rattle.reach_engine_marks.specs.PathPatterns.Switch.{IsInPlace, code_of}
use Rattle.reach_engine_marks.specs.declared.path_patterns.mark.Mark.{Mark}
use Rattle.reach_engine_marks.specs.PathPatterns.inner.Automaton.{mark_step}
use Rattle.reach_engine_marks.proofs.PathPatterns.PatternsDecided.{break_sound, lawful_read, read_lawful}
use Rattle.reach_engine_marks.proofs.PathPatterns.SwitchDecided.{switch_decides}

-- the marks take the switch's automaton from one state to another, and none breaks it
abbrev pub Turns : List Mark → ℕ → ℕ → Type 0
Turns marks s t = run mark_step (Go s) marks ≡ Go t

pub turns_join : (xs ys : List Mark) (s t u : ℕ) → Turns xs s t → Turns ys t u → Turns (xs ++ ys) s u
turns_join xs ys s t u a b = run_join mark_step (Go s) xs ys t (Go u) a b

pub turns_split : (xs ys : List Mark) (s u : ℕ) → Turns (xs ++ ys) s u → (t : ℕ) × Turns xs s t × Turns ys t u
turns_split xs ys s u h = run_split mark_step (Go s) xs ys u h

module _ {I : Type 0} (marks : I → List Mark) where
  -- so do the marks of items
  abbrev pub Leads : List I → ℕ → ℕ → Type 0
  Leads items s t = Turns (flat_map marks items) s t

  pub leads_join : (xs ys : List I) (s t u : ℕ) → Leads xs s t → Leads ys t u → Leads (xs ++ ys) s u
  leads_join xs ys s t u a b = ap (run mark_step (Go s)) (flat_map-append marks xs ys) ∙ turns_join (flat_map marks xs) (flat_map marks ys) s t u a b

  pub leads_split : (xs ys : List I) (s u : ℕ) → Leads (xs ++ ys) s u → (t : ℕ) × Leads xs s t × Leads ys t u
  leads_split xs ys s u h = turns_split (flat_map marks xs) (flat_map marks ys) s u (sym (ap (run mark_step (Go s)) (flat_map-append marks xs ys)) ∙ h)

  module _ (g : Flow I) where
    -- all items met along a walk, with those of its last block
    abbrev pub whole : List EdgeId → List I
    whole w = passed g w ++ items_at g (last_block g w)

    pub kept_leads : IsKept g marks IsInPlace → (w : List EdgeId) → IsWalk g w → (t : ℕ) × Leads (whole w) 0 t
    kept_leads kept w walk = at (whole w) refl
      where
        at : (xs : List I) → whole w ≡ xs → (t : ℕ) × Leads (whole w) 0 t
        at [] e = (0, ap (λ xs. run mark_step (Go 0) (flat_map marks xs)) e)
        at (x ∷ xs) e =
            let some : 0 < length (whole w) = let n : length (whole w) ≡ suc (length xs) = ap length e in omega arith in
            let trail : IsTrail g w (whole w) = record {
              walk = walk;
              begun = some;
              count = length (items_at g (last_block g w));
              items = ap (λ v. passed g w ++ v) (sym (take_all (length (items_at g (last_block g w))) (items_at g (last_block g w)) (omega arith)));
            } in
            lawful_read mark_step IsInPlace code_of switch_decides (flat_map marks (whole w)) (kept w (whole w) trail)

    pub leads_kept : ((w : List EdgeId) → IsWalk g w → (t : ℕ) × Leads (whole w) 0 t) → IsKept g marks IsInPlace
    leads_kept all w trail h =
        let a = all w h.walk in
        let own : List I = items_at g (last_block g w) in
        let parts : whole w ≡ trail ++ drop h.count own =
        ap (λ v. passed g w ++ v) (sym (take-append-drop h.count own)) ∙ sym (append_assoc (passed g w) (take h.count own) (drop h.count own)) ∙ ap (λ v. v ++ drop h.count own) (sym h.items) in
        let front = leads_split trail (drop h.count own) 0 a.0 (ap (λ xs. run mark_step (Go 0) (flat_map marks xs)) (sym parts) ∙ a.1) in
        read_lawful mark_step IsInPlace code_of switch_decides (flat_map marks trail) front.0 front.1

    -- ---- where nothing is shown

    abbrev steps : ℕ → I → Step
    steps s i = run mark_step (Go s) (marks i)

    trail_marks : (r : Step) (t : List I) → run steps r t ≡ run mark_step r (flat_map marks t)
    trail_marks r [] = refl
    trail_marks (Go s) (i ∷ t) = trail_marks (steps s i) t ∙ sym (run-append mark_step (Go s) (marks i) (flat_map marks t))
    trail_marks (Bad c) (i ∷ t) =
        trail_marks (Bad c) t ∙ ap (λ r. run mark_step r (flat_map marks t)) (sym (run_bad mark_step c (marks i)))
        ∙ sym (run-append mark_step (Bad c) (marks i) (flat_map marks t))

    pub unshown_kept : ((w : List EdgeId) (code : ℕ) (i : I) → Shows g marks IsInPlace code_of w code i → ⊥) → IsKept g marks IsInPlace
    unshown_kept none w t trail = at (run steps (Go 0) t) refl
      where
        at : (x : Step) → run steps (Go 0) t ≡ x → AreLawful IsInPlace (flat_map marks t)
        at (Go s) e = read_lawful mark_step IsInPlace code_of switch_decides (flat_map marks t) s (sym (trail_marks (Go 0) t) ∙ e)
        at (Bad c) e =
            let b = bad_at steps 0 t c e in
            let parts : t ≡ (b.front ++ b.here ∷ []) ++ b.rest = b.parts ∙ sym (append_assoc b.front (b.here ∷ []) b.rest) in
            let front = Trail-front g w (b.front ++ b.here ∷ []) b.rest (some_pushed b.front b.here) (subst (IsTrail g w) parts trail) in
            let breaks = break_sound mark_step IsInPlace code_of switch_decides (flat_map marks b.front) (marks b.here) b.state c (sym (trail_marks (Go 0) b.front) ∙ b.clean) b.breaks in
            absurd (none front.0 c b.here (record { before = b.front; trail = front.1; breaks = breaks }))

    pub kept_unshown : IsKept g marks IsInPlace → (w : List EdgeId) (code : ℕ) (i : I) → Shows g marks IsInPlace code_of w code i → ⊥
    kept_unshown all w code i h =
        let b = h.breaks in
        let parts : flat_map marks (h.before ++ i ∷ []) ≡ (flat_map marks h.before ++ b.front) ++ b.mark ∷ b.rest =
        flat_map-append marks h.before (i ∷ []) ∙ ap (λ v. flat_map marks h.before ++ v) (append-nil (marks i) ∙ b.parts)
        ∙ sym (append_assoc (flat_map marks h.before) b.front (b.mark ∷ b.rest)) in
        b.out_of_place (all w (h.before ++ i ∷ []) h.trail (flat_map marks h.before ++ b.front) b.rest b.mark parts)

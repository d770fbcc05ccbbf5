-- Where no walk of a function shows a break of a switch, each trail keeps its pattern, and the other way round.
use Rattle.std.proofs.Common.{◌≡◌, ℕ, List, [], ◌∷◌, ◌++◌, refl, sym, ap, ◌∙◌, subst, append_assoc}
use Rattle.std.specs.List.{flat_map}
use Rattle.std.proofs.lemmas.List.{append-nil}
use Rattle.std.proofs.lemmas.Grind.{flat_map-append}
use Rattle.sil_ast.specs.declared.place.EdgeId.{EdgeId}
use Rattle.sil_ast.specs.declared.function.Function.{Function}
use Rattle.sil_cfg.specs.declared.item.Item.{Item}
use Rattle.sil_cfg.specs.Items.{flow_of}
use Rattle.sil_cfg.specs.Walk.{IsTrail}
use Rattle.sil_cfg.proofs.Paths.{Trail-front, some_pushed}
use Rattle.reach_engine.specs.declared.scan.Step.{Step}
use Rattle.reach_engine.specs.declared.scan.Step.TheVariants.{Go, Bad}
use Rattle.reach_engine.specs.inner.Run.{run}
use Rattle.reach_engine.proofs.Runs.{bad_at, run-append, run_bad}
use Rattle.reach_engine_marks.specs.PathPatterns.Along.{IsKept, Shows}
use Rattle.reach_engine_marks.specs.PathPatterns.Lawful.{AreLawful}
use Rattle.reach_engine_marks.specs.PathPatterns.Switch.{IsInPlace, code_of}
use Rattle.reach_engine_marks.specs.declared.path_patterns.mark.Mark.{Mark}
use Rattle.reach_engine_marks.specs.PathPatterns.inner.Automaton.{mark_step}
use Rattle.reach_engine_marks.proofs.PathPatterns.PatternsDecided.{break_sound, read_lawful}
use Rattle.reach_engine_marks.proofs.PathPatterns.SwitchDecided.{switch_decides}

module _ (f : Function) (marks : Item → List Mark) where
  abbrev steps : ℕ → Item → Step
  steps s item = run mark_step (Go s) (marks item)

  trail_marks : (r : Step) (t : List Item) → run steps r t ≡ run mark_step r (flat_map marks t)
  trail_marks r [] = refl
  trail_marks (Go s) (i ∷ t) = trail_marks (steps s i) t ∙ sym (run-append mark_step (Go s) (marks i) (flat_map marks t))
  trail_marks (Bad c) (i ∷ t) =
      trail_marks (Bad c) t ∙ ap (λ r. run mark_step r (flat_map marks t)) (sym (run_bad mark_step c (marks i))) ∙ sym (run-append mark_step (Bad c) (marks i) (flat_map marks t))

  pub kept : ((w : List EdgeId) (code : ℕ) (item : Item) → Shows (flow_of f) marks IsInPlace code_of w code item → ⊥) → IsKept (flow_of f) marks IsInPlace
  kept none w t trail = at (run steps (Go 0) t) refl
    where
      at : (x : Step) → run steps (Go 0) t ≡ x → AreLawful IsInPlace (flat_map marks t)
      at (Go s) e = read_lawful mark_step IsInPlace code_of switch_decides (flat_map marks t) s (sym (trail_marks (Go 0) t) ∙ e)
      at (Bad c) e =
          let b = bad_at steps 0 t c e in
          let parts : t ≡ (b.front ++ b.here ∷ []) ++ b.rest = b.parts ∙ sym (append_assoc b.front (b.here ∷ []) b.rest) in
          let front = Trail-front (flow_of f) w (b.front ++ b.here ∷ []) b.rest (some_pushed b.front b.here) (subst (IsTrail (flow_of f) w) parts trail) in
          let breaks = break_sound mark_step IsInPlace code_of switch_decides (flat_map marks b.front) (marks b.here) b.state c (sym (trail_marks (Go 0) b.front) ∙ b.clean) b.breaks in
          absurd (none front.0 c b.here (record { before = b.front; trail = front.1; breaks = breaks }))

  pub unkept : (w : List EdgeId) (code : ℕ) (item : Item) → Shows (flow_of f) marks IsInPlace code_of w code item → IsKept (flow_of f) marks IsInPlace → ⊥
  unkept w code item h all =
      let b = h.breaks in
      let parts : flat_map marks (h.before ++ item ∷ []) ≡ (flat_map marks h.before ++ b.front) ++ b.mark ∷ b.rest =
      flat_map-append marks h.before (item ∷ []) ∙ ap (λ v. flat_map marks h.before ++ v) (append-nil (marks item) ∙ b.parts)
      ∙ sym (append_assoc (flat_map marks h.before) b.front (b.mark ∷ b.rest)) in
      b.out_of_place (all w (h.before ++ item ∷ []) h.trail (flat_map marks h.before ++ b.front) b.rest b.mark parts)

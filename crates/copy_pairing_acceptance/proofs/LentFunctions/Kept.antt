-- What no walk breaks each trail keeps, and the other way round; and what is quiet on a function is quiet where a copy of it is lent.
use Rattle.std.proofs.Common.{◌≡◌, ℕ, List, [], ◌∷◌, ◌++◌, refl, sym, ap, ◌∙◌, subst, append_assoc}
use Rattle.std.specs.List.{flat_map}
use Rattle.std.proofs.lemmas.List.{append-nil}
use Rattle.std.proofs.lemmas.Grind.{flat_map-append}
use Rattle.sil_ast.specs.declared.place.EdgeId.{EdgeId}
use Rattle.sil_ast.specs.declared.place.PointId.{PointId}
use Rattle.sil_ast.specs.declared.place.ValueId.{ValueId}
use Rattle.sil_ast.specs.declared.function.Function.{Function}
use Rattle.sil_cfg.specs.declared.item.Item.{Item}
use Rattle.sil_cfg.specs.Flow.{point_of}
use Rattle.sil_cfg.specs.Items.{flow_of}
use Rattle.sil_cfg.specs.Walk.{IsTrail}
use Rattle.sil_cfg.proofs.Paths.{Trail-front, some_pushed}
use Rattle.sil_rules.specs.Rules.{index_of}
use Rattle.sil_rules.specs.declared.rule.Rule.{Rule}
use Rattle.reach_engine.specs.declared.scan.Step.{Step}
use Rattle.reach_engine.specs.declared.scan.Step.TheVariants.{Go, Bad}
use Rattle.reach_engine.specs.inner.Run.{run}
use Rattle.reach_engine.proofs.Runs.{bad_at, run-append, run_bad}
use Rattle.reach_engine_marks.specs.PathChecks.First.{IsBreakShown}
use Rattle.reach_engine_marks.specs.PathPatterns.Along.{IsKept, Shows}
use Rattle.reach_engine_marks.specs.PathPatterns.Lawful.{AreLawful}
use Rattle.reach_engine_marks.specs.PathPatterns.Switch.{IsInPlace, code_of}
use Rattle.reach_engine_marks.specs.declared.path_patterns.mark.Mark.{Mark}
use Rattle.reach_engine_marks.specs.PathPatterns.inner.Automaton.{mark_step}
use Rattle.reach_engine_marks.proofs.PathPatterns.PatternsDecided.{break_sound, read_lawful}
use Rattle.reach_engine_marks.proofs.PathPatterns.SwitchDecided.{switch_decides}
use Rattle.copy_pairing_model.specs.Rewritten.{lent}
use Rattle.copy_pairing_acceptance.proofs.LentFunctions.Graph.{flow_lent}
use Rattle.copy_pairing_acceptance.proofs.LentFunctions.Lists.{nothing_in}

-- no walk of the function shows a break of these marks
abbrev pub IsQuiet : Function → (Item → List Mark) → Type 0
IsQuiet f marks = (rule : Rule) (walk : List EdgeId) (point : PointId) (item : Item) → IsBreakShown f marks rule walk point item → ⊥

module _ (f : Function) (marks : Item → List Mark) where
  abbrev steps : ℕ → Item → Step
  steps s item = run mark_step (Go s) (marks item)

  trail_marks : (r : Step) (t : List Item) → run steps r t ≡ run mark_step r (flat_map marks t)
  trail_marks r [] = refl
  trail_marks (Go s) (i ∷ t) = trail_marks (steps s i) t ∙ sym (run-append mark_step (Go s) (marks i) (flat_map marks t))
  trail_marks (Bad c) (i ∷ t) =
      trail_marks (Bad c) t ∙ ap (λ r. run mark_step r (flat_map marks t)) (sym (run_bad mark_step c (marks i))) ∙ sym (run-append mark_step (Bad c) (marks i) (flat_map marks t))

  kept : ((w : List EdgeId) (code : ℕ) (item : Item) → Shows (flow_of f) marks IsInPlace code_of w code item → ⊥) → IsKept (flow_of f) marks IsInPlace
  kept none w t trail = at (run steps (Go 0) t) refl
    where
      at : (x : Step) → run steps (Go 0) t ≡ x → AreLawful IsInPlace (flat_map marks t)
      at (Go s) e = read_lawful mark_step IsInPlace code_of switch_decides (flat_map marks t) s (sym (trail_marks (Go 0) t) ∙ e)
      at (Bad c) e =
          let b = bad_at steps 0 t c e in
          let parts : t ≡ (b.front ++ b.here ∷ []) ++ b.rest = b.parts ∙ sym (append_assoc b.front (b.here ∷ []) b.rest) in
          let front = Trail-front (flow_of f) w (b.front ++ b.here ∷ []) b.rest (some_pushed b.front b.here) (subst (IsTrail (flow_of f) w) parts trail) in
          let breaks = break_sound mark_step IsInPlace code_of switch_decides (flat_map marks b.front) (marks b.here) b.state c (sym (trail_marks (Go 0) b.front) ∙ b.clean) b.breaks in
          absurd (none front.0 c b.here (record { before = b.front; trail = front.1; breaks = breaks }))

  unkept : (w : List EdgeId) (code : ℕ) (item : Item) → Shows (flow_of f) marks IsInPlace code_of w code item → IsKept (flow_of f) marks IsInPlace → ⊥
  unkept w code item h all =
      let b = h.breaks in
      let parts : flat_map marks (h.before ++ item ∷ []) ≡ (flat_map marks h.before ++ b.front) ++ b.mark ∷ b.rest =
      flat_map-append marks h.before (item ∷ []) ∙ ap (λ v. flat_map marks h.before ++ v) (append-nil (marks item) ∙ b.parts)
      ∙ sym (append_assoc (flat_map marks h.before) b.front (b.mark ∷ b.rest)) in
      b.out_of_place (all w (h.before ++ item ∷ []) h.trail (flat_map marks h.before ++ b.front) b.rest b.mark parts)

  -- a trail keeps what is quiet
  pub quiet_kept : IsQuiet f marks → IsKept (flow_of f) marks IsInPlace
  quiet_kept quiet =
      kept (λ w code item shown. quiet shown.breaks.mark.rule w (point_of (flow_of f) item) item
      (record { point_is = refl; shows = subst (λ k. Shows (flow_of f) marks IsInPlace code_of w k item) shown.breaks.code_is shown }))

  pub kept_quiet : IsKept (flow_of f) marks IsInPlace → IsQuiet f marks
  kept_quiet all rule walk point item h = unkept walk (index_of rule) item h.shows all

  -- nothing is shown of what has no marks
  pub none_quiet : ((item : Item) → marks item ≡ []) → IsQuiet f marks
  none_quiet none rule walk point item h = let b = h.shows.breaks in nothing_in b.front b.rest b.mark (sym (none item) ∙ b.parts)

module _ (c : ValueId) (f : Function) (lent_marks marks : Item → List Mark) (same : (item : Item) → lent_marks item ≡ marks item) where
  pub quiet_lent : IsQuiet f marks → IsQuiet (lent c f) lent_marks
  quiet_lent quiet rule walk point item h =
      quiet rule walk point item
      (record {
        point_is = h.point_is ∙ ap (λ g. point_of g item) (flow_lent c f);
        shows = subst (λ (ms : Item → List Mark). Shows (flow_of f) ms IsInPlace code_of walk (index_of rule) item) (λ i x. same x i)
            (subst (λ g. Shows g lent_marks IsInPlace code_of walk (index_of rule) item) (flow_lent c f) h.shows);
      })

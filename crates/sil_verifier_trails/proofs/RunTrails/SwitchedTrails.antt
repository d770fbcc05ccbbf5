-- A switch that no walk shows broken is followed along every run trail.
use Rattle.std.proofs.Common.{◌≡◌, ℕ, List, [], ◌∷◌, ◌++◌, reverse, refl, sym, ap, ◌∙◌, subst, Bool, true, false, Option, Some, None}
use Rattle.std.specs.Prelude.{◌↔◌, cond, flat_map, option_and_then, unwrap_or}
use Rattle.std.proofs.lemmas.Grind.{flat_map-append}
use Rattle.std.proofs.lemmas.Bool.{false≢true}
use Rattle.std.proofs.lemmas.List.{append-nil, reverse-append}
use Rattle.std.proofs.lemmas.Option.{none-some, same_Some}
use Rattle.sil_ast.specs.declared.function.Function.{Function}
use Rattle.sil_rules.specs.declared.rule.Rule.TheVariants as rule
use Rattle.sil_cfg.specs.Flow.{point_of}
use Rattle.sil_cfg.specs.Items.{flow_of}
use Rattle.sil_cfg.specs.declared.item.Item.{Item}
use Rattle.reach_engine.specs.declared.scan.Step.{Step}
use Rattle.reach_engine.specs.declared.scan.Step.TheVariants.{Bad, Go}
use Rattle.reach_engine.specs.inner.Run.{run}
use Rattle.reach_engine.proofs.Runs.{run-append, run_bad}
use Rattle.sil_verifier_values.specs.reach_engine_marks.PathPatterns.Lawful.{FirstBreak}
use Rattle.sil_verifier_values.specs.reach_engine_marks.PathPatterns.Marks.{needs_on}
use Rattle.sil_verifier_values.specs.reach_engine_marks.PathPatterns.Switch.{IsInPlace, IsOn, code_of}
use Rattle.sil_verifier_values.specs.reach_engine_marks.declared.path_patterns.mark.Mark.{Mark}
use Rattle.sil_verifier_values.specs.reach_engine_marks.PathPatterns.inner.Automaton.{fits, mark_step, turned}
use Rattle.sil_verifier_values.proofs.reach_engine_marks.PathPatterns.PatternsDecided.{break_sound}
use Rattle.sil_verifier_values.proofs.reach_engine_marks.PathPatterns.SwitchDecided.{switch_decides}
use Rattle.sil_verifier_trails.specs.RunTrails.inner.RunTrails.{IsTurnedTrail}
use Rattle.sil_verifier_trails.specs.RunTrails.inner.Switched.{IsFollowed, IsUnbroken, finds, switched, switched_by, switched_over}
use Rattle.sil_verifier_trails.specs.RunTrails.inner.Laws.{AreFollowed, AreFollowedTurned, AreOnWhereTurned}
use Rattle.sil_verifier_trails.proofs.RunTrails.RunPaths.{are_trails}
use Rattle.sil_verifier_trails.proofs.RunTrails.TurnedTrails.{turned_older}

-- the automaton's states
abbrev state_of : Bool → ℕ
state_of false = 0
state_of true = 1

-- the automaton comes to the state that the switch is left in, and is broken where that is
abbrev AreLeft : Option Bool → Step → Type 0
AreLeft None (Go s) = ⊥
AreLeft None (Bad code) = Unit {0}
AreLeft (Some on) (Go s) = s ≡ state_of on
AreLeft (Some on) (Bad code) = ⊥

turned_left : (turns : Option Bool) (on : Bool) → turned (state_of on) turns ≡ state_of (unwrap_or turns on)
turned_left None on = refl
turned_left (Some true) on = refl
turned_left (Some false) on = refl

mark_left : (needs turns : Option Bool) (on : Bool) (mark : Mark) →
    AreLeft (cond (finds needs on) (Some (unwrap_or turns on)) None) (cond (fits (state_of on) needs) (Go (turned (state_of on) turns)) (Bad (code_of mark)))
mark_left None turns on mark = turned_left turns on
mark_left (Some true) turns true mark = turned_left turns true
mark_left (Some true) turns false mark = tt
mark_left (Some false) turns true mark = tt
mark_left (Some false) turns false mark = turned_left turns false

left_with : (marks : List Mark) → ((on : Bool) → AreLeft (switched_over marks on) (run mark_step (Go (state_of on)) marks)) →
    (o : Option Bool) (r : Step) → AreLeft o r → AreLeft (option_and_then (switched_over marks) o) (run mark_step r marks)
left_with marks from None (Go s) h = absurd h
left_with marks from None (Bad code) h = subst (AreLeft None) (sym (run_bad mark_step code marks)) tt
left_with marks from (Some on) (Go s) h = subst (λ s. AreLeft (switched_over marks on) (run mark_step (Go s) marks)) (sym h) (from on)
left_with marks from (Some on) (Bad code) h = absurd h

marks_left : (marks : List Mark) (on : Bool) → AreLeft (switched_over marks on) (run mark_step (Go (state_of on)) marks)
marks_left [] on = refl
marks_left (mark ∷ marks) on = left_with marks (marks_left marks) (switched_by mark on) (mark_step (state_of on) mark) (mark_left mark.needs mark.turns on mark)

left_at : (on : Bool) (o : Option Bool) (r : Step) → o ≡ Some on → AreLeft o r → r ≡ Go (state_of on)
left_at on None r e h = absurd (none-some on e)
left_at on (Some b) (Go s) e h = ap Go (h ∙ ap state_of (same_Some b on e))
left_at on (Some b) (Bad code) e h = absurd h

broken_at : (o : Option Bool) (r : Step) → o ≡ None → AreLeft o r → (code : ℕ) × (r ≡ Bad code)
broken_at None (Go s) e h = absurd h
broken_at None (Bad code) e h = (code, refl)
broken_at (Some on) r e h = absurd (none-some on (sym e))

module _ (marks : Item → List Mark) where
  -- the marks along a trail, the oldest first
  abbrev along : List Item → List Mark
  along t = flat_map marks (reverse t)

  along_next : (i : Item) (t : List Item) → along (i ∷ t) ≡ along t ++ marks i
  along_next i t =
      ap (flat_map marks) (reverse-append (i ∷ []) t) ∙ flat_map-append marks (reverse t) (i ∷ [])
      ∙ ap (λ v. along t ++ v) (append-nil (marks i))

  run_next : (i : Item) (t : List Item) → run mark_step (Go 0) (along (i ∷ t)) ≡ run mark_step (run mark_step (Go 0) (along t)) (marks i)
  run_next i t = ap (run mark_step (Go 0)) (along_next i t) ∙ run-append mark_step (Go 0) (along t) (marks i)

  trail_left : (t : List Item) → AreLeft (switched marks t) (run mark_step (Go 0) (along t))
  trail_left [] = refl
  trail_left (i ∷ t) =
      subst (AreLeft (switched marks (i ∷ t))) (sym (run_next i t))
      (left_with (marks i) (marks_left (marks i)) (switched marks t) (run mark_step (Go 0) (along t)) (trail_left t))

  module _ (f : Function) (unbroken : IsUnbroken f marks) where
    not_broken : (t : List Item) (i : Item) → IsTurnedTrail f (i ∷ t) → IsFollowed marks t → switched marks (i ∷ t) ≡ None → ⊥
    not_broken t i trail was e =
        let before = left_at was.0 (switched marks t) (run mark_step (Go 0) (along t)) was.1 (trail_left t) in
        let bad = broken_at (switched marks (i ∷ t)) (run mark_step (Go 0) (along (i ∷ t))) e (trail_left (i ∷ t)) in
        let here : run mark_step (Go (state_of was.0)) (marks i) ≡ Bad bad.0 = ap (λ r. run mark_step r (marks i)) (sym before) ∙ sym (run_next i t) ∙ bad.1 in
        let breaks = break_sound mark_step IsInPlace code_of switch_decides (along t) (marks i) (state_of was.0) bad.0 before here in
        unbroken breaks.mark.rule trail.0 (point_of (flow_of f) i) i (record {
          point_is = refl;
          shows = record { before = reverse t; trail = trail.1; breaks = subst (FirstBreak IsInPlace code_of (along t) (marks i)) breaks.code_is breaks };
        })

    followed : (t : List Item) → IsTurnedTrail f t → IsFollowed marks t
    followed [] h = (false, refl)
    followed (i ∷ t) h = at (switched marks (i ∷ t)) refl (followed t (turned_older f i t h))
      where
        at : (o : Option Bool) → switched marks (i ∷ t) ≡ o → IsFollowed marks t → IsFollowed marks (i ∷ t)
        at (Some on) e was = (on, e)
        at None e was = absurd (not_broken t i h was e)

  on_in : (t : List Item) (on : Bool) → switched marks t ≡ Some on → run mark_step (Go 0) (along t) ≡ Go (state_of on)
  on_in t on e = left_at on (switched marks t) (run mark_step (Go 0) (along t)) e (trail_left t)

  -- a mark that needs the switch on is in place, or isn't
  pub turned_on : (t : List Item) (on : Bool) → switched marks t ≡ Some on → IsOn (along t) ↔ (switched marks t ≡ Some true)
  turned_on t true e = (λ _. e, λ _. switch_decides (along t) 1 (needs_on rule.Undefined) (on_in t true e))
  turned_on t false e = (λ h. absurd ((switch_decides (along t) 0 (needs_on rule.Undefined) (on_in t false e)).0 h), λ d. absurd (false≢true (same_Some false true (sym e ∙ d))))

pub followed_turned : AreFollowedTurned
followed_turned f marks unbroken t h = followed marks f unbroken t h

pub are_followed : AreFollowed
are_followed f once marks unbroken t h = followed_turned f marks unbroken t (are_trails f once t h)

pub are_on_where_turned : AreOnWhereTurned
are_on_where_turned marks t h = turned_on marks t h.0 h.1

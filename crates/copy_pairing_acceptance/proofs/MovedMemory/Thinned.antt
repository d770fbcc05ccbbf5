-- Marks of which some that turn nothing are left out: what was lawful stays so.
use Rattle.std.proofs.Common.{◌≡◌, ℕ, List, [], ◌∷◌, ◌++◌, sym, ap, ◌∙◌, subst, None}
use Rattle.reach_engine.specs.declared.scan.Step.TheVariants.{Go}
use Rattle.reach_engine.specs.inner.Run.{run}
use Rattle.reach_engine.proofs.Runs.{run_split}
use Rattle.reach_engine_marks.specs.PathPatterns.Lawful.{AreLawful}
use Rattle.reach_engine_marks.specs.PathPatterns.Switch.{IsInPlace, code_of}
use Rattle.reach_engine_marks.specs.declared.path_patterns.mark.Mark.{Mark}
use Rattle.reach_engine_marks.specs.PathPatterns.inner.Automaton.{mark_step, turned}
use Rattle.reach_engine_marks.proofs.PathPatterns.PatternsDecided.{lawful_read, read_lawful}
use Rattle.reach_engine_marks.proofs.PathPatterns.SwitchDecided.{step_goes, switch_decides}
use Rattle.numbered_form.specs.Lists.{Each}

abbrev pub TurnsNothing : Mark → Type 0
TurnsNothing m = m.turns ≡ None

-- the second list is the first one without some marks that turn nothing
pub data Thinned : List Mark → List Mark → Type 0 where
  none : Thinned [] []
  kept : {old new : List Mark} (m : Mark) → Thinned old new → Thinned (m ∷ old) (m ∷ new)
  gone : {old new : List Mark} (m : Mark) → TurnsNothing m → Thinned old new → Thinned (m ∷ old) new

pub all_kept : (marks : List Mark) → Thinned marks marks
all_kept [] = none
all_kept (m ∷ marks) = kept m (all_kept marks)

pub same_kept : (old new : List Mark) → new ≡ old → Thinned old new
same_kept old new e = subst (Thinned old) (sym e) (all_kept old)

pub none_kept : (marks : List Mark) → Each TurnsNothing marks → Thinned marks []
none_kept [] h = none
none_kept (m ∷ marks) h = gone m h.0 (none_kept marks h.1)

pub both_thinned : {a b c d : List Mark} → Thinned a b → Thinned c d → Thinned (a ++ c) (b ++ d)
both_thinned none k = k
both_thinned (kept m h) k = kept m (both_thinned h k)
both_thinned (gone m e h) k = gone m e (both_thinned h k)

-- the automaton comes to the same state
thinned_read : {old new : List Mark} → Thinned old new → (s t : ℕ) → run mark_step (Go s) old ≡ Go t → run mark_step (Go s) new ≡ Go t
thinned_read none s t e = e
thinned_read (kept {old} {new} m h) s t e =
    let r = run_split mark_step (Go s) (m ∷ []) old t e in
    ap (λ x. run mark_step x new) r.1 ∙ thinned_read h r.0 t r.2
thinned_read (gone {old} {new} m quiet h) s t e =
    let r = run_split mark_step (Go s) (m ∷ []) old t e in
    let same : r.0 ≡ s = step_goes s m r.0 r.1 ∙ ap (turned s) quiet in
    thinned_read h s t (subst (λ u. run mark_step (Go u) old ≡ Go t) same r.2)

pub thinned_lawful : {old new : List Mark} → Thinned old new → AreLawful IsInPlace old → AreLawful IsInPlace new
thinned_lawful {old} {new} h lawful =
    let r = lawful_read mark_step IsInPlace code_of switch_decides old lawful in
    read_lawful mark_step IsInPlace code_of switch_decides new r.0 (thinned_read h 0 r.0 r.1)

-- Entries of other subjects are nothing to a subject.
use Rattle.std.proofs.Common.{◌≡◌, ℕ, List, [], ◌∷◌, refl, ap, ◌∙◌, Bool, true, false, Some, None, eq-eqb}
use Rattle.std.specs.Prelude.{All, ◌==◌, cond}
use Rattle.std.proofs.lemmas.Bool.{eqb-true}
use Rattle.std.proofs.lemmas.List.Elements.{All-head, All-tail}
use Rattle.reach_engine.specs.declared.scan.Step.TheVariants.{Go}
use Rattle.reach_engine.specs.inner.Run.{run}
use Rattle.reach_engine_marks.specs.PathPatterns.inner.Reads.{read_step, step_in}
use Rattle.reach_engine_marks.specs.PathPatterns.inner.Automaton.{mark_step}
use Rattle.reach_engine_marks.specs.declared.path_checks.entry.Entry.{Entry}
use Rattle.reach_engine_marks.specs.PathChecks.Entries.{means}

pub no_mark : (subject : ℕ) (e : Entry) → (e.subject ≡ subject → ⊥) → means subject e ≡ None
no_mark subject e other = at (e.subject == subject) refl
  where
    at : (b : Bool) → (e.subject == subject) ≡ b → means subject e ≡ None
    at true q = absurd (other (eqb-true e.subject subject q))
    at false q = ap (λ b. cond b (Some e.mark) None) q

pub own_mark : (subject : ℕ) (e : Entry) → e.subject ≡ subject → means subject e ≡ Some e.mark
own_mark subject e same = ap (λ b. cond b (Some e.mark) None) (eq-eqb e.subject subject same)

pub quiet_run : (subject s : ℕ) (entries : List Entry) → All (λ e. e.subject ≡ subject → ⊥) entries → run (read_step mark_step (means subject)) (Go s) entries ≡ Go s
quiet_run subject s [] h = refl
quiet_run subject s (e ∷ entries) h =
    ap (λ o. run (read_step mark_step (means subject)) (step_in mark_step s o) entries) (no_mark subject e (All-head (λ (x : Entry). x.subject ≡ subject → ⊥) e entries h))
    ∙ quiet_run subject s entries (All-tail (λ (x : Entry). x.subject ≡ subject → ⊥) e entries h)

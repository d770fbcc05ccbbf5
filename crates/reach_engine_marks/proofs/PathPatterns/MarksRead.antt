-- An automaton that reads accesses runs as over their marks.
use Rattle.std.proofs.Common.{◌≡◌, ℕ, List, [], ◌∷◌, refl, ap, ◌∙◌, Option, Some, None}
use Rattle.std.specs.Prelude.{filter_map}
use Rattle.std.specs.List.{cons_option}
use Rattle.reach_engine.specs.declared.scan.Step.{Step}
use Rattle.reach_engine.specs.declared.scan.Step.TheVariants.{Go, Bad}
use Rattle.reach_engine.specs.inner.Run.{run, after}
use Rattle.reach_engine_marks.specs.PathPatterns.inner.Reads.{step_in, read_step}

module _ {A M : Type 0} (step : ℕ → M → Step) (means : A → Option M) where
  read_one : (r : Step) (o : Option M) (x : A) (marks : List M) → means x ≡ o → run step (after (read_step step means) r x) marks ≡ run step r (cons_option o marks)
  read_one (Bad c) None x marks e = refl
  read_one (Bad c) (Some mark) x marks e = refl
  read_one (Go s) None x marks e = ap (λ o. run step (step_in step s o) marks) e
  read_one (Go s) (Some mark) x marks e = ap (λ o. run step (step_in step s o) marks) e

  -- a run over accesses is one over their marks
  pub read_run : (r : Step) (accesses : List A) → run (read_step step means) r accesses ≡ run step r (filter_map means accesses)
  read_run r [] = refl
  read_run r (x ∷ accesses) = read_run (after (read_step step means) r x) accesses ∙ read_one r (means x) x (filter_map means accesses) refl

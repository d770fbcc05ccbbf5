-- An automaton that decides a pattern.
use Rattle.std.specs.Prelude.{◌≡◌, ℕ, List}
use Rattle.reach_engine.specs.declared.scan.Step.{Step}
use Rattle.reach_engine.specs.declared.scan.Step.TheVariants.{Go, Bad}
use Rattle.reach_engine.specs.inner.Run.{run}

-- the step goes on where the mark is in place, and else breaks with the mark's code
abbrev pub Judges : Step → Type 0 → ℕ → Type 0
Judges (Go t) P code = P
Judges (Bad c) P code = (P → ⊥) × (c ≡ code)

-- in the state that the marks lead to, each further mark is judged as the pattern does
abbrev pub Decides : {M : Type 0} → (ℕ → M → Step) → (List M → M → Type 0) → (M → ℕ) → Type 0
Decides {M} step InPlace code_of =
    (marks : List M) (s : ℕ) (mark : M) → run step (Go 0) marks ≡ Go s → Judges (step s mark) (InPlace marks mark) (code_of mark)

-- all marks of an item
abbrev pub item_step : {M : Type 0} → (ℕ → M → Step) → (ℕ → List M) → ℕ → ℕ → Step
item_step step marks s i = run step (Go s) (marks i)

-- Which subjects some walk brings to a mark that breaks them.
use Rattle.std.specs.Prelude.{◌≡◌, ◌↔◌, ◌⊎◌, ℕ, ◌+◌, ◌<◌, List, slice_index_or, Bool, true, false}
use Rattle.sil_cfg.specs.Flow.{Flow, items_at}
use Rattle.reach_engine.specs.declared.scan.Step.{Step}
use Rattle.reach_engine.specs.declared.scan.Step.TheVariants.{Go}
use Rattle.reach_engine.specs.inner.Reached.{RowHas}
use Rattle.reach_engine.specs.inner.Run.{run}
use Rattle.reach_engine.specs.inner.Search.{IsClean}
use Rattle.reach_engine_marks.specs.declared.path_checks.entry.Entry.{Entry}
use Rattle.reach_engine_marks.specs.PathChecks.inner.Automata.{subject_step}

abbrev pub is_broken : List Bool → ℕ → Bool
is_broken broken u = slice_index_or broken u false

-- of `count` subjects from the first one on those are marked too of which this is so
abbrev pub AreMarked : ℕ → ℕ → (ℕ → Type 0) → List Bool → List Bool → Type 0
AreMarked first count IsSo old new = (v : ℕ) → (is_broken new v ≡ true) ↔ ((is_broken old v ≡ true) ⊎ ((u : ℕ) × (u < count) × (v ≡ first + u) × IsSo u))

-- the rows of the block have the subject in a state from which its items lead to state 2
pub record GoesBroken (g : Flow ℕ) (f : ℕ → ℕ → ℕ → Step) (width : ℕ) (words : List ℕ) (b u : ℕ) : Type 0 where
  pub state : ℕ
  pub within : state < 3
  pub there : RowHas words 3 width b state u
  pub runs : run (f u) (Go state) (items_at g b) ≡ Go 2

-- in one of the first blocks
pub record GoesBrokenBefore (g : Flow ℕ) (f : ℕ → ℕ → ℕ → Step) (width : ℕ) (words : List ℕ) (end u : ℕ) : Type 0 where
  pub block : ℕ
  pub before : block < end
  pub goes : GoesBroken g f width words block u

-- of `count` subjects from the first one on those are marked too that some walk breaks
pub record AreBroken (g : Flow ℕ) (entries : ℕ → List Entry) (first count : ℕ) (old new : List Bool) : Type 0 where
  pub kept : (v : ℕ) → is_broken old v ≡ true → is_broken new v ≡ true
  pub reached : (v : ℕ) → is_broken new v ≡ true
      → (is_broken old v ≡ true) ⊎ ((u : ℕ) × (u < count) × (v ≡ first + u) × (IsClean g (subject_step entries v) → ⊥))
  pub clean : (u : ℕ) → u < count → is_broken new (first + u) ≡ false → IsClean g (subject_step entries (first + u))

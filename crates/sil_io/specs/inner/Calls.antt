-- What one call of a source or a sink does with the reader or the writer below it.
use Rattle.std.specs.Prelude.{◌≡◌, ℕ, ◌≤◌, List, take}

-- one read gave these bytes, the first of those that it left in its buffer
abbrev pub ReadGave : {R : Type 0} → (R → List ℕ → List ℕ → ℕ → R → Type 0) → R → List ℕ → R → Type 0
ReadGave reads old bytes new = (before : List ℕ) × (after : List ℕ) × (n : ℕ) × reads old before after n new × (bytes ≡ take n after)

-- one read failed
abbrev pub ReadFailed : {R : Type 0} → (R → List ℕ → List ℕ → R → Type 0) → R → R → Type 0
ReadFailed failed old new = (before : List ℕ) × (after : List ℕ) × failed old before after new

-- one write was given the whole piece and took n bytes of it, at least one; then one flush went well
abbrev pub WritesAndFlushes : {W : Type 0} → (W → List ℕ → ℕ → W → Type 0) → (W → W → Type 0) → W → List ℕ → ℕ → W → Type 0
WritesAndFlushes {W} writes flushed old given n new = (between : W) × writes old given n between × (1 ≤ n) × flushed between new

-- one write was given the whole piece, and it failed, or took nothing, or one flush behind it failed
pub data Breaks {W : Type 0} (writes : W → List ℕ → ℕ → W → Type 0) (failed : W → List ℕ → W → Type 0) (flush_failed : W → W → Type 0)
    (old : W) (given : List ℕ) (new : W) : Type 0 where
  in_write : failed old given new → Breaks writes failed flush_failed old given new
  took_nothing : writes old given 0 new → Breaks writes failed flush_failed old given new
  in_flush : (between : W) (n : ℕ) → writes old given n between → 1 ≤ n → flush_failed between new → Breaks writes failed flush_failed old given new

-- How often a source or a sink failed.
use Rattle.std.specs.Prelude.{◌≡◌, ℕ, ◌+◌, ◌-◌, ◌^◌, ◌<◌, ◌⊎◌, min}

-- one more, up to `u64::MAX`
abbrev pub next_count : ℕ → ℕ
next_count n = min (n + 1) (2 ^ 64 - 1)

-- a call may have failed: the count rose, or it stands at `u64::MAX`
abbrev pub MayFail : ℕ → ℕ → Type 0
MayFail old new = (old < new) ⊎ (new ≡ 2 ^ 64 - 1)

-- a reader or a writer, and how many calls on it failed, up to `u64::MAX`
pub record Counted (T : Type 0) : Type 0 where
  pub inner : T
  pub faults : ℕ

-- What a source in memory shows, and what a call of it does.
use Rattle.std.specs.Prelude.{ℕ, Bool, List, ◌==◌, length, min, drop}
use Rattle.std.specs.List.{list_any}
use Rattle.sil_io.specs.Count.{next_count}

pub record SourceState : Type 0 where
  -- the bytes not yet given
  pub left : List ℕ
  -- the most bytes that a call gives
  pub piece : ℕ
  -- the numbers of the calls that fail, from 1
  pub fails : List ℕ
  -- how many calls were made, and how many of them failed, both up to `u64::MAX`
  pub calls : ℕ
  pub faults : ℕ

-- whether the next call fails
abbrev pub fails_next : SourceState → Bool
fails_next s = list_any (λ k. k == next_count s.calls) s.fails

-- how many bytes the next call gives where it does not fail, into this much room
abbrev pub next_given : SourceState → ℕ → ℕ
next_given s room = min room (min s.piece (length s.left))

-- after a call that gave n bytes
abbrev pub after_giving : SourceState → ℕ → SourceState
after_giving s n = record s { left = drop n s.left; calls = next_count s.calls }

-- after a call that failed
abbrev pub after_fault : SourceState → SourceState
after_fault s = record s { calls = next_count s.calls; faults = next_count s.faults }

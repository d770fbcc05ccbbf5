-- What a sink in memory shows, and what a call of it does.
use Rattle.std.specs.Prelude.{ℕ, Bool, List, ◌==◌, ◌||◌, ◌++◌, ◌-◌, length, min, nat_le}
use Rattle.std.specs.List.{list_any}
use Rattle.sil_io.specs.Count.{next_count}

pub record SinkState : Type 0 where
  -- the bytes that it holds, and how many it has room for in all
  pub held : List ℕ
  pub room : ℕ
  -- the most bytes that a call takes
  pub piece : ℕ
  -- the numbers of the calls that fail, from 1
  pub fails : List ℕ
  -- how many calls were made, and how many of them failed, both up to `u64::MAX`
  pub calls : ℕ
  pub faults : ℕ

-- whether the next call fails: it is to, or no room is left
abbrev pub refuses_next : SinkState → Bool
refuses_next s = list_any (λ k. k == next_count s.calls) s.fails || nat_le s.room (length s.held)

-- how many bytes the next call takes where it does not fail, of this many
abbrev pub next_taken : SinkState → ℕ → ℕ
next_taken s count = min count (min s.piece (s.room - length s.held))

-- after a call that took these bytes
abbrev pub after_taking : SinkState → List ℕ → SinkState
after_taking s bytes = record s { held = s.held ++ bytes; calls = next_count s.calls }

-- after a call that failed
abbrev pub after_refusal : SinkState → SinkState
after_refusal s = record s { calls = next_count s.calls; faults = next_count s.faults }

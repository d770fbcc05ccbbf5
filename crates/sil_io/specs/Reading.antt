-- What a reading to the end does to its source.
use Rattle.std.specs.Prelude.{◌≡◌, ℕ, ◌+◌, ◌<◌, ◌≤◌, List, [], ◌++◌, Option, length}
use Rattle.std.specs.Io.KnownBytes.{Consumes}
use Rattle.sil_io.specs.declared.reading.ReadEnd.{ReadEnd}
use Rattle.sil_io.specs.declared.reading.ReadEnd.TheVariants.{Fault, TooLong, Memory}
use Rattle.sil_io.specs.Count.{MayFail}

-- the bytes known to be left lost some at their front, and P holds of these
abbrev pub SomeTaken : Option (List ℕ) → Option (List ℕ) → (List ℕ → Type 0) → Type 0
SomeTaken old new P = (taken : List ℕ) × Consumes old new taken × P taken

-- the count of faults before and after a reading that ended so: only a fault lets it rise
abbrev pub CountAfter : ReadEnd → ℕ → ℕ → Type 0
CountAfter Fault old new = MayFail old new
CountAfter TooLong old new = new ≡ old
CountAfter Memory old new = new ≡ old

-- one take after another, each of which gave a byte or more, gave these bytes in all
pub data Gives {S : Type 0} (gave : S → List ℕ → S → Type 0) (old : S) : List ℕ → S → Type 0 where
  nothing : Gives gave old [] old
  piece : {bytes more : List ℕ} {between new : S} → Gives gave old bytes between → 0 < length more → gave between more new → Gives gave old (bytes ++ more) new

-- takes gave these bytes, and then one more take gave the end
abbrev pub GivesToEnd : {S : Type 0} → (S → List ℕ → S → Type 0) → S → List ℕ → S → Type 0
GivesToEnd {S} gave old bytes new = (between : S) × Gives gave old bytes between × gave between [] new

-- the takes of a reading that stopped before the end: how much they gave, and whether the last one failed
abbrev pub GivesUp : {S : Type 0} → (S → List ℕ → S → Type 0) → (S → S → Type 0) → ℕ → S → S → ReadEnd → Type 0
GivesUp {S} gave missed limit old new Fault = (taken : List ℕ) × (between : S) × (length taken ≤ limit) × Gives gave old taken between × missed between new
GivesUp {S} gave missed limit old new TooLong = (taken : List ℕ) × (length taken ≡ limit + 1) × Gives gave old taken new
GivesUp {S} gave missed limit old new Memory = (taken : List ℕ) × (length taken ≤ limit) × Gives gave old taken new

-- takes gave at most one byte past the limit, and none came behind the end or a fault
pub data TakesWithin {S : Type 0} (gave : S → List ℕ → S → Type 0) (missed : S → S → Type 0) (limit : ℕ) (old new : S) : Type 0 where
  stopped : (taken : List ℕ) → length taken ≤ limit + 1 → Gives gave old taken new → TakesWithin gave missed limit old new
  ended : (taken : List ℕ) → length taken ≤ limit → GivesToEnd gave old taken new → TakesWithin gave missed limit old new
  failed : (taken : List ℕ) (between : S) → length taken ≤ limit → Gives gave old taken between → missed between new → TakesWithin gave missed limit old new

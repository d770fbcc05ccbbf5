-- What a writing of some bytes does to its sink.
use Rattle.std.specs.Prelude.{ℕ, ◌+◌, List, drop}

-- one put after another, each of which was given all the bytes that were left, took the first n
pub data Puts {K : Type 0} (took : K → List ℕ → ℕ → K → Type 0) (bytes : List ℕ) (old : K) : ℕ → K → Type 0 where
  nothing : Puts took bytes old 0 old
  put : {n more : ℕ} {between new : K} → Puts took bytes old n between → took between (drop n bytes) more new → Puts took bytes old (n + more) new

-- puts took the first n bytes, and then one put of the others failed
abbrev pub PutsUntilRefused : {K : Type 0} → (K → List ℕ → ℕ → K → Type 0) → (K → List ℕ → K → Type 0) → K → List ℕ → ℕ → K → Type 0
PutsUntilRefused {K} took refused old bytes n new = (between : K) × Puts took bytes old n between × refused between (drop n bytes) new

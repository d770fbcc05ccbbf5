-- Where a subject's bits stand, and where they move.
use Rattle.std.specs.Prelude.{◌≡◌, ◌≢◌, ◌⊎◌, ℕ, ◌+◌, ◌*◌, ◌<◌, ◌≤◌, List}
use Rattle.reach_engine.specs.declared.scan.Step.{Step}
use Rattle.reach_engine.specs.declared.scan.Step.TheVariants.{Go, Bad}
use Rattle.reach_engine.specs.inner.Run.{run}
use Rattle.reach_engine.specs.inner.Bits.{bit_in}

-- where row r, of this many words, keeps its bit for subject u
abbrev pub cell : ℕ → ℕ → ℕ → ℕ
cell width r u = r * (64 * width) + u

-- row r has subject u
abbrev pub Has : List ℕ → ℕ → ℕ → ℕ → Type 0
Has words width r u = bit_in words (cell width r u) ≡ 1

-- the subject's bits are where its automaton goes over these items, from where they were
pub record Moved (f : ℕ → ℕ → Step) (states width u : ℕ) (items old new : List ℕ) : Type 0 where
  pub from : (t : ℕ) → t < states → Has new width t u → (s : ℕ) × (s < states) × Has old width s u × (run f (Go s) items ≡ Go t)
  pub to : (s t : ℕ) → s < states → Has old width s u → run f (Go s) items ≡ Go t → Has new width t u

-- the subject is marked as bad where it was, and where its automaton breaks at one of these items
pub record Blamed (f : ℕ → ℕ → Step) (states width u : ℕ) (items old before after : List ℕ) : Type 0 where
  pub from : bit_in after u ≡ 1 → (bit_in before u ≡ 1) ⊎ ((s : ℕ) × (code : ℕ) × (s < states) × Has old width s u × (run f (Go s) items ≡ Bad code))
  pub kept : bit_in before u ≡ 1 → bit_in after u ≡ 1
  pub to : (s code : ℕ) → s < states → Has old width s u → run f (Go s) items ≡ Bad code → bit_in after u ≡ 1

-- all other subjects' bits stay
abbrev pub OthersStay : ℕ → ℕ → ℕ → List ℕ → List ℕ → Type 0
OthersStay states width u old new = (s v : ℕ) → s < states → v < 64 * width → v ≢ u → bit_in new (cell width s v) ≡ bit_in old (cell width s v)

-- the step is taken: the subject is put into its new row, or marked as bad
abbrev pub Put : Step → ℕ → ℕ → List ℕ → List ℕ → List ℕ → List ℕ → Type 0
Put (Go t) width u old new before after = (bit_in new (cell width t u) ≡ 1) × ((j : ℕ) → j ≢ cell width t u → bit_in new j ≡ bit_in old j) × (after ≡ before)
Put (Bad code) width u old new before after = (new ≡ old) × (bit_in after u ≡ 1) × ((j : ℕ) → j ≢ u → bit_in after j ≡ bit_in before j)

-- every subject's bits are where its automaton goes over these items, and bits of no subject stay
pub record AllMoved (f : ℕ → ℕ → ℕ → Step) (states subjects width : ℕ) (items old new before after : List ℕ) : Type 0 where
  pub moved : (u : ℕ) → u < subjects → Moved (f u) states width u items old new
  pub blamed : (u : ℕ) → u < subjects → Blamed (f u) states width u items old before after
  pub unused : (s v : ℕ) → s < states → subjects ≤ v → v < 64 * width → bit_in new (cell width s v) ≡ bit_in old (cell width s v)
  pub unblamed : (v : ℕ) → subjects ≤ v → bit_in after v ≡ bit_in before v

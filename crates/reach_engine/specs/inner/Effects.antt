-- What a list of items makes of all subjects at once, as rows of bits.
use Rattle.std.specs.Prelude.{◌≡◌, ◌⊎◌, ◌↔◌, ℕ, ◌+◌, ◌*◌, ◌/◌, ◌%◌, ◌<◌, ◌≤◌, List, ◌++◌, length, min, max}
use Rattle.sil_cfg.specs.Flow.{Flow, block_count, items_at}
use Rattle.reach_engine.specs.declared.scan.Step.{Step}
use Rattle.reach_engine.specs.declared.scan.Step.TheVariants.{Go, Bad}
use Rattle.reach_engine.specs.inner.Run.{run}
use Rattle.reach_engine.specs.inner.Bits.{bit_in}
use Rattle.reach_engine.specs.inner.Columns.{cell, Has}

-- from row `first` on, each subject that was in state s is in the row of the state that the items leave it in, or, behind those,
-- in the row of the subjects that break
pub record IsEffect (f : ℕ → ℕ → ℕ → Step) (states subjects width s : ℕ) (items words : List ℕ) (first : ℕ) : Type 0 where
  pub goes : (t u : ℕ) → t < states → u < subjects → Has words width (first + t) u ↔ (run (f u) (Go s) items ≡ Go t)
  pub stays : (t u : ℕ) → u < subjects → run (f u) (Go s) items ≡ Go t → t < states
  pub breaks : (u : ℕ) → u < subjects → Has words width (first + states) u ↔ ((code : ℕ) × (run (f u) (Go s) items ≡ Bad code))
  pub unused : (t v : ℕ) → t < states → subjects ≤ v → v < 64 * width → Has words width (first + t) v ↔ (t ≡ s)
  pub innocent : (v : ℕ) → subjects ≤ v → v < 64 * width → Has words width (first + states) v → ⊥

-- the rows of one state's effect: those that it goes on to, and that of the subjects that break
abbrev pub effect_rows : ℕ → ℕ
effect_rows states = states + 1

-- the first i effects: those of each state at the first block, then of each state at the next one
abbrev pub AreEffects : Flow ℕ → (ℕ → ℕ → ℕ → Step) → ℕ → ℕ → ℕ → List ℕ → ℕ → Type 0
AreEffects g f states subjects width words i =
    (j : ℕ) → j < i → IsEffect f states subjects width (j % states) (items_at g (j / states)) words (j * effect_rows states)

-- no effect is known, or that of every block
pub record AreKnown (g : Flow ℕ) (f : ℕ → ℕ → ℕ → Step) (states subjects width : ℕ) (words : List ℕ) : Type 0 where
  pub size : (length words ≡ 0 → ⊥) → length words ≡ (block_count g * states) * (effect_rows states * width)
  pub are : (length words ≡ 0 → ⊥) → AreEffects g f states subjects width words (block_count g * states)

-- the effect's words were added
pub record EffectAdded (f : ℕ → ℕ → ℕ → Step) (states subjects width s : ℕ) (items old new : List ℕ) : Type 0 where
  pub words : List ℕ
  pub size : length words ≡ effect_rows states * width
  pub parts : new ≡ old ++ words
  pub effect : IsEffect f states subjects width s items words 0

-- the row's subjects are added to the first i rows, each to those where the effect, from word `from` on, takes it
abbrev pub RowAdded : ℕ → List ℕ → List ℕ → ℕ → ℕ → List ℕ → List ℕ → Type 0
RowAdded width row words from i old new = (t v : ℕ) → t < i → v < 64 * width
    → bit_in new (cell width t v) ≡ max (bit_in old (cell width t v)) (min (bit_in row v) (bit_in words (64 * from + cell width t v)))

-- the row's subjects that the effect breaks are marked as bad
abbrev pub BadAdded : ℕ → ℕ → List ℕ → List ℕ → ℕ → List ℕ → List ℕ → Type 0
BadAdded states width row words from before after =
    (v : ℕ) → v < 64 * width → bit_in after v ≡ max (bit_in before v) (min (bit_in row v) (bit_in words (64 * from + cell width states v)))

-- what the effects of the first i states, from word `from` on, made of the bundle
pub record Applied (states width : ℕ) (words : List ℕ) (from : ℕ) (old new before after : List ℕ) (i : ℕ) : Type 0 where
  pub goes_from : (t v : ℕ) → t < states → v < 64 * width → Has new width t v
      → (s : ℕ) × (s < i) × Has old width s v × (bit_in words (64 * from + cell width (s * effect_rows states + t) v) ≡ 1)
  pub goes_to : (s t v : ℕ) → s < i → t < states → v < 64 * width → Has old width s v → bit_in words (64 * from + cell width (s * effect_rows states + t) v) ≡ 1
      → Has new width t v
  pub bad_from : (v : ℕ) → v < 64 * width → bit_in after v ≡ 1
      → (bit_in before v ≡ 1) ⊎ ((s : ℕ) × (s < i) × Has old width s v × (bit_in words (64 * from + cell width (s * effect_rows states + states) v) ≡ 1))
  pub bad_kept : (v : ℕ) → v < 64 * width → bit_in before v ≡ 1 → bit_in after v ≡ 1
  pub bad_to : (s v : ℕ) → s < i → v < 64 * width → Has old width s v → bit_in words (64 * from + cell width (s * effect_rows states + states) v) ≡ 1
      → bit_in after v ≡ 1
  pub above : (v : ℕ) → 64 * width ≤ v → bit_in after v ≡ bit_in before v

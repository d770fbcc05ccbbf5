-- Chains of keys. Entry 0 ends every chain; the entries from 1 to `mask + 1` are the heads of the chains, and those behind them are slots. A slot
-- with the key 0 is free. In a chain the keys fall.
use Rattle.std.specs.Prelude.{◌≡◌, ◌<◌, ◌≤◌, ◌+◌, ◌-◌, ◌^◌, ◌⊎◌, ℕ}

abbrev pub TOP : ℕ
TOP = 2 ^ 64 - 1

-- a slot that has a key
abbrev pub IsTaken : ℕ → (ℕ → ℕ) → ℕ → Type 0
IsTaken mask key s = (mask + 1 < s) × (1 ≤ key s)

-- t is the entry with the greatest of the keys in the bucket that are below this one, or 0 where there is none
pub record IsBelow (mask : ℕ) (bucket key : ℕ → ℕ) (b above t : ℕ) : Type 0 where
  pub falls : key t < above
  pub inside : 1 ≤ key t → (mask + 1 < t) × (bucket (key t) ≡ b)
  pub ends : key t ≡ 0 → t ≡ 0
  pub greatest : (s : ℕ) → IsTaken mask key s → bucket (key s) ≡ b → key s < above → key s ≤ key t

-- the entry is one of the chain of the bucket: its head, or a slot with a key of it
abbrev pub IsInChain : ℕ → (ℕ → ℕ) → (ℕ → ℕ) → ℕ → ℕ → Type 0
IsInChain mask bucket key b p = ((p ≡ b + 1) × (b ≤ mask)) ⊎ (IsTaken mask key p × (bucket (key p) ≡ b))

pub record AreChains (mask : ℕ) (bucket key next : ℕ → ℕ) : Type 0 where
  pub end : key 0 ≡ 0
  pub heads : (p : ℕ) → 1 ≤ p → p ≤ mask + 1 → key p ≡ TOP
  pub below_heads : (s : ℕ) → mask + 1 < s → key s < TOP
  pub apart : (s t : ℕ) → IsTaken mask key s → IsTaken mask key t → key s ≡ key t → s ≡ t
  pub links : (b p : ℕ) → IsInChain mask bucket key b p → IsBelow mask bucket key b (key p) (next p)

-- a key is in no slot
abbrev pub IsAbsent : ℕ → (ℕ → ℕ) → ℕ → Type 0
IsAbsent mask key k = (s : ℕ) → mask + 1 < s → key s ≡ k → ⊥

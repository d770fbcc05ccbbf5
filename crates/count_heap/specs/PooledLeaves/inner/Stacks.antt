-- The stacks of free pieces, one for each size. A reference is 0, or one more than a piece's number.
use Rattle.std.specs.Prelude.{◌≡◌, ◌<◌, ◌≤◌, ◌+◌, ℕ, zero, suc}

-- how deep the stack is at a reference
abbrev pub level : (ℕ → ℕ) → ℕ → ℕ
level depth zero = 0
level depth (suc p) = depth p

-- what it names is a free piece of this size
abbrev pub IsFreeRef : ℕ → (ℕ → ℕ) → (ℕ → ℕ) → ℕ → ℕ → Type 0
IsFreeRef count size depth s e = (p : ℕ) → e ≡ suc p → (p < count) × (size p ≡ s) × (1 ≤ depth p)

-- each stack goes down by one from its top to 1, and each free piece stands in it once
pub record AreStacks (count : ℕ) (size depth next top : ℕ → ℕ) : Type 0 where
  pub top_free : (s : ℕ) → IsFreeRef count size depth s (top s)
  pub top_highest : (p : ℕ) → p < count → 1 ≤ depth p → depth p ≤ level depth (top (size p))
  pub next_free : (p : ℕ) → p < count → 1 ≤ depth p → IsFreeRef count size depth (size p) (next p)
  pub next_lower : (p : ℕ) → p < count → 1 ≤ depth p → level depth (next p) + 1 ≡ depth p
  pub apart : (p q : ℕ) → p < count → q < count → 1 ≤ depth p → size p ≡ size q → depth p ≡ depth q → p ≡ q

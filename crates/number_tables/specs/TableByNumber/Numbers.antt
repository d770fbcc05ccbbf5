-- Numbers that are given in order, and the slot that each has, until it is taken out.
use Rattle.std.specs.Prelude.{◌≡◌, ◌++◌, ◌∷◌, [], ℕ, List, Option, None, Some, set, slice_index_or}

pub record Numbers : Type 0 where
  -- how many slots there are
  pub slots : ℕ
  -- by number, the slot that has it; none where it was taken out
  pub places : List (Option ℕ)

abbrev pub no_numbers : Numbers
no_numbers = record { slots = 0; places = [] }

-- the slot that has a number
abbrev pub slot_in : Numbers → ℕ → Option ℕ
slot_in t n = slice_index_or t.places n None

-- the slot has no number
abbrev pub IsFree : Numbers → ℕ → Type 0
IsFree t slot = (n : ℕ) → slot_in t n ≡ Some slot → ⊥

-- each slot has one number at most
abbrev pub AreApart : Numbers → Type 0
AreApart t = (n m slot : ℕ) → slot_in t n ≡ Some slot → slot_in t m ≡ Some slot → n ≡ m

-- the next number is given to a slot
abbrev pub with_next : Numbers → ℕ → Numbers
with_next t slot = record t { places = t.places ++ Some slot ∷ [] }

-- a number is taken out
abbrev pub without : Numbers → ℕ → Numbers
without t n = record t { places = set t.places n None }

-- Pieces of leaves. A pool is seen as what each of its pieces holds and how many leaves each has, both by their numbers; a piece that isn't given
-- out is free, and holds none.
use Rattle.std.specs.Prelude.{◌≡◌, ℕ, ◌+◌, ◌==◌, ◌++◌, List, [], Option, Some, None, cond, drop, length, slice_get, slice_index_or, take}
use Rattle.holder_model_values.specs.declared.run_values.leaf.Leaf.{Leaf}

pub record Pieces : Type 0 where
  pub held : List (Option (List Leaf))
  pub sizes : List ℕ

abbrev pub no_pieces : Pieces
no_pieces = record { held = []; sizes = [] }

abbrev pub piece_in : Pieces → ℕ → Option (List Leaf)
piece_in pieces p = slice_index_or pieces.held p None

-- a piece of so many leaves is free
abbrev pub HasFree : Pieces → ℕ → Type 0
HasFree pieces size = (p : ℕ) × (slice_get pieces.sizes p ≡ Some size) × (piece_in pieces p ≡ None)

-- the leaves with these in place of those from a place on
abbrev pub put_leaves : ℕ → List Leaf → List Leaf → List Leaf
put_leaves from leaves old = take from old ++ (leaves ++ drop (from + length leaves) old)

-- one piece holds this now, and each other one what it held
abbrev pub IsChanged : Pieces → Pieces → ℕ → Option (List Leaf) → Type 0
IsChanged before after p x = (q : ℕ) → piece_in after q ≡ cond (q == p) x (piece_in before q)

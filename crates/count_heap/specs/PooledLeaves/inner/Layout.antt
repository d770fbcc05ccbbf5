-- How pieces lie in the leaves.
use Rattle.std.specs.Prelude.{◌≡◌, ◌<◌, ◌≤◌, ◌+◌, ◌^◌, ◌==◌, ℕ, List, Bool, Option, None, Some, cond, count_by, drop, length, map, slice_index_or, take}
use Rattle.std.specs.Prelude.{◌&&◌, not}
use Rattle.holder_model_values.specs.declared.run_values.leaf.Leaf.{Leaf}
use Rattle.count_heap.specs.PooledLeaves.Pieces.{Pieces}
use Rattle.count_heap.specs.declared.pooled_leaves.piece.Piece.{Piece}
use Rattle.count_heap.specs.PooledLeaves.inner.Stacks.{AreStacks, level}

abbrev pub no_piece : Piece
no_piece = record { first = 0; size = 0; depth = 0; next = 0 }

abbrev pub first_at : List Piece → ℕ → ℕ
first_at pieces p = (slice_index_or pieces p no_piece).first

abbrev pub size_at : List Piece → ℕ → ℕ
size_at pieces p = (slice_index_or pieces p no_piece).size

abbrev pub depth_at : List Piece → ℕ → ℕ
depth_at pieces p = (slice_index_or pieces p no_piece).depth

abbrev pub next_at : List Piece → ℕ → ℕ
next_at pieces p = (slice_index_or pieces p no_piece).next

abbrev pub top_at : List ℕ → ℕ → ℕ
top_at tops s = slice_index_or tops s 0

-- the leaves of a piece
abbrev pub leaves_of : List Leaf → Piece → List Leaf
leaves_of leaves p = take p.size (drop p.first leaves)

abbrev pub held_by : List Leaf → Piece → Option (List Leaf)
held_by leaves p = cond (p.depth == 0) (Some (leaves_of leaves p)) None

abbrev pub piece_size : Piece → ℕ
piece_size p = p.size

abbrev pub pieces_in : List Leaf → List Piece → Pieces
pieces_in leaves pieces = record { held = map (held_by leaves) pieces; sizes = map piece_size pieces }

-- no two pieces have a leaf in common
pub record AreLaidOut (count : ℕ) (leaves : ℕ) (first size : ℕ → ℕ) : Type 0 where
  pub within : (p : ℕ) → p < count → first p + size p ≤ leaves
  pub in_order : (p q : ℕ) → p < q → q < count → first p + size p ≤ first q

abbrev pub is_free_of : ℕ → Piece → Bool
is_free_of s p = not (p.depth == 0) && p.size == s

-- the free pieces are those in the stacks
pub record AreFreeListed (pieces : List Piece) (tops : List ℕ) : Type 0 where
  pub few : length pieces < 2 ^ 32
  pub stacks : AreStacks (length pieces) (size_at pieces) (depth_at pieces) (next_at pieces) (top_at tops)
  pub sizes : (p : ℕ) → p < length pieces → size_at pieces p < length tops
  pub counts : (s : ℕ) → level (depth_at pieces) (top_at tops s) ≡ count_by (is_free_of s) pieces

pub record IsPool (leaves : List Leaf) (pieces : List Piece) (tops : List ℕ) : Type 0 where
  pub laid_out : AreLaidOut (length pieces) (length leaves) (first_at pieces) (size_at pieces)
  pub listed : AreFreeListed pieces tops

-- a free piece that is given out, and one that is given back

abbrev pub given_out : Piece → Piece
given_out x = record x { depth = 0 }

abbrev pub given_back : List Piece → List ℕ → Piece → Piece
given_back pieces tops x = record x { depth = level (depth_at pieces) (top_at tops x.size) + 1; next = top_at tops x.size }

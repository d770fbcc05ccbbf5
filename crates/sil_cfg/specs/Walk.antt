-- Walks and trails.
use Rattle.std.specs.Prelude.{◌<◌, length, ◌≡◌, ℕ, List, [], ◌∷◌, ◌++◌, take}
use Rattle.sil_ast.specs.declared.place.EdgeId.{EdgeId}
use Rattle.sil_cfg.specs.Flow.{Flow, items_at, IsEdge, edge_to, edge_item}

-- each edge leaves the block where the one before it ended, and the first one leaves b
abbrev pub IsWalkFrom : {A : Type 0} → Flow A → ℕ → List EdgeId → Type 0
IsWalkFrom g b [] = Unit {0}
IsWalkFrom g b (e ∷ w) = (e.block.0 ≡ b) × IsEdge g e × IsWalkFrom g (edge_to g e) w

-- the block where the walk from b ends
abbrev pub end_from : {A : Type 0} → Flow A → ℕ → List EdgeId → ℕ
end_from g b [] = b
end_from g b (e ∷ w) = end_from g (edge_to g e) w

-- the items of each block that the walk leaves, each time with the item of the edge taken
abbrev pub passed : {A : Type 0} → Flow A → List EdgeId → List A
passed g [] = []
passed g (e ∷ w) = items_at g e.block.0 ++ edge_item g e ∷ passed g w

-- a walk is a list of edges from the entry block
abbrev pub IsWalk : {A : Type 0} → Flow A → List EdgeId → Type 0
IsWalk g w = IsWalkFrom g 0 w

abbrev pub last_block : {A : Type 0} → Flow A → List EdgeId → ℕ
last_block g w = end_from g 0 w

-- the items met along a walk, and then a prefix of the last block's items: at least the entry item
pub record IsTrail {A : Type 0} (g : Flow A) (w : List EdgeId) (trail : List A) : Type 0 where
  pub walk : IsWalk g w
  pub begun : 0 < length trail
  pub count : ℕ
  pub items : trail ≡ passed g w ++ take count (items_at g (last_block g w))

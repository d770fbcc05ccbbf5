-- What contracts see of a graph: plain lists.
use Rattle.std.specs.Prelude.{ℕ, ◌<◌, ◌^◌, List, [], length, map, slice_get, Option, unwrap_or, All}
use Rattle.sil_ast.specs.declared.place.EdgeId.{EdgeId}
use Rattle.sil_cfg.specs.declared.item.Item.{Item}
use Rattle.sil_cfg.specs.declared.layout.EdgeFlow.{EdgeFlow}
use Rattle.sil_cfg.specs.declared.layout.BlockFlow.{BlockFlow}

-- a block: the numbers of its items in order, the edges that leave it, and the index of its terminator
pub record BlockLayout : Type 0 where
  pub items : List ℕ
  pub edges : List EdgeFlow
  pub last : ℕ

-- a graph: its blocks, and what each item is
pub record Layout : Type 0 where
  pub blocks : List BlockLayout
  pub kinds : List Item

abbrev pub block_of : BlockFlow → BlockLayout
block_of b = record { items = b.items.items; edges = b.edges.items; last = b.last }

abbrev pub layout_of : List BlockFlow → List Item → Layout
layout_of blocks kinds = record { blocks = map block_of blocks; kinds = kinds }

abbrev pub no_block : BlockLayout
no_block = record { items = []; edges = []; last = 0 }

abbrev pub no_edge : EdgeFlow
no_edge = record { target = 0; item = 0 }

-- the block with this number; one without items and edges where there is none
abbrev pub block_at : Layout → ℕ → BlockLayout
block_at g b = unwrap_or (slice_get g.blocks b) no_block

abbrev pub edge_at : Layout → EdgeId → EdgeFlow
edge_at g e = unwrap_or (slice_get (block_at g e.block.0).edges e.index) no_edge

-- how many items there are; they are numbered from 0
abbrev pub item_count : Layout → ℕ
item_count g = length g.kinds

-- what the item with this number is
abbrev pub item_at : Layout → ℕ → Option Item
item_at g i = slice_get g.kinds i

-- an edge goes to a block of the graph, and its item is one
abbrev pub IsEdgeSound : Layout → EdgeFlow → Type 0
IsEdgeSound g e = (e.target < length g.blocks) × (e.item < item_count g)

-- the block's items are items of the graph, and so are its edges' items and targets; its numbers fit an id
pub record IsBlockSound (g : Layout) (b : BlockLayout) : Type 0 where
  pub items : All (λ i. i < item_count g) b.items
  pub edges : All (IsEdgeSound g) b.edges
  pub few_edges : length b.edges < 2 ^ 32
  pub last : b.last < 2 ^ 32

pub record IsSound (g : Layout) : Type 0 where
  pub some_block : 0 < length g.blocks
  pub few_blocks : length g.blocks < 2 ^ 32
  pub blocks : All (IsBlockSound g) g.blocks

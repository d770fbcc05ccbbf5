-- Where control goes: blocks with their items in order, and edges, each with an item of its own.
-- The items of a function's flow are `Item`s, and those of a graph's flow are numbers.
use Rattle.std.specs.Prelude.{ℕ, ◌<◌, List, length, map, slice_get, unwrap_or}
use Rattle.sil_ast.specs.declared.place.EdgeId.{EdgeId}
use Rattle.sil_ast.specs.declared.place.PointId.{PointId}
use Rattle.sil_cfg.specs.declared.item.Item.{Item}
use Rattle.sil_cfg.specs.declared.item.Item.TheVariants.{Entry, Inst, Edge, Exit}
use Rattle.sil_cfg.specs.Layout.{Layout, block_at, edge_at}

-- by block: its items in order, the blocks to which its edges go, the index of its terminator; by edge: its item
pub record Flow (A : Type 0) : Type 0 where
  pub count : ℕ
  pub items : ℕ → List A
  pub targets : ℕ → List ℕ
  pub last : ℕ → ℕ
  pub item_of : EdgeId → A

-- how many blocks there are; block 0 is the entry
abbrev pub block_count : {A : Type 0} → Flow A → ℕ
block_count g = g.count

-- the items of the block, in order, without those of its edges; none where there is no such block
abbrev pub items_at : {A : Type 0} → Flow A → ℕ → List A
items_at g b = g.items b

-- how many edges leave the block
abbrev pub edge_count : {A : Type 0} → Flow A → ℕ → ℕ
edge_count g b = length (g.targets b)

-- the edge of a block with an index
abbrev pub edge_id : ℕ → ℕ → EdgeId
edge_id b j = record { block = record { 0 = b }; index = j }

-- the block has an edge with this index
abbrev pub IsEdge : {A : Type 0} → Flow A → EdgeId → Type 0
IsEdge g e = e.index < edge_count g e.block.0

-- the block to which the edge goes
abbrev pub edge_to : {A : Type 0} → Flow A → EdgeId → ℕ
edge_to g e = unwrap_or (slice_get (g.targets e.block.0) e.index) 0

abbrev pub edge_item : {A : Type 0} → Flow A → EdgeId → A
edge_item g e = g.item_of e

-- the flow of a graph, whose items are numbers
abbrev pub numbered : Layout → Flow ℕ
numbered g = record {
  count = length g.blocks;
  items = λ b. (block_at g b).items;
  targets = λ b. map (λ e. e.target) (block_at g b).edges;
  last = λ b. (block_at g b).last;
  item_of = λ e. (edge_at g e).item;
}

-- the point of an item: an edge's item belongs to the point of the terminator, and the entry's to the first point
abbrev pub point_of : {A : Type 0} → Flow A → Item → PointId
point_of g Entry = record { block = record { 0 = 0 }; index = 0 }
point_of g (Inst p) = p
point_of g (Edge e) = record { block = e.block; index = g.last e.block.0 }
point_of g (Exit p) = p

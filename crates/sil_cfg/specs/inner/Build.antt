-- When a function has a graph, and what makes a graph the function's.
use Rattle.std.specs.Prelude.{◌≡◌, ℕ, ◌<◌, ◌^◌, List, [], ◌∷◌, length, slice_get, All, Some}
use Rattle.sil_ast.specs.declared.place.EdgeId.{EdgeId}
use Rattle.sil_ast.specs.declared.function.Function.{Function}
use Rattle.sil_ast.specs.declared.function.Block.{Block}
use Rattle.sil_cfg.specs.declared.item.Item.{Item}
use Rattle.sil_cfg.specs.declared.item.Item.TheVariants.{Edge}
use Rattle.sil_cfg.specs.Layout.{Layout, item_at}
use Rattle.sil_cfg.specs.Flow.{IsEdge, items_at, edge_item, numbered}
use Rattle.sil_cfg.specs.Items.{flow_of, IsItem}

-- the block's instructions and edges can be numbered, and its edges go to blocks of the function
pub record IsBlockLinked (f : Function) (block : Block) : Type 0 where
  pub short : length block.insts < 2 ^ 32
  pub few_edges : length block.terminator.edges < 2 ^ 32
  pub targets : All (λ e. e.block.0 < length f.blocks) block.terminator.edges

-- the function has a body whose blocks, instructions and edges can be numbered, and its edges go to its blocks
pub record HasGraph (f : Function) : Type 0 where
  pub body : 0 < length f.blocks
  pub few_blocks : length f.blocks < 2 ^ 32
  pub blocks : All (IsBlockLinked f) f.blocks

-- each number stands for the item at its place
abbrev pub AreItems : List Item → List ℕ → List Item → Type 0
AreItems kinds [] [] = Unit {0}
AreItems kinds [] (x ∷ items) = ⊥
AreItems kinds (i ∷ numbers) [] = ⊥
AreItems kinds (i ∷ numbers) (x ∷ items) = (slice_get kinds i ≡ Some x) × AreItems kinds numbers items

-- the graph is the function's: the same blocks, items and edges, with a number for each item
pub record IsGraphOf (g : Layout) (f : Function) : Type 0 where
  pub blocks : length g.blocks ≡ length f.blocks
  pub items : (b : ℕ) → AreItems g.kinds (items_at (numbered g) b) (items_at (flow_of f) b)
  pub targets : (b : ℕ) → (numbered g).targets b ≡ (flow_of f).targets b
  pub last : (b : ℕ) → (numbered g).last b ≡ (flow_of f).last b
  pub edges : (e : EdgeId) → IsEdge (flow_of f) e → item_at g (edge_item (numbered g) e) ≡ Some (Edge e)
  pub known : (i : ℕ) (item : Item) → item_at g i ≡ Some item → IsItem f item

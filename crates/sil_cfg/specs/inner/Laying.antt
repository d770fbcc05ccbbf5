-- What building keeps while it lays out one block after another.
use Rattle.std.specs.Prelude.{◌≡◌, ℕ, ◌<◌, List, ◌++◌, length, map, slice_get, All, Some}
use Rattle.sil_ast.specs.declared.inst.Edge as edge
use Rattle.sil_ast.specs.declared.function.Function.{Function}
use Rattle.sil_ast.specs.declared.function.Block.{Block}
use Rattle.sil_cfg.specs.declared.item.Item.{Item}
use Rattle.sil_cfg.specs.declared.item.Item.TheVariants.{Entry, Inst, Edge, Exit}
use Rattle.sil_cfg.specs.declared.layout.EdgeFlow.{EdgeFlow}
use Rattle.sil_cfg.specs.Layout.{BlockLayout}
use Rattle.sil_cfg.specs.Flow.{edge_id}
use Rattle.sil_cfg.specs.Items.{own_items, IsItem, IsExit}
use Rattle.sil_cfg.specs.inner.Build.{AreItems}

-- an item of the block with this number
abbrev pub IsItemOf : ℕ → Block → Item → Type 0
IsItemOf b block Entry = b ≡ 0
IsItemOf b block (Inst p) = (p.block.0 ≡ b) × (p.index < length block.insts)
IsItemOf b block (Edge e) = (e.block.0 ≡ b) × (e.index < length block.terminator.edges)
IsItemOf b block (Exit p) = (p.block.0 ≡ b) × IsExit p block

-- only items of the block were added
pub record Adds (b : ℕ) (block : Block) (old new : List Item) : Type 0 where
  pub more : List Item
  pub kinds : new ≡ old ++ more
  pub known : All (IsItemOf b block) more

-- items of the block were added, and the numbers stand for these items
pub record HasLaid (b : ℕ) (block : Block) (old new : List Item) (numbers : List ℕ) (items : List Item) : Type 0 where
  pub adds : Adds b block old new
  pub stands : AreItems new numbers items

-- what a step adds to the items that the numbers stand for
abbrev pub LaysMore : ℕ → Block → List Item → List Item → List ℕ → List ℕ → List Item → Type 0
LaysMore b block old new before after more =
    (first items : List Item) → HasLaid b block first old before items → HasLaid b block first new after (items ++ more)

-- the edges' flows say where the edges go, and their numbers stand for their items
pub record AreEdgesLaid (kinds : List Item) (b : ℕ) (edges : List edge.Edge) (flows : List EdgeFlow) : Type 0 where
  pub targets : map (λ x. x.target) flows ≡ map (λ e. e.block.0) edges
  pub items : (j : ℕ) (x : EdgeFlow) → slice_get flows j ≡ Some x → slice_get kinds x.item ≡ Some (Edge (edge_id b j))

-- the block is laid out
pub record IsLaid (kinds : List Item) (b : ℕ) (block : Block) (x : BlockLayout) : Type 0 where
  pub items : AreItems kinds x.items (own_items b block)
  pub edges : AreEdgesLaid kinds b block.terminator.edges x.edges
  pub last : x.last ≡ length block.insts

pub record LaysBlock (b : ℕ) (block : Block) (old new : List Item) (x : BlockLayout) : Type 0 where
  pub adds : Adds b block old new
  pub laid : IsLaid new b block x

pub record IsLaidAt (f : Function) (kinds : List Item) (blocks : List BlockLayout) (b : ℕ) (block : Block) : Type 0 where
  pub layout : BlockLayout
  pub there : slice_get blocks b ≡ Some layout
  pub laid : IsLaid kinds b block layout

-- the first n blocks are laid out
pub record AreLaid (f : Function) (kinds : List Item) (blocks : List BlockLayout) (n : ℕ) : Type 0 where
  pub size : length blocks ≡ n
  pub blocks_laid : (b : ℕ) (block : Block) → b < n → slice_get f.blocks b ≡ Some block → IsLaidAt f kinds blocks b block
  pub known : All (IsItem f) kinds

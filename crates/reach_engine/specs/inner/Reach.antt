-- What walks reach.
use Rattle.std.specs.Prelude.{◌≡◌, ℕ, List, [], ◌∷◌, ◌++◌, Some}
use Rattle.sil_ast.specs.declared.place.EdgeId.{EdgeId}
use Rattle.sil_ast.specs.declared.place.PointId.{PointId}
use Rattle.sil_cfg.specs.declared.item.Item.{Item}
use Rattle.sil_cfg.specs.Layout.{Layout, item_at}
use Rattle.sil_cfg.specs.Flow.{Flow, numbered, point_of}
use Rattle.sil_cfg.specs.Walk.{IsWalk, last_block, passed, IsTrail}
use Rattle.reach_engine.specs.declared.scan.Step.{Step}
use Rattle.reach_engine.specs.declared.scan.Step.TheVariants.{Go, Bad}
use Rattle.reach_engine.specs.inner.Run.{run}

-- the walk enters the block in this state
pub record Enters (g : Flow ℕ) (f : ℕ → ℕ → Step) (w : List EdgeId) (block state : ℕ) : Type 0 where
  pub walk : IsWalk g w
  pub to : last_block g w ≡ block
  pub runs : run f (Go 0) (passed g w) ≡ Go state

-- some trail along the walk has its first bad item last: this item, with this code
pub record ReachesFirst (g : Flow ℕ) (f : ℕ → ℕ → Step) (w : List EdgeId) (code item : ℕ) : Type 0 where
  pub before : List ℕ
  pub state : ℕ
  pub trail : IsTrail g w (before ++ item ∷ [])
  pub clean : run f (Go 0) before ≡ Go state
  pub breaks : f state item ≡ Bad code

-- the point is that of the item with this number
pub record IsPointOf (g : Layout) (item : ℕ) (point : PointId) : Type 0 where
  pub kind : Item
  pub there : item_at g item ≡ Some kind
  pub point_is : point ≡ point_of (numbered g) kind

-- the walk reaches the code first, at an item of this point
pub record ReachesPoint (g : Layout) (f : ℕ → ℕ → Step) (w : List EdgeId) (code : ℕ) (point : PointId) : Type 0 where
  pub item : ℕ
  pub reaches : ReachesFirst (numbered g) f w code item
  pub point_is : IsPointOf g item point

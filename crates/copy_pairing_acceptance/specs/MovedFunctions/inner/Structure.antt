-- Where the items of a function stood before its copy became a move and a destroy behind it went.
use Rattle.std.specs.Prelude.{ℕ, zero, suc, ◌==◌, cond}
use Rattle.sil_ast.specs.declared.place.PointId.{PointId}
use Rattle.sil_cfg.specs.Items.{point_at}
use Rattle.sil_cfg.specs.declared.item.Item.{Item}
use Rattle.sil_cfg.specs.declared.item.Item.TheVariants.{Entry, Inst, Edge, Exit}

-- the index before the element with the index `last` went
abbrev pub stood_at : ℕ → ℕ → ℕ
stood_at zero k = suc k
stood_at (suc last) zero = zero
stood_at (suc last) (suc k) = suc (stood_at last k)

module _ (p : PointId) (last : ℕ) where
  -- the point, where the instruction with the index `last` went of p's block
  abbrev pub old_point : PointId → PointId
  old_point q = cond (q.block.0 == p.block.0) (point_at q.block.0 (stood_at last q.index)) q

  abbrev pub old_item : Item → Item
  old_item Entry = Entry
  old_item (Inst q) = Inst (old_point q)
  old_item (Edge e) = Edge e
  old_item (Exit q) = Exit (old_point q)

-- A reached item of the graph, as its point.
use Rattle.std.proofs.Common.{◌≡◌, ℕ, ◌<◌, List, get_or}
use Rattle.std.specs.Prelude.{Some}
use Rattle.std.proofs.lemmas.Option.{slice_get-get_or}
use Rattle.sil_ast.specs.declared.place.EdgeId.{EdgeId}
use Rattle.sil_ast.specs.declared.place.PointId.{PointId}
use Rattle.sil_cfg.specs.declared.item.Item.{Item}
use Rattle.sil_cfg.specs.declared.item.Item.TheVariants.{Entry}
use Rattle.sil_cfg.specs.Layout.{Layout, item_at, item_count}
use Rattle.sil_cfg.specs.Flow.{numbered, point_of}
use Rattle.reach_engine.specs.declared.scan.Step.{Step}
use Rattle.reach_engine.specs.inner.Reach.{ReachesFirst, ReachesPoint}

item_there : (g : Layout) (item : ℕ) → item < item_count g → (kind : Item) × (item_at g item ≡ Some kind)
item_there g item within = (get_or g.kinds item Entry, slice_get-get_or g.kinds item Entry within)

pub point_reached : (g : Layout) (f : ℕ → ℕ → Step) (w : List EdgeId) (code item : ℕ) (point : PointId) → ReachesFirst (numbered g) f w code item →
    ((kind : Item) → item_at g item ≡ Some kind → point ≡ point_of (numbered g) kind) → item < item_count g → ReachesPoint g f w code point
point_reached g f w code item point h same within =
    let there = item_there g item within in
    record { item = item; reaches = h; point_is = record { kind = there.0; there = there.1; point_is = same there.0 there.1 } }

use Rattle.std.proofs.Common.{◌<◌, subst}
use Rattle.sil_cfg.specs.Layout.{item_count}
use Rattle.sil_cfg.specs.Flow.{numbered}
use Rattle.reach_engine.specs.inner.Reach.{ReachesFirst}
use Rattle.reach_engine.specs.inner.Searched.{IfSomeBreaks}
use Rattle.reach_engine.specs.declared.together.SearchedAll.{SearchedAll}
use Rattle.reach_engine.proofs.PointsReached.{point_reached}
use Rattle.reach_engine.proofs.together.search_all.Goals as goal

pub returns-in-Breaks-clause-fault : goal.returns-in-Breaks-clause-fault
returns-in-Breaks-clause-fault g c =
    let P : SearchedAll → Type 0 = λ r. IfSomeBreaks r (λ b. ReachesFirst (numbered c.args.g.now) (g.F.Family.step_of c.args.family.now b.subject) b.walk b.code b.item) in
    let Q : SearchedAll → Type 0 = λ r. IfSomeBreaks r (λ b. b.item < item_count c.args.g.now) in
    point_reached c.args.g.now (g.F.Family.step_of c.args.family.now c.in-Breaks.broken.subject) c.in-Breaks.broken.walk c.in-Breaks.broken.code c.in-Breaks.broken.item c.point.result
    (subst P c.in-Breaks.is c.in_ok-map.ensures.breaks) c.point.ensures
    (subst Q c.in-Breaks.is c.in_ok-map.ensures.item)

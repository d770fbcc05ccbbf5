use Rattle.std.proofs.Common.{◌<◌, subst}
use Rattle.sil_cfg.specs.Layout.{item_count}
use Rattle.sil_cfg.specs.Flow.{numbered}
use Rattle.reach_engine.specs.inner.Reach.{ReachesFirst}
use Rattle.reach_engine.specs.inner.Searched.{IfBreaks}
use Rattle.reach_engine.specs.declared.found.Searched.{Searched}
use Rattle.reach_engine.proofs.PointsReached.{point_reached}
use Rattle.reach_engine.proofs.worklist.search.Goals as goal

pub returns-in-Breaks-clause-fault : goal.returns-in-Breaks-clause-fault
returns-in-Breaks-clause-fault g c =
    let P : Searched → Type 0 = λ r. IfBreaks r (λ walk item code. ReachesFirst (numbered c.args.g.now) (g.S.Scan.step_of c.args.scan.now) walk code item) in
    let Q : Searched → Type 0 = λ r. IfBreaks r (λ walk item code. item < item_count c.args.g.now) in
    point_reached c.args.g.now (g.S.Scan.step_of c.args.scan.now) c.in-Breaks.walk c.in-Breaks.code c.in-Breaks.item c.point.result (subst P c.in-Breaks.is c.in_ok-map.ensures.breaks) c.point.ensures
    (subst Q c.in-Breaks.is c.in_ok-map.ensures.within)

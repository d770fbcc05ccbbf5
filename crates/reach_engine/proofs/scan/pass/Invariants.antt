use Rattle.std.proofs.Common.{◌≡◌, ◌<◌, take}
use Rattle.reach_engine.specs.declared.scan.Step.TheVariants.{Go}
use Rattle.reach_engine.specs.inner.Run.{run}
use Rattle.reach_engine.proofs.scan.pass.Given as goal

abbrev pub invariant-loop-item : goal.invariant-loop-item
invariant-loop-item g l =
    (run (g.S.Scan.step_of l.scan) (Go l.state) (take l.item-index l.items) ≡ Go l.current) × (l.current < g.S.Scan.state_count l.scan)

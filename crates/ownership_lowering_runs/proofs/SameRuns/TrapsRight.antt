-- A row that traps in a right state finds what the lowered run needs.
use Rattle.ownership_lowering_runs.specs.SameRuns.inner.InRightStates.{TrapsAreRight}
use Rattle.ownership_lowering_runs.proofs.StoredRuns.Typed.TypedTraps.{are_typed_traps}
use Rattle.ownership_lowering_runs.proofs.SameRuns.RowsFound.{accepted, frame_is, stands}

pub traps_are_right : TrapsAreRight
traps_are_right m bound s verified right l x h other t is =
    are_typed_traps m s l h.typed.world x.frame x.rest x.f x.i x.ops t (accepted m bound s l x h) (frame_is m bound s l x h) (stands m bound s l x h) is

-- A row of a typed state that traps finds what it needs.
use Rattle.std.specs.Prelude.{◌≡◌, List}
use Rattle.sil_ast.specs.declared.function.Function.{Function}
use Rattle.sil_ast.specs.declared.inst.Inst.{Inst}
use Rattle.sil_ast.specs.declared.module.Module.{Module}
use Rattle.sil_verifier_runs.specs.sil_verifier_values.inner.Known.{IsAcceptedBody}
use Rattle.sil_verifier_runs.specs.holder_model.Effects.{Traps}
use Rattle.sil_verifier_runs.specs.holder_model.Frames.{Frame, Operands}
use Rattle.sil_verifier_runs.specs.holder_model.HolderStates.{HolderState}
use Rattle.sil_verifier_runs.specs.holder_model.States.{Task}
use Rattle.sil_verifier_runs.specs.holder_model.declared.trap.Trap.{Trap}
use Rattle.sil_verifier_runs.specs.holder_model.LoweredRun.LowStepParts.{LowState}
use Rattle.sil_verifier_runs.specs.sil_verifier_frames.inner.Typed.TypedStates.{FrameIs}
use Rattle.ownership_lowering_laws.specs.holder_model_typing.TypedMemory.inner.Worlds.{World}
use Rattle.ownership_lowering_runs.specs.StoredRuns.inner.PlaceRows.{StandsAt}
use Rattle.ownership_lowering_runs.specs.StoredRuns.inner.RowsRight.{TrapRight, held_effect}

abbrev pub AreTypedTraps : Type 0
AreTypedTraps = (m : Module) (s : HolderState) (l : LowState) (w : World) (frame : Frame) (rest : List (Task Frame)) (f : Function) (i : Inst)
    (ops : Operands) (t : Trap)
    → IsAcceptedBody m frame.function.0 f → FrameIs m w f frame → StandsAt m s l frame rest f i ops
    → held_effect m s l frame f i ops ≡ Traps t → TrapRight m s frame i ops t

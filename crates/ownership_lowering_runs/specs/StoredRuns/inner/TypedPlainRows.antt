-- Rows of typed states that do nothing at places, call nothing and take nothing apart find what they need.
use Rattle.std.specs.Prelude.{◌≡◌, ◌&&◌, List, Bool, true, false, not}
use Rattle.sil_ast.specs.declared.function.Function.{Function}
use Rattle.sil_ast.specs.declared.inst.Inst.{Inst}
use Rattle.sil_ast.specs.declared.module.Module.{Module}
use Rattle.sil_verifier_runs.specs.sil_verifier_values.inner.Known.{IsAcceptedBody}
use Rattle.sil_verifier_runs.specs.holder_model.Effects.{Change, Makes, effect_of}
use Rattle.sil_verifier_runs.specs.holder_model.Frames.{Frame, Operands}
use Rattle.sil_verifier_runs.specs.holder_model.HolderStates.{HolderState}
use Rattle.sil_verifier_runs.specs.holder_model.States.{Task}
use Rattle.sil_verifier_runs.specs.holder_model.declared.row_effect.RowEffect.{RowEffect}
use Rattle.sil_verifier_runs.specs.holder_model.declared.row_effect.RowEffect.TheVariants as row
use Rattle.sil_verifier_runs.specs.holder_model.LoweredRun.LowStepParts.{LowState}
use Rattle.sil_verifier_runs.specs.sil_verifier_frames.inner.Typed.TypedStates.{FrameIs}
use Rattle.ownership_lowering_laws.specs.holder_model_typing.TypedMemory.inner.Worlds.{IsWorldOf, MemoryIs, World}
use Rattle.ownership_lowering_runs.specs.StoredRuns.inner.PlaceRows.{StandsAt}
use Rattle.ownership_lowering_runs.specs.StoredRuns.inner.RowsRight.{RowRight, held_effect, is_place_row}

abbrev pub calls_or_parts : RowEffect → Bool
calls_or_parts row.CallsFunction = true
calls_or_parts row.GivesMembers = true
calls_or_parts _ = false

abbrev pub is_plain_row : RowEffect → Bool
is_plain_row r = not (is_place_row r) && not (calls_or_parts r)

abbrev pub AreTypedPlainRows : Type 0
AreTypedPlainRows = (m : Module) (s : HolderState) (l : LowState) (w : World) (frame : Frame) (rest : List (Task Frame)) (f : Function) (i : Inst)
    (ops : Operands) (c : Change)
    → IsAcceptedBody m frame.function.0 f → IsWorldOf m w → MemoryIs m w s.memory → FrameIs m w f frame → StandsAt m s l frame rest f i ops
    → is_plain_row (effect_of i.op) ≡ true → held_effect m s l frame f i ops ≡ Makes c → RowRight m s l frame f i ops c

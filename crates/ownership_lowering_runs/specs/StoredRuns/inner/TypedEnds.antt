-- Terminators of typed frames: what their items take is no address.
use Rattle.std.specs.Prelude.{◌≡◌, None}
use Rattle.sil_ast.specs.declared.function.Function.{Function}
use Rattle.sil_ast.specs.declared.module.Module.{Module}
use Rattle.sil_cfg.specs.declared.item.Item.{Item}
use Rattle.sil_cfg_items.specs.Parts.{inst_at}
use Rattle.sil_verifier_runs.specs.sil_verifier_trails.RunTrails.inner.RunTrails.{ComesAt}
use Rattle.sil_verifier_runs.specs.sil_verifier_values.inner.Known.{IsAcceptedBody}
use Rattle.sil_verifier_runs.specs.holder_model.Frames.{Frame}
use Rattle.sil_verifier_runs.specs.holder_model.HolderStates.{HolderState}
use Rattle.sil_verifier_runs.specs.holder_model.Standing.{stands_at}
use Rattle.sil_verifier_runs.specs.sil_verifier_frames.inner.Typed.TypedStates.{FrameIs}
use Rattle.ownership_lowering_laws.specs.holder_model_typing.TypedMemory.inner.Worlds.{World}
use Rattle.ownership_lowering_runs.specs.StoredRuns.inner.EndsAlong.{ComesPlain}

abbrev pub AreEndsPlain : Type 0
AreEndsPlain = (m : Module) (s : HolderState) (w : World) (frame : Frame) (f : Function) → IsAcceptedBody m frame.function.0 f → FrameIs m w f frame
    → inst_at f (stands_at f frame.trail) ≡ None → (i : Item) → ComesAt f (stands_at f frame.trail) i → ComesPlain m s frame f i

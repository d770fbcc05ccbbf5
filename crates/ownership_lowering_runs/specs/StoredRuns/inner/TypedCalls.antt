-- Calls of typed frames: what they hand over is right but for parts, of which places tell.
use Rattle.std.specs.Prelude.{◌≡◌, ℕ, Some, Ok}
use Rattle.sil_ast.specs.declared.function.Function.{Function}
use Rattle.sil_ast.specs.declared.inst.Inst.{Inst}
use Rattle.sil_ast.specs.declared.module.Module.{Module}
use Rattle.sil_cfg.specs.declared.item.Item.TheVariants as item
use Rattle.sil_cfg_items.specs.Items.{item_taken}
use Rattle.sil_cfg_items.specs.Parts.{inst_at}
use Rattle.sil_verifier_runs.specs.sil_verifier_values.inner.Known.{IsAcceptedBody}
use Rattle.sil_verifier_runs.specs.holder_model.Frames.{Frame, Operands, operands_of}
use Rattle.sil_verifier_runs.specs.holder_model.HolderStates.{HolderState}
use Rattle.sil_verifier_runs.specs.holder_model.ModuleFacts.{facts_of, facts_told}
use Rattle.sil_verifier_runs.specs.holder_model.Standing.{stands_at}
use Rattle.sil_verifier_runs.specs.sil_verifier_frames.inner.Typed.TypedStates.{FrameIs}
use Rattle.ownership_lowering_laws.specs.holder_model_typing.TypedMemory.inner.Worlds.{IsWorldOf, MemoryIs, World}
use Rattle.ownership_lowering_runs.specs.StoredRuns.inner.CallsAlong.{CallsRight, HandsFullParts}

-- where places that hold what is asked are full if they are parts, as the rows of calls say
abbrev pub AreCallsRight : Type 0
AreCallsRight = (m : Module) (bound : ℕ) (s : HolderState) (w : World) (frame : Frame) (f : Function) (i : Inst) (ops : Operands)
    → IsAcceptedBody m frame.function.0 f → IsWorldOf m w → MemoryIs m w s.memory → FrameIs m w f frame
    → inst_at f (stands_at f frame.trail) ≡ Some i
    → operands_of (facts_told (facts_of m) frame.function) s.memory frame.entries (item_taken f (item.Inst (stands_at f frame.trail))) ≡ Ok ops
    → HandsFullParts m bound s frame f i ops
    → CallsRight m bound s frame f i ops

-- The instruction at which a typed frame stands is typed, and so are its operands.
use Rattle.std.proofs.Common.{List, map, subst}
use Rattle.sil_ast.specs.declared.function.Function.{Function}
use Rattle.sil_ast.specs.declared.inst.Inst.{Inst}
use Rattle.sil_ast.specs.declared.module.Module.{Module}
use Rattle.sil_cfg.specs.declared.item.Item.TheVariants as item
use Rattle.sil_cfg_items.specs.Items.{item_taken}
use Rattle.sil_types_declarations.specs.TypeDefinitions.Declarations.{declarations_of}
use Rattle.sil_verifier_runs.specs.sil_verifier_values.inner.Known.{IsAcceptedBody}
use Rattle.ownership_lowering_laws.specs.holder_model_typing.OwnedRunTyping.inner.OwnedTyped.{OwnedFunction, OwnedInst}
use Rattle.sil_verifier_runs.specs.holder_model.RunTyping.EndForms.{value_in}
use Rattle.sil_verifier_runs.specs.holder_model.RunTyping.Forms.{Form, form_of}
use Rattle.sil_verifier_runs.specs.holder_model.Frames.{Frame, Operands}
use Rattle.sil_verifier_runs.specs.holder_model.HolderStates.{HolderState}
use Rattle.sil_verifier_runs.specs.holder_model.ModuleFacts.{facts_of, facts_told}
use Rattle.sil_verifier_runs.specs.holder_model.Standing.{stands_at}
use Rattle.sil_verifier_runs.specs.holder_model.States.{Task}
use Rattle.sil_verifier_runs.specs.holder_model.LoweredRun.LowStepParts.{LowState}
use Rattle.sil_verifier_runs.specs.sil_verifier_frames.inner.Typed.TypedStates.{FrameIs}
use Rattle.ownership_lowering_laws.specs.holder_model_typing.TypedMemory.inner.Worlds.{World}
use Rattle.sil_verifier_runs.proofs.sil_verifier_frames.Typed.Data.{DataAre}
use Rattle.sil_verifier_runs.proofs.sil_verifier_frames.Typed.Entries.{FitEach, fit_data, operands_fit}
use Rattle.sil_verifier_runs.proofs.sil_verifier_frames.Typed.GoesOn.{typed_module}
use Rattle.ownership_lowering_runs.specs.StoredRuns.inner.PlaceRows.{StandsAt}

abbrev pub operand_forms : Module → Function → Inst → List Form
operand_forms m f i = map (form_of (declarations_of m) f) (map value_in i.operands)

abbrev pub result_forms : Module → Function → Inst → List Form
result_forms m f i = map (form_of (declarations_of m) f) i.results

module _ (m : Module) (s : HolderState) (l : LowState) (w : World) (frame : Frame) (rest : List (Task Frame)) (f : Function) (i : Inst) (ops : Operands)
    (a : IsAcceptedBody m frame.function.0 f) (frame_is : FrameIs m w f frame) (x : StandsAt m s l frame rest f i ops) where
  typed : OwnedFunction m f
  typed = (typed_module m a.verified).functions frame.function.0 f frame_is.is

  pub inst_typed : OwnedInst m f (stands_at f frame.trail) i
  inst_typed = typed.insts (stands_at f frame.trail) i x.here

  pub given_typed : DataAre m w (operand_forms m f i) ops.given
  given_typed =
      fit_data m w f (subst (λ vs. FitEach m w f vs ops.given) inst_typed.takes
      (operands_fit m w f (λ v. facts_told (facts_of m) frame.function v) s.memory (item_taken f (item.Inst (stands_at f frame.trail))) frame.entries ops frame_is.entries
      (typed.items (item.Inst (stands_at f frame.trail))).taken x.found).0)

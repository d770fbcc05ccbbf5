-- What objects ask of the places of a state: an operand that is no address of a field is on the stack, and a frame that waits stands at a call.
use Rattle.std.proofs.Common.{◌≡◌, ⊎_elim, ◌∷◌, Some, refl, sym, ap, ◌∙◌, subst}
use Rattle.std.proofs.lemmas.Option.{same_Some}
use Rattle.sil_verifier_frames.specs.sil_verifier_accepted.AcceptedModules.inner.Checked.{IsVerified}
use Rattle.sil_verifier_frames.specs.sil_verifier_values.inner.Known.{IsAcceptedBody}
use Rattle.sil_verifier_runs.specs.inner.Built.BuiltStates.{AreOthersOnStack, DoPlacesServe, WaitsAtCall}
use Rattle.sil_verifier_frames.proofs.sil_verifier_trails.RunTrails.WalkEdges.{are_next}
use Rattle.sil_verifier_frames.specs.memory_rules_accesses.Sources.{source_at, sources_of}
use Rattle.sil_verifier_frames.specs.memory_rules_accesses.declared.source.Source.TheVariants as source
use Rattle.sil_verifier_frames.specs.holder_model.Effects.{effect_of}
use Rattle.sil_verifier_frames.specs.holder_model.HolderStates.{HolderState}
use Rattle.sil_verifier_frames.specs.holder_model.Standing.{stands_at}
use Rattle.sil_verifier_frames.specs.inner.Placed.PlaceStates.{AreSlotsRight, TasksPlaced, WaitsPlaced}
use Rattle.sil_verifier_frames.proofs.Placed.Locating.{IsInObject, IsOperandAt, operand_at}
use Rattle.sil_verifier_frames.proofs.Placed.PlainAddresses.{named_address}
use Rattle.sil_verifier_frames.proofs.Placed.Reading.{operand_within}
use Rattle.sil_verifier_frames.proofs.Placed.RowsFind.{body, frame_typed, holds}
use Rattle.sil_verifier_frames.proofs.Placed.TrailsSo.{trail_laws}
use Rattle.sil_cfg_items.specs.Parts.{inst_at}
use Rattle.sil_ast.specs.declared.inst.Inst.{Inst}
use Rattle.sil_ast.specs.declared.module.Module.{Module}
use Rattle.sil_cfg.specs.declared.item.Item.TheVariants as item
use Rattle.sil_types_declarations.specs.TypeDefinitions.Declarations.{declarations_of}
use Rattle.sil_verifier_frames.specs.inner.Typed.TypedStates.{FrameIs, IsTypedState}

module _ (m : Module) (s : HolderState) (verified : IsVerified m) (is_typed : IsTypedState m s) (placed : AreSlotsRight m s) where
  others_on_stack : AreOthersOnStack m s
  others_on_stack frame rest f i is there here y among l at other p names =
      ⊎_elim
      (λ rooted. (operand_within m s.memory f frame rest (holds trail_laws m s verified is_typed placed frame rest f i is there here) y.value operand.location operand.is
      rooted operand.made p names).home)
      (λ (field : IsInObject trail_laws m frame.function.0 f own operand.location.root). absurd (other field.of field.place field.trivial
      (subst (λ x. source_at (sources_of (declarations_of m) f) x.root ≡ source.Field field.of field.place field.trivial)
      (same_Some operand.location l (sym operand.is ∙ at)) field.source)))
      operand.root
    where
      typed : FrameIs m is_typed.world f frame
      typed = frame_typed trail_laws m s verified is_typed placed frame rest f i is there here

      own : IsAcceptedBody m frame.function.0 f
      own = body trail_laws m s verified is_typed placed frame rest f i is there here

      operand : IsOperandAt trail_laws m frame.function.0 f own frame.trail y.value
      operand =
          operand_at trail_laws m frame.function.0 f own frame.trail (item.Inst (stands_at f frame.trail))
          (are_next f frame.trail (item.Inst (stands_at f frame.trail)) typed.goes (refl, i, here), typed.trail) y among
          (named_address m is_typed.world frame.function.0 f own frame.entries typed.entries y.value p names)

  waits_at_call : WaitsAtCall m s
  waits_at_call callee frame rest f i is there here =
      let same : waits.f ≡ f = same_Some waits.f f (sym waits.is ∙ there) in
      let call : waits.call ≡ i = same_Some waits.call i (sym (subst (λ g. inst_at g (stands_at g frame.trail) ≡ Some waits.call) same waits.stands) ∙ here) in
      ap (λ x. effect_of x.op) (sym call) ∙ waits.calls
    where
      waits : WaitsPlaced m s.memory callee frame rest
      waits = (subst (TasksPlaced m s.memory) is placed).1.0

  pub places_serve : DoPlacesServe m s
  places_serve = record { others = others_on_stack; waits = waits_at_call }

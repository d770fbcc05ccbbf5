-- What is known of the first frame, its types and its places, where its instruction does something.
use Rattle.std.proofs.Common.{◌≡◌, List, ◌∷◌, Some, sym, ◌∙◌, subst, slice_get}
use Rattle.std.proofs.lemmas.Option.{same_Some}
use Rattle.holder_model_laws.specs.holder_model.Frames.{Frame}
use Rattle.holder_model_laws.specs.holder_model.HolderStates.{HolderState}
use Rattle.holder_model_laws.specs.holder_model.Standing.{stands_at}
use Rattle.holder_model_laws.specs.holder_model.States.{Runs, Task}
use Rattle.sil_verifier_trails.specs.sil_verifier_accepted.AcceptedModules.inner.Checked.{IsVerified}
use Rattle.sil_verifier_trails.specs.sil_verifier_values.inner.Known.{IsAcceptedBody}
use Rattle.sil_cfg_items.specs.Parts.{inst_at}
use Rattle.sil_ast.specs.declared.function.Function.{Function}
use Rattle.sil_ast.specs.declared.inst.Inst.{Inst}
use Rattle.sil_ast.specs.declared.module.Module.{Module}
use Rattle.sil_verifier_frames.specs.inner.Typed.TypedStates.{FrameIs, IsTypedState, TasksAre}
use Rattle.sil_verifier_frames.proofs.Typed.GoesOn.{accepted_body}
use Rattle.sil_verifier_frames.specs.inner.Placed.FramePlaces.{HoldsPlaces}
use Rattle.sil_verifier_frames.specs.inner.Placed.PlaceStates.{AreSlotsRight, TasksPlaced}
use Rattle.sil_verifier_frames.specs.inner.Placed.TrailLaws.{TrailLaws}

module _ (laws : TrailLaws) (m : Module) (s : HolderState) (verified : IsVerified m) (is_typed : IsTypedState m s) (placed : AreSlotsRight m s)
    (frame : Frame) (rest : List (Task Frame)) (f : Function) (i : Inst) (is : s.tasks ≡ Runs frame ∷ rest) (there : slice_get m.functions frame.function.0 ≡ Some f)
    (here : inst_at f (stands_at f frame.trail) ≡ Some i) where
  pub are_typed : TasksAre m is_typed.world (Runs frame ∷ rest)
  are_typed = subst (TasksAre m is_typed.world) is is_typed.tasks

  pub frame_typed : FrameIs m is_typed.world f frame
  frame_typed = subst (λ g. FrameIs m is_typed.world g frame) (same_Some are_typed.0.0 f (sym are_typed.0.1.is ∙ there)) are_typed.0.1

  pub are_placed : TasksPlaced m s.memory (Runs frame ∷ rest)
  are_placed = subst (TasksPlaced m s.memory) is placed

  pub holds : HoldsPlaces m s.memory f frame rest
  holds = subst (λ g. HoldsPlaces m s.memory g frame rest) (same_Some are_placed.0.f f (sym are_placed.0.is ∙ there)) are_placed.0.holds

  pub body : IsAcceptedBody m frame.function.0 f
  body = accepted_body m verified frame.function f frame_typed.is frame_typed.bodied

-- The first frame of a guarded state, as its function has it.
use Rattle.std.proofs.Common.{◌≡◌, List, ◌∷◌, sym, ◌∙◌, subst, Some, Ok}
use Rattle.std.specs.Prelude.{slice_get}
use Rattle.std.proofs.lemmas.Option.{same_Some}
use Rattle.sil_cfg_items.specs.declared.taken.Taken.{Taken}
use Rattle.sil_ast.specs.declared.function.Function.{Function}
use Rattle.sil_ast.specs.declared.module.Module.{Module}
use Rattle.sil_types_declarations.specs.TypeDefinitions.Declarations.{Declarations, declarations_of}
use Rattle.holder_model_values.specs.RunValues.Memory.{Memory}
use Rattle.sil_verifier_frames.specs.ownership_kinds_origins.Facts.{facts_in}
use Rattle.sil_verifier_frames.specs.holder_model_typing.TypedMemory.inner.Worlds.{World}
use Rattle.sil_verifier_frames.specs.inner.Typed.TypedStates.{FrameIs}
use Rattle.sil_verifier_frames.specs.holder_model.Frames.{Entry, Frame, without_ended}
use Rattle.sil_verifier_frames.specs.holder_model.States.{Runs, Task}
use Rattle.sil_verifier_runs.specs.inner.Guarded.Guards.{AreLentGuarded, AreOfKinds}
use Rattle.sil_verifier_runs.specs.inner.Guarded.GuardedStates.{IsGuardedFrame, IsGuardedRun, Loans}
use Rattle.sil_verifier_runs.specs.inner.Guarded.Stepping.{KeepsBorrowed}
use Rattle.sil_verifier_runs.proofs.Guarded.Behind.{guarded_left}

pub frame_of : (m : Module) (w : World) (frame : Frame) (f g : Function) → FrameIs m w f frame → slice_get m.functions frame.function.0 ≡ Some g → FrameIs m w g frame
frame_of m w frame f g is there = subst (λ x. FrameIs m w x frame) (same_Some f g (sym is.is ∙ there)) is

module _ (m : Module) (loans : Loans) (memory : Memory) (rest : List (Task Frame)) (frame : Frame) (f : Function)
    (state : IsGuardedRun m loans memory (Runs frame ∷ rest)) (is : slice_get m.functions frame.function.0 ≡ Some f) where
  abbrev d : Declarations
  d = declarations_of m

  top : IsGuardedFrame m loans memory frame rest
  top = state.tasks_are.0

  pub first_kinds : AreOfKinds d f frame.entries
  first_kinds = subst (λ (g : Function). AreOfKinds d g frame.entries) (same_Some top.f f (sym top.is ∙ is)) top.kinds

  pub first_lent : AreLentGuarded d f (loans f frame) memory frame.entries frame.trail
  first_lent = subst (λ (g : Function). AreLentGuarded d g (loans g frame) memory frame.entries frame.trail) (same_Some top.f f (sym top.is ∙ is)) top.lent

  -- and behind the ends of an item
  pub first_left : (left : List Entry) (ts : List Taken) → without_ended (facts_in d f) ts frame.entries ≡ Ok left → KeepsBorrowed m loans f frame.entries left
      → AreLentGuarded d f (loans f frame) memory left frame.trail
  first_left left ts ends borrowed = (guarded_left d f (loans f frame) memory frame.entries left frame.trail ts first_kinds first_lent ends borrowed).1

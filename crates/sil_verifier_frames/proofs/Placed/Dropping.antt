-- Drops and finishes touch no place on the stack.
use Rattle.std.proofs.Common.{◌≡◌, inr, ℕ, List, length, refl, sym, ap, slice_get, arith}
use Rattle.holder_model_laws.specs.holder_model.Frames.{Frame}
use Rattle.holder_model_laws.specs.holder_model.HolderStates.{HolderNext, HolderState}
use Rattle.holder_model_laws.specs.holder_model.ModuleFacts.{ModuleFacts}
use Rattle.holder_model_laws.specs.holder_model.States.{Task}
use Rattle.holder_model_laws.specs.holder_model.Dropping.{ended, field_references, in_phase}
use Rattle.holder_model_laws.specs.HolderLaws.inner.Steps.Ways.{DropsOne, FinishesOne}
use Rattle.holder_model_values.specs.RunValues.Memory.{Memory, object_at, with_object}
use Rattle.holder_model_values.specs.declared.run_values.phase.Phase.TheVariants.{Deiniting}
use Rattle.sil_ast.specs.declared.module.Module.{Module}
use Rattle.sil_ast.specs.declared.place.ObjectId.{ObjectId}
use Rattle.sil_verifier_frames.specs.inner.Placed.Items.{PlacedNext}
use Rattle.sil_verifier_frames.specs.inner.Placed.PlaceStates.{AreSlotsRight, TasksPlaced}
use Rattle.sil_verifier_frames.proofs.Placed.Staying.{tasks_still}
use Rattle.sil_verifier_frames.proofs.Placed.Taking.{dropping_placed}

module _ (m : Module) (before after : Memory) (same : after.stack ≡ before.stack) where
  size : length before.stack ≡ length after.stack
  size = ap length (sym same)

  pub same_stack : (tasks : List (Task Frame)) → TasksPlaced m before tasks → TasksPlaced m after tasks
  same_stack tasks h = let long = size in tasks_still m before after (omega (arith, long)) tasks h (λ n lt. inr (ap (λ cells. slice_get cells n) same))

module _ (m : Module) (told : ModuleFacts) (bound : ℕ) (s : HolderState) (Found : Type 0) where
  pub drops_one : (o : ObjectId) → AreSlotsRight m s → (next : HolderNext) → DropsOne m told bound s o next → PlacedNext Found m next
  drops_one o h _ (DropsOne.held_still left is) = h
  drops_one o h _ (DropsOne.not_live none dead) = h
  drops_one o h _ (DropsOne.deinitialises none live turn) = (tt, same_stack m s.memory (in_phase Deiniting s.memory o) refl s.tasks h)
  drops_one o h _ (DropsOne.no_turn none live turn) = tt

  pub finishes_one : (o : ObjectId) → AreSlotsRight m s → (next : HolderNext) → FinishesOne m told bound s o next → PlacedNext Found m next
  finishes_one o h _ (FinishesOne.finishes none) =
      dropping_placed m (with_object s.memory o (ended (object_at s.memory o))) (field_references (object_at s.memory o)) s.tasks
      (same_stack m s.memory (with_object s.memory o (ended (object_at s.memory o))) refl s.tasks h)
  finishes_one o h _ (FinishesOne.escapes left is) = tt

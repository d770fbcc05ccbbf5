-- The tasks behind an allocation of a slot, and behind a deallocation.
use Rattle.std.proofs.Common.{◌≡◌, ⊎_elim, inl, inr, ◌<◌, ◌≤◌, ℕ, List, [], ◌∷◌, length, Some, slice_get, arith}
use Rattle.std.proofs.lemmas.Bool.{cases_lt}
use Rattle.holder_model_laws.specs.holder_model.Calling.{places_given}
use Rattle.holder_model_laws.specs.holder_model.Frames.{Frame}
use Rattle.holder_model_laws.specs.holder_model.States.{Runs, Task}
use Rattle.holder_model_laws.proofs.HolderLaws.Cells.Writes.{slots_new}
use Rattle.holder_model_values.specs.RunValues.Memory.{Memory}
use Rattle.holder_model_values.specs.RunValues.Shapes.{Shape}
use Rattle.sil_ast.specs.declared.function.Function.{Function}
use Rattle.sil_ast.specs.declared.module.Module.{Module}
use Rattle.sil_verifier_frames.specs.inner.Placed.FramePlaces.{HoldsPlaces, IsFree}
use Rattle.sil_verifier_frames.specs.inner.Placed.PlaceStates.{BelowPlaced, TasksPlaced}
use Rattle.sil_verifier_frames.proofs.Placed.Opening.{with_slot}
use Rattle.sil_verifier_frames.proofs.Placed.Staying.{new_free_below}
use Rattle.sil_verifier_frames.proofs.Placed.Taking.{goes_placed}

module _ (m : Module) (memory : Memory) (f : Function) (frame next : Frame) (rest : List (Task Frame)) (is : slice_get m.functions frame.function.0 ≡ Some f)
    (same : next.function ≡ frame.function) (none : next.lent ≡ []) (given : places_given f next.entries ≡ places_given f frame.entries) (below : BelowPlaced m memory frame rest) where
  -- the new cells are no frame's
  pub new_below : (n : ℕ) → length memory.stack ≤ n → IsFree m rest n
  new_below n new = new_free_below m memory n new frame rest below

  pub slot_allocated : (s : Shape) → HoldsPlaces m (with_slot memory s) f next rest → TasksPlaced m (with_slot memory s) (Runs next ∷ rest)
  slot_allocated s holds =
      let long = (slots_new memory s).2 in
      goes_placed m memory (with_slot memory s) f frame next rest is same none given holds (omega (arith, long))
      (λ n. ⊎_elim
      (λ (lt : n < length memory.stack). inr ((slots_new memory s).0 n lt))
      (λ (le : length memory.stack ≤ n). inl (new_below n le))
      (cases_lt n (length memory.stack)))
      below

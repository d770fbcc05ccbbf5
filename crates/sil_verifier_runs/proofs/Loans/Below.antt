-- The frames below: what their open scopes lend no frame above may change, so it is kept.
use Rattle.std.proofs.Common.{◌≡◌, ◌⊎◌, ⊎_elim, inl, inr, ◌<◌, ℕ, List, [], ◌∷◌, length, true, Some, sym, ap, ◌∙◌, subst, slice_get}
use Rattle.std.proofs.lemmas.Bool.{false≢true}
use Rattle.std.proofs.lemmas.Option.{same_Some, slice_get_within}
use Rattle.sil_verifier_frames.specs.holder_model.Data.{Datum}
use Rattle.sil_verifier_frames.specs.holder_model.Frames.{Frame, Lent, entry_at}
use Rattle.sil_verifier_frames.specs.holder_model.States.{Drops, Finishes, Runs, Task}
use Rattle.sil_verifier_frames.specs.sil_verifier_accepted.AcceptedModules.inner.Checked.{IsVerified}
use Rattle.sil_verifier_frames.specs.holder_model_laws.HolderLaws.inner.Steps.Stacks.{Below}
use Rattle.sil_verifier_frames.specs.holder_model_laws.HolderLaws.inner.Cells.Cells.{cell_at}
use Rattle.holder_model_values.specs.RunValues.Memory.{Memory}
use Rattle.holder_model_values.specs.RunValues.Places.{OnStack}
use Rattle.sil_ast.specs.declared.function.Function.{Function}
use Rattle.sil_ast.specs.declared.module.Module.{Module}
use Rattle.sil_ast.specs.declared.place.ValueId.{ValueId}
use Rattle.sil_types_declarations.specs.TypeDefinitions.Declarations.{declarations_of}
use Rattle.sil_verifier_frames.proofs.Typed.Stacks.{BelowTyped}
use Rattle.sil_verifier_frames.specs.inner.Typed.TypedStates.{TasksAre, WaitsTyped}
use Rattle.sil_verifier_frames.specs.holder_model_typing.TypedMemory.inner.Worlds.{World}
use Rattle.sil_verifier_frames.specs.inner.Tracked.TrackedStates.{AreTasksTracked, GoesAlong, InFunction, WaitsAlong}
use Rattle.numbered_form.specs.ValueTables.Borrows.{is_borrow}
use Rattle.sil_verifier_runs.specs.inner.Guarded.Stepping.{KeepLoans, KeepsLoans}
use Rattle.sil_verifier_frames.specs.inner.Placed.FramePlaces.{Frees, HoldsPlaces, IsFree, is_lent}
use Rattle.sil_verifier_frames.specs.inner.Placed.PlaceStates.{BelowPlaced, GoesPlaced, TasksPlaced, WaitsPlaced}
use Rattle.sil_verifier_runs.specs.inner.Loans.Loans.{loans_of}
use Rattle.sil_verifier_runs.proofs.Loans.Clear.{in_root}
use Rattle.sil_verifier_runs.proofs.Loans.LoanAt.{LendsCell, lends_cell}
use Rattle.sil_verifier_runs.proofs.Loans.Waiting.{waiting_holds, waiting_not_lent}

abbrev pub TrackedBelow : Module → Frame → List (Task Frame) → Type 0
TrackedBelow m callee tasks =
    Below (λ frame rest. InFunction m GoesAlong frame) (λ waiting frame rest. InFunction m WaitsAlong frame) (λ waiting o. Unit {0}) (λ references. Unit {0}) (λ deinits o. Unit {0})
    callee tasks

-- a cell that a scope of a frame lends is one of a root's place: what is free of the frame is lent by it
pub lent_where_free : (m : Module) (f : Function) (memory : Memory) (frame : Frame) (rest : List (Task Frame)) → HoldsPlaces m memory f frame rest → (s : ValueId) (n : ℕ)
    → LendsCell m f frame s n → Frees (declarations_of m) f frame n → is_lent frame.lent n ≡ true
lent_where_free m f memory frame rest h s n x free = free x.location.root x.whole x.root.there x.names (in_root m f memory frame rest h s n x)

module _ (m : Module) (verified : IsVerified m) (memory later : Memory) (w : World) where
  abbrev SameCell : ℕ → Type 0
  SameCell n = cell_at later OnStack n ≡ cell_at memory OnStack n

  -- each cell of the stack is free, or stays
  abbrev pub StaysFor : List (Task Frame) → Type 0
  StaysFor tasks = (n : ℕ) → n < length memory.stack → IsFree m tasks n ⊎ SameCell n

  kept_where : (frame : Frame) (rest : List (Task Frame)) → StaysFor (Runs frame ∷ rest)
      → ((f : Function) (s : ValueId) (x : Datum) (k : ℕ) → slice_get m.functions frame.function.0 ≡ Some f → is_borrow f s ≡ true → entry_at frame.entries s ≡ Lent x
      → loans_of m f frame s k ≡ true → Frees (declarations_of m) f frame k → ⊥) → KeepsLoans m (loans_of m) memory later frame
  kept_where frame rest stays never f s x k y is borrow lent lends keeps = ⊎_elim
      (λ (free : IsFree m (Runs frame ∷ rest) k). absurd (never f s x k is borrow lent lends (free.0 f is)))
      (λ (same : SameCell k). same ∙ keeps)
      (stays k (slice_get_within memory.stack k _ keeps))

  rest_stays : (frame : Frame) (rest : List (Task Frame)) → StaysFor (Runs frame ∷ rest) → StaysFor rest
  rest_stays frame rest stays n lt = ⊎_elim (λ free. inl free.1) (λ same. inr same) (stays n lt)

  -- a frame that goes on has lent nothing
  goes_never : (frame : Frame) (rest : List (Task Frame)) → GoesPlaced m memory frame rest → (f : Function) (s : ValueId) (x : Datum) (k : ℕ)
      → slice_get m.functions frame.function.0 ≡ Some f → is_borrow f s ≡ true → entry_at frame.entries s ≡ Lent x → loans_of m f frame s k ≡ true
      → Frees (declarations_of m) f frame k → ⊥
  goes_never frame rest g f s x k is borrow lent lends free =
      let same : g.f ≡ f = same_Some g.f f (sym g.is ∙ is) in
      let holds = subst (λ b. HoldsPlaces m memory b frame rest) same g.holds in
      false≢true (sym (ap (λ ls. is_lent ls k) g.none_lent) ∙ lent_where_free m f memory frame rest holds s k (lends_cell m f frame s k lends) free)

  -- a frame that waits has lent none of what its scopes lend
  waits_never : (callee frame : Frame) (rest : List (Task Frame)) → WaitsTyped m w callee frame rest → WaitsPlaced m memory callee frame rest → InFunction m WaitsAlong frame
      → (f : Function) (s : ValueId) (x : Datum) (k : ℕ) → slice_get m.functions frame.function.0 ≡ Some f → is_borrow f s ≡ true → entry_at frame.entries s ≡ Lent x
      → loans_of m f frame s k ≡ true → Frees (declarations_of m) f frame k → ⊥
  waits_never callee frame rest typed placed along f s x k is borrow lent lends free =
      waiting_not_lent m verified memory w callee frame rest typed placed f is (along f is) s x k borrow lent lends
      (lent_where_free m f memory frame rest (waiting_holds m verified memory w callee frame rest typed placed f is (along f is)) s k (lends_cell m f frame s k lends) free)

  mutual
    pub below_kept : (callee : Frame) (rest : List (Task Frame)) → BelowTyped m w callee rest → BelowPlaced m memory callee rest → TrackedBelow m callee rest → StaysFor rest
        → KeepLoans m (loans_of m) memory later rest
    below_kept callee [] typed placed tracked stays = tt
    below_kept callee (Runs frame ∷ rest) typed placed tracked stays = (
      kept_where frame rest stays (waits_never callee frame rest typed.0 placed.0 tracked.0),
      below_kept frame rest typed.1 placed.1 tracked.1 (rest_stays frame rest stays),
    )
    below_kept callee (Drops references ∷ rest) typed placed tracked stays = absurd typed
    below_kept callee (Finishes deinits o ∷ rest) typed placed tracked stays = going_kept rest typed.2 placed.2 tracked.2 stays

    pub going_kept : (tasks : List (Task Frame)) → TasksAre m w tasks → TasksPlaced m memory tasks → AreTasksTracked m tasks → StaysFor tasks
        → KeepLoans m (loans_of m) memory later tasks
    going_kept [] typed placed tracked stays = absurd typed
    going_kept (Runs frame ∷ rest) typed placed tracked stays = (
      kept_where frame rest stays (goes_never frame rest placed.0),
      below_kept frame rest typed.1 placed.1 tracked.1 (rest_stays frame rest stays),
    )
    going_kept (Drops references ∷ rest) typed placed tracked stays = going_kept rest typed.1 placed.1 tracked.1 stays
    going_kept (Finishes deinits o ∷ rest) typed placed tracked stays = going_kept rest typed.1 placed.1 tracked.1 stays

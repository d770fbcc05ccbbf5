-- What the frames below hold stays where each cell stays that one of them keeps for itself.
use Rattle.std.proofs.Common.{◌≡◌, ◌<◌, ◌≤◌, ◌⊎◌, ⊎_elim, inl, inr, ℕ, List, [], ◌∷◌, length, Some, slice_get, sym, ◌∙◌, subst, arith}
use Rattle.std.proofs.lemmas.Bool.{true≢false}
use Rattle.std.proofs.lemmas.Option.{same_Some}
use Rattle.holder_model_laws.specs.holder_model.Frames.{Frame}
use Rattle.holder_model_laws.specs.holder_model.States.{Drops, Finishes, Runs, Task}
use Rattle.holder_model_laws.specs.HolderLaws.inner.Cells.Cells.{IsCell, cell_at}
use Rattle.holder_model_values.specs.RunValues.Memory.{Memory}
use Rattle.holder_model_values.specs.RunValues.Places.{OnStack}
use Rattle.sil_ast.specs.declared.function.Function.{Function}
use Rattle.sil_ast.specs.declared.module.Module.{Module}
use Rattle.sil_types_declarations.specs.TypeDefinitions.Declarations.{declarations_of}
use Rattle.sil_verifier_frames.specs.inner.Placed.FramePlaces.{Frees, HoldsPlaces, IsFree}
use Rattle.sil_verifier_frames.specs.inner.Placed.Roots.{IsThere}
use Rattle.sil_verifier_frames.specs.inner.Placed.PlaceStates.{BelowPlaced, GoesPlaced, TasksPlaced, WaitsPlaced}
use Rattle.sil_verifier_frames.proofs.Placed.Naming.{inside_stack, named_cell, stack_inside}

module _ (m : Module) (before after : Memory) (more : length before.stack ≤ length after.stack) where
  abbrev SameCell : ℕ → Type 0
  SameCell n = cell_at after OnStack n ≡ cell_at before OnStack n

  -- each cell of the stack is free, or stays
  abbrev pub Stays : List (Task Frame) → Type 0
  Stays tasks = (n : ℕ) → n < length before.stack → IsFree m tasks n ⊎ SameCell n

  named_still : (f : Function) (frame : Frame) (rest : List (Task Frame)) → (h : HoldsPlaces m before f frame rest)
      → ((n : ℕ) → n < length before.stack → Frees (declarations_of m) f frame n ⊎ SameCell n) → HoldsPlaces m after f frame rest
  named_still f frame rest h stays = record {
    named = λ v there.
        let x = h.named v there in
        let all = inside_stack before x.place x.home x.inside in
        record { place = x.place; names = x.names; home = x.home; inside = stack_inside after x.place x.home (omega (arith, all, more)) };
    cells = λ v there p names on is n has kept. ⊎_elim
        (λ (free : Frees (declarations_of m) f frame n). absurd (true≢false (sym (free v p there names has) ∙ kept)))
        (λ (same : SameCell n). subst (IsCell on) (sym same) (h.cells v there p names on is n has kept))
        (stays n (named_cell m before frame.entries v (h.named v there) p names n has));
    apart = h.apart;
    free = h.free;
    parts = h.parts;
    fields = h.fields;
    handed = h.handed;
    slots = h.slots;
  }

  goes_still : (frame : Frame) (rest : List (Task Frame)) → GoesPlaced m before frame rest → Stays (Runs frame ∷ rest) → GoesPlaced m after frame rest
  goes_still frame rest h stays = record {
    f = h.f;
    is = h.is;
    holds = named_still h.f frame rest h.holds (λ n lt. ⊎_elim (λ free. inl (free.0 h.f h.is)) (λ same. inr same) (stays n lt));
    none_lent = h.none_lent;
  }

  waits_still : (callee frame : Frame) (rest : List (Task Frame)) → WaitsPlaced m before callee frame rest → Stays (Runs frame ∷ rest)
      → WaitsPlaced m after callee frame rest
  waits_still callee frame rest h stays = record {
    f = h.f;
    is = h.is;
    holds = named_still h.f frame rest h.holds (λ n lt. ⊎_elim (λ free. inl (free.0 h.f h.is)) (λ same. inr same) (stays n lt));
    call = h.call;
    stands = h.stands;
    calls = h.calls;
    lent = h.lent;
    body = h.body;
    there = h.there;
    given = h.given;
  }

  rest_stays : (frame : Frame) (rest : List (Task Frame)) → Stays (Runs frame ∷ rest) → Stays rest
  rest_stays frame rest stays n lt = ⊎_elim (λ free. inl free.1) (λ same. inr same) (stays n lt)

  mutual
    pub tasks_still : (tasks : List (Task Frame)) → TasksPlaced m before tasks → Stays tasks → TasksPlaced m after tasks
    tasks_still [] h stays = absurd h
    tasks_still (Runs frame ∷ rest) h stays = (goes_still frame rest h.0 stays, below_still frame rest h.1 (rest_stays frame rest stays))
    tasks_still (Drops references ∷ rest) h stays = (tt, tasks_still rest h.1 stays)
    tasks_still (Finishes deinits o ∷ rest) h stays = (tt, tasks_still rest h.1 stays)

    pub below_still : (callee : Frame) (tasks : List (Task Frame)) → BelowPlaced m before callee tasks → Stays tasks → BelowPlaced m after callee tasks
    below_still callee [] h stays = tt
    below_still callee (Runs frame ∷ rest) h stays = (waits_still callee frame rest h.0 stays, below_still frame rest h.1 (rest_stays frame rest stays))
    below_still callee (Drops references ∷ rest) h stays = absurd h
    below_still callee (Finishes deinits o ∷ rest) h stays = (tt, tt, tasks_still rest h.2 stays)

module _ (m : Module) (memory : Memory) (n : ℕ) (new : length memory.stack ≤ n) where
  beyond : (f g : Function) (frame : Frame) (rest : List (Task Frame)) → slice_get m.functions frame.function.0 ≡ Some f → HoldsPlaces m memory f frame rest
      → slice_get m.functions frame.function.0 ≡ Some g → Frees (declarations_of m) g frame n
  beyond f g frame rest is h too v p there names has =
      let same : f ≡ g = same_Some f g (sym is ∙ too) in
      let here : IsThere (declarations_of m) f frame.trail v = subst (λ x. IsThere (declarations_of m) x frame.trail v) (sym same) there in
      let lt = named_cell m memory frame.entries v (h.named v here) p names n has in
      absurd (omega (arith, lt, new))

  -- a cell behind all that there are is no frame's
  mutual
    pub new_is_free : (tasks : List (Task Frame)) → TasksPlaced m memory tasks → IsFree m tasks n
    new_is_free [] h = tt
    new_is_free (Runs frame ∷ rest) h = (λ f is. beyond h.0.f f frame rest h.0.is h.0.holds is, new_free_below frame rest h.1)
    new_is_free (Drops references ∷ rest) h = new_is_free rest h.1
    new_is_free (Finishes deinits o ∷ rest) h = new_is_free rest h.1

    pub new_free_below : (callee : Frame) (tasks : List (Task Frame)) → BelowPlaced m memory callee tasks → IsFree m tasks n
    new_free_below callee [] h = tt
    new_free_below callee (Runs frame ∷ rest) h = (λ f is. beyond h.0.f f frame rest h.0.is h.0.holds is, new_free_below frame rest h.1)
    new_free_below callee (Drops references ∷ rest) h = absurd h
    new_free_below callee (Finishes deinits o ∷ rest) h = new_is_free rest h.2

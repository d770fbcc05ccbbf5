-- A cell that no frame below keeps for itself, and that the first frame wasn't given, was given to no frame: what a frame lends, its callee was given.
use Rattle.std.proofs.Common.{◌≡◌, ℕ, List, [], ◌∷◌, Bool, true, false, Some, map, not, sym, ap, ◌∙◌, subst}
use Rattle.std.specs.Prelude.{slice_get}
use Rattle.std.proofs.lemmas.Bool.{and_parts, false_from_ne_true, true≢false}
use Rattle.std.proofs.lemmas.Option.{same_Some}
use Rattle.argument_conventions.specs.Arguments.{arguments_of}
use Rattle.argument_conventions.specs.declared.row.AddressRow.{AddressRow}
use Rattle.sil_cfg_items.specs.Items.{item_defined}
use Rattle.numbered_form.proofs.PointChecks.Among.{Among, among_map}
use Rattle.holder_model_values.specs.RunValues.Memory.{Memory}
use Rattle.holder_model_values.specs.RunValues.Places.{Place}
use Rattle.sil_ast.specs.declared.function.Function.{Function}
use Rattle.sil_ast.specs.declared.module.Module.{Module}
use Rattle.sil_ast.specs.declared.place.ValueId.{ValueId}
use Rattle.sil_cfg.specs.declared.item.Item.TheVariants as item
use Rattle.sil_types_declarations.specs.TypeDefinitions.Declarations.{declarations_of}
use Rattle.sil_verifier_runs.specs.holder_model_laws.HolderLaws.inner.Cells.Cells.{has_cell}
use Rattle.sil_verifier_runs.proofs.holder_model_laws.HolderLaws.Cells.PlaceCells.{not_cell}
use Rattle.sil_verifier_runs.specs.sil_verifier_accepted.AcceptedModules.inner.Checked.{IsVerified}
use Rattle.sil_types.specs.Typing.Shapes.{is_trivial_object}
use Rattle.sil_verifier_runs.specs.sil_verifier_values.inner.Known.{IsAcceptedBody}
use Rattle.sil_verifier_runs.proofs.sil_verifier_frames.Placed.Calls.{among_any}
use Rattle.sil_verifier_runs.proofs.sil_verifier_frames.Placed.Given.{given_from, mapped_get}
use Rattle.sil_verifier_runs.proofs.sil_verifier_trails.PlacedValues.ArgumentsTold.{told_arguments}
use Rattle.memory_rules_accesses.specs.Sources.{handed_source, source_at, sources_of}
use Rattle.memory_rules_accesses.specs.declared.source.Source.TheVariants as source
use Rattle.sil_verifier_runs.specs.sil_verifier_frames.inner.Placed.FramePlaces.{Frees, IsFree, Names, is_lent, lends}
use Rattle.sil_verifier_runs.specs.sil_verifier_frames.inner.Placed.PlaceStates.{BelowPlaced, TasksPlaced, as_given}
use Rattle.sil_verifier_runs.specs.sil_verifier_frames.inner.Placed.Roots.{argument}
use Rattle.sil_verifier_runs.specs.holder_model.Calling.{argument_data, places_given}
use Rattle.sil_verifier_runs.specs.holder_model.Data.{AddressOf}
use Rattle.sil_verifier_runs.specs.holder_model.Frames.{Frame, LentPlace, datum_in, entry_at, has_any}
use Rattle.sil_verifier_runs.specs.holder_model.States.{Drops, Finishes, Runs, Task}
use Rattle.sil_verifier_runs.specs.holder_model_laws.HolderLaws.inner.Steps.Stacks.{Below}
use Rattle.sil_verifier_runs.specs.sil_verifier_frames.inner.Typed.TypedStates.{DeinitsTyped, DroppedTyped, FinishedTyped, FrameIs, GoesTyped, TasksAre, WaitsTyped}
use Rattle.ownership_lowering_laws.specs.holder_model_typing.TypedMemory.inner.Worlds.{World}
use Rattle.sil_verifier_runs.proofs.sil_verifier_frames.Typed.GoesOn.{accepted_body}
use Rattle.ownership_lowering_runs.proofs.SameRuns.GivenParts.{given_source}
use Rattle.ownership_lowering_runs.proofs.SameRuns.SparedPartsTasks.{AreApartFrom, IsApartFrom}

module _ (m : Module) (n : ℕ) where
  -- no argument of the frame has the cell
  abbrev pub WasNotGiven : Frame → Type 0
  WasNotGiven frame = (g : Function) → slice_get m.functions frame.function.0 ≡ Some g → (v : ValueId) (row : AddressRow) (trivial : Bool)
      → source_at (sources_of (declarations_of m) g) v ≡ source.Argument row trivial → (q : Place) → Names frame.entries v q → has_cell q n ≡ false

  abbrev pub WereNotGiven : List (Task Frame) → Type 0
  WereNotGiven [] = Unit {0}
  WereNotGiven (Runs frame ∷ rest) = WasNotGiven frame × WereNotGiven rest
  WereNotGiven (Drops references ∷ rest) = WereNotGiven rest
  WereNotGiven (Finishes deinits o ∷ rest) = WereNotGiven rest

  -- a frame that neither keeps the cell for itself nor has lent it wasn't given it
  kept_none : (frame : Frame) → ((f : Function) → slice_get m.functions frame.function.0 ≡ Some f → Frees (declarations_of m) f frame n)
      → is_lent frame.lent n ≡ false → WasNotGiven frame
  kept_none frame free unlent g there v row trivial src q names =
      not_cell q n (λ has. true≢false (sym (free g there v q (argument row trivial src) names has) ∙ unlent))

  -- ---- what a callee wasn't given wasn't lent to it

  module _ (callee : Frame) (body : Function) (there : slice_get m.functions callee.function.0 ≡ Some body) (a : IsAcceptedBody m callee.function.0 body) where
    record IsArgumentOf (l : LentPlace) : Type 0 where
      v : ValueId
      trivial : Bool
      source : source_at (sources_of (declarations_of m) body) v ≡ source.Argument l.row trivial
      names : Names callee.entries v l.place

    argument_of : (l : LentPlace) → Among l (places_given body callee.entries) → IsArgumentOf l
    argument_of l c =
        let g = given_from (arguments_of body.signature) (argument_data callee.entries (item_defined body item.Entry)) l c in
        let v = mapped_get (λ w. datum_in (entry_at callee.entries w)) (item_defined body item.Entry) g.number (Some (AddressOf l.place)) g.holds in
        record {
          v = v.0;
          trivial = is_trivial_object (declarations_of m) g.by.ty;
          source = told_arguments m callee.function.0 body a g.number v.0 g.by v.1 g.is ∙ ap (handed_source (is_trivial_object (declarations_of m) g.by.ty)) g.row_is;
          names = v.2;
        }

    unlent : (lent : List LentPlace) → places_given body callee.entries ≡ map as_given lent → WasNotGiven callee → is_lent lent n ≡ false
    unlent lent given none = false_from_ne_true (is_lent lent n) (λ e.
        let found = among_any (lends n) lent e in
        let l : LentPlace = found.0 in
        let by = argument_of (as_given l) (subst (Among (as_given l)) (sym given) (among_map as_given l lent found.1)) in
        let has : has_cell l.place n ≡ true = (and_parts (not l.row.shared) (has_cell l.place n) found.2).1 in
        true≢false (sym has ∙ none body there by.v l.row by.trivial by.source (as_given l).place by.names))

  -- ---- so it is of the frames below

  module _ (verified : IsVerified m) (w : World) (memory : Memory) where
    abbrev TypedBelow : Frame → List (Task Frame) → Type 0
    TypedBelow callee tasks = Below (GoesTyped m w) (WaitsTyped m w) (DeinitsTyped m w) (DroppedTyped m w) (FinishedTyped m w) callee tasks

    mutual
      none_given : (tasks : List (Task Frame)) → TasksAre m w tasks → TasksPlaced m memory tasks → IsFree m tasks n → WereNotGiven tasks
      none_given [] t p free = absurd p
      none_given (Runs frame ∷ rest) t p free =
          let now : WasNotGiven frame = kept_none frame free.0 (ap (λ ls. is_lent ls n) p.0.none_lent) in
          (now, none_below frame rest t.0.0 t.0.1 t.1 p.1 free.1 now)
      none_given (Drops references ∷ rest) t p free = none_given rest t.1 p.1 free
      none_given (Finishes deinits o ∷ rest) t p free = none_given rest t.1 p.1 free

      pub none_below : (callee : Frame) (tasks : List (Task Frame)) (f : Function) → FrameIs m w f callee → TypedBelow callee tasks → BelowPlaced m memory callee tasks
          → IsFree m tasks n → WasNotGiven callee → WereNotGiven tasks
      none_below callee [] f is t p free none = tt
      none_below callee (Runs frame ∷ rest) f is t p free none =
          let same : f ≡ p.0.body = same_Some f p.0.body (sym is.is ∙ p.0.there) in
          let a = accepted_body m verified callee.function p.0.body p.0.there (subst (λ (g : Function). has_any g.blocks ≡ true) same is.bodied) in
          let now : WasNotGiven frame = kept_none frame free.0 (unlent callee p.0.body p.0.there a frame.lent p.0.given none) in
          (now, none_below frame rest t.0.f t.0.of t.1 p.1 free.1 now)
      none_below callee (Drops references ∷ rest) f is t p free none = absurd p
      none_below callee (Finishes deinits o ∷ rest) f is t p free none = none_given rest t.2 p.2 free

-- ---- a place of such cells

module _ (m : Module) (y : Place) where
  frame_apart : (frame : Frame) → ((n : ℕ) → has_cell y n ≡ true → WasNotGiven m n frame) → IsApartFrom m y frame
  frame_apart frame none f there a v given q names q_home y_home n has =
      let src = given_source m frame.function.0 f a v given in
      not_cell y n (λ e. true≢false (sym has ∙ none n e f there v src.row src.trivial src.is q names))

  pub tasks_apart : (tasks : List (Task Frame)) → ((n : ℕ) → has_cell y n ≡ true → WereNotGiven m n tasks) → AreApartFrom m y tasks
  tasks_apart [] none = tt
  tasks_apart (Runs frame ∷ rest) none = (frame_apart frame (λ n has. (none n has).0), tasks_apart rest (λ n has. (none n has).1))
  tasks_apart (Drops references ∷ rest) none = tasks_apart rest none
  tasks_apart (Finishes deinits o ∷ rest) none = tasks_apart rest none

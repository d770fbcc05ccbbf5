-- Weak and unowned storage is apart from all that frames were given: by types, since what is given by its address has none.
use Rattle.std.proofs.Common.{◌≡◌, List, [], ◌∷◌, true, refl, sym, ◌∙◌, subst}
use Rattle.std.specs.Prelude.{is_some}
use Rattle.std.proofs.lemmas.Bool.{false≢true}
use Rattle.std.proofs.lemmas.Option.{same_Some}
use Rattle.holder_model_values.specs.RunValues.Places.{Place}
use Rattle.holder_model_values.specs.RunValues.Shapes.{Shape, Integer, Reference, Struct, Tuple, Enum, Stored, Unknown, storage_in}
use Rattle.sil_ast.specs.declared.decl.Storage.{Storage}
use Rattle.sil_ast.specs.declared.function.Function.{Function}
use Rattle.sil_ast.specs.declared.module.Module.{Module}
use Rattle.sil_verifier_runs.specs.holder_model.RunTyping.Forms.{Form}
use Rattle.sil_verifier_runs.proofs.sil_verifier_frames.Placed.PlainAddresses.{named_shape, place_typed}
use Rattle.sil_verifier_runs.specs.holder_model.Data.{AddressOf, Datum}
use Rattle.sil_verifier_runs.specs.holder_model.Frames.{Frame}
use Rattle.sil_verifier_runs.specs.holder_model.States.{Drops, Finishes, Runs, Task}
use Rattle.sil_verifier_runs.specs.holder_model_laws.HolderLaws.inner.Steps.Stacks.{Below}
use Rattle.sil_verifier_runs.specs.sil_verifier_frames.inner.Typed.TypedStates.{DeinitsTyped, DroppedTyped, FinishedTyped, FrameIs, GoesTyped, TasksAre, WaitsTyped}
use Rattle.ownership_lowering_laws.specs.holder_model_typing.TypedMemory.inner.Worlds.{DatumIs, PlaceIs, World}
use Rattle.sil_verifier_runs.proofs.sil_verifier_frames.Typed.Data.{DataAre}
use Rattle.ownership_lowering_runs.proofs.SameRuns.SparedPartsBare.{bare_argument}
use Rattle.ownership_lowering_runs.proofs.SameRuns.SparedPartsCells.{apart_by_types}
use Rattle.ownership_lowering_runs.proofs.SameRuns.SparedPartsTasks.{AreApartFrom, IsApartFrom}

-- ---- storage

pub stored_shape : (u : Shape) → is_some (storage_in u) ≡ true → (how : Storage) × (inner : Shape) × (u ≡ Stored how inner)
stored_shape (Integer width) e = absurd (false≢true e)
stored_shape (Reference class) e = absurd (false≢true e)
stored_shape (Struct name fields) e = absurd (false≢true e)
stored_shape (Tuple elements) e = absurd (false≢true e)
stored_shape (Enum name cases) e = absurd (false≢true e)
stored_shape (Stored how inner) e = (how, inner, refl)
stored_shape Unknown e = absurd (false≢true e)

-- the place of the one operand is typed
module _ (m : Module) (w : World) (y : Place) where
  address_typed : (form : Form) (x : Datum) → DatumIs m w form x → x ≡ AddressOf y → PlaceIs m w y
  address_typed _ _ (DatumIs.value s x suits) e = absurd (cc)
  address_typed _ _ (DatumIs.place q is) e = let same : q ≡ y = cc in subst (PlaceIs m w) same is
  address_typed _ _ (DatumIs.function g) e = absurd (cc)

  pub operand_typed : (forms : List Form) (xs : List Datum) → DataAre m w forms xs → xs ≡ AddressOf y ∷ [] → PlaceIs m w y
  operand_typed _ _ DataAre.none e = absurd (cc)
  operand_typed _ _ (DataAre.more form x forms xs is rest) e = let at : x ≡ AddressOf y = cc in address_typed form x is at

-- ---- frames

module _ (m : Module) (w : World) (y : Place) (y_is : PlaceIs m w y) (how : Storage) (inner : Shape) (stored : y.shape ≡ Stored how inner) where
  abbrev TypedBelow : Frame → List (Task Frame) → Type 0
  TypedBelow callee tasks = Below (GoesTyped m w) (WaitsTyped m w) (DeinitsTyped m w) (DroppedTyped m w) (FinishedTyped m w) callee tasks

  frame_apart : (frame : Frame) (f : Function) → FrameIs m w f frame → IsApartFrom m y frame
  frame_apart frame f is g there a v given q names q_home y_home =
      let g_is : FrameIs m w g frame = subst (λ h. FrameIs m w h frame) (same_Some f g (sym is.is ∙ there)) is in
      apart_by_types m w q y (place_typed m w frame.function.0 g a frame.entries g_is.entries v q names) y_is q_home y_home
      (bare_argument m frame.function.0 g a v given q.shape (named_shape m w frame.function.0 g a frame.entries g_is.entries v q names)) how inner stored

  mutual
    pub storage_apart : (tasks : List (Task Frame)) → TasksAre m w tasks → AreApartFrom m y tasks
    storage_apart [] t = tt
    storage_apart (Runs frame ∷ rest) t = (frame_apart frame t.0.0 t.0.1, below_apart frame rest t.1)
    storage_apart (Drops references ∷ rest) t = storage_apart rest t.1
    storage_apart (Finishes deinits o ∷ rest) t = storage_apart rest t.1

    below_apart : (callee : Frame) (tasks : List (Task Frame)) → TypedBelow callee tasks → AreApartFrom m y tasks
    below_apart callee [] t = tt
    below_apart callee (Runs frame ∷ rest) t = (frame_apart frame t.0.f t.0.of, below_apart frame rest t.1)
    below_apart callee (Drops references ∷ rest) t = absurd t
    below_apart callee (Finishes deinits o ∷ rest) t = storage_apart rest t.2

-- States of a run by holders that are tracked: in each frame the entries go along with the trail.
use Rattle.std.specs.Prelude.{◌≡◌, List, Some, slice_get}
use Rattle.sil_ast.specs.declared.function.Function.{Function}
use Rattle.sil_ast.specs.declared.module.Module.{Module}
use Rattle.sil_ast.specs.declared.place.ValueId.{ValueId}
use Rattle.sil_cfg.specs.declared.item.Item.{Item}
use Rattle.sil_cfg.specs.declared.item.Item.TheVariants as item
use Rattle.sil_types_declarations.specs.TypeDefinitions.Declarations.{Declarations, declarations_of}
use Rattle.sil_verifier_trails.specs.AcceptedTrails.inner.Defined.{IsDefinedOn}
use Rattle.sil_verifier_trails.specs.AcceptedTrails.inner.Lives.{IsOwnedIn}
use Rattle.holder_model_laws.specs.holder_model.Frames.{Entry, Frame, Gone, Held, Lent, Plain, entry_at}
use Rattle.holder_model_laws.specs.holder_model.HolderStates.{HolderState}
use Rattle.holder_model_laws.specs.holder_model.Standing.{stands_at}
use Rattle.holder_model_laws.specs.holder_model.States.{Task}
use Rattle.sil_verifier_trails.specs.HeldEntries.inner.Tracked.{AreTracked, AreTrackedLeft, IsOwnScope}
use Rattle.holder_model_laws.specs.HolderLaws.inner.Steps.Stacks.{Going}

-- the entry isn't gone
abbrev pub IsThere : Entry → Type 0
IsThere Gone = ⊥
IsThere (Held x) = Unit {0}
IsThere (Lent x) = Unit {0}
IsThere (Plain x) = Unit {0}

-- the value is neither Owned nor a scope, so no item ends it
pub record NeverEnds (d : Declarations) (f : Function) (v : ValueId) : Type 0 where
  pub not_owned : IsOwnedIn d f v → ⊥
  pub not_scope : IsOwnScope d f v → ⊥

-- each such value is there once an item of the trail has made it
abbrev pub OthersAreThere : Declarations → Function → List Item → List Entry → Type 0
OthersAreThere d f t entries = (v : ValueId) → NeverEnds d f v → IsDefinedOn f t v → IsThere (entry_at entries v)

-- a frame that goes on: the entries of its Owned values and scopes go along with its trail, and all others that are made are there
pub record GoesAlong (d : Declarations) (f : Function) (frame : Frame) : Type 0 where
  pub tracked : AreTracked d f frame.trail frame.entries
  pub others : OthersAreThere d f frame.trail frame.entries

-- a frame that waits for a callee: so it is behind the ends of the call at which the frame stands
pub record WaitsAlong (d : Declarations) (f : Function) (frame : Frame) : Type 0 where
  pub tracked : AreTrackedLeft d f frame.trail (item.Inst (stands_at f frame.trail)) frame.entries
  pub others : OthersAreThere d f frame.trail frame.entries

module _ (m : Module) where
  -- so it is in the frame's function
  abbrev pub InFunction : (Declarations → Function → Frame → Type 0) → Frame → Type 0
  InFunction P frame = (f : Function) → slice_get m.functions frame.function.0 ≡ Some f → P (declarations_of m) f frame

  -- nothing is said of drops and deinitialisations
  abbrev pub AreTasksTracked : List (Task Frame) → Type 0
  AreTasksTracked tasks =
      Going (λ frame rest. InFunction GoesAlong frame) (λ callee frame rest. InFunction WaitsAlong frame)
      (λ callee o. Unit {0}) (λ references. Unit {0}) (λ deinits o. Unit {0}) tasks

abbrev pub IsTrackedState : Module → HolderState → Type 0
IsTrackedState m s = AreTasksTracked m s.tasks

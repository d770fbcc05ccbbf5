-- Frames of a lowered run beside those of the run by holders.
use Rattle.std.specs.Prelude.{◌≡◌, ◌⊎◌, List, Option, Some, None, true, length, is_some, slice_get}
use Rattle.std.specs.List.{AllZip}
use Rattle.sil_ast.specs.declared.function.Function.{Function}
use Rattle.sil_ast.specs.declared.module.Module.{Module}
use Rattle.sil_ast.specs.declared.place.FuncId.{FuncId}
use Rattle.sil_ast.specs.declared.place.ObjectId.{ObjectId}
use Rattle.sil_ast.specs.declared.place.ValueId.{ValueId}
use Rattle.sil_cfg.specs.declared.item.Item.{Item}
use Rattle.sil_cfg.specs.declared.item.Item.TheVariants as item
use Rattle.sil_types_declarations.specs.TypeDefinitions.Declarations.{Declarations, declarations_of}
use Rattle.holder_model_values.specs.RunValues.Memory.{Memory}
use Rattle.holder_model_values.specs.RunValues.Places.{Place, value_at}
use Rattle.holder_model_values.specs.RunValues.Shapes.{Shape}
use Rattle.sil_verifier_runs.specs.sil_verifier_trails.AcceptedTrails.inner.Defined.{makes}
use Rattle.sil_verifier_runs.specs.holder_model.RunTyping.Forms.{OfPlace, form_of}
use Rattle.sil_verifier_runs.specs.holder_model.Calling.{as_argument}
use Rattle.sil_verifier_runs.specs.holder_model.Data.{AddressOf, Datum, as_place}
use Rattle.sil_verifier_runs.specs.holder_model.Frames.{Entry, Frame, datum_in, entry_at}
use Rattle.sil_verifier_runs.specs.holder_model.Standing.{stands_at}
use Rattle.sil_verifier_runs.specs.holder_model.States.{Drops, Finishes, Runs, Task}
use Rattle.sil_verifier_runs.specs.holder_model.LoweredRun.LowFrames as low_frames
use Rattle.sil_verifier_runs.specs.holder_model.LoweredRun.LowFrames.{LowFrame}
use Rattle.ownership_lowering_runs.specs.StoredRuns.inner.Names.{IsCurrent, IsOld, lowered_count, lowered_number}
use Rattle.ownership_lowering_runs.specs.StoredRuns.inner.Points.{lowered_point}

-- the function is given an address by this value
pub record IsGivenPlace (d : Declarations) (f : Function) (v : ValueId) : Type 0 where
  pub made : makes f v item.Entry ≡ true
  pub shape : Shape
  pub is : form_of d f v ≡ OfPlace shape

-- the datum of a lowered value beside that of the entry. To the callee the place of an argument is a whole one, and in the lowered run it still says
-- that it is a part
abbrev pub IsDatumFor : Declarations → Function → ValueId → Datum → Datum → Type 0
IsDatumFor d f v x low = (low ≡ x) ⊎ (IsGivenPlace d f v × (as_argument low ≡ x))

-- the datum is no address: just the same stands for it
abbrev pub IsNoAddress : Datum → Type 0
IsNoAddress x = as_place x ≡ None

-- the lowered value is there, and stands for the datum of the entry
abbrev pub IsShownAs : Declarations → Function → ValueId → Datum → Option Datum → Type 0
IsShownAs d f v x low = (y : Datum) × (low ≡ Some y) × IsDatumFor d f v x y

-- each current value whose entry is there is shown under its lowered number
abbrev pub AreValuesFor : Declarations → Function → List Item → List Entry → List (Option Datum) → Type 0
AreValuesFor d f t entries values =
    (v : ValueId) (x : Datum) → datum_in (entry_at entries v) ≡ Some x → IsOld f v × IsCurrent f t v
    → IsShownAs d f v x (low_frames.value_at values (lowered_number d f v))

-- a part that the function was given by its address is full in the lowered run, even where it was taken
abbrev pub AreGivenPartsFull : Declarations → Function → List (Option Datum) → Memory → Type 0
AreGivenPartsFull d f values low =
    (v : ValueId) (p : Place) → IsGivenPlace d f v → low_frames.value_at values (lowered_number d f v) ≡ Some (AddressOf p) → p.is_part ≡ true
    → is_some (value_at low p) ≡ true

-- both stand at the same place of the function, and have the same slots
pub record IsFrameAt (d : Declarations) (f : Function) (frame : Frame) (low : LowFrame) : Type 0 where
  pub function : low.function ≡ frame.function
  pub at : low.at ≡ lowered_point d f (stands_at f frame.trail)
  pub slots : low.slots ≡ frame.slots
  pub size : length low.values ≡ lowered_count d f
  pub values : AreValuesFor d f frame.trail frame.entries low.values

module _ (m : Module) where
  pub record IsFrameFor (frame : Frame) (low : LowFrame) : Type 0 where
    pub f : Function
    pub there : slice_get m.functions frame.function.0 ≡ Some f
    pub frames : IsFrameAt (declarations_of m) f frame low

  pub data IsTaskFor : Task Frame → Task LowFrame → Type 0 where
    runs : (frame : Frame) (low : LowFrame) → IsFrameFor frame low → IsTaskFor (Runs frame) (Runs low)
    drops : (references : List ObjectId) → IsTaskFor (Drops references) (Drops references)
    finishes : (deinits : List FuncId) (o : ObjectId) → IsTaskFor (Finishes deinits o) (Finishes deinits o)

  abbrev pub AreTasksFor : List (Task Frame) → List (Task LowFrame) → Type 0
  AreTasksFor tasks low = AllZip IsTaskFor tasks low

  -- the parts that each frame was given, in the memory of the lowered run
  abbrev pub HasFullParts : Memory → Task LowFrame → Type 0
  HasFullParts low (Runs frame) = (f : Function) → slice_get m.functions frame.function.0 ≡ Some f → AreGivenPartsFull (declarations_of m) f frame.values low
  HasFullParts low (Drops references) = Unit {0}
  HasFullParts low (Finishes deinits o) = Unit {0}

-- States of a run by holders whose objects are whole, but for those that frames are building as their trails say.
use Rattle.std.specs.Prelude.{◌≡◌, List, [], ◌∷◌, Some, slice_get}
use Rattle.holder_model_laws.specs.HolderLaws.inner.Built.Building.{IsUnfinished, Progress}
use Rattle.holder_model_laws.specs.HolderLaws.inner.Built.FrameObjects.{Holds, HoldsObjects}
use Rattle.holder_model.specs.Frames.{Frame}
use Rattle.holder_model.specs.HolderStates.{HolderState}
use Rattle.holder_model.specs.ModuleShapes.{shapes_of}
use Rattle.holder_model.specs.States.{Drops, Finishes, Runs, Task}
use Rattle.memory_rules_parts.specs.memory_rules_accesses.Sources.{sources_of}
use Rattle.holder_model_laws.specs.HolderLaws.inner.Steps.Stacks.{Below, Going}
use Rattle.holder_model.specs.holder_model_values.RunValues.Memory.{Memory}
use Rattle.sil_ast.specs.declared.function.Function.{Function}
use Rattle.sil_ast.specs.declared.module.Module.{Module}
use Rattle.sil_ast.specs.declared.place.FuncId.{FuncId}
use Rattle.sil_ast.specs.declared.place.ObjectId.{ObjectId}
use Rattle.sil_ast.specs.declared.place.ValueId.{ValueId}
use Rattle.sil_cfg.specs.declared.item.Item.{Item}
use Rattle.sil_types_declarations.specs.TypeDefinitions.Declarations.{declarations_of}
use Rattle.holder_model_laws.specs.HolderLaws.inner.Whole.Whole.{IsWhole, IsWholeMemory, NameWhole}

-- what the trail of a frame says of its new objects is told by its function
module _ (m : Module) (said : Function → List Item → Progress) where
  -- the frame is building the object
  pub record IsBuilding (f : Function) (frame : Frame) (o : ObjectId) : Type 0 where
    pub object : ValueId
    pub unfinished : IsUnfinished (sources_of (declarations_of m) f) (said f frame.trail) object
    pub holds : Holds frame.entries object o

  -- no frame among the tasks is
  abbrev pub BuildsNone : List (Task Frame) → ObjectId → Type 0
  BuildsNone [] o = Unit {0}
  BuildsNone (Runs frame ∷ rest) o = ((f : Function) → slice_get m.functions frame.function.0 ≡ Some f → IsBuilding f frame o → ⊥) × BuildsNone rest o
  BuildsNone (Drops references ∷ rest) o = BuildsNone rest o
  BuildsNone (Finishes deinits p ∷ rest) o = BuildsNone rest o

  module _ (memory : Memory) where
    -- a frame over these tasks: what it is building, none below is
    pub record FrameBuilds (frame : Frame) (rest : List (Task Frame)) : Type 0 where
      pub f : Function
      pub is : slice_get m.functions frame.function.0 ≡ Some f
      pub holds : HoldsObjects (shapes_of m) (sources_of (declarations_of m) f) (said f frame.trail) memory frame.entries
      pub alone : (o : ObjectId) → IsBuilding f frame o → BuildsNone rest o

    abbrev pub WaitsBuilding : Frame → Frame → List (Task Frame) → Type 0
    WaitsBuilding callee frame rest = FrameBuilds frame rest

    abbrev pub DeinitsBuilding : Frame → ObjectId → Type 0
    DeinitsBuilding callee o = Unit {0}

    -- what is dropped or finished is whole
    abbrev pub FinishedWhole : List FuncId → ObjectId → Type 0
    FinishedWhole deinits o = IsWhole memory o

    abbrev pub TasksBuild : List (Task Frame) → Type 0
    TasksBuild tasks = Going FrameBuilds WaitsBuilding DeinitsBuilding (NameWhole memory) FinishedWhole tasks

    abbrev pub BelowBuild : Frame → List (Task Frame) → Type 0
    BelowBuild callee tasks = Below FrameBuilds WaitsBuilding DeinitsBuilding (NameWhole memory) FinishedWhole callee tasks

  pub record AreObjectsRight (s : HolderState) : Type 0 where
    pub memory : IsWholeMemory s.memory
    pub tasks : TasksBuild s.memory s.tasks

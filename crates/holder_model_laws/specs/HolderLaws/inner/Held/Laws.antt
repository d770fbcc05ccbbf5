-- Laws of the objects of states.
use Rattle.std.specs.Prelude.{◌≡◌, ◌<◌, ◌≤◌, ◌⊎◌, ℕ, List, length}
use Rattle.holder_model_laws.specs.HolderLaws.inner.Built.Building.{Progress}
use Rattle.holder_model.specs.Frames.{Frame}
use Rattle.holder_model.specs.HolderStates.{HolderState}
use Rattle.holder_model.specs.ModuleFacts.{ModuleFacts}
use Rattle.holder_model.specs.States.{Goes, Task}
use Rattle.holder_model_laws.specs.HolderLaws.inner.Steps.Ways.{DropsOne, FinishesOne}
use Rattle.holder_model.specs.holder_model_values.RunValues.Memory.{Memory, object_at}
use Rattle.sil_ast.specs.declared.function.Function.{Function}
use Rattle.sil_ast.specs.declared.module.Module.{Module}
use Rattle.sil_ast.specs.declared.place.ObjectId.{ObjectId}
use Rattle.sil_cfg.specs.declared.item.Item.{Item}
use Rattle.holder_model_laws.specs.HolderLaws.inner.Whole.Whole.{IsWhole, StayWhole}
use Rattle.holder_model_laws.specs.HolderLaws.inner.Held.ObjectStates.{AreObjectsRight, BelowBuild, BuildsNone, TasksBuild}

module _ (m : Module) (said : Function → List Item → Progress) where
  -- ---- what stays below

  -- a later memory, in which all that the tasks are building is as it was
  pub record StaysBelow (memory later : Memory) (tasks : List (Task Frame)) : Type 0 where
    pub whole : StayWhole memory later
    pub more : length memory.objects ≤ length later.objects
    pub classes : (o : ObjectId) → o.0 < length memory.objects → (object_at later o).class ≡ (object_at memory o).class
    pub building : (o : ObjectId) → (BuildsNone m said tasks o → ⊥) → object_at later o ≡ object_at memory o

  -- what is whole, and what isn't made yet, is being built by none
  abbrev pub AreOthersBuilt : Type 0
  AreOthersBuilt = (memory : Memory) (tasks : List (Task Frame)) (o : ObjectId) → IsWhole memory o ⊎ (length memory.objects ≤ o.0)
      → (TasksBuild m said memory tasks → BuildsNone m said tasks o)
      × ((callee : Frame) → BelowBuild m said memory callee tasks → BuildsNone m said tasks o)

  -- ---- drops and finishes

  abbrev pub AreDropsRight : Type 0
  AreDropsRight = (told : ModuleFacts) (bound : ℕ) (s next : HolderState) (o : ObjectId) → AreObjectsRight m said s → IsWhole s.memory o
      → DropsOne m told bound s o (Goes next) → AreObjectsRight m said next

  abbrev pub AreFinishesRight : Type 0
  AreFinishesRight = (told : ModuleFacts) (bound : ℕ) (s next : HolderState) (o : ObjectId) → AreObjectsRight m said s → IsWhole s.memory o
      → FinishesOne m told bound s o (Goes next) → AreObjectsRight m said next

-- so it is in each module, whatever trails say
abbrev pub WhateverIsSaid : ((m : Module) (said : Function → List Item → Progress) → Type 0) → Type 0
WhateverIsSaid Law = (m : Module) (said : Function → List Item → Progress) → Law m said

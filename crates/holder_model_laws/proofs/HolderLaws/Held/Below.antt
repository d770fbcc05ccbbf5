-- What waits below a frame holds its objects still while memory changes elsewhere.
use Rattle.std.proofs.Common.{◌≡◌, ◌<◌, ◌≤◌, ◌⊎◌, ⊎_elim, List, [], ◌∷◌, length, Some, sym, ◌∙◌, subst, arith}
use Rattle.std.specs.Prelude.{slice_get}
use Rattle.std.proofs.lemmas.Option.{same_Some}
use Rattle.holder_model_laws.specs.HolderLaws.inner.Built.Building.{Progress}
use Rattle.holder_model_laws.proofs.HolderLaws.Built.Staying.{stay_in_memory}
use Rattle.holder_model_laws.proofs.HolderLaws.Built.Unfinished.{unfinished_not_whole}
use Rattle.holder_model.specs.Frames.{Frame}
use Rattle.holder_model.specs.ModuleShapes.{shapes_of}
use Rattle.holder_model.specs.States.{Drops, Finishes, Runs, Task}
use Rattle.memory_rules_parts.specs.memory_rules_accesses.Sources.{sources_of}
use Rattle.holder_model.specs.holder_model_values.RunValues.Memory.{Memory, object_at}
use Rattle.sil_ast.specs.declared.function.Function.{Function}
use Rattle.sil_ast.specs.declared.module.Module.{Module}
use Rattle.sil_ast.specs.declared.place.ObjectId.{ObjectId}
use Rattle.sil_cfg.specs.declared.item.Item.{Item}
use Rattle.sil_types_declarations.specs.TypeDefinitions.Declarations.{declarations_of}
use Rattle.holder_model_laws.specs.HolderLaws.inner.Whole.Whole.{IsWhole, NameWhole, StayWhole}
use Rattle.holder_model_laws.proofs.HolderLaws.Whole.Lists.{each_of}
use Rattle.holder_model_laws.specs.HolderLaws.inner.Held.ObjectStates.{BelowBuild, BuildsNone, FrameBuilds, IsBuilding, TasksBuild}
use Rattle.holder_model_laws.specs.HolderLaws.inner.Held.Laws.{AreOthersBuilt, WhateverIsSaid}

module _ (m : Module) (said : Function → List Item → Progress) where
  -- an object that a frame is building, by its function
  pub building_of : (frame : Frame) (f g : Function) → slice_get m.functions frame.function.0 ≡ Some f → slice_get m.functions frame.function.0 ≡ Some g
      → (o : ObjectId) → IsBuilding m said g frame o → IsBuilding m said f frame o
  building_of frame f g f_is g_is o b = subst (λ h. IsBuilding m said h frame o) (same_Some g f (sym g_is ∙ f_is)) b

  -- ---- what stays

  module _ (memory later : Memory) (whole : StayWhole memory later) (more : length memory.objects ≤ length later.objects)
      (classes : (o : ObjectId) → o.0 < length memory.objects → (object_at later o).class ≡ (object_at memory o).class) where
    abbrev Same : List (Task Frame) → Type 0
    Same tasks = (o : ObjectId) → (BuildsNone m said tasks o → ⊥) → object_at later o ≡ object_at memory o

    frame_stays : (frame : Frame) (rest : List (Task Frame)) → Same (Runs frame ∷ rest) → FrameBuilds m said memory frame rest → FrameBuilds m said later frame rest
    frame_stays frame rest same b = record {
      f = b.f;
      is = b.is;
      holds = stay_in_memory (shapes_of m) (sources_of (declarations_of m) b.f) (said b.f frame.trail) memory later frame.entries b.holds (record {
        whole = whole;
        more = more;
        classes = classes;
        building = λ object o unfinished holds. same o (λ none. none.0 b.f b.is (record { object = object; unfinished = unfinished; holds = holds }));
      });
      alone = b.alone;
    }

    names_stay : (os : List ObjectId) → NameWhole memory os → NameWhole later os
    names_stay = each_of (IsWhole memory) (IsWhole later) whole

    mutual
      pub tasks_stay : (tasks : List (Task Frame)) → Same tasks → TasksBuild m said memory tasks → TasksBuild m said later tasks
      tasks_stay [] same h = absurd h
      tasks_stay (Runs frame ∷ rest) same h = (frame_stays frame rest same h.0, below_stays rest (λ o some. same o (λ none. some none.1)) frame h.1)
      tasks_stay (Drops os ∷ rest) same h = (names_stay os h.0, tasks_stay rest same h.1)
      tasks_stay (Finishes gs o ∷ rest) same h = (whole o h.0, tasks_stay rest same h.1)

      pub below_stays : (tasks : List (Task Frame)) → Same tasks → (callee : Frame) → BelowBuild m said memory callee tasks → BelowBuild m said later callee tasks
      below_stays [] same callee h = tt
      below_stays (Runs frame ∷ rest) same callee h = (frame_stays frame rest same h.0, below_stays rest (λ o some. same o (λ none. some none.1)) frame h.1)
      below_stays (Drops os ∷ rest) same callee h = absurd h
      below_stays (Finishes gs o ∷ rest) same callee h = (h.0, whole o h.1, tasks_stay rest same h.2)

  -- ---- what is being built by none

  module _ (memory : Memory) (o : ObjectId) (other : IsWhole memory o ⊎ (length memory.objects ≤ o.0)) where
    frame_other : (frame : Frame) (rest : List (Task Frame)) → FrameBuilds m said memory frame rest → (g : Function) → slice_get m.functions frame.function.0 ≡ Some g
        → IsBuilding m said g frame o → ⊥
    frame_other frame rest b g g_is building =
        let at = building_of frame b.f g b.is g_is o building in
        ⊎_elim
        (λ (is : IsWhole memory o). unfinished_not_whole (shapes_of m) (sources_of (declarations_of m) b.f) (said b.f frame.trail) memory frame.entries b.holds
        at.object o at.unfinished at.holds is)
        (λ (le : length memory.objects ≤ o.0). let made = (b.holds.built at.object o at.unfinished at.holds).0 in absurd (omega (arith, le, made)))
        other

    mutual
      pub tasks_other : (tasks : List (Task Frame)) → TasksBuild m said memory tasks → BuildsNone m said tasks o
      tasks_other [] h = absurd h
      tasks_other (Runs frame ∷ rest) h = (frame_other frame rest h.0, below_other rest frame h.1)
      tasks_other (Drops os ∷ rest) h = tasks_other rest h.1
      tasks_other (Finishes gs p ∷ rest) h = tasks_other rest h.1

      pub below_other : (tasks : List (Task Frame)) (callee : Frame) → BelowBuild m said memory callee tasks → BuildsNone m said tasks o
      below_other [] callee h = tt
      below_other (Runs frame ∷ rest) callee h = (frame_other frame rest h.0, below_other rest frame h.1)
      below_other (Drops os ∷ rest) callee h = absurd h
      below_other (Finishes gs p ∷ rest) callee h = tasks_other rest h.2

pub others_built : WhateverIsSaid AreOthersBuilt
others_built m said memory tasks o other = (
  tasks_other m said memory o other tasks,
  below_other m said memory o other tasks,
)

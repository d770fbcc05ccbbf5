-- References are dropped, and objects start to deinitialise and die: what is whole stays whole, and what is being built isn't touched.
use Rattle.std.proofs.Common.{◌≡◌, ◌<◌, ⊎_elim, inl, ℕ, List, length, refl, sym, ap, ◌∙◌, subst, arith}
use Rattle.std.proofs.lemmas.Bool.{cases_eq}
use Rattle.std.proofs.lemmas.List.{length-set}
use Rattle.holder_model_laws.specs.HolderLaws.inner.Built.Building.{Progress}
use Rattle.holder_model.specs.Dropping.{ended, field_references}
use Rattle.holder_model.specs.Frames.{Frame}
use Rattle.holder_model.specs.HolderStates.{HolderNext, HolderState}
use Rattle.holder_model.specs.ModuleFacts.{ModuleFacts}
use Rattle.holder_model.specs.States.{Ends, Goes, Task}
use Rattle.holder_model_laws.specs.HolderLaws.inner.Steps.Ways.{DropsOne, FinishesOne}
use Rattle.holder_model_laws.proofs.HolderLaws.Steps.TaskStacks.{going_dropping}
use Rattle.holder_model_laws.proofs.HolderLaws.Cells.Writes.{object_other, object_same}
use Rattle.holder_model.specs.holder_model_values.declared.run_values.phase.Phase.TheVariants.{Deiniting}
use Rattle.holder_model.specs.holder_model_values.RunValues.Memory.{Memory, Object, object_at, with_object}
use Rattle.sil_ast.specs.declared.function.Function.{Function}
use Rattle.sil_ast.specs.declared.module.Module.{Module}
use Rattle.sil_ast.specs.declared.place.ObjectId.{ObjectId}
use Rattle.sil_cfg.specs.declared.item.Item.{Item}
use Rattle.holder_model_laws.specs.HolderLaws.inner.Whole.Whole.{IsWhole, NameWhole}
use Rattle.holder_model_laws.specs.HolderLaws.inner.Whole.Laws.{KeepsWhole}
use Rattle.holder_model_laws.proofs.HolderLaws.Whole.Keeping.{ended_whole, read_whole}
use Rattle.holder_model_laws.proofs.HolderLaws.Whole.Lists.{each_of}
use Rattle.holder_model_laws.specs.HolderLaws.inner.Held.ObjectStates.{AreObjectsRight, BuildsNone, DeinitsBuilding, FinishedWhole, FrameBuilds, TasksBuild, WaitsBuilding}
use Rattle.holder_model_laws.specs.HolderLaws.inner.Held.Laws.{AreDropsRight, AreFinishesRight, WhateverIsSaid}
use Rattle.holder_model_laws.proofs.HolderLaws.Held.Below.{tasks_other, tasks_stay}

module _ (m : Module) (said : Function → List Item → Progress) (memory : Memory) (tasks : List (Task Frame)) (h : TasksBuild m said memory tasks)
    (o : ObjectId) (is : IsWhole memory o) (x : Object) (same_class : x.class ≡ (object_at memory o).class) (keeps : KeepsWhole memory (with_object memory o x)) where
  -- where a whole object changes, the tasks hold theirs still
  pub whole_changed : TasksBuild m said (with_object memory o x) tasks
  whole_changed = tasks_stay m said memory (with_object memory o x) keeps.1 (omega (arith, length-set memory.objects o.0 x)) classes tasks building h
    where
      same_number : (p q : ObjectId) → p.0 ≡ q.0 → p ≡ q
      same_number p q e = ap (λ (n : ℕ). record { 0 = n }) e

      classes : (q : ObjectId) → q.0 < length memory.objects → (object_at (with_object memory o x) q).class ≡ (object_at memory q).class
      classes q made = ⊎_elim
          (λ (e : q.0 ≡ o.0).
          subst (λ r. (object_at (with_object memory o x) r).class ≡ (object_at memory r).class) (sym (same_number q o e))
          (ap (λ y. y.class) (object_same memory o x is.made) ∙ same_class))
          (λ (differ : q.0 ≡ o.0 → ⊥). ap (λ y. y.class) (object_other memory o q x differ))
          (cases_eq q.0 o.0)

      building : (q : ObjectId) → (BuildsNone m said tasks q → ⊥) → object_at (with_object memory o x) q ≡ object_at memory q
      building q some = object_other memory o q x (λ e. some (tasks_other m said memory q (inl (subst (IsWhole memory) (sym (same_number q o e)) is)) tasks h))

-- a step that leads on leads to such a state
abbrev LeadsRight : Module → (Function → List Item → Progress) → HolderNext → Type 0
LeadsRight m said (Goes next) = AreObjectsRight m said next
LeadsRight m said (Ends e s) = Unit {0}

module _ (m : Module) (said : Function → List Item → Progress) (told : ModuleFacts) (bound : ℕ) (s : HolderState) (o : ObjectId)
    (h : AreObjectsRight m said s) (is : IsWhole s.memory o) where
  drops_lead : (next : HolderNext) → DropsOne m told bound s o next → LeadsRight m said next
  drops_lead _ (DropsOne.held_still left held) = h
  drops_lead _ (DropsOne.not_live none not_live) = h
  drops_lead _ (DropsOne.deinitialises none live turn) =
      let keeps = (ended_whole s.memory h.memory).0 Deiniting o in
      record {
        memory = keeps.0;
        tasks = (keeps.1 o is, whole_changed m said s.memory s.tasks h.tasks o is (record (object_at s.memory o) { phase = Deiniting }) refl keeps);
      }
  drops_lead _ (DropsOne.no_turn none live turn) = tt

  finishes_lead : (next : HolderNext) → FinishesOne m told bound s o next → LeadsRight m said next
  finishes_lead _ (FinishesOne.finishes none) =
      let keeps = (ended_whole s.memory h.memory).1 o in
      let os = field_references (object_at s.memory o) in
      let later : Memory = with_object s.memory o (ended (object_at s.memory o)) in
      record {
        memory = keeps.0;
        tasks = going_dropping (FrameBuilds m said later) (WaitsBuilding m said later) (DeinitsBuilding m said later) (NameWhole later) (FinishedWhole m said later)
            os s.tasks (each_of (IsWhole s.memory) (IsWhole later) keeps.1 os ((read_whole s.memory h.memory).2 o))
            (whole_changed m said s.memory s.tasks h.tasks o is (ended (object_at s.memory o)) refl keeps);
      }
  finishes_lead _ (FinishesOne.escapes left held) = tt

pub drops_right : WhateverIsSaid AreDropsRight
drops_right m said told bound s next o h is way = drops_lead m said told bound s o h is (Goes next) way

pub finishes_right : WhateverIsSaid AreFinishesRight
finishes_right m said told bound s next o h is way = finishes_lead m said told bound s o h is (Goes next) way

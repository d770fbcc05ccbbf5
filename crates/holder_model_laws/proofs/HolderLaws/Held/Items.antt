-- A frame goes on behind an item: its objects are right, and so are those below.
use Rattle.std.proofs.Common.{◌≡◌, ◌<◌, ◌≤◌, ⊎_elim, inr, List, [], ◌∷◌, length, sym, ap, ◌∙◌, subst, arith}
use Rattle.std.proofs.lemmas.Bool.{cases_lt}
use Rattle.std.proofs.lemmas.List.{length-append}
use Rattle.std.proofs.lemmas.Option.{same_Some}
use Rattle.holder_model_laws.specs.HolderLaws.inner.Built.Building.{IsUnfinished, Progress}
use Rattle.holder_model_laws.specs.HolderLaws.inner.Built.FrameObjects.{Holds, HoldsObjects}
use Rattle.holder_model_laws.specs.HolderLaws.inner.Built.Laws.{with_object_of}
use Rattle.holder_model_laws.proofs.HolderLaws.Built.Beginning.{objects_begun}
use Rattle.holder_model_laws.proofs.HolderLaws.Built.FieldWrites.{field_written, held_same, unfinished_earlier, which_value}
use Rattle.holder_model_laws.proofs.HolderLaws.Built.Results.{results_held}
use Rattle.holder_model_laws.proofs.HolderLaws.Built.Staying.{stay_in_memory, stay_where_ended}
use Rattle.holder_model.specs.Frames.{Entry, Frame}
use Rattle.holder_model.specs.ModuleShapes.{field_shapes, shapes_of}
use Rattle.holder_model.specs.States.{Runs, Task, dropping}
use Rattle.holder_model_laws.proofs.HolderLaws.Steps.TaskStacks.{below_another, going_dropping}
use Rattle.holder_model_laws.specs.HolderLaws.inner.Cells.Cells.{ChangesAt}
use Rattle.holder_model_laws.proofs.HolderLaws.Cells.Writes.{filled_changes}
use Rattle.numbered_form.specs.Names.{Name}
use Rattle.holder_model.specs.holder_model_values.declared.run_values.phase.Phase.TheVariants.{Live}
use Rattle.holder_model.specs.holder_model_values.RunValues.Memory.{Memory, new_object, object_at}
use Rattle.holder_model.specs.holder_model_values.RunValues.Places.{Place, empty_fields, filled}
use Rattle.holder_model.specs.holder_model_values.RunValues.Values.{Value}
use Rattle.sil_ast.specs.declared.function.Function.{Function}
use Rattle.sil_ast.specs.declared.module.Module.{Module}
use Rattle.sil_ast.specs.declared.place.ObjectId.{ObjectId}
use Rattle.sil_ast.specs.declared.place.ValueId.{ValueId}
use Rattle.sil_cfg.specs.declared.item.Item.{Item}
use Rattle.holder_model_laws.specs.HolderLaws.inner.Whole.Whole.{IsWholeMemory, NameWhole}
use Rattle.holder_model_laws.specs.HolderLaws.inner.Whole.Laws.{KeepsWhole}
use Rattle.holder_model_laws.proofs.HolderLaws.Whole.Keeping.{filled_whole, made_whole}
use Rattle.holder_model_laws.specs.HolderLaws.inner.Held.ObjectStates.{BelowBuild, BuildsNone, DeinitsBuilding, FinishedWhole, FrameBuilds, IsBuilding, TasksBuild, WaitsBuilding}
use Rattle.holder_model_laws.specs.HolderLaws.inner.Held.Items.{AreFieldWritesRight, AreMakingsRight, AreQuietRight, IsFieldWrite, IsMaking, LosesEntries, Stands, frame_behind, sources_in}
use Rattle.holder_model_laws.proofs.HolderLaws.Held.Below.{below_other, below_stays, building_of}

module _ (m : Module) (said : Function → List Item → Progress) where
  -- another frame over the same tasks
  pub below_same : (memory : Memory) (callee other : Frame) (rest : List (Task Frame)) → BelowBuild m said memory callee rest → BelowBuild m said memory other rest
  below_same memory callee other rest h = below_another (FrameBuilds m said memory) (WaitsBuilding m said memory) (DeinitsBuilding m said memory) (NameWhole memory)
      (FinishedWhole m said memory) callee other rest (λ frame older b. b) (λ o d. d) h

  pub dropping_build : (memory : Memory) (os : List ObjectId) (tasks : List (Task Frame)) → NameWhole memory os → TasksBuild m said memory tasks
      → TasksBuild m said memory (dropping os tasks)
  dropping_build memory os tasks whole h = going_dropping (FrameBuilds m said memory) (WaitsBuilding m said memory) (DeinitsBuilding m said memory) (NameWhole memory)
      (FinishedWhole m said memory) os tasks whole h

  module _ (memory : Memory) (rest : List (Task Frame)) (frame : Frame) (f : Function) (stands : Stands m said memory rest frame f) where
    pub held : HoldsObjects (shapes_of m) (sources_in m said f) (said f frame.trail) memory frame.entries
    held = subst (λ g. HoldsObjects (shapes_of m) (sources_in m said g) (said g frame.trail) memory frame.entries)
        (same_Some stands.builds.f f (sym stands.builds.is ∙ stands.is)) stands.builds.holds

    pub alone : (o : ObjectId) → IsBuilding m said f frame o → BuildsNone m said rest o
    alone o b = stands.builds.alone o (building_of m said frame stands.builds.f f stands.builds.is stands.is o b)

    module _ (left : List Entry) (loses : LosesEntries (sources_in m said f) (said f frame.trail) frame.entries left) where
      pub held_left : HoldsObjects (shapes_of m) (sources_in m said f) (said f frame.trail) memory left
      held_left = stay_where_ended (shapes_of m) (sources_in m said f) (said f frame.trail) memory frame.entries left held loses.gone loses.kept

      -- what is unfinished and held behind the ends is being built
      pub building_left : (object : ValueId) (o : ObjectId) → IsUnfinished (sources_in m said f) (said f frame.trail) object → Holds left object o → IsBuilding m said f frame o
      building_left object o un holds = record { object = object; unfinished = un; holds = sym (loses.kept object un) ∙ holds }

  -- ---- an item that is quiet

  pub quiet_right : AreQuietRight m said
  quiet_right memory later rest frame f i left behind slots dropped stands quiet whole = dropping_build later dropped (Runs (frame_behind frame i behind slots) ∷ rest) whole (
    record {
      f = f;
      is = stands.is;
      holds = results_held (shapes_of m) (sources_in m said f) (said f frame.trail) (said f (i ∷ frame.trail)) later left behind in_later quiet.unwritten quiet.begins quiet.objects;
      alone = λ o b. alone memory rest frame f stands o (building_before o b);
    },
    below_same later frame (frame_behind frame i behind slots) rest
        (below_stays m said memory later quiet.stays.whole quiet.stays.more quiet.stays.classes rest (λ o some. quiet.stays.building o (λ none. some none.1)) frame stands.below),
  )
    where
      left_now : HoldsObjects (shapes_of m) (sources_in m said f) (said f frame.trail) memory left
      left_now = held_left memory rest frame f stands left quiet.loses

      in_later : HoldsObjects (shapes_of m) (sources_in m said f) (said f frame.trail) later left
      in_later = stay_in_memory (shapes_of m) (sources_in m said f) (said f frame.trail) memory later left left_now (record {
        whole = quiet.stays.whole;
        more = quiet.stays.more;
        classes = quiet.stays.classes;
        building = λ object o un holds. quiet.stays.building o (λ none. none.0 f stands.is (building_left memory rest frame f stands left quiet.loses object o un holds));
      })

      building_before : (o : ObjectId) → IsBuilding m said f (frame_behind frame i behind slots) o → IsBuilding m said f frame o
      building_before o b =
          let un : IsUnfinished (sources_in m said f) (said f frame.trail) b.object =
          record { field = b.unfinished.field; of = b.unfinished.of; unwritten = sym (quiet.unwritten b.object b.unfinished.field) ∙ b.unfinished.unwritten } in
          building_left memory rest frame f stands left quiet.loses b.object o un (sym (quiet.objects b.object un.of.fields un.of.is) ∙ b.holds)

  -- ---- a field is written

  module _ (memory : Memory) (rest : List (Task Frame)) (frame : Frame) (f : Function) (i : Item) (left : List Entry) (p : Place) (x : Value)
      (slots : List Place) (stands : Stands m said memory rest frame f) (first : IsFieldWrite m said memory frame f i left p x) where
    abbrev later : Memory
    later = filled memory p x

    keeps : KeepsWhole memory later
    keeps = filled_whole memory stands.whole p first.inside x first.fit first.named

    changes : ChangesAt p memory later
    changes = filled_changes memory p x first.inside first.fit

    now : HoldsObjects (shapes_of m) (sources_in m said f) (said f (i ∷ frame.trail)) later left
        × ((o : ObjectId) × Holds left first.object o × ((other : ObjectId) → (other ≡ o → ⊥) → object_at later other ≡ object_at memory other))
    now = field_written (shapes_of m) (sources_in m said f) (said f frame.trail) (said f (i ∷ frame.trail)) memory left (held_left memory rest frame f stands left first.loses)
        stands.whole p first.object first.field first.writes first.now first.inside x first.fit first.named

    was : IsUnfinished (sources_in m said f) (said f frame.trail) first.object
    was = first.writes.unfinished

    building : (o : ObjectId) → (BuildsNone m said rest o → ⊥) → object_at later o ≡ object_at memory o
    building o some = now.1.2 o (λ e. some (subst (BuildsNone m said rest) (sym e)
        (alone memory rest frame f stands now.1.0 (building_left memory rest frame f stands left first.loses first.object now.1.0 was now.1.1))))

    building_before : (o : ObjectId) → IsBuilding m said f (frame_behind frame i left slots) o → IsBuilding m said f frame o
    building_before o b = building_left memory rest frame f stands left first.loses b.object o
        (unfinished_earlier (sources_in m said f) (said f frame.trail) (said f (i ∷ frame.trail)) first.object first.field first.now b.object b.unfinished) b.holds

    pub first_one : (dropped : List ObjectId) → NameWhole later dropped
        → IsWholeMemory later × TasksBuild m said later (dropping dropped (Runs (frame_behind frame i left slots) ∷ rest))
    first_one dropped whole = (
      keeps.0,
      dropping_build later dropped (Runs (frame_behind frame i left slots) ∷ rest) whole (
        record { f = f; is = stands.is; holds = now.0; alone = λ o b. alone memory rest frame f stands o (building_before o b) },
        below_same later frame (frame_behind frame i left slots) rest
            (below_stays m said memory later keeps.1 (omega (arith, changes.objects)) (λ o made. changes.classes o) rest building frame stands.below),
      ),
    )

  pub first_right : AreFieldWritesRight m said
  first_right memory rest frame f i left p x slots dropped stands first whole = first_one memory rest frame f i left p x slots stands first dropped whole

  -- ---- a new object

  module _ (memory : Memory) (rest : List (Task Frame)) (frame : Frame) (f : Function) (i : Item) (left behind : List Entry) (class : Name)
      (slots : List Place) (stands : Stands m said memory rest frame f) (making : IsMaking m said memory frame f i left behind class) where
    abbrev grown : Memory
    grown = with_object_of (shapes_of m) memory class

    kept : KeepsWhole memory grown
    kept = (made_whole memory stands.whole).0 class (field_shapes (shapes_of m) class)

    begun : HoldsObjects (shapes_of m) (sources_in m said f) (said f (i ∷ frame.trail)) grown behind
        × ((o : ObjectId) → o.0 < length memory.objects → object_at grown o ≡ object_at memory o)
    begun = objects_begun (shapes_of m) (sources_in m said f) (said f frame.trail) (said f (i ∷ frame.trail)) memory left behind
        (held_left memory rest frame f stands left making.loses) stands.whole making.object class making.count making.now making.new

    -- what isn't made yet is being built by none below
    made_or_none : (o : ObjectId) → (BuildsNone m said rest o → ⊥) → o.0 < length memory.objects
    made_or_none o some = ⊎_elim
        (λ (lt : o.0 < length memory.objects). lt)
        (λ (le : length memory.objects ≤ o.0). absurd (some (below_other m said memory o (inr le) rest frame stands.below)))
        (cases_lt o.0 (length memory.objects))

    alone_now : (o : ObjectId) → IsBuilding m said f (frame_behind frame i behind slots) o → BuildsNone m said rest o
    alone_now o b = ⊎_elim
        (λ (same : b.object ≡ making.object).
        let is : o ≡ new_object memory = held_same behind making.object o (new_object memory) (subst (λ v. Holds behind v o) same b.holds) making.new.holds in
        below_other m said memory o (inr (subst (λ (q : ObjectId). length memory.objects ≤ q.0) (sym is) (omega arith))) rest frame stands.below)
        (λ (differ : b.object ≡ making.object → ⊥).
        let un : IsUnfinished (sources_in m said f) (said f frame.trail) b.object =
        record { field = b.unfinished.field; of = b.unfinished.of; unwritten = sym (making.now.others b.object differ b.unfinished.field) ∙ b.unfinished.unwritten } in
        alone memory rest frame f stands o (building_left memory rest frame f stands left making.loses b.object o un (sym (making.new.others b.object differ) ∙ b.holds)))
        (which_value b.object making.object)

    pub making_one : IsWholeMemory grown × TasksBuild m said grown (Runs (frame_behind frame i behind slots) ∷ rest)
    making_one = (
      kept.0,
      (
        record { f = f; is = stands.is; holds = begun.0; alone = alone_now },
        below_same grown frame (frame_behind frame i behind slots) rest
            (below_stays m said memory grown kept.1
            (omega (arith, length-append memory.objects (record { class = class; phase = Live; cells = empty_fields (field_shapes (shapes_of m) class) } ∷ [])))
            (λ o made. ap (λ y. y.class) (begun.1 o made)) rest (λ o some. begun.1 o (made_or_none o some)) frame stands.below),
      ),
    )

  pub making_right : AreMakingsRight m said
  making_right memory rest frame f i left behind class slots stands making = making_one memory rest frame f i left behind class slots stands making

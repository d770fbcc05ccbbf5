-- Rows of right states spare parts: storage that is emptied and a slot that goes have no cell of a part that a frame was given, and a part isn't written first.
use Rattle.std.proofs.Common.{◌≡◌, ◌==◌, ⊎_elim, ℕ, List, [], ◌∷◌, Bool, true, false, cond, Contains, Some, replicate, refl, sym, ap, ◌∙◌, subst, eqb-true}
use Rattle.std.specs.Prelude.{is_some}
use Rattle.std.proofs.lemmas.Bool.{and_right, false_from_ne_true, false≢true, true≢false}
use Rattle.std.proofs.lemmas.List.{length-replicate}
use Rattle.std.proofs.lemmas.List.Elements.{Contains-push}
use Rattle.std.proofs.lemmas.Option.{none-some, same_Some}
use Rattle.argument_conventions.specs.declared.row.AddressRow.{AddressRow}
use Rattle.instruction_table.specs.declared.op.Op.{Op}
use Rattle.instruction_table.specs.declared.op.Op.TheVariants as op
use Rattle.sil_cfg_items.specs.Roles.{taken_by}
use Rattle.sil_cfg_items.specs.declared.taken.Taken.{Taken}
use Rattle.numbered_form.specs.Lists.{Each}
use Rattle.holder_model_values.specs.RunValues.Cells.{Empty, Gone, cell_count}
use Rattle.holder_model_values.specs.RunValues.Places.{Place, emptied, removed}
use Rattle.holder_model_values.specs.RunValues.Shapes.{storage_in}
use Rattle.holder_model_values.specs.RunValues.Values.{Value}
use Rattle.sil_ast.specs.declared.inst.Qualifier.{Qualifier}
use Rattle.sil_ast.specs.declared.inst.Qualifier.TheVariants as word
use Rattle.sil_ast.specs.declared.module.Module.{Module}
use Rattle.sil_ast.specs.declared.place.PointId.{PointId}
use Rattle.sil_ast.specs.declared.place.ValueId.{ValueId}
use Rattle.sil_cfg.specs.declared.item.Item.TheVariants as item
use Rattle.sil_types_declarations.specs.TypeDefinitions.Declarations.{declarations_of}
use Rattle.sil_verifier_runs.specs.holder_model_laws.HolderLaws.inner.Cells.Cells.{has_cell}
use Rattle.sil_verifier_runs.proofs.holder_model_laws.HolderLaws.Cells.PlaceCells.{not_cell}
use Rattle.sil_verifier_runs.specs.sil_verifier_accepted.AcceptedModules.inner.Checked.{IsVerified}
use Rattle.sil_verifier_runs.specs.sil_verifier_values.inner.Known.{IsAcceptedBody}
use Rattle.sil_verifier_runs.specs.inner.RightStates.{IsRightState}
use Rattle.sil_verifier_runs.specs.inner.Built.Said.{said}
use Rattle.sil_verifier_runs.specs.holder_model_laws.HolderLaws.inner.Built.FrameObjects.{HoldsObjects}
use Rattle.sil_verifier_runs.specs.holder_model_laws.HolderLaws.inner.Held.ObjectStates.{TasksBuild}
use Rattle.sil_verifier_runs.proofs.sil_verifier_frames.Placed.AtItem as at_item
use Rattle.sil_verifier_runs.proofs.sil_verifier_frames.Placed.AtSlots as at_slots
use Rattle.sil_verifier_runs.proofs.sil_verifier_frames.Placed.AtSlots.{Deallocates, StandsHere}
use Rattle.sil_verifier_runs.proofs.sil_verifier_frames.Placed.Locating.{IsInObject, IsOperandAt, operand_at}
use Rattle.sil_verifier_runs.proofs.sil_verifier_frames.Placed.PlaceRows.{DoesOne, does_second, named_first}
use Rattle.sil_verifier_runs.proofs.sil_verifier_frames.Placed.Reading.{operand_within}
use Rattle.sil_verifier_runs.proofs.sil_verifier_frames.Placed.RowsAt.{Removes, is_at_one, is_removal, is_store, removal}
use Rattle.sil_verifier_runs.proofs.sil_verifier_frames.Placed.RowsPlaced.{StandsBefore, operand_among}
use Rattle.sil_verifier_runs.proofs.sil_verifier_frames.Placed.TrailsSo.{trail_laws}
use Rattle.sil_verifier_runs.proofs.sil_verifier_frames.Placed.TypingSo.{typing_laws}
use Rattle.sil_verifier_runs.proofs.sil_verifier_trails.AcceptedPlaces.OperationsRight.{of_slots}
use Rattle.memory_rules_accesses.specs.Operations.{access_kind_of, load_operation, operated, operation_by}
use Rattle.memory_rules_accesses.specs.Rows.{has_by, is_part}
use Rattle.memory_rules_accesses.specs.Sources.{is_slot_source, source_at, sources_of}
use Rattle.memory_rules_accesses.specs.declared.access.Operation.TheVariants as operation
use Rattle.memory_rules_accesses.specs.declared.source.Source.{Source}
use Rattle.memory_rules_accesses.specs.declared.source.Source.TheVariants as source
use Rattle.sil_verifier_runs.specs.sil_verifier_frames.inner.Placed.FramePlaces.{HoldsPlaces, Names}
use Rattle.sil_verifier_runs.specs.sil_verifier_frames.inner.Placed.Items.{StandsAtItem}
use Rattle.sil_verifier_runs.specs.sil_verifier_frames.inner.Placed.PlaceStates.{TasksPlaced}
use Rattle.sil_verifier_runs.specs.sil_verifier_frames.inner.Placed.Roots.{IsThere, argument, is_shared, is_shared_source}
use Rattle.sil_verifier_runs.specs.sil_verifier_frames.inner.Placed.TakenPlaces.{AreNamedBy}
use Rattle.sil_verifier_runs.specs.holder_model_laws.HolderLaws.inner.Steps.Ways.{left_with}
use Rattle.sil_verifier_runs.specs.holder_model.Data.{AddressOf, ValueOf}
use Rattle.sil_verifier_runs.specs.holder_model.Effects.{effect_of}
use Rattle.sil_verifier_runs.specs.holder_model.Frames.{Frame}
use Rattle.sil_verifier_runs.specs.holder_model.HolderStates.{HolderState}
use Rattle.sil_verifier_runs.specs.holder_model.ModuleFacts.{facts_of, facts_told}
use Rattle.sil_verifier_runs.specs.holder_model.ModuleShapes.{shapes_of}
use Rattle.sil_verifier_runs.specs.holder_model.Standing.{stands_at}
use Rattle.sil_verifier_runs.specs.holder_model.States.{Runs}
use Rattle.sil_verifier_runs.specs.holder_model.declared.row_effect.RowEffect.TheVariants as row
use Rattle.sil_verifier_runs.specs.holder_model.LoweredRun.LowStepParts.{LowState}
use Rattle.sil_verifier_runs.specs.sil_verifier_frames.inner.Typed.TypedStates.{FrameIs, TasksAre}
use Rattle.ownership_lowering_runs.specs.StoredRuns.inner.Frames.{HasFullParts}
use Rattle.ownership_lowering_runs.specs.StoredRuns.inner.TypedSteps.{IsTypedFor}
use Rattle.ownership_lowering_runs.proofs.StoredRuns.Typed.TypedInsts.{given_typed, operand_forms}
use Rattle.ownership_lowering_runs.specs.SameRuns.inner.InRightStates.{ArePartsSpared, AtInst}
use Rattle.ownership_lowering_runs.proofs.SameRuns.HandedFull.{root_whole}
use Rattle.ownership_lowering_runs.proofs.SameRuns.SparedPartsBelow.{WasNotGiven, none_below, tasks_apart}
use Rattle.ownership_lowering_runs.proofs.SameRuns.SparedPartsTasks.{AreApartFrom, tasks_still}
use Rattle.ownership_lowering_runs.proofs.SameRuns.SparedPartsTyped.{operand_typed, storage_apart, stored_shape}
use Rattle.ownership_lowering_runs.proofs.SameRuns.RowsFound.{stands}

-- ---- which rows write for the first time

load_first : (q : Qualifier) → load_operation q ≡ operation.FirstWrite → ⊥
load_first word.Plain e = cc
load_first word.Copy e = cc
load_first word.Take e = cc
load_first word.Trivial e = cc
load_first word.Init e = cc
load_first word.Assign e = cc

stores_first : (o : Op) (q : Qualifier) → operation_by (access_kind_of o) q ≡ Some operation.FirstWrite → is_store (effect_of o) ≡ true
stores_first op.Store q e = refl
stores_first op.StoreWeak q e = refl
stores_first op.StoreUnowned q e = refl
stores_first op.Load q e = absurd (load_first q (same_Some (load_operation q) operation.FirstWrite e))
stores_first op.LoadWeak q e = absurd (load_first q (same_Some (load_operation q) operation.FirstWrite e))
stores_first op.LoadUnowned q e = absurd (load_first q (same_Some (load_operation q) operation.FirstWrite e))
stores_first op.LoadBorrow q e = absurd (cc)
stores_first op.DestroyAddr q e = absurd (cc)
stores_first _ q e = absurd (none-some operation.FirstWrite e)

-- no part has a first write
no_part_first : (sources : List Source) (s : Source) → has_by sources s true operation.FirstWrite ≡ false
no_part_first sources (source.Slot trivial) = refl
no_part_first sources (source.Argument row trivial) = by row.shared
  where
    by : (b : Bool) → cond b false false ≡ false
    by true = refl
    by false = refl
no_part_first sources (source.Object fields) = refl
no_part_first sources (source.Borrow of) = refl
no_part_first sources (source.Upcast of) = refl
no_part_first sources (source.Loan of) = refl
no_part_first sources (source.Field of k trivial) = refl
no_part_first sources (source.Part of k) = refl
no_part_first sources source.Other = refl

whole_first : (sources : List Source) (s : Source) (part : Bool) → has_by sources s part operation.FirstWrite ≡ true → part ≡ false
whole_first sources s false e = refl
whole_first sources s true e = absurd (false≢true (sym (no_part_first sources s) ∙ e))

slot_there : (s : Source) → is_slot_source s ≡ true → (trivial : Bool) × (s ≡ source.Slot trivial)
slot_there (source.Slot trivial) e = (trivial, refl)
slot_there _ e = absurd (false≢true e)

module _ (m : Module) (bound : ℕ) (s : HolderState) (verified : IsVerified m) (right : IsRightState m s) (l : LowState) (x : AtInst m s) (h : IsTypedFor m s l) where
  abbrev point : PointId
  point = stands_at x.f x.frame.trail

  abbrev left : Frame
  left = left_with m (facts_of m) bound x.frame x.ops

  are_typed : TasksAre m right.typed.world (Runs x.frame ∷ x.rest)
  are_typed = subst (TasksAre m right.typed.world) x.is right.typed.tasks

  are_placed : TasksPlaced m s.memory (Runs x.frame ∷ x.rest)
  are_placed = subst (TasksPlaced m s.memory) x.is right.placed

  are_built : TasksBuild m (said m) s.memory (Runs x.frame ∷ x.rest)
  are_built = subst (TasksBuild m (said m) s.memory) x.is right.built.tasks

  frame_is : FrameIs m right.typed.world x.f x.frame
  frame_is = subst (λ g. FrameIs m right.typed.world g x.frame) (same_Some are_typed.0.0 x.f (sym are_typed.0.1.is ∙ x.there)) are_typed.0.1

  holds : HoldsPlaces m s.memory x.f x.frame x.rest
  holds = subst (λ g. HoldsPlaces m s.memory g x.frame x.rest) (same_Some are_placed.0.f x.f (sym are_placed.0.is ∙ x.there)) are_placed.0.holds

  objects : HoldsObjects (shapes_of m) (sources_of (declarations_of m) x.f) (said m x.f x.frame.trail) s.memory x.frame.entries
  objects =
      subst (λ g. HoldsObjects (shapes_of m) (sources_of (declarations_of m) g) (said m g x.frame.trail) s.memory x.frame.entries)
      (same_Some are_built.0.f x.f (sym are_built.0.is ∙ x.there)) are_built.0.holds

  at : StandsAtItem m bound s x.frame x.rest x.f x.i x.ops
  at = record {
    verified = verified;
    typed = right.typed;
    tracked = right.tracked;
    placed = right.placed;
    first = x.is;
    is = x.there;
    stands = x.here;
    found = x.found;
  }

  abbrev accepted : IsAcceptedBody m x.frame.function.0 x.f
  accepted = at_item.accepted trail_laws typing_laws m bound s x.frame x.rest x.f x.i x.ops at

  before : StandsBefore trail_laws m x.frame.function.0 x.f (at_item.accepted trail_laws typing_laws m bound s x.frame x.rest x.f x.i x.ops at) (facts_told (facts_of m) x.frame.function)
      s.memory (left_with m (facts_of m) bound x.frame x.ops) x.rest (stands_at x.f x.frame.trail) x.i x.ops.given
  before = at_item.stands trail_laws typing_laws m bound s x.frame x.rest x.f x.i x.ops at

  named_before : (v : ValueId) (p : Place) → Names x.ops.left v p → Names x.frame.entries v p
  named_before = at_item.named_before trail_laws typing_laws m bound s x.frame x.rest x.f x.i x.ops at

  -- ---- storage that is emptied

  storage_emptied : (y : Place) → x.ops.given ≡ AddressOf y ∷ [] → is_some (storage_in y.shape) ≡ true → Each (HasFullParts m (emptied l.memory y)) l.tasks
  storage_emptied y e stored =
      let as_stored = stored_shape y.shape stored in
      let y_is = operand_typed m right.typed.world y (operand_forms m x.f x.i) x.ops.given
      (given_typed m s l right.typed.world x.frame x.rest x.f x.i x.ops accepted frame_is (stands m bound s l x h)) e in
      tasks_still m verified right.typed.world s.memory l.memory y (replicate (cell_count y.shape) Empty) (length-replicate (cell_count y.shape) Empty)
      s.tasks l.tasks right.typed.tasks right.placed (storage_apart m right.typed.world y y_is as_stored.0 as_stored.1 as_stored.2 s.tasks right.typed.tasks)
      h.related.tasks h.related.parts

  -- ---- a slot that goes

  module _ (y : Place) (e : x.ops.given ≡ AddressOf y ∷ []) (is : effect_of x.i.op ≡ row.RemovesSlot) where
    operand : (t : Taken) × (taken_by x.i ≡ t ∷ []) × Names x.ops.left t.value y
    operand = named_first x.i x.ops.left y operation.Take (ap is_at_one is) (subst (AreNamedBy x.ops.left (taken_by x.i)) e before.named)

    removes : Removes x.i operand.0.value
    removes = removal x.i operand.0 (ap is_removal is) operand.1

    slot : (trivial : Bool) × (source_at (sources_of (declarations_of m) x.f) operand.0.value ≡ source.Slot trivial)
    slot = slot_there (source_at (sources_of (declarations_of m) x.f) operand.0.value)
        (of_slots (declarations_of m) x.f (trail_laws.accepted m x.frame.function.0 x.f accepted) (item.Inst point) x.i x.here removes.deallocates_it operand.0.value
        (subst (λ vs. Contains vs operand.0.value) (sym removes.addresses) (Contains-push [] operand.0.value)))

    names : Names x.frame.entries operand.0.value y
    names = named_before operand.0.value y operand.2

    here : StandsHere trail_laws m x.frame.function.0 x.f accepted x.frame x.frame x.rest s.memory (item.Inst point) x.i
    here = record { holds = holds; none_lent = are_placed.0.none_lent; goes = before.goes; inst = x.here; trail = before.trail }

    goes_out : Deallocates trail_laws m x.frame.function.0 x.f accepted x.frame x.frame x.rest s.memory (item.Inst point) x.i operand.0.value y
    goes_out = record { removes = removes; names = names; trivial = slot.0; source = slot.1 }

    there : IsThere (declarations_of m) x.f x.frame.trail operand.0.value
    there = at_slots.is_there trail_laws m x.frame.function.0 x.f accepted x.frame x.frame x.rest s.memory (item.Inst point) x.i here operand.0.value y goes_out

    alone : is_shared (declarations_of m) x.f operand.0.value ≡ false
    alone = ap is_shared_source slot.1

    -- an argument is another value
    other : (v : ValueId) (r : AddressRow) (trivial : Bool) → source_at (sources_of (declarations_of m) x.f) v ≡ source.Argument r trivial → (v.0 == operand.0.value.0) ≡ false
    other v r trivial src = false_from_ne_true (v.0 == operand.0.value.0) (λ same.
        let one : v ≡ operand.0.value = ap (λ (k : ℕ). record { 0 = k }) (eqb-true v.0 operand.0.value.0 same) in
        let two : source.Argument r trivial ≡ source.Slot slot.0 = sym src ∙ ap (source_at (sources_of (declarations_of m) x.f)) one ∙ slot.1 in
        cc)

    first_none : (n : ℕ) → has_cell y n ≡ true → WasNotGiven m n x.frame
    first_none n in_y g g_is v r trivial src q named =
        let same : g ≡ x.f = same_Some g x.f (sym g_is ∙ x.there) in
        let own : source_at (sources_of (declarations_of m) x.f) v ≡ source.Argument r trivial =
        subst (λ k. source_at (sources_of (declarations_of m) k) v ≡ source.Argument r trivial) same src in
        not_cell q n (λ in_q. true≢false (sym in_y
        ∙ holds.apart v operand.0.value (argument r trivial own) there (other v r trivial own)
        (and_right (is_shared (declarations_of m) x.f v) (is_shared (declarations_of m) x.f operand.0.value) alone) q y named names n in_q))

    slot_apart : AreApartFrom m y s.tasks
    slot_apart =
        subst (AreApartFrom m y) (sym x.is)
        (tasks_apart m y (Runs x.frame ∷ x.rest) (λ n in_y. (
          first_none n in_y,
          none_below m n verified right.typed.world s.memory x.frame x.rest x.f frame_is are_typed.1 are_placed.1
              (holds.free operand.0.value there alone y names n in_y) (first_none n in_y),
        )))

    slot_removed : Each (HasFullParts m (removed l.memory y)) l.tasks
    slot_removed =
        tasks_still m verified right.typed.world s.memory l.memory y (replicate (cell_count y.shape) Gone) (length-replicate (cell_count y.shape) Gone)
        s.tasks l.tasks right.typed.tasks right.placed slot_apart h.related.tasks h.related.parts

  -- ---- a first write

  module _ (w : Value) (y : Place) (e : x.ops.given ≡ ValueOf w ∷ AddressOf y ∷ []) (done : operation_by (access_kind_of x.i.op) x.i.qualifier ≡ Some operation.FirstWrite) where
    does : DoesOne x.i x.ops.left operation.FirstWrite y
    does = does_second x.i x.ops.left y operation.FirstWrite (stores_first x.i.op x.i.qualifier done) done (ValueOf w)
        (subst (AreNamedBy x.ops.left (taken_by x.i)) e before.named)

    written : IsOperandAt trail_laws m x.frame.function.0 x.f accepted x.frame.trail does.taken.value
    written =
        operand_at trail_laws m x.frame.function.0 x.f accepted x.frame.trail (item.Inst point) before.trail does.taken
        (operand_among trail_laws m x.frame.function.0 x.f accepted (facts_told (facts_of m) x.frame.function) s.memory left x.rest point x.i x.ops.given before operation.FirstWrite y does)
        (before.address does.taken.value y does.names)

    no_part : is_part written.location ≡ false
    no_part =
        whole_first (sources_of (declarations_of m) x.f) (source_at (sources_of (declarations_of m) x.f) written.location.root) (is_part written.location)
        (trail_laws.rows (declarations_of m) x.f (trail_laws.accepted m x.frame.function.0 x.f accepted) (item.Inst point) x.i x.here (operated does.taken.value operation.FirstWrite)
        (subst (λ os. Contains os (operated does.taken.value operation.FirstWrite)) (sym does.operations) (Contains-push [] (operated does.taken.value operation.FirstWrite)))
        written.location written.is)

    on_stack : IsThere (declarations_of m) x.f x.frame.trail written.location.root → y.is_part ≡ false
    on_stack root =
        let at = operand_within m s.memory x.f left x.rest before.holds does.taken.value written.location written.is root written.made y does.names in
        ⊎_elim
        (λ (whole : (is_part written.location ≡ false) × (y ≡ at.whole)).
        ap (λ (p : Place). p.is_part) whole.1 ∙ root_whole m s.memory x.f left x.rest before.holds written.location.root root at.whole at.names)
        (λ (part : (is_part written.location ≡ true) × (y.is_part ≡ true)). absurd (true≢false (sym part.0 ∙ no_part)))
        at.how

    in_object : IsInObject trail_laws m x.frame.function.0 x.f accepted written.location.root → y.is_part ≡ false
    in_object field =
        (objects.placed does.taken.value written.location field.of field.place (record { at = written.is; trivial = field.trivial; is = field.source }) y
        (named_before does.taken.value y does.names)).1.part ∙ no_part

    whole_written : y.is_part ≡ false
    whole_written = ⊎_elim on_stack in_object written.root

pub parts_spared : ArePartsSpared
parts_spared m bound s verified right l x h other c slots entries leaves = record {
  emptied = storage_emptied m bound s verified right l x h;
  removed = slot_removed m bound s verified right l x h;
  whole = whole_written m bound s verified right l x h;
}

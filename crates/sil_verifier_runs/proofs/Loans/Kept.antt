-- What steps keep of the loans of open scopes, step by step.
use Rattle.std.proofs.Common.{◌≡◌, ℕ, List, ◌∷◌, Bool, true, false, drop, refl, ◌∙◌, subst}
use Rattle.std.proofs.lemmas.Option.{slice_get_within}
use Rattle.sil_verifier_frames.specs.holder_model.Calling.{handed_over, lent_places}
use Rattle.sil_verifier_frames.specs.holder_model.Data.{Datum}
use Rattle.sil_verifier_frames.specs.holder_model.Effects.{Change}
use Rattle.sil_verifier_frames.specs.holder_model.Frames.{Entry, Frame, LentPlace, Operands}
use Rattle.sil_verifier_frames.specs.holder_model.HolderStates.{HolderState}
use Rattle.sil_verifier_frames.specs.holder_model.ModuleFacts.{facts_of}
use Rattle.sil_verifier_frames.specs.holder_model.ModuleShapes.{shapes_in}
use Rattle.sil_verifier_frames.specs.holder_model.Standing.{stands_at}
use Rattle.sil_verifier_frames.specs.holder_model.States.{Runs, Task}
use Rattle.sil_verifier_frames.specs.sil_verifier_accepted.AcceptedModules.inner.Checked.{IsVerified}
use Rattle.sil_verifier_frames.specs.sil_verifier_values.inner.Known.{IsAcceptedBody}
use Rattle.sil_verifier_frames.specs.sil_verifier_trails.AcceptedPlaces.inner.Loans.{IsLentOn}
use Rattle.sil_verifier_frames.specs.ownership_kinds_origins.Facts.{facts_in}
use Rattle.sil_cfg_items.specs.Items.{item_taken}
use Rattle.sil_verifier_frames.specs.holder_model_laws.HolderLaws.inner.Cells.Cells.{cell_at}
use Rattle.holder_model_values.specs.RunValues.Memory.{Memory}
use Rattle.holder_model_values.specs.RunValues.Places.{OnStack, Place}
use Rattle.sil_ast.specs.declared.function.Function.{Function}
use Rattle.sil_ast.specs.declared.inst.Inst.{Inst}
use Rattle.sil_ast.specs.declared.module.Module.{Module}
use Rattle.sil_ast.specs.declared.place.FuncId.{FuncId}
use Rattle.sil_ast.specs.declared.place.PointId.{PointId}
use Rattle.sil_ast.specs.declared.place.ValueId.{ValueId}
use Rattle.sil_cfg.specs.declared.item.Item.{Item}
use Rattle.sil_cfg.specs.declared.item.Item.TheVariants as item
use Rattle.sil_types_declarations.specs.TypeDefinitions.Declarations.{declarations_of}
use Rattle.sil_verifier_frames.specs.inner.Typed.TypedStates.{TasksAre}
use Rattle.sil_verifier_frames.specs.inner.Tracked.TrackedStates.{AreTasksTracked}
use Rattle.sil_verifier_runs.specs.inner.Guarded.Stepping.{KeepLoans, frame_behind, frame_waiting}
use Rattle.sil_verifier_frames.specs.inner.Placed.FramePlaces.{is_lent}
use Rattle.sil_verifier_frames.specs.inner.Placed.PlaceStates.{AreSlotsRight, TasksPlaced}
use Rattle.sil_verifier_frames.proofs.Placed.Calls.{rest_stays, unlent}
use Rattle.sil_verifier_frames.proofs.Placed.CallsPlaced.{CallsBody, accepted, calling}
use Rattle.sil_verifier_frames.proofs.Placed.Lent.{Calling}
use Rattle.sil_verifier_frames.proofs.Placed.TrailsSo.{trail_laws}
use Rattle.sil_verifier_frames.proofs.Placed.TypingSo.{typing_laws}
use Rattle.sil_verifier_runs.specs.inner.Loans.Laws.{AreLoansKept}
use Rattle.sil_verifier_runs.specs.inner.Loans.Loans.{loans_of}
use Rattle.sil_verifier_runs.proofs.Loans.Arguments.{arguments_on_stack}
use Rattle.sil_verifier_runs.proofs.Loans.Loaded.{loads_lent}
use Rattle.sil_verifier_runs.specs.inner.Guarded.LoansKept.{Calls, Does, LendOn, Resumes, Stays}
use Rattle.sil_verifier_runs.proofs.Loans.AtItems as at
use Rattle.sil_verifier_runs.proofs.Loans.Below.{below_kept}
use Rattle.sil_verifier_runs.proofs.Loans.CallsClear.{not_lent}
use Rattle.sil_verifier_runs.proofs.Loans.Instructions.{KeepsCells, instruction_keeps}
use Rattle.sil_verifier_runs.proofs.Loans.LoanAt.{LendsCell, lent_still}
use Rattle.sil_verifier_runs.proofs.Loans.Waiting.{lent_later}

-- a call hands over no cell that an open scope lends
module _ (m : Module) (number : ℕ) (f : Function) (body : IsAcceptedBody m number f) (point : PointId) (i : Inst) (memory : Memory) (left : Frame) (rest : List (Task Frame))
    (lent : List LentPlace) (c : Calling trail_laws m number f body point i memory left rest lent) where
  lent_stays : (scope : ValueId) (k : ℕ) (x : LendsCell m f left scope k) → IsLentOn (declarations_of m) f left.trail (item.Inst point) scope x.address
      → cell_at (handed_over memory lent) OnStack k ≡ cell_at memory OnStack k
  lent_stays scope k x on = unlent trail_laws m number f body point i memory left rest lent c k (by (is_lent lent k) refl)
    where
      by : (b : Bool) → is_lent lent k ≡ b → is_lent lent k ≡ false
      by true e = absurd (not_lent trail_laws m number f body memory left rest c.holds point i lent c.call c.by k (record { scope = scope; cell = x; on = on }) e)
      by false e = e

module _ (m : Module) (verified : IsVerified m) where
  -- ---- an instruction

  module _ (s next : HolderState) (rest : List (Task Frame)) (frame : Frame) (f : Function) (i : Inst) (ops : Operands) (c : Change) (slots : List Place) (behind : List Entry)
      (x : Does m (loans_of m) (AreSlotsRight m) s next rest frame f i ops c slots behind) where
    kept : KeepsCells m verified s rest frame f (stands_at f frame.trail) ops x.takes i x.here c.memory
    kept = instruction_keeps m verified s rest frame f (stands_at f frame.trail) ops x.takes i x.here (facts_of m).shapes (shapes_in (facts_of m).shapes frame.function) c x.makes

    pub lending : LendOn f (loans_of m f frame) (loans_of m f (frame_behind m (loans_of m) frame (item.Inst (stands_at f frame.trail)) behind slots)) s.memory c.memory ops.left
    lending scope y k z borrow lent lends keeps = (
      at.lent_behind m verified s rest frame f (item.Inst (stands_at f frame.trail)) ops x.takes c.results behind x.leads.put slots scope y k borrow lent lends,
      kept.lent k (slice_get_within s.memory.stack k _ keeps)
          (at.cell_lent_left m verified s rest frame f (item.Inst (stands_at f frame.trail)) ops x.takes scope y k borrow lent lends) ∙ keeps,
    )

    pub below : KeepLoans m (loans_of m) s.memory c.memory rest
    below = below_kept m verified s.memory c.memory (at.w m verified s rest frame f (item.Inst (stands_at f frame.trail)) ops x.takes) frame rest
        (at.typed_below m verified s rest frame f (item.Inst (stands_at f frame.trail)) ops x.takes)
        (at.first m verified s rest frame f (item.Inst (stands_at f frame.trail)) ops x.takes).below
        (at.tracked_below m verified s rest frame f (item.Inst (stands_at f frame.trail)) ops x.takes) kept.below

  pub stays : (s next : HolderState) (rest : List (Task Frame)) (frame : Frame) (f : Function) (i : Item) (ops : Operands) (c : Change) (slots : List Place) (behind : List Entry)
      → Stays m (loans_of m) (AreSlotsRight m) s next rest frame f i ops c slots behind
      → LendOn f (loans_of m f frame) (loans_of m f (frame_behind m (loans_of m) frame i behind slots)) s.memory s.memory ops.left
  stays s next rest frame f i ops c slots behind x scope y k z borrow lent lends keeps =
      (at.lent_behind m verified s rest frame f i ops x.takes c.results behind x.leads.put slots scope y k borrow lent lends, keeps)

  -- ---- a call

  module _ (s next : HolderState) (rest : List (Task Frame)) (frame : Frame) (f : Function) (i : Inst) (ops : Operands) (g : FuncId) (args : List Datum) (lent : List LentPlace)
      (x : Calls m (loans_of m) (AreSlotsRight m) s next rest frame f i ops g args lent) where
    calls : CallsBody trail_laws typing_laws m verified (at.w m verified s rest frame f (item.Inst (stands_at f frame.trail)) ops x.takes) s.memory frame rest f
        (at.first m verified s rest frame f (item.Inst (stands_at f frame.trail)) ops x.takes) (facts_in (declarations_of m) f) i ops (facts_of m).shapes
        (shapes_in (facts_of m).shapes frame.function) g args x.callee
    calls = record {
      reads = at.reads m verified s rest frame f (item.Inst (stands_at f frame.trail)) ops x.takes;
      here = x.here;
      trail = at.run m verified s rest frame f (item.Inst (stands_at f frame.trail)) ops x.takes;
      is = x.calls;
      there = x.callee_is;
      bodied = x.bodied;
    }

    abbrev places : List LentPlace
    places = lent_places (drop 1 (item_taken f (item.Inst (stands_at f frame.trail)))) args

    body : IsAcceptedBody m frame.function.0 f
    body = accepted trail_laws typing_laws m verified (at.w m verified s rest frame f (item.Inst (stands_at f frame.trail)) ops x.takes) s.memory frame rest f
        (at.first m verified s rest frame f (item.Inst (stands_at f frame.trail)) ops x.takes) (facts_in (declarations_of m) f) i ops (facts_of m).shapes
        (shapes_in (facts_of m).shapes frame.function) g args x.callee calls

    of_call : Calling trail_laws m frame.function.0 f body (stands_at f frame.trail) i s.memory (record frame { entries = ops.left }) rest
        (lent_places (drop 1 (item_taken f (item.Inst (stands_at f frame.trail)))) args)
    unfolding body
    of_call = calling trail_laws typing_laws m verified (at.w m verified s rest frame f (item.Inst (stands_at f frame.trail)) ops x.takes) s.memory frame rest f
        (at.first m verified s rest frame f (item.Inst (stands_at f frame.trail)) ops x.takes) (facts_in (declarations_of m) f) i ops (facts_of m).shapes
        (shapes_in (facts_of m).shapes frame.function) g args x.callee calls

    pub handed : LendOn f (loans_of m f frame) (loans_of m f (frame_waiting m (loans_of m) frame ops lent)) s.memory (handed_over s.memory lent) ops.left
    handed scope y k z borrow is lends keeps =
        let cell = at.cell_left m verified s rest frame f (item.Inst (stands_at f frame.trail)) ops x.takes scope k lends in
        let on = at.scope_on m verified s rest frame f (item.Inst (stands_at f frame.trail)) ops x.takes scope y k borrow is lends in (
          lent_still m f (record frame { entries = ops.left }) (frame_waiting m (loans_of m) frame ops lent) scope k cell cell.root.there cell.names,
          subst (λ ls. cell_at (handed_over s.memory ls) OnStack k ≡ cell_at s.memory OnStack k) x.lends
              (lent_stays m frame.function.0 f body (stands_at f frame.trail) i s.memory (record frame { entries = ops.left }) rest places of_call scope k cell on) ∙ keeps,
        )

    pub handed_below : KeepLoans m (loans_of m) s.memory (handed_over s.memory lent) rest
    handed_below = subst (λ ls. KeepLoans m (loans_of m) s.memory (handed_over s.memory ls) rest) x.lends
        (below_kept m verified s.memory (handed_over s.memory places) (at.w m verified s rest frame f (item.Inst (stands_at f frame.trail)) ops x.takes) frame rest
        (at.typed_below m verified s rest frame f (item.Inst (stands_at f frame.trail)) ops x.takes)
        (at.first m verified s rest frame f (item.Inst (stands_at f frame.trail)) ops x.takes).below
        (at.tracked_below m verified s rest frame f (item.Inst (stands_at f frame.trail)) ops x.takes)
        (λ n lt. rest_stays trail_laws m frame.function.0 f body (stands_at f frame.trail) i s.memory (record frame { entries = ops.left }) rest places of_call n))

  -- ---- a return

  pub resumed : (s next : HolderState) (rest : List (Task Frame)) (callee frame : Frame) (f : Function) (c : Change) (slots : List Place) (behind : List Entry)
      → Resumes m (loans_of m) (AreSlotsRight m) s next rest callee frame f c slots behind
      → LendOn f (loans_of m f frame) (loans_of m f (frame_behind m (loans_of m) frame (item.Inst (stands_at f frame.trail)) behind slots)) s.memory s.memory frame.entries
  resumed s next rest callee frame f c slots behind x scope y k z borrow lent lends keeps = (
    lent_later m verified s.memory x.state.typed.world callee frame rest typed.1.0 placed.1.0 f x.there (tracked.1.0 f x.there) scope y k borrow lent lends c.results behind x.leads.put slots,
    keeps,
  )
    where
      typed : TasksAre m x.state.typed.world (Runs callee ∷ Runs frame ∷ rest)
      typed = subst (TasksAre m x.state.typed.world) x.tasks x.state.typed.tasks

      placed : TasksPlaced m s.memory (Runs callee ∷ Runs frame ∷ rest)
      placed = subst (TasksPlaced m s.memory) x.tasks x.state.placed

      tracked : AreTasksTracked m (Runs callee ∷ Runs frame ∷ rest)
      tracked = subst (AreTasksTracked m) x.tasks x.state.tracked

-- ---- all of it

pub loans_kept : AreLoansKept
loans_kept m verified = record {
  lending = lending m verified;
  below = below m verified;
  loaded = λ s next rest frame f i ops c slots behind x.
      loads_lent m verified s rest frame f (stands_at f frame.trail) ops x.takes i x.here (facts_of m).shapes (shapes_in (facts_of m).shapes frame.function) c x.makes
      behind x.leads.put slots;
  stays = stays m verified;
  handed = handed m verified;
  handed_below = handed_below m verified;
  resumed = resumed m verified;
  arguments = arguments_on_stack m verified;
}

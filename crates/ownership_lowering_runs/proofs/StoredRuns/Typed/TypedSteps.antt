-- Steps of typed states whose first frame stands at a terminator or a call, and calls of deinitialisers: the lowered run goes along.
use Rattle.std.proofs.Common.{◌≡◌, List, [], ◌∷◌, length, refl, sym, ap, ◌∙◌, subst, true, Some}
use Rattle.std.specs.Prelude.{slice_get}
use Rattle.std.specs.List.{AllZip}
use Rattle.std.proofs.lemmas.List.{length-map}
use Rattle.std.proofs.lemmas.Option.{same_Some}
use Rattle.numbered_form.specs.Lists.{Each}
use Rattle.sil_ast.specs.declared.function.Function.{Function}
use Rattle.sil_ast.specs.declared.module.Module.{Module}
use Rattle.sil_ast.specs.declared.place.FuncId.{FuncId}
use Rattle.sil_ast.specs.declared.place.ObjectId.{ObjectId}
use Rattle.sil_ast.specs.declared.place.ValueId.{ValueId}
use Rattle.sil_cfg.specs.declared.item.Item.TheVariants as item
use Rattle.sil_cfg_items.specs.Items.{item_defined}
use Rattle.sil_types_declarations.specs.TypeDefinitions.Declarations.{Declarations, declarations_of}
use Rattle.holder_model_values.specs.RunValues.Values as value
use Rattle.holder_model_values.specs.RunValues.Values.{Value}
use Rattle.sil_verifier_runs.proofs.sil_verifier_trails.AcceptedTrails.Unbroken.{are_accepted}
use Rattle.sil_verifier_runs.proofs.sil_verifier_trails.RunTrails.RunPaths.{are_trails}
use Rattle.sil_verifier_runs.proofs.sil_verifier_trails.RunTrails.TurnedTrails.{turned_item}
use Rattle.sil_verifier_runs.proofs.sil_verifier_trails.RunTrails.WalkEdges.{are_next}
use Rattle.sil_verifier_runs.specs.sil_verifier_trails.RunTrails.inner.RunTrails.{IsTurnedTrail}
use Rattle.sil_verifier_runs.specs.sil_verifier_values.inner.Known.{IsAcceptedBody}
use Rattle.sil_verifier_runs.specs.holder_model.RunTyping.CallForms.{IsDeinitOf}
use Rattle.sil_verifier_runs.specs.holder_model.RunTyping.Forms.{form_of}
use Rattle.sil_verifier_runs.specs.holder_model.Data.{Datum, ValueOf}
use Rattle.sil_verifier_runs.specs.holder_model.Frames.{Frame, has_any}
use Rattle.sil_verifier_runs.specs.holder_model.HolderStates.{HolderState}
use Rattle.sil_verifier_runs.specs.holder_model.ModuleShapes.{shapes_of}
use Rattle.sil_verifier_runs.specs.holder_model.Standing.{stands_at}
use Rattle.sil_verifier_runs.specs.holder_model.States.{Drops, Finishes, Runs, Task}
use Rattle.sil_verifier_runs.specs.holder_model.LoweredRun.LowFrames.{LowFrame}
use Rattle.sil_verifier_runs.specs.holder_model.LoweredRun.LowStepParts.{LowNext, LowState}
use Rattle.ownership_lowering_laws.specs.ownership_lowering_model.LoweredModules.{lowered, lowered_body}
use Rattle.sil_verifier_runs.specs.holder_model_laws.LoweredSteps.inner.LowWays as ways
use Rattle.sil_verifier_runs.proofs.holder_model_laws.LoweredSteps.LowTaken.{told_taken}
use Rattle.sil_verifier_runs.specs.sil_verifier_frames.inner.Typed.TypedStates.{DeinitsTyped, DroppedTyped, FinishedTyped, FrameIs, GoesTyped, TasksAre, WaitsTyped}
use Rattle.sil_verifier_runs.specs.holder_model_laws.HolderLaws.inner.Steps.Stacks.{Below}
use Rattle.ownership_lowering_laws.specs.holder_model_typing.TypedMemory.inner.Worlds.{World}
use Rattle.sil_verifier_runs.proofs.sil_verifier_frames.Typed.GoesOn.{accepted_body, typed_module}
use Rattle.ownership_lowering_runs.specs.StoredRuns.inner.Along.{IsNextAlong}
use Rattle.ownership_lowering_runs.specs.StoredRuns.inner.Awaited.{AreAwaited, AreAwaitedBelow}
use Rattle.ownership_lowering_runs.specs.StoredRuns.inner.Entering.{HandsOver, IsAddressFor}
use Rattle.ownership_lowering_runs.specs.StoredRuns.inner.Frames.{AreTasksFor, HasFullParts, IsTaskFor}
use Rattle.ownership_lowering_runs.specs.StoredRuns.inner.EndsAlong.{MayReturnTo}
use Rattle.ownership_lowering_runs.specs.StoredRuns.inner.Lowering.{LowersSo}
use Rattle.ownership_lowering_runs.specs.StoredRuns.inner.Returned.{TakesResult}
use Rattle.ownership_lowering_runs.specs.StoredRuns.inner.TypedSteps.{IsTypedFor, ReturnsCounted, TypedCallsStep, TypedDeinitsStep, TypedEndsStep}
use Rattle.ownership_lowering_runs.proofs.StoredRuns.Entering.{are_entered}
use Rattle.ownership_lowering_runs.proofs.StoredRuns.FrameSteps.{calls_step, ends_step}
use Rattle.ownership_lowering_runs.proofs.StoredRuns.Lowered.LoweredSo.{are_lowered_so}
use Rattle.ownership_lowering_runs.proofs.StoredRuns.Returned.{low_finish}
use Rattle.ownership_lowering_runs.proofs.StoredRuns.StayingSteps.{function_there}
use Rattle.ownership_lowering_runs.proofs.StoredRuns.Typed.TypedCalls.{are_calls_right}
use Rattle.ownership_lowering_runs.proofs.StoredRuns.Typed.TypedEnds.{are_ends_plain}

-- a value alone is no address
no_address : (d : Declarations) (f : Function) (vs : List ValueId) (x : Value) → length (ValueOf x ∷ []) ≡ length vs → AllZip (IsAddressFor d f) vs (ValueOf x ∷ [])
no_address d f [] x e = absurd (cc)
no_address d f (v ∷ []) x e = (λ p is. absurd (cc), tt)
no_address d f (v ∷ w ∷ vs) x e = absurd (cc)

module _ (m : Module) (w : World) where
  abbrev TypedBelow : Frame → List (Task Frame) → Type 0
  TypedBelow callee tasks = Below (GoesTyped m w) (WaitsTyped m w) (DeinitsTyped m w) (DroppedTyped m w) (FinishedTyped m w) callee tasks

  frame_of : (frame : Frame) (f g : Function) → FrameIs m w f frame → slice_get m.functions frame.function.0 ≡ Some g → FrameIs m w g frame
  frame_of frame f g is there = subst (λ x. FrameIs m w x frame) (same_Some f g (sym is.is ∙ there)) is

module _ (m : Module) (s : HolderState) (l : LowState) (h : IsTypedFor m s l) (frame : Frame) (rest : List (Task Frame)) (f : Function)
    (is : s.tasks ≡ Runs frame ∷ rest) (there : slice_get m.functions frame.function.0 ≡ Some f) where
  abbrev w : World
  w = h.typed.world

  tasks : TasksAre m w (Runs frame ∷ rest)
  tasks = subst (TasksAre m w) is h.typed.tasks

  awaited : AreAwaited m (Runs frame ∷ rest)
  awaited = subst (AreAwaited m) is h.awaited

  frame_is : FrameIs m w f frame
  frame_is = frame_of m w frame tasks.0.0 f tasks.0.1 there

  accepted : IsAcceptedBody m frame.function.0 f
  accepted = accepted_body m h.verified frame.function f there frame_is.bodied

  -- what waits below takes what is returned
  below_takes : (x : Datum) (tasks : List (Task Frame)) → TypedBelow m w frame tasks → AreAwaitedBelow m frame tasks → (tasks ≡ [] → TakesResult m s l x []) → TakesResult m s l x tasks
  below_takes x [] typed waits counted = counted refl
  below_takes x (Runs waiting ∷ others) typed waits counted =
      λ g there_g.
      let of : FrameIs m w g waiting = frame_of m w waiting typed.0.f g typed.0.of there_g in
      (are_lowered_so m waiting.function g (accepted_body m h.verified waiting.function g there_g of.bodied), waits.0 g there_g)
  below_takes x (Drops references ∷ others) typed waits counted = tt
  below_takes x (Finishes deinits o ∷ others) typed waits counted = tt

  may_return : (rest ≡ [] → ReturnsCounted m s l frame f) → MayReturnTo m s l frame f rest
  may_return counted t ops x ends returns found one held = below_takes x rest tasks.1 awaited.1 (λ none v value. counted none t ops x v ends returns found one value held)

pub typed_ends_step : TypedEndsStep
typed_ends_step m bound s l frame rest f next h is there at_end counted way none =
    let a = accepted m s l h frame rest f is there in
    ends_step m bound s l frame rest f next h.related is there (are_lowered_so m frame.function f a) at_end
    (are_ends_plain m s h.typed.world frame f a (frame_is m s l h frame rest f is there) at_end) (may_return m s l h frame rest f is there counted) way none

pub typed_calls_step : TypedCallsStep
typed_calls_step m bound s l frame rest f i ops next h is there here apply found full way none =
    let a = accepted m s l h frame rest f is there in
    let typed = frame_is m s l h frame rest f is there in
    let trail : IsTurnedTrail f (item.Inst (stands_at f frame.trail) ∷ frame.trail) =
    are_trails f (are_accepted m frame.function.0 f a.verified a.body).once (item.Inst (stands_at f frame.trail) ∷ frame.trail)
    (are_next f frame.trail (item.Inst (stands_at f frame.trail)) typed.goes (refl, i, here), typed.trail) in
    calls_step m bound s l frame rest f i ops next h.related is there (are_lowered_so m frame.function f a) here apply
    (turned_item f (item.Inst (stands_at f frame.trail)) frame.trail trail) trail found
    (are_calls_right m bound s h.typed.world frame f i ops a h.typed.of h.typed.memory typed here found full) way none

-- ---- deinitialisers

pub record LowFinish (m : Module) (deinits : List FuncId) (o : ObjectId) (rest : List (Task Frame)) (l : LowState) : Type 0 where
  pub others : List (Task LowFrame)
  pub is_top : l.tasks ≡ Finishes deinits o ∷ others
  pub rest_for : AreTasksFor m rest others

pub finish_top : (m : Module) (deinits : List FuncId) (o : ObjectId) (rest : List (Task Frame)) (l : LowState) (lows : List (Task LowFrame)) → l.tasks ≡ lows
    → AreTasksFor m (Finishes deinits o ∷ rest) lows → LowFinish m deinits o rest l
finish_top m deinits o rest l [] e h = absurd h
finish_top m deinits o rest l (x ∷ lows) e h =
    record { others = lows; is_top = e ∙ ap (λ y. y ∷ lows) (low_finish m deinits o x h.0); rest_for = h.1 }

pub typed_deinits_step : TypedDeinitsStep
typed_deinits_step m bound s l g gs o rest f next h is there way none =
    record {
      low_next = e.0;
      step =
          told_taken (lowered m) (shapes_of (lowered m)) bound l e.0
          (ways.StepsBy.calls_deinit g gs o top.others (lowered_body (declarations_of m) f) e.0 top.is_top (function_there m bound g.0 f there lowers.form) e.1);
      for = e.2;
    }
  where
    tasks : TasksAre m h.typed.world (Finishes (g ∷ gs) o ∷ rest)
    tasks = subst (TasksAre m h.typed.world) is h.typed.tasks

    deinit : IsDeinitOf m tasks.0.1.0.class g
    deinit = (typed_module m h.verified).deinits tasks.0.1.0.class g tasks.0.1.0.is

    same : deinit.body ≡ f
    same = same_Some deinit.body f (sym deinit.there ∙ there)

    bodied : has_any f.blocks ≡ true
    bodied = ap (λ (b : Function). has_any b.blocks) (sym same) ∙ deinit.bodied

    lowers : LowersSo m g f
    lowers = are_lowered_so m g f (accepted_body m h.verified g f there bodied)

    top : LowFinish m (g ∷ gs) o rest l
    top = finish_top m (g ∷ gs) o rest l l.tasks refl (subst (λ ts. AreTasksFor m ts l.tasks) is h.related.tasks)

    full : Each (HasFullParts m l.memory) (Finishes (g ∷ gs) o ∷ top.others)
    full = subst (Each (HasFullParts m l.memory)) top.is_top h.related.parts

    many : length (ValueOf (value.Object o) ∷ []) ≡ length (item_defined f item.Entry)
    many =
        ap length (sym deinit.takes) ∙ length-map (item_defined deinit.body item.Entry) (form_of (declarations_of m) deinit.body)
        ∙ ap (λ (b : Function). length (item_defined b item.Entry)) same

    hands : HandsOver (declarations_of m) l.memory f (ValueOf (value.Object o) ∷ []) (ValueOf (value.Object o) ∷ [])
    hands = record {
      as_many = many;
      same = (refl, tt);
      full = ((λ p e part. absurd (cc)), tt);
      addresses = no_address (declarations_of m) f (item_defined f item.Entry) (value.Object o) many;
    }

    e : (low_next : LowNext)
        × ways.Enters (lowered m) (shapes_of (lowered m)) bound (record l { tasks = Finishes gs o ∷ top.others }) (Finishes gs o ∷ top.others) g
        (lowered_body (declarations_of m) f) (ValueOf (value.Object o) ∷ []) low_next
        × IsNextAlong m l.numbers next low_next
    e = are_entered m bound (record s { tasks = Finishes gs o ∷ rest }) (record l { tasks = Finishes gs o ∷ top.others }) (Finishes gs o ∷ rest) (Finishes gs o ∷ top.others)
        g f (ValueOf (value.Object o) ∷ []) (ValueOf (value.Object o) ∷ []) next
        (record { events = h.related.events; turns = h.related.turns; retains = h.related.retains; releases = h.related.releases })
        h.related.memory (IsTaskFor.finishes gs o, top.rest_for) (tt, full.1) there lowers hands way none

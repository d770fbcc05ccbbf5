-- The step of a frame: where the frames of each function do alike, whole steps are alike. So what is proved of frames gives the parts.
use Rattle.std.proofs.Common.{◌≡◌, ℕ, arith, List, refl, sym, ap, ◌∙◌, subst, Bool, true, false, cond, Option, Some, None, Ok, Err, inl}
use Rattle.std.specs.Prelude.{option_and_then, option_map, slice_get}
use Rattle.std.specs.declared.result.Result.{Result}
use Rattle.instruction_table.specs.Forms.{ending_of}
use Rattle.instruction_table.specs.declared.entries.Ending.{Ending}
use Rattle.instruction_table.specs.declared.entries.Ending.TheVariants as ending
use Rattle.sil_ast.specs.declared.function.Function.{Function}
use Rattle.sil_ast.specs.declared.inst.Inst.{Inst}
use Rattle.sil_ast.specs.declared.module.Module.{Module}
use Rattle.sil_ast.specs.declared.operands.Operand.{Operand}
use Rattle.sil_ast.specs.declared.place.EdgeId.{EdgeId}
use Rattle.sil_ast.specs.declared.place.FuncId.{FuncId}
use Rattle.sil_cfg.specs.declared.item.Item.{Item}
use Rattle.sil_cfg.specs.declared.item.Item.TheVariants as item
use Rattle.sil_cfg_items.specs.Parts.{inst_at, terminator_of}
use Rattle.holder_model.specs.holder_model_values.RunValues.Places.{Place}
use Rattle.holder_model.specs.holder_model_values.RunValues.Shapes.{Shape}
use Rattle.holder_model.specs.holder_model_values.RunValues.Values.{Value}
use Rattle.holder_model.specs.declared.trap.Trap.TheVariants as trap
use Rattle.holder_model.specs.Calling.{are_as_after, holds_something, places_given}
use Rattle.holder_model.specs.Data.{Datum, as_value}
use Rattle.holder_model.specs.Edges.{branch_of, carried_along, case_edge, edge_of}
use Rattle.holder_model.specs.Effects.{only, unchanged}
use Rattle.holder_model.specs.Faults.{HolderFault, LeavesHeld, LeavesPlace, LeavesSlot}
use Rattle.holder_model.specs.Frames.{Entry, Frame, LentPlace, Operands, datum_in, entry_at, has_any}
use Rattle.holder_model.specs.HolderStates.{HolderNext, HolderState}
use Rattle.holder_model.specs.ModuleFacts.{ModuleFacts}
use Rattle.holder_model.specs.ModuleShapes.{shapes_in}
use Rattle.holder_model.specs.Standing.{stands_at}
use Rattle.holder_model.specs.StepParts.{chosen_by, chosen_edge, fault, on_ok, on_some, switched_shape, with_chosen}
use Rattle.holder_model.specs.States.{Task, Trapped, turn}
use Rattle.holder_model.specs.Steps as steps
use Rattle.holder_model_laws.specs.LockstepRuns.inner.Frames.{AreEdgesAlike, AreEndsAlike, AreInstsAlike, AreReturnsAlike, DoAlike, does, takes}
use Rattle.holder_model_laws.specs.LockstepRuns.inner.Laws.{AreFramesInLockstep}
use Rattle.holder_model_laws.specs.LockstepRuns.inner.Lockstep.{AreInStep, AreLevel, AreTasksLike, IsKeptBy, frame_at}
use Rattle.holder_model_laws.specs.LockstepRuns.inner.Parts.{AreFramesOn, FramesAgree, HasFunctions}
use Rattle.holder_model_laws.proofs.LockstepRuns.Alike as alike
use Rattle.holder_model_laws.proofs.LockstepRuns.FrameSteps.{effects_alike, returned_alike}
use Rattle.holder_model_laws.proofs.LockstepRuns.Locked.{runs_in_lockstep}

module _ (m m' : Module) (told told' : ModuleFacts) (bound : ℕ) (First Second : HolderState → Type 0)
    (Like : FuncId → List Item → List Entry → List Item → List Entry → Type 0) (Alone : FuncId → List Item → Type 0)
    (kept : IsKeptBy m told bound First) (functions : HasFunctions m m')
    (alone : (h r : HolderState) → First h → Second r → AreTasksLike Like h.tasks r.tasks → AreLevel h r → AreInStep Like Alone m told bound h r)
    (frames : (g : FuncId) (f f' : Function) → slice_get m.functions g.0 ≡ Some f → slice_get m'.functions g.0 ≡ Some f'
    → DoAlike m m' told told' bound First Second Like Alone g f f') where
  abbrev Alike : HolderNext → HolderNext → Type 0
  Alike = alike.Alike m m' told told' bound First Second Like Alone

  -- ---- a frame and its like, which go on in these states

  module _ (g : FuncId) (f f' : Function) (h r : HolderState) (slots : List Place) (lent : List LentPlace) (trail trail' : List Item)
      (entries entries' : List Entry) (rest rest' : List (Task Frame))
      (on : AreFramesOn m m' told told' bound First Second Like Alone h r g slots lent trail trail' entries entries' rest rest') where
    abbrev here : Frame
    here = frame_at g slots lent trail entries

    abbrev there : Frame
    there = frame_at g slots lent trail' entries'

    -- ---- an instruction

    inst_alike : (i : Inst) → (a : AreInstsAlike m m' told told' bound First Second Like Alone g f f' h r trail trail' entries entries' rest i)
        → Alike (steps.does m told bound h rest here f (stands_at f trail) i) (steps.does m' told' bound r rest' there f' (stands_at f' trail') a.other)
    inst_alike i a =
        alike.ok_alike m m' told told' bound First Second Like Alone h r _ _ (takes told g f (item.Inst (stands_at f trail)) h.memory entries)
        (takes told' g f' (item.Inst (stands_at f' trail')) r.memory entries') (λ ops is.
        let z = a.taken ops is in (
          z.0,
          z.1,
          effects_alike m m' told told' bound First Second Like Alone kept functions alone frames g f f' slots lent lent trail trail'
              (item.Inst (stands_at f trail)) (item.Inst (stands_at f' trail')) ops.left z.0.left rest rest' on.below h r on.level
              (does m told g h.memory i ops.given) (does m' told' g r.memory a.other z.0.given) z.2,
        ))

    -- ---- an edge

    -- what the frame does where these are its operands, and where this is carried
    abbrev with_carried : Module → ModuleFacts → HolderState → List (Task Frame) → Frame → Function → EdgeId → Operands → List Datum → HolderNext
    with_carried n tell s below frame k e ops carried =
        turn bound s (λ t. steps.goes_on n tell bound t below (steps.taken_from n tell bound frame ops) k (item.Edge e) (record (unchanged t.memory) { results = carried }))

    abbrev with_taken : Module → ModuleFacts → HolderState → List (Task Frame) → Frame → Function → EdgeId → Operands → HolderNext
    with_taken n tell s below frame k e ops = on_some s (with_carried n tell s below frame k e ops) (carried_along k e ops.given)

    edge_alike : (e e' : EdgeId) → AreEdgesAlike m m' told told' bound First Second Like Alone g f f' h r trail trail' entries entries' rest e e'
        → Alike (steps.takes_edge m told bound h rest here f e) (steps.takes_edge m' told' bound r rest' there f' e')
    edge_alike e e' a = by_operands (takes told g f (item.Edge e) h.memory entries) refl
      where
        by_carried : (ops : Operands) → takes told g f (item.Edge e) h.memory entries ≡ Ok ops → (o : Option (List Datum)) → carried_along f e ops.given ≡ o
            → Alike (on_some h (with_carried m told h rest here f e ops) o) (steps.takes_edge m' told' bound r rest' there f' e')
        by_carried ops is None none = inl tt
        by_carried ops is (Some carried) some =
            let z = a ops carried is some in
            subst (λ q. Alike (with_carried m told h rest here f e ops carried) (on_ok r (with_taken m' told' r rest' there f' e') q)) (sym z.taken)
            (subst (λ q. Alike (with_carried m told h rest here f e ops carried) (on_some r (with_carried m' told' r rest' there f' e' z.other) q)) (sym z.carries)
            (alike.turn_alike m m' told told' bound First Second Like Alone h r
            (λ t. steps.goes_on m told bound t rest (frame_at g slots lent trail ops.left) f (item.Edge e) (record (unchanged t.memory) { results = carried }))
            (λ t. steps.goes_on m' told' bound t rest' (frame_at g slots lent trail' z.other.left) f' (item.Edge e') (record (unchanged t.memory) { results = carried }))
            on.level
            (λ t. alike.goes_on_alike m m' told told' bound First Second Like Alone alone _ _ rest rest' g f f' slots lent lent trail trail' ops.left z.other.left
            (item.Edge e) (item.Edge e') (record (unchanged h.memory) { results = carried }) (record (unchanged r.memory) { results = carried }) t on.below
            (record { dropped = refl; memory = t.memory; slots = refl; retained = omega arith }) z.put)))

        by_operands : (o : Result Operands HolderFault) → takes told g f (item.Edge e) h.memory entries ≡ o
            → Alike (on_ok h (with_taken m told h rest here f e) o) (steps.takes_edge m' told' bound r rest' there f' e')
        by_operands (Err x) is = inl tt
        by_operands (Ok ops) is = by_carried ops is (carried_along f e ops.given) refl

    -- ---- a terminator

    module _ (i : Inst) (a : AreEndsAlike m m' told told' bound First Second Like Alone g f f' h r trail trail' entries entries' rest i) where
      -- it chooses the same edge
      chosen_alike : (choose choose' : Value → Option ℕ) → choose' ≡ choose → (go go' : ℕ → HolderNext) → ((k : ℕ) → Alike (go k) (go' k))
          → Alike (with_chosen h here i choose go) (with_chosen r there i choose' go')
      chosen_alike choose choose' same go go' each =
          subst (λ c. Alike (with_chosen h here i choose go) (with_chosen r there i c go')) (sym same) (by_operand (slice_get i.operands 0) refl)
        where
          by_datum : (o : Operand) → slice_get i.operands 0 ≡ Some o → (x : Option Datum) → datum_in (entry_at entries o.value) ≡ x
              → Alike (chosen_edge h choose go x) (chosen_edge r choose go' (datum_in (entry_at entries' o.value)))
          by_datum o first None is = inl tt
          by_datum o first (Some x) is =
              subst (λ q. Alike (chosen_edge h choose go (Some x)) (chosen_edge r choose go' q)) (sym (a.chosen o x first is))
              (alike.some_alike m m' told told' bound First Second Like Alone h r go go' (option_and_then choose (as_value x)) (option_and_then choose (as_value x))
              (λ k found. (k, found, each k)))

          by_operand : (o : Option Operand) → slice_get i.operands 0 ≡ o
              → Alike (chosen_by h choose go (option_map (λ o. entry_at entries o.value) o)) (chosen_by r choose go' (option_map (λ o. entry_at entries' o.value) o))
          by_operand None first = inl tt
          by_operand (Some o) first = by_datum o first (datum_in (entry_at entries o.value)) refl

      -- behind the question whether the frame holds something
      abbrev holding_none : HolderState → Function → List Entry → HolderNext → HolderNext
      holding_none s k left go =
          cond (has_any slots) (fault s LeavesSlot) (cond (are_as_after s.memory (places_given k left)) go (fault s LeavesPlace))

      -- what is left of the frames that return is as it should be in both, where it is in the first
      leaves_alike : (ops : Operands) → (b : AreReturnsAlike m m' told told' bound First Second Like Alone g f f' h r trail trail' entries entries' rest ops)
          → (x : Datum) → Alike (steps.leaves m told bound h f (frame_at g slots lent trail ops.left) (steps.returns_to m told bound h x rest))
          (steps.leaves m' told' bound r f' (frame_at g slots lent trail' b.other.left) (steps.returns_to m' told' bound r x rest'))
      leaves_alike ops b x = by_held (holds_something ops.left) refl
        where
          by_held : (held : Bool) → holds_something ops.left ≡ held
              → Alike (cond held (fault h LeavesHeld) (holding_none h f ops.left (steps.returns_to m told bound h x rest)))
              (cond (holds_something b.other.left) (fault r LeavesHeld) (holding_none r f' b.other.left (steps.returns_to m' told' bound r x rest')))
          by_held true is = inl tt
          by_held false is =
              subst (λ q. Alike (holding_none h f ops.left (steps.returns_to m told bound h x rest))
              (cond q (fault r LeavesHeld) (holding_none r f' b.other.left (steps.returns_to m' told' bound r x rest')))) (sym (b.held is))
              (alike.cond_alike m m' told told' bound First Second Like Alone (has_any slots) (has_any slots) (fault h LeavesSlot) _ (fault r LeavesSlot) _ refl
              (λ so. inl tt)
              (λ other. alike.cond_alike m m' told told' bound First Second Like Alone (are_as_after h.memory (places_given f ops.left))
              (are_as_after r.memory (places_given f' b.other.left)) (steps.returns_to m told bound h x rest) (fault h LeavesPlace)
              (steps.returns_to m' told' bound r x rest') (fault r LeavesPlace)
              (ap (λ y. are_as_after y (places_given f' b.other.left)) on.level.memory ∙ ap (are_as_after h.memory) b.places)
              (λ so. returned_alike m m' told told' bound First Second Like Alone kept functions alone frames here h r on.first on.level x rest rest'
              on.h_tasks on.below)
              (λ other. inl tt)))

      returns_alike : ending_of i.op ≡ ending.Return → Alike (steps.returns m told bound h rest here f (stands_at f trail))
          (steps.returns m' told' bound r rest' there f' (stands_at f' trail'))
      returns_alike e =
          alike.ok_alike m m' told told' bound First Second Like Alone h r _ _ (takes told g f (item.Exit (stands_at f trail)) h.memory entries)
          (takes told' g f' (item.Exit (stands_at f' trail')) r.memory entries') (λ ops is.
          let z = a.returns e ops is in (
            z.other,
            z.taken,
            alike.some_alike m m' told told' bound First Second Like Alone h r _ _ (only ops.given) (only z.other.given) (λ x found. (
              x,
              ap only z.given ∙ found,
              leaves_alike ops z x,
            )),
          ))

      ends_alike : (shapes_in told'.shapes g ≡ shapes_in told.shapes g) → Alike (steps.ends_block m told bound h rest here f (stands_at f trail) i)
          (steps.ends_block m' told' bound r rest' there f' (stands_at f' trail') i)
      ends_alike shapes = by (ending_of i.op) refl
        where
          edge : ¬ (ending_of i.op ≡ ending.Return) → (k : ℕ) → Alike (steps.takes_edge m told bound h rest here f (edge_of (stands_at f trail) k))
              (steps.takes_edge m' told' bound r rest' there f' (edge_of (stands_at f' trail') k))
          edge other k = edge_alike (edge_of (stands_at f trail) k) (edge_of (stands_at f' trail') k) (a.edges other k)

          by : (x : Ending) → ending_of i.op ≡ x → Alike (steps.ends_block_by m told bound x h rest here f (stands_at f trail) i)
              (steps.ends_block_by m' told' bound x r rest' there f' (stands_at f' trail') i)
          by ending.Inside is = inl tt
          by ending.OneBranch is = edge (λ q. absurd (cc)) 0
          by ending.TwoBranches is = chosen_alike branch_of branch_of refl _ _ (edge (λ q. absurd (cc)))
          by ending.Cases is =
              chosen_alike (steps.switch_edge m told bound here i) (steps.switch_edge m' told' bound there i)
              (ap (λ (values : List Shape). case_edge (switched_shape values i) i.edges) shapes) _ _ (edge (λ q. absurd (cc)))
          by ending.Return is = returns_alike is
          by ending.Unreachable is = alike.ends_alike m m' told told' bound First Second Like Alone (Trapped trap.Unreachable) h r refl on.level

    -- ---- the frame

    module _ (is : slice_get m.functions g.0 ≡ Some f) (is' : slice_get m'.functions g.0 ≡ Some f') where
      acts_alike : (o : Option Inst) → inst_at f (stands_at f trail) ≡ o → Alike (steps.acts m told bound h rest here f (stands_at f trail) o)
          (steps.acts m' told' bound r rest' there f' (stands_at f' trail') (inst_at f' (stands_at f' trail')))
      acts_alike (Some i) at =
          let a = (frames g f f' is is').insts h r slots lent trail trail' entries entries' rest rest' on i at in
          subst (λ o. Alike (steps.does m told bound h rest here f (stands_at f trail) i) (steps.acts m' told' bound r rest' there f' (stands_at f' trail') o))
          (sym a.stands) (inst_alike i a)
      acts_alike None at = by (terminator_of f (stands_at f trail).block.0) refl
        where
          by : (o : Option Inst) → terminator_of f (stands_at f trail).block.0 ≡ o
              → Alike (on_some h (steps.ends_block m told bound h rest here f (stands_at f trail)) o)
              (steps.acts m' told' bound r rest' there f' (stands_at f' trail') (inst_at f' (stands_at f' trail')))
          by None ends = inl tt
          by (Some i) ends =
              let a = (frames g f f' is is').ends h r slots lent trail trail' entries entries' rest rest' on i at ends in
              subst (λ o. Alike (steps.ends_block m told bound h rest here f (stands_at f trail) i) (steps.acts m' told' bound r rest' there f' (stands_at f' trail') o))
              (sym a.behind)
              (subst (λ o. Alike (steps.ends_block m told bound h rest here f (stands_at f trail) i)
              (on_some r (steps.ends_block m' told' bound r rest' there f' (stands_at f' trail')) o)) (sym a.terminator)
              (ends_alike i a (frames g f f' is is').shapes))

      pub frame_step_alike : Alike (steps.runs m told bound h rest here) (steps.runs m' told' bound r rest' there)
      frame_step_alike =
          alike.some_alike m m' told told' bound First Second Like Alone h r _ _ (slice_get m.functions g.0) (slice_get m'.functions g.0) (λ k found.
          let same : f ≡ k = cc in (
            f',
            is',
            subst (λ k. Alike (steps.acts m told bound h rest here k (stands_at k trail) (inst_at k (stands_at k trail)))
                (steps.acts m' told' bound r rest' there f' (stands_at f' trail') (inst_at f' (stands_at f' trail')))) same
                (acts_alike (inst_at f (stands_at f trail)) refl),
          ))

  -- ---- the parts

  pub frames_agree : (g : FuncId) (f f' : Function) → slice_get m.functions g.0 ≡ Some f → slice_get m'.functions g.0 ≡ Some f'
      → FramesAgree m m' told told' bound First Second Like Alone g f f'
  frames_agree g f f' is is' =
      let d = frames g f f' is is' in
      record {
        begin = d.begin;
        enter = d.enter;
        step = λ h r slots lent trail trail' entries entries' rest rest' on.
            frame_step_alike g f f' h r slots lent trail trail' entries entries' rest rest' on is is';
        resume = d.resume;
      }

pub frames_in_lockstep : AreFramesInLockstep
frames_in_lockstep m m' told told' bound First Second Like Alone kept kept' parts =
    runs_in_lockstep m m' told told' bound First Second Like Alone kept kept' (record {
      functions = parts.functions;
      frames = frames_agree m m' told told' bound First Second Like Alone kept parts.functions parts.alone parts.frames;
      dropped = parts.dropped;
      finished = parts.finished;
      alone = parts.alone;
    })

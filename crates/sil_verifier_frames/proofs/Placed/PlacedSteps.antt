-- A step of a state whose places are right leads to such a state, and ends in no fault of places.
use Rattle.std.proofs.Common.{◌≡◌, ◌++◌, ℕ, List, [], ◌∷◌, map, true, false, Option, Some, Ok, Err, refl, sym, ap, ◌∙◌, subst, slice_get}
use Rattle.std.proofs.lemmas.Bool.{and_parts}
use Rattle.std.proofs.lemmas.Option.{same_Some}
use Rattle.std.specs.Prelude.{not}
use Rattle.holder_model_laws.specs.holder_model.Calling.{as_argument}
use Rattle.holder_model_laws.specs.holder_model.Data.{Datum, ValueOf}
use Rattle.holder_model_laws.specs.holder_model.Effects as effects
use Rattle.holder_model_laws.specs.holder_model.Edges.{edge_of}
use Rattle.holder_model_laws.specs.holder_model.Faults.{HolderFault}
use Rattle.holder_model_laws.specs.holder_model.Frames.{Frame, Operands, has_any}
use Rattle.holder_model_laws.specs.holder_model.HolderStates.{HolderNext, HolderState}
use Rattle.holder_model_laws.specs.holder_model.ModuleFacts.{ModuleFacts, facts_of, facts_told}
use Rattle.holder_model_laws.specs.holder_model.Standing.{stands_at}
use Rattle.holder_model_laws.specs.holder_model.States.{Runs, Task}
use Rattle.holder_model_laws.specs.holder_model.Steps as steps
use Rattle.holder_model_laws.specs.holder_model.declared.event.Event.TheVariants as event
use Rattle.sil_verifier_trails.specs.RunTrails.inner.RunTrails.{ComesAt, IsRunTrail}
use Rattle.sil_verifier_trails.specs.sil_verifier_accepted.AcceptedModules.inner.Checked.{IsVerified}
use Rattle.sil_verifier_trails.specs.sil_verifier_values.inner.Known.{IsAcceptedBody}
use Rattle.argument_conventions.specs.Arguments.{arguments_of}
use Rattle.sil_verifier_trails.proofs.RunTrails.WalkEdges.{are_next}
use Rattle.holder_model_laws.specs.HolderLaws.inner.Steps.Ways.{Acts, Chooses, Performs, StepsBy, TakesEdge, left_with, operands_in, turned}
use Rattle.holder_model_laws.proofs.HolderLaws.Steps.StepsTold.{steps_told}
use Rattle.holder_model_laws.proofs.HolderLaws.Steps.WhichFaults.{operands_err}
use Rattle.instruction_table.specs.Forms.{ending_of}
use Rattle.sil_cfg_items.specs.Items.{item_taken}
use Rattle.sil_cfg_items.specs.Parts.{inst_at, terminator_of}
use Rattle.holder_model_laws.specs.ownership_kinds_chains.declared.ownership_chains.facts.Facts.{Facts}
use Rattle.holder_model_values.specs.RunValues.Values as value
use Rattle.holder_model_values.specs.RunValues.Values.{Value}
use Rattle.sil_ast.specs.declared.function.Function.{Function}
use Rattle.sil_ast.specs.declared.inst.Inst.{Inst}
use Rattle.sil_ast.specs.declared.module.Module.{Module}
use Rattle.sil_ast.specs.declared.place.EdgeId.{EdgeId}
use Rattle.sil_ast.specs.declared.place.FuncId.{FuncId}
use Rattle.sil_ast.specs.declared.place.PointId.{PointId}
use Rattle.sil_ast.specs.declared.place.ValueId.{ValueId}
use Rattle.sil_cfg.specs.Items.{leaves_function}
use Rattle.sil_cfg.specs.declared.item.Item.{Item}
use Rattle.sil_cfg.specs.declared.item.Item.TheVariants as item
use Rattle.sil_verifier_frames.specs.inner.Tracked.TrackedStates.{IsTrackedState}
use Rattle.sil_verifier_frames.proofs.Tracked.NextItems.{chooses_on, chosen_within, edge_comes, exit_comes, exit_returns, inst_comes, one_edge}
use Rattle.sil_verifier_frames.specs.inner.Typed.TypedStates.{IsTypedState, TasksAre}
use Rattle.sil_verifier_trails.specs.holder_model_typing.TypedMemory.inner.Worlds.{World}
use Rattle.sil_verifier_frames.proofs.Typed.GoesOn.{accepted_body, typed_module}
use Rattle.sil_verifier_frames.specs.inner.Placed.FramePlaces.{HoldsPlaces}
use Rattle.sil_verifier_frames.specs.inner.Placed.Items.{AreFieldsFound, AreItemsPlaced, IsItemPlaced, PlacedNext, is_place_fault}
use Rattle.sil_verifier_frames.specs.inner.Placed.Laws.{ArePlacesKept, BeginPlaced, NoPlaceFaults}
use Rattle.sil_verifier_frames.specs.inner.Placed.PlaceStates.{AreSlotsRight, TasksPlaced}
use Rattle.sil_verifier_frames.specs.inner.Placed.Premises.{ReadsOperands}
use Rattle.sil_verifier_frames.specs.inner.Placed.TrailLaws.{TrailLaws}
use Rattle.sil_verifier_frames.proofs.Placed.Beginning.{begins_placed}
use Rattle.sil_verifier_frames.proofs.Placed.CallsPlaced.{CallsBody, callee_begins, enters_placed, never_wrong}
use Rattle.sil_verifier_frames.proofs.Placed.DeinitsPlaced.{deinit_begins}
use Rattle.sil_verifier_frames.proofs.Placed.Dropping.{drops_one, finishes_one}
use Rattle.sil_verifier_frames.proofs.Placed.EdgesPlaced.{edge_placed, is_inside}
use Rattle.sil_verifier_frames.proofs.Placed.FirstFrames.{IsFirst, TypingLaws, body, left_first}
use Rattle.sil_verifier_frames.proofs.Placed.OtherFaults.{operand_fault}
use Rattle.sil_verifier_frames.proofs.Placed.ReturnsPlaced.{frame_of, leaves_placed}

module _ (laws : TrailLaws) (typing : TypingLaws) (items : AreItemsPlaced) (m : Module) (bound : ℕ) (verified : IsVerified m)
    (s : HolderState) (typed : IsTypedState m s) (tracked : IsTrackedState m s) (placed : AreSlotsRight m s) where
  abbrev told : ModuleFacts
  told = facts_of m

  abbrev Found : Type 0
  Found = AreFieldsFound m bound s

  abbrev w : World
  w = typed.world

  -- ---- a frame goes on

  module _ (frame : Frame) (rest : List (Task Frame)) (f : Function) (is : s.tasks ≡ Runs frame ∷ rest) (there : slice_get m.functions frame.function.0 ≡ Some f) where
    abbrev point : PointId
    point = stands_at f frame.trail

    abbrev facts : ValueId → Option Facts
    facts = facts_told (facts_of m) frame.function

    are_typed : TasksAre m typed.world (Runs frame ∷ rest)
    are_typed = subst (TasksAre m typed.world) is typed.tasks

    are_placed : TasksPlaced m s.memory (Runs frame ∷ rest)
    are_placed = subst (TasksPlaced m s.memory) is placed

    first : IsFirst m typed.world s.memory frame rest f
    first = record {
      typed = frame_of m typed.world frame are_typed.0.0 f are_typed.0.1 there;
      holds = subst (λ g. HoldsPlaces m s.memory g frame rest) (same_Some are_placed.0.f f (sym are_placed.0.is ∙ there)) are_placed.0.holds;
      none_lent = are_placed.0.none_lent;
      below = are_placed.1;
    }

    accepted : IsAcceptedBody m frame.function.0 f
    accepted = body laws typing m verified typed.world s.memory frame rest f first

    reads : (i : Item) (ops : Operands) → operands_in m (facts_of m) bound s frame f i ≡ Ok ops
        → ReadsOperands m frame.function.0 f typed.world (facts_told (facts_of m) frame.function) s.memory frame.entries i ops
    reads i ops found = record { body = accepted; typed = first.typed.entries; read = found }

    run : (i : Item) → ComesAt f (stands_at f frame.trail) i → IsRunTrail f (i ∷ frame.trail)
    run i comes = (are_next f frame.trail i first.typed.goes comes, first.typed.trail)

    operand_wrong : (i : Item) (x : HolderFault) → operands_in m (facts_of m) bound s frame f i ≡ Err x → is_place_fault x ≡ false
    operand_wrong i x e = operand_fault x (operands_err facts s.memory frame.entries (item_taken f i) x e)

    -- an instruction
    module _ (i : Inst) (ops : Operands) (here : inst_at f (stands_at f frame.trail) ≡ Some i) (found : operands_in m (facts_of m) bound s frame f (item.Inst (stands_at f frame.trail)) ≡ Ok ops) where
      by_row : IsItemPlaced m bound s frame rest f i ops
      by_row = items m bound s frame rest f i ops (record {
        verified = verified;
        typed = typed;
        tracked = tracked;
        placed = placed;
        first = is;
        is = there;
        stands = here;
        found = found;
      })

      calls_body : (g : FuncId) (args : List Datum) (callee : Function) → steps.effect_in m (facts_of m) bound s frame i ops.given ≡ effects.Calls g args
          → slice_get m.functions g.0 ≡ Some callee → has_any callee.blocks ≡ true
          → CallsBody laws typing m verified typed.world s.memory frame rest f first (facts_told (facts_of m) frame.function) i ops
          told.shapes (steps.shapes m (facts_of m) bound frame.function) g args callee
      calls_body g args callee e called bodied = record {
        reads = reads (item.Inst point) ops found;
        here = here;
        trail = run (item.Inst point) (inst_comes f point i here);
        is = e;
        there = called;
        bodied = bodied;
      }

      performs_placed : (e : effects.Effect HolderFault) → steps.effect_in m (facts_of m) bound s frame i ops.given ≡ e → (next : HolderNext)
          → Performs m (facts_of m) bound s rest (left_with m (facts_of m) bound frame ops) f (item.Inst (stands_at f frame.trail)) e next → PlacedNext (AreFieldsFound m bound s) m next
      performs_placed _ e next (Performs.makes c n moves) = by_row.makes c next e moves
      performs_placed _ e next (Performs.calls g args callee n called bodied before entering) =
          enters_placed m told bound Found _ _ g callee (map as_argument args)
          (λ entries put. callee_begins laws typing m verified w s.memory frame rest f first facts i ops told.shapes (steps.shapes m told bound frame.function) g args callee
          (calls_body g args callee e called bodied) (facts_told told g) entries put)
          next entering
      performs_placed _ e next (Performs.calls_out g args callee numbers n called bare so turn moves) =
          by_row.calls_out g args callee numbers (s.events ++ event.Call g numbers ∷ []) next e called bare so moves
      performs_placed _ e _ (Performs.no_turn g args callee numbers called bare so turn) = tt
      performs_placed _ e _ (Performs.traps t) = tt
      performs_placed _ e _ (Performs.no_callee g args none) = λ fields. refl
      performs_placed _ e _ (Performs.no_numbers g args callee called bare none) = λ fields. refl
      performs_placed _ e _ (Performs.wrong_place g args callee called bodied before) =
          absurd (never_wrong laws typing m verified w s.memory frame rest f first facts i ops told.shapes (steps.shapes m told bound frame.function) g args callee
          (calls_body g args callee e called bodied) before)
      performs_placed _ e _ (Performs.faults x) = λ fields. by_row.faults x e fields
      performs_placed _ e _ Performs.unfit = λ fields. refl

    takes_placed : (e : EdgeId) (i : Inst) → terminator_of f e.block.0 ≡ Some i → is_inside (ending_of i.op) ≡ false → ComesAt f (stands_at f frame.trail) (item.Edge e)
        → (next : HolderNext) → TakesEdge m (facts_of m) bound s rest frame f e next → PlacedNext (AreFieldsFound m bound s) m next
    takes_placed e i terminator ends comes next (TakesEdge.takes ops carried n found so turn moves) =
        edge_placed laws typing m told bound verified w Found (turned s) (left_with m told bound frame ops) rest f
        (left_first laws typing m verified w s.memory frame rest f first facts (item.Edge e) ops (reads (item.Edge e) ops found))
        e i terminator ends (run (item.Edge e) comes) carried next moves
    takes_placed e i terminator ends comes _ (TakesEdge.no_turn ops carried found so turn) = tt
    takes_placed e i terminator ends comes _ (TakesEdge.wrong_operand x found) = λ fields. operand_wrong (item.Edge e) x found
    takes_placed e i terminator ends comes _ (TakesEdge.not_carried ops found none) = λ fields. refl

    chooses_outside : (i : Inst) (choose : Value → Option ℕ) → Chooses m (facts_of m) bound frame i choose → is_inside (ending_of i.op) ≡ false
    chooses_outside i choose (Chooses.by_bit e) = ap is_inside e
    chooses_outside i choose (Chooses.by_case e) = ap is_inside e

    acts_placed : (next : HolderNext) → Acts m (facts_of m) bound s rest frame f next → PlacedNext (AreFieldsFound m bound s) m next
    acts_placed next (Acts.does i ops n here found performed) = performs_placed i ops here found _ refl next performed
    acts_placed next (Acts.branches i n stands one along) =
        takes_placed (edge_of point 0) i stands.terminator (ap is_inside one)
        (edge_comes m told bound frame.function.0 f accepted frame i stands 0 (ap leaves_function one) (one_edge m frame.function.0 f accepted point.block.0 i stands.terminator one)) next along
    acts_placed next (Acts.chooses i choose x v k n stands how by worth chosen along) =
        takes_placed (edge_of point k) i stands.terminator (chooses_outside i choose how)
        (edge_comes m told bound frame.function.0 f accepted frame i stands k (chooses_on m told bound frame.function.0 f accepted frame i stands choose how)
        (chosen_within m told bound frame.function.0 f accepted frame i stands choose how v k chosen)) next along
    acts_placed next (Acts.returns i ops x n stands return found one leaving) =
        leaves_placed laws typing m told bound verified w Found s frame rest f first (item.Exit point) facts ops (reads (item.Exit point) ops found)
        (run (item.Exit point) (exit_comes m told bound frame.function.0 f accepted frame i stands return))
        (exit_returns m told bound frame.function.0 f accepted frame i stands return) are_typed.1 x next leaving
    acts_placed _ (Acts.unreachable i stands e) = tt
    acts_placed _ (Acts.wrong_operand i x here found) = λ fields. operand_wrong (item.Inst point) x found
    acts_placed _ (Acts.no_operand i choose stands how none) = λ fields. refl
    acts_placed _ (Acts.no_entry i choose stands how by) = λ fields. refl
    acts_placed _ (Acts.no_value i choose x stands how by none) = λ fields. refl
    acts_placed _ (Acts.no_choice i choose x v stands how by worth none) = λ fields. refl
    acts_placed _ (Acts.wrong_returned i x stands return found) = λ fields. operand_wrong (item.Exit point) x found
    acts_placed _ (Acts.not_one_returned i ops stands return found none) = λ fields. refl
    acts_placed _ (Acts.no_ending i stands e) = λ fields. refl
    acts_placed _ (Acts.no_terminator behind none) = λ fields. refl

  -- ---- a step

  steps_placed : (next : HolderNext) → StepsBy m (facts_of m) bound s next → PlacedNext (AreFieldsFound m bound s) m next
  steps_placed next (StepsBy.runs frame rest f n is there acts) = acts_placed frame rest f is there next acts
  steps_placed _ (StepsBy.dropped rest is) = (subst (TasksPlaced m s.memory) is placed).1
  steps_placed next (StepsBy.drops o os rest n is dropping) = drops_one m told bound _ Found o (tt, (subst (TasksPlaced m s.memory) is placed).1) next dropping
  steps_placed next (StepsBy.finishes o rest n is finishing) = finishes_one m told bound _ Found o (subst (TasksPlaced m s.memory) is placed).1 next finishing
  steps_placed next (StepsBy.calls_deinit g gs o rest f n is there entering) =
      let first = (subst (TasksAre m w) is typed.tasks).0.1.0 in
      enters_placed m told bound Found _ _ g f (ValueOf (value.Object o) ∷ [])
      (λ entries put. deinit_begins laws m verified first.class g ((typed_module m verified).deinits first.class g first.is) f there s.memory rest gs o
      (subst (TasksPlaced m s.memory) is placed).1 (facts_told told g) (ValueOf (value.Object o) ∷ []) entries put)
      next entering
  steps_placed _ (StepsBy.no_task is) = λ fields. refl
  steps_placed _ (StepsBy.no_function frame rest is there) = λ fields. refl
  steps_placed _ (StepsBy.no_deinit g gs o rest is there) = λ fields. refl

  next_placed : PlacedNext (AreFieldsFound m bound s) m (steps.step m (facts_of m) bound s)
  next_placed = steps_placed (steps.step m (facts_of m) bound s) (steps_told m (facts_of m) bound s)

module _ (laws : TrailLaws) (typing : TypingLaws) (items : AreItemsPlaced) where
  pub places_kept : ArePlacesKept
  places_kept m bound s next verified typed tracked placed e =
      subst (PlacedNext (AreFieldsFound m bound s) m) e (next_placed laws typing items m bound verified s typed tracked placed)

  pub no_place_faults : NoPlaceFaults
  no_place_faults m bound s last x verified typed tracked placed fields e =
      subst (PlacedNext (AreFieldsFound m bound s) m) e (next_placed laws typing items m bound verified s typed tracked placed) fields

pub begin_placed : TrailLaws → BeginPlaced
begin_placed laws m e f verified there starts =
    begins_placed laws m e f (accepted_body m verified e f there (and_parts (has_any f.blocks) (not (has_any (arguments_of f.signature))) starts).0) there starts

-- Whatever step the machine makes of a state that agrees, the run follows: from a lemma for each kind of step.
use Rattle.std.proofs.Common.{◌≡◌, ◌<◌, ◌∙◌, ℕ, zero, suc, List, [], ◌∷◌, false, drop, length, refl, sym, ap, subst}
use Rattle.std.specs.Prelude.{slice_get}
use Rattle.count_machine_model.specs.holder_model.Dropping.{deinits_of}
use Rattle.count_machine_model.specs.holder_model.ModuleShapes.{shapes_of}
use Rattle.count_machine_model.specs.holder_model.Outcomes as outcomes
use Rattle.count_machine_model.specs.holder_model.States as low
use Rattle.instruction_table.specs.Forms.{ending_of}
use Rattle.sil_cfg_items.specs.Parts.{inst_at}
use Rattle.count_machine_model.specs.holder_model.LoweredRun.LowFrames.{LowFrame}
use Rattle.count_machine_model.specs.holder_model.LoweredRun.LowStepParts.{LowNext, LowState, on_some}
use Rattle.count_machine_model.specs.holder_model.LoweredRun.LowSteps as run
use Rattle.count_machine_model.specs.holder_model.LoweredRun.LowSteps.{low_step}
use Rattle.count_machine_model.specs.declared.machine_steps.frame.Frame.{Frame}
use Rattle.count_machine_model.specs.declared.machine_steps.frame.Task.{Task}
use Rattle.count_machine_model.specs.declared.machine_steps.frame.Task.TheVariants as task
use Rattle.count_machine_model.specs.MachineSteps.Rows as rows
use Rattle.count_machine_model.specs.MachineSteps.Steps as machine
use Rattle.count_machine_model.specs.MachineSteps.Views.{MachineView, Went}
use Rattle.count_machine_model.specs.declared.ready_code.function.ReadyModule.{ReadyModule}
use Rattle.count_machine_model.specs.declared.ready_code.op.ReadyOp.{ReadyOp}
use Rattle.count_machine_model.specs.ReadyCode.ReadyModules.{IsReadyModule}
use Rattle.count_machine_model.specs.ReadyCode.ReadyOps.{IsReadyOp, calls, calls_out, chooses_full, chooses_plain, computes, drops}
use Rattle.count_machine_model.specs.ReadyCode.ReadyOps.{field_address, forgets_name, function, groups, literal, loads, loads_name}
use Rattle.count_machine_model.specs.ReadyCode.ReadyOps.{look, member, member_address, object, removes, retains, same, slot, stores, stores_name, traps}
use Rattle.count_machine_model.specs.holder_model.RunTyping.RunTyped.{FunctionIsTyped, RunTyped}
use Rattle.holder_model_values.specs.RunValues.Memory.{is_dead_phase, object_at}
use Rattle.holder_model_values.specs.declared.run_values.phase.Phase.TheVariants.{Deiniting}
use Rattle.sil_ast.specs.declared.function.Function.{Function}
use Rattle.sil_ast.specs.declared.inst.Inst.{Inst}
use Rattle.sil_ast.specs.declared.module.Module.{Module}
use Rattle.sil_ast.specs.declared.place.FuncId.{FuncId}
use Rattle.sil_ast.specs.declared.place.ObjectId.{ObjectId}
use Rattle.sil_types_declarations.specs.TypeDefinitions.Declarations.{declarations_of}
use Rattle.count_machine_laws.proofs.Agreement.{Follows, PartsAgree, StepsFollow, ends_of}
use Rattle.count_machine_laws.proofs.Agreement as agreement
use Rattle.count_machine_laws.proofs.CallingForms.{CallOf, arguments_taken, integers_taken}
use Rattle.count_machine_laws.proofs.CallingOut.{call_out_alike}
use Rattle.count_machine_laws.proofs.CallingOver.{call_alike}
use Rattle.count_machine_laws.proofs.DeinitClasses.{first_dropped, none_dropped}
use Rattle.count_machine_laws.proofs.DeinitSteps.{deinit_alike}
use Rattle.count_machine_laws.proofs.DropSteps.{drop_alike}
use Rattle.count_machine_laws.proofs.Ending.{Alike, alike_by, ends, goes, parts_with}
use Rattle.count_machine_laws.proofs.Entries.{Ends, FrameAgrees}
use Rattle.count_machine_laws.proofs.FinishSteps.{finish_alike}
use Rattle.count_machine_laws.proofs.Finished.{deinits_agree}
use Rattle.count_machine_laws.proofs.FinishedClass.{deinit_reached}
use Rattle.count_machine_laws.proofs.FrameReady.{Standing, at_end, at_inst, ready_where, standing}
use Rattle.count_machine_laws.proofs.FrameSteps.{Running, StandsAt, is_call}
use Rattle.count_machine_laws.proofs.ReturningEnds.{end_alike}
use Rattle.count_machine_laws.proofs.RowSteps.{row_follows}
use Rattle.count_machine_laws.proofs.Slots.{Made}
use Rattle.count_machine_laws.proofs.Tasks.{Beginning, ReadyFor, TasksAgree, bottom, dropped, finishes, is_finishing, runs, to_go_on, waits}
use Rattle.count_machine_laws.proofs.Tasks as tasks

module _ (m : Module) (ready : ReadyModule) (entry : Beginning) (bound : ℕ) (typed : RunTyped m) (is_ready : IsReadyModule m entry.reached ready) (made : List Made) where
  -- a frame goes on
  module _ (s : LowState) (st : MachineView) (f : Function) (lf : LowFrame) (mf : Frame) (below : Ends) (rest : List (low.Task LowFrame)) (rest' : List Task)
      (running : Running m entry made s st f lf mf below rest rest') where
    abbrev InstAlike : Inst → ReadyOp → Type 0
    InstAlike i o = Alike m entry (run.does m (shapes_of m) bound s rest lf f i) (rows.performs ready bound st mf rest' o)

    inst_alike : (i : Inst) (o : ReadyOp) → StandsAt m f lf i o → InstAlike i o
    inst_alike i o stands = by o stands stands.made_ready
      where
        by_row : {o : ReadyOp} → StandsAt m f lf i o → is_call o ≡ false → InstAlike i o
        by_row {o = o} stands plain = row_follows m ready entry bound typed is_ready made s st f lf mf below rest rest' running i o stands plain

        by : (o : ReadyOp) → StandsAt m f lf i o → IsReadyOp m f i o → InstAlike i o
        by _ stands (calls c r args g callee is operands results names there bodied) =
            let call : CallOf m f i c r args g callee = record { calls = is; operands = operands; results = results; names = names; there = there } in
            let told = arguments_taken call stands.typed.row bodied in
            call_alike m ready entry bound typed is_ready made s st f lf mf below rest rest' running i c r args g callee
            (record { of = call; bodied = bodied; taken = told.taken; given = told.given }) stands
        by _ stands (calls_out c r args g callee is operands results names there bodiless) =
            let call : CallOf m f i c r args g callee = record { calls = is; operands = operands; results = results; names = names; there = there } in
            let told = integers_taken call stands.typed.row bodiless in
            call_out_alike m ready entry bound typed made s st f lf mf below rest rest' running i c r args g callee
            (record { of = call; bodiless = bodiless; widths = told.widths; taken = told.taken; given = told.given }) stands
        by _ stands (look v _ _) = by_row stands refl
        by _ stands (literal n r _ _ _) = by_row stands refl
        by _ stands (function r _ _) = by_row stands refl
        by _ stands (computes b v w r more _ _ _ _) = by_row stands refl
        by _ stands (traps v _ _) = by_row stands refl
        by _ stands (object class k r _ _ _ _) = by_row stands refl
        by _ stands (slot _ r _ _ _) = by_row stands refl
        by _ stands (removes v _ _) = by_row stands refl
        by _ stands (same v r _ _ _) = by_row stands refl
        by _ stands (retains v _ _) = by_row stands refl
        by _ stands (drops v _ _) = by_row stands refl
        by _ stands (loads v r _ _ _) = by_row stands refl
        by _ stands (stores v w _ _ _ _ _) = by_row stands refl
        by _ stands (loads_name v r w _ _ _ _ _ _ _) = by_row stands refl
        by _ stands (stores_name v p w _ _ _ _ _ _) = by_row stands refl
        by _ stands (forgets_name v w _ _ _ _) = by_row stands refl
        by _ stands (groups r _ _) = by_row stands refl
        by _ stands (chooses_plain r _ k _ _ _ _ _) = by_row stands refl
        by _ stands (chooses_full v r _ k _ _ _ _ _) = by_row stands refl
        by _ stands (member v r _ k _ _ _ _ _) = by_row stands refl
        by _ stands (member_address v r _ k _ _ _ _ _) = by_row stands refl
        by _ stands (field_address v r k _ _ _ _) = by_row stands refl

    function_typed : FunctionIsTyped m f
    function_typed = typed.functions lf.function.0 f running.frame.there

    frame_alike : Alike m entry (run.runs m (shapes_of m) bound s rest lf) (machine.runs ready bound st mf rest')
    frame_alike =
        alike_by (ap (on_some s (λ f. run.acts m (shapes_of m) bound s rest lf f (inst_at f lf.at))) running.frame.there) refl
        (by (standing function_typed (ready_where is_ready running.reached running.frame)))
      where
        by : Standing m ready f lf mf → Alike m entry (run.acts m (shapes_of m) bound s rest lf f (inst_at f lf.at)) (machine.runs ready bound st mf rest')
        by (at_inst block i o there op stands) =
            alike_by (ap (run.acts m (shapes_of m) bound s rest lf f) stands.inst)
            (ap (machine.runs_block ready bound st mf rest') there ∙ ap (machine.acts ready bound st mf rest' block) op) (inst_alike i o stands)
        by (at_end block i there none inst terminator is_end) =
            alike_by
            (ap (run.acts m (shapes_of m) bound s rest lf f) inst
            ∙ ap (on_some s (λ i. run.ends_block_by m (shapes_of m) bound (ending_of i.op) s rest lf f i)) terminator)
            (ap (machine.runs_block ready bound st mf rest') there ∙ ap (machine.acts ready bound st mf rest' block) none)
            (end_alike m ready entry bound typed is_ready made s st f lf mf below rest rest' running i
            (record { terminator = terminator; forms = function_typed.ends lf.at.block.0 i terminator; takes = function_typed.ends_take lf.at.block.0 i terminator }) block.end is_end)

  -- a deinitialisation goes on
  deinit_step_alike : (s : LowState) (st : MachineView) → PartsAgree m made s st → (o : ObjectId) → o.0 < length s.memory.objects → (object_at s.memory o).phase ≡ Deiniting
      → (called : ℕ) (rest : List (low.Task LowFrame)) (rest' : List Task) → is_finishing o rest' ≡ false → TasksAgree m entry made s.memory st to_go_on (ends_of st) rest rest'
      → (gs : List FuncId) → gs ≡ drop called (deinits_of (declarations_of m) (object_at s.memory o).class)
      → Alike m entry (run.task_step m (shapes_of m) bound s (low.Finishes gs o ∷ rest)) (machine.task_step ready bound st (task.Finishes o called ∷ rest'))
  deinit_step_alike s st parts o was_made phase called rest rest' once others = by
    where
      waiting : List FuncId
      waiting = deinits_of (declarations_of m) (object_at s.memory o).class

      are : (machine.class_of ready st.heap o).deinits ≡ waiting
      are = deinits_agree m ready typed is_ready made s.memory s.numbers st o (ap is_dead_phase phase) parts.memory

      by : (gs : List FuncId) → gs ≡ drop called waiting
          → Alike m entry (run.task_step m (shapes_of m) bound s (low.Finishes gs o ∷ rest)) (machine.task_step ready bound st (task.Finishes o called ∷ rest'))
      by [] left =
          alike_by refl
          (ap (λ ds. machine.deinit_step ready bound st o called rest' (slice_get ds called)) are
          ∙ ap (machine.deinit_step ready bound st o called rest') (none_dropped waiting called left))
          (finish_alike m ready entry bound typed is_ready made s st parts o phase rest rest' once others)
      by (g ∷ gs) left =
          let first = first_dropped g gs waiting called left in
          alike_by refl
          (ap (λ ds. machine.deinit_step ready bound st o called rest' (slice_get ds called)) are ∙ ap (machine.deinit_step ready bound st o called rest') first.0)
          (deinit_alike m ready entry bound typed is_ready made s st parts o was_made phase g gs called
          (deinit_reached m ready st.heap o is_ready called g (ap (λ ds. slice_get ds called) are ∙ first.0)) first.0 first.1 rest rest' once others)

  -- the run makes one step, and has gone where the machine has
  follows_once : (s : LowState) (n : LowNext) (w : Went) → low_step m (shapes_of m) bound s ≡ n → Alike m entry n w → Follows m entry bound s w
  follows_once s _ _ is (goes made' s' st' agrees) =
      agreement.goes made' (suc zero) s' st' (ap (low.step_on (outcomes.run (low_step m (shapes_of m) bound) zero)) is) agrees
  follows_once s _ _ is (ends s' st' e end is_ending told strongs) =
      agreement.stops zero s s' st' end e refl refl refl is is_ending told strongs

  -- it makes one step more
  follows_later : (s s' : LowState) (w : Went) → low_step m (shapes_of m) bound s ≡ low.Goes s' → s'.memory ≡ s.memory → s'.numbers ≡ s.numbers
      → Follows m entry bound s' w → Follows m entry bound s w
  follows_later s s' _ is memory numbers (agreement.goes made' j s'' st' goes_to agrees) =
      agreement.goes made' (suc j) s'' st' (ap (low.step_on (outcomes.run (low_step m (shapes_of m) bound) j)) is ∙ goes_to) agrees
  follows_later s s' _ is memory numbers (agreement.stops j found s'' st' end e goes_to same_memory same_numbers ends_in is_ending told strongs) =
      agreement.stops (suc j) found s'' st' end e (ap (low.step_on (outcomes.run (low_step m (shapes_of m) bound) j)) is ∙ goes_to) (same_memory ∙ memory)
      (same_numbers ∙ numbers) ends_in is_ending told strongs

  -- by the first of the tasks: drops that are empty are gone through
  tasks_follow : (s : LowState) (st : MachineView) → PartsAgree m made s st → (r : ReadyFor) (above : Ends) (ts : List (low.Task LowFrame)) (ts' : List Task)
      → TasksAgree m entry made s.memory st r above ts ts' → r ≡ to_go_on → above ≡ ends_of st → st.tasks ≡ ts'
      → Follows m entry bound (record s { tasks = ts }) (machine.task_step ready bound st ts')
  tasks_follow s st parts _ _ _ _ bottom ready_to up_to tasks_are = absurd (cc)
  tasks_follow s st parts _ _ _ _ (waits t f lf mf below above rest rest' reaches frame awaits others) ready_to up_to tasks_are = absurd (cc)
  tasks_follow s st parts _ _ _ _ (runs f lf mf below above rest rest' reaches frame others) ready_to up_to tasks_are =
      let now : LowState = record s { tasks = low.Runs lf ∷ rest } in
      follows_once now (run.runs m (shapes_of m) bound now rest lf) (machine.runs ready bound st mf rest') refl
      (frame_alike now st f lf mf below rest rest' (record {
        parts = parts_with parts (low.Runs lf ∷ rest) st.tasks;
        reached = reaches;
        frame = subst (FrameAgrees m made s.memory st f lf mf below) up_to frame;
        others = others;
        tasks = tasks_are;
      }))
  tasks_follow s st parts _ _ _ _ (tasks.drops o os below above rest rest' ends_at waiting others) ready_to up_to tasks_are =
      let now : LowState = record s { tasks = low.Drops (o ∷ os) ∷ rest } in
      follows_once now (run.task_step m (shapes_of m) bound now (low.Drops (o ∷ os) ∷ rest)) (machine.drops ready bound st below.waiting rest') refl
      (drop_alike m ready entry bound made now st (parts_with parts (low.Drops (o ∷ os) ∷ rest) st.tasks) below o os rest rest' others (sym up_to ∙ ends_at) waiting)
  tasks_follow s st parts _ _ _ _ (dropped above rest rest' others) ready_to up_to tasks_are =
      follows_later (record s { tasks = low.Drops [] ∷ rest }) (record s { tasks = rest }) (machine.task_step ready bound st rest') refl refl refl
      (tasks_follow s st parts to_go_on above rest rest' others refl up_to tasks_are)
  tasks_follow s st parts _ _ _ _ (finishes r gs o called above rest rest' was_made phase deinits once others) ready_to up_to tasks_are =
      let now : LowState = record s { tasks = low.Finishes gs o ∷ rest } in
      follows_once now (run.task_step m (shapes_of m) bound now (low.Finishes gs o ∷ rest)) (machine.task_step ready bound st (task.Finishes o called ∷ rest')) refl
      (deinit_step_alike now st (parts_with parts (low.Finishes gs o ∷ rest) st.tasks) o was_made phase called rest rest' once
      (subst (λ e. TasksAgree m entry made s.memory st to_go_on e rest rest') up_to others) gs deinits)

-- whatever step the machine makes of a state that agrees, the run follows
pub steps_follow : StepsFollow
steps_follow m ready entry bound typed is_ready made s st agrees =
    tasks_follow m ready entry bound typed is_ready made s st agrees.parts to_go_on (ends_of st) s.tasks st.tasks agrees.tasks refl refl refl

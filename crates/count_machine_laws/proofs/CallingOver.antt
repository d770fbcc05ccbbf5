-- A function with a body is called: its frame begins with the arguments, over the frame that waits at the call.
use Rattle.std.proofs.Common.{◌≡◌, ◌+◌, ◌∙◌, ℕ, List, ◌∷◌, true, Option, Some, refl, sym, ap, subst}
use Rattle.std.specs.Prelude.{slice_get}
use Rattle.std.proofs.lemmas.Bool.{cond-true}
use Rattle.count_machine_model.specs.holder_model.Calling.{value_count}
use Rattle.count_machine_model.specs.holder_model.Data.{Datum, as_function}
use Rattle.count_machine_model.specs.holder_model.Effects as effects
use Rattle.count_machine_model.specs.holder_model.Frames.{has_any}
use Rattle.count_machine_model.specs.holder_model.ModuleShapes.{shapes_in, shapes_of}
use Rattle.count_machine_model.specs.holder_model.declared.row_effect.RowEffect.TheVariants as row
use Rattle.count_machine_model.specs.holder_model.States as low
use Rattle.sil_cfg_items.specs.Items.{item_defined}
use Rattle.sil_cfg_items.specs.Parts.{inst_at}
use Rattle.count_machine_model.specs.holder_model.declared.lowered_run.low_fault.LowFault.{LowFault}
use Rattle.count_machine_model.specs.holder_model.LoweredRun.LowFrames.{LowFrame, no_values, put_all}
use Rattle.count_machine_model.specs.holder_model.LoweredRun.LowStepParts as steps
use Rattle.count_machine_model.specs.holder_model.LoweredRun.LowStepParts.{LowNext, LowState, on_some}
use Rattle.count_machine_model.specs.holder_model.LoweredRun.LowSteps as run
use Rattle.count_machine_model.specs.declared.machine_steps.frame.Frame.{Frame}
use Rattle.count_machine_model.specs.declared.machine_steps.frame.Task.{Task}
use Rattle.count_machine_model.specs.MachineSteps.Calling.{carried, new_frame, with_frame}
use Rattle.count_machine_model.specs.MachineSteps.Rows as machine
use Rattle.count_machine_model.specs.MachineSteps.Views.{MachineView}
use Rattle.numbered_form.specs.Lists.{Each}
use Rattle.count_machine_model.specs.declared.ready_code.function.ReadyFunction.{ReadyFunction}
use Rattle.count_machine_model.specs.declared.ready_code.function.ReadyModule.{ReadyModule}
use Rattle.count_machine_model.specs.ReadyCode.Layout.{addresses_carried, local, values_carried}
use Rattle.count_machine_model.specs.declared.ready_code.local.Carry.{Carry}
use Rattle.count_machine_model.specs.declared.ready_code.local.CarryAddress.{CarryAddress}
use Rattle.count_machine_model.specs.declared.ready_code.op.ReadyOp.{ReadyOp}
use Rattle.count_machine_model.specs.declared.ready_code.op.ReadyOp.TheVariants as op
use Rattle.count_machine_model.specs.ReadyCode.ReadyModules.{IsReadyFunction, IsReadyModule, Reaches}
use Rattle.count_machine_model.specs.holder_model.RunTyping.CallForms.{IsOf}
use Rattle.count_machine_model.specs.holder_model.RunTyping.Forms.{OfValue, entry_forms, form_of, forms_of, given_shape}
use Rattle.count_machine_model.specs.holder_model.RunTyping.RunTyped.{RunTyped}
use Rattle.sil_ast.specs.declared.function.Function.{Function}
use Rattle.sil_ast.specs.declared.inst.Inst.{Inst}
use Rattle.sil_ast.specs.declared.module.Module.{Module}
use Rattle.sil_ast.specs.declared.place.FuncId.{FuncId}
use Rattle.sil_ast.specs.declared.place.ValueId.{ValueId}
use Rattle.sil_cfg.specs.declared.item.Item.TheVariants as item
use Rattle.sil_types_declarations.specs.TypeDefinitions.Declarations.{declarations_of}
use Rattle.count_machine_laws.proofs.Agreement.{Agrees, PartsAgree, ends_of}
use Rattle.count_machine_laws.proofs.CallingForms.{CallOf}
use Rattle.count_machine_laws.proofs.CallingIn.{enter_alike}
use Rattle.count_machine_laws.proofs.CallingValues.{OnlyValues, only_addresses, only_carried, only_put, only_then, parts_values, read_turned}
use Rattle.count_machine_laws.proofs.DropTasks.{tasks_move}
use Rattle.count_machine_laws.proofs.Ending.{Alike, alike_by, goes, parts_with}
use Rattle.count_machine_laws.proofs.Entries.{Ends, FrameAgrees}
use Rattle.count_machine_laws.proofs.FrameGoes.{frame_moves}
use Rattle.count_machine_laws.proofs.FrameSteps.{Running, StandsAt}
use Rattle.count_machine_laws.proofs.Grows.{WereMade, were_made}
use Rattle.count_machine_laws.proofs.GrowsSame.{tasks_same}
use Rattle.count_machine_laws.proofs.GrowsTasks.{KeepsBelow}
use Rattle.count_machine_laws.proofs.Operands.{AllRead, more, read_function}
use Rattle.count_machine_laws.proofs.Pushes.{entered_state, frame_pushed}
use Rattle.count_machine_laws.proofs.Rows.Effects.{Runs, row_by}
use Rattle.count_machine_laws.proofs.Slots.{Made}
use Rattle.count_machine_laws.proofs.Tasks.{AwaitsAt, Beginning, TasksAgree, runs, to_go_on, to_take, waits}

-- the call of a function with a body
pub record CallsBody (m : Module) (f : Function) (i : Inst) (c r : ValueId) (args : List ValueId) (g : FuncId) (callee : Function) : Type 0 where
  pub of : CallOf m f i c r args g callee
  pub bodied : has_any callee.blocks ≡ true
  pub taken : forms_of (declarations_of m) f args ≡ entry_forms (declarations_of m) callee
  pub given : form_of (declarations_of m) f r ≡ OfValue (given_shape (declarations_of m) callee)

-- the frame of the callee is entered
module _ (m : Module) (ready : ReadyModule) (entry : Beginning) (bound : ℕ) (typed : RunTyped m) (is_ready : IsReadyModule m entry.reached ready) (made : List Made) (s : LowState) (st : MachineView)
    (f : Function) (lf : LowFrame) (mf : Frame) (below : Ends) (rest : List (low.Task LowFrame)) (rest' : List Task) (running : Running m entry made s st f lf mf below rest rest')
    (i : Inst) (inst : inst_at f lf.at ≡ Some i) (c r : ValueId) (args : List ValueId) (g : FuncId) (callee : Function) (call : CallsBody m f i c r args g callee)
    (are_of : Each (IsOf f) args) (xs : List Datum) (read : AllRead m made s.memory st f mf args xs) where
  abbrev next' : MachineView
  next' = record st { turns = st.turns + 1 }

  abbrev ws : List ValueId
  ws = item_defined callee item.Entry

  were : WereMade made st.slots
  were = were_made running.parts.memory.slots

  pub waiting : TasksAgree m entry made s.memory st (to_take (given_shape (declarations_of m) callee)) (ends_of st) (low.Runs lf ∷ rest) st.tasks
  waiting =
      subst (TasksAgree m entry made s.memory st (to_take (given_shape (declarations_of m) callee)) (ends_of st) (low.Runs lf ∷ rest)) (sym running.tasks)
      (waits (given_shape (declarations_of m) callee) f lf mf below (ends_of st) rest rest' running.reached running.frame awaits running.others)
    where
      awaits : AwaitsAt m f lf (given_shape (declarations_of m) callee)
      awaits = record {
        call = i;
        there = inst;
        calls = call.of.calls;
        callee = c;
        args = args;
        operands = call.of.operands;
        g = g;
        names = call.of.names;
        body = callee;
        body_there = call.of.there;
        bodied = call.bodied;
        result = r;
        results = call.of.results;
        form = call.given;
      }

  called : Reaches entry.reached g
  called = is_ready.closed.calls lf.function f (subst (Reaches entry.reached) running.frame.same running.reached) running.frame.there c g call.of.names

  pub code : (code : ReadyFunction) × (slice_get ready.functions g.0 ≡ Some code) × IsReadyFunction m callee code
  code = is_ready.functions g callee called call.of.there

  abbrev entered : ReadyFunction → MachineView
  entered code = entered_state m next' mf f callee g code args ws

  -- with the frame, and its arguments
  pub record Entered : Type 0 where
    pub values : List (Option Datum)
    pub put : put_all ws xs (no_values (value_count callee)) ≡ Some values
    pub agrees : PartsAgree m made (record s { turns = s.turns + 1 }) next'
        → Agrees m entry made (record s { turns = s.turns + 1; tasks = low.Runs (steps.new_frame g values) ∷ low.Runs lf ∷ rest }) (entered code.0)

  pub entered_is : Entered
  entered_is = record {
    values = pushed.0;
    put = pushed.1;
    agrees = λ turned. record {
      parts = parts_values (parts_values (parts_with turned (low.Runs (steps.new_frame g pushed.0) ∷ low.Runs lf ∷ rest) opened.tasks)
          (only_put (record next' { tasks = opened.tasks }) opened.there opened.leaves opened.addresses)) only;
      tasks = subst (TasksAgree m entry made s.memory (entered code.0) to_go_on (ends_of (entered code.0)) (low.Runs (steps.new_frame g pushed.0) ∷ low.Runs lf ∷ rest)) (sym only.tasks)
          (runs callee (steps.new_frame g pushed.0) (new_frame next' g) (ends_of st) (ends_of (entered code.0)) (low.Runs lf ∷ rest) st.tasks called pushed.2
          (tasks_same {st = next'} {st' = entered code.0} were only.slots pushed.3 (tasks_move {st = st} {st' = next'} were refl refl refl refl refl waiting)));
    };
  }
    where
      opened : MachineView
      opened = with_frame next' g code.0

      carried_values : MachineView
      carried_values = carried opened mf (new_frame next' g) (values_carried (declarations_of m) f callee args ws)

      only : OnlyValues opened (entered code.0)
      only = only_then {st = opened} {st' = carried_values} (only_carried opened mf (new_frame next' g) (values_carried (declarations_of m) f callee args ws))
          (only_addresses carried_values mf (new_frame next' g) (addresses_carried (declarations_of m) f callee args ws))

      frame : FrameAgrees m made s.memory next' f lf mf below (ends_of st)
      frame = frame_moves {st = st} {st' = next'} were refl refl refl refl refl running.frame

      pushed : (values : _) × (put_all ws xs (no_values (value_count callee)) ≡ Some values)
          × FrameAgrees m made s.memory (entered code.0) callee (steps.new_frame g values) (new_frame next' g) (ends_of st) (ends_of (entered code.0))
          × KeepsBelow (ends_of st) next' (entered code.0)
      pushed =
          frame_pushed frame g callee code.0 call.of.there call.bodied code.2 args ws xs are_of ((typed.functions g.0 callee call.of.there).items item.Entry).defined call.taken
          (typed.functions g.0 callee call.of.there).entry (read_turned were (st.turns + 1) read)

module _ (m : Module) (ready : ReadyModule) (entry : Beginning) (bound : ℕ) (typed : RunTyped m) (is_ready : IsReadyModule m entry.reached ready) (made : List Made) (s : LowState) (st : MachineView)
    (f : Function) (lf : LowFrame) (mf : Frame) (below : Ends) (rest : List (low.Task LowFrame)) (rest' : List Task) (running : Running m entry made s st f lf mf below rest rest')
    (i : Inst) (c r : ValueId) (args : List ValueId) (g : FuncId) (callee : Function) (call : CallsBody m f i c r args g callee) where
  abbrev the_op : ReadyOp
  the_op = op.Call g (c ∷ args) (values_carried (declarations_of m) f callee args (item_defined callee item.Entry))
      (addresses_carried (declarations_of m) f callee args (item_defined callee item.Entry)) (local (declarations_of m) f r)

  abbrev calls_by : List Datum → effects.Effect LowFault
  calls_by xs = effects.calls (declarations_of m) (shapes_of m) (shapes_in (shapes_of m) lf.function) s.memory i xs

  -- what the run does and the machine performs, by the operands that were read
  enters_alike : inst_at f lf.at ≡ Some i → Each (IsOf f) (c ∷ args) → (xs : List Datum) → AllRead m made s.memory st f mf (c ∷ args) xs
      → Alike m entry (run.performs m (shapes_of m) bound s rest lf f (item.Inst lf.at) (calls_by xs)) (machine.does ready bound st mf rest' the_op)
  enters_alike inst are_of _ (more _ x _ xs is all) =
      alike_by
      (ap (λ y. performing (effects.with_some (λ h. effects.Calls h xs) (as_function y))) (read_function is g call.of.names)
      ∙ ap (on_some s (run.calls m (shapes_of m) bound s rest lf f (item.Inst lf.at) g xs)) call.of.there
      ∙ cond-true (has_any callee.blocks) (run.calls_in m (shapes_of m) bound s (low.Runs lf ∷ rest) g callee xs)
      (on_some s (run.calls_out m (shapes_of m) bound s rest lf f (item.Inst lf.at) g) (run.call_numbers m (shapes_of m) bound xs)) call.bodied
      ∙ ap (on_some s (λ values. low.enter bound (low.Runs lf ∷ rest) s (to values))) there.put)
      refl
      (enter_alike running.parts (waiting m ready entry bound typed is_ready made s st f lf mf below rest rest' running i inst c r args g callee call are_of.1 xs all) bound (to there.values)
      (λ after. machine.entered after mf g carries addresses (slice_get ready.functions g.0))
      (λ turned. alike_by refl (ap (machine.entered (record st { turns = st.turns + 1 }) mf g carries addresses) code_is.1)
      (goes made (record s { turns = s.turns + 1; tasks = low.Runs (steps.new_frame g there.values) ∷ low.Runs lf ∷ rest })
      (entered_state m (record st { turns = st.turns + 1 }) mf f callee g code_is.0 args (item_defined callee item.Entry)) (there.agrees turned))))
    where
      performing : effects.Effect LowFault → LowNext
      performing e = run.performs m (shapes_of m) bound s rest lf f (item.Inst lf.at) e

      to : List (Option Datum) → LowState → LowNext
      to values s' = low.Goes (record s' { tasks = low.Runs (steps.new_frame g values) ∷ low.Runs lf ∷ rest })

      carries : List Carry
      carries = values_carried (declarations_of m) f callee args (item_defined callee item.Entry)

      addresses : List CarryAddress
      addresses = addresses_carried (declarations_of m) f callee args (item_defined callee item.Entry)

      there : Entered m ready entry bound typed is_ready made s st f lf mf below rest rest' running i inst c r args g callee call are_of.1 xs all
      there = entered_is m ready entry bound typed is_ready made s st f lf mf below rest rest' running i inst c r args g callee call are_of.1 xs all

      code_is : (code : ReadyFunction) × (slice_get ready.functions g.0 ≡ Some code) × IsReadyFunction m callee code
      code_is = code m ready entry bound typed is_ready made s st f lf mf below rest rest' running i inst c r args g callee call are_of.1 xs all

  pub call_alike : StandsAt m f lf i the_op → Alike m entry (run.does m (shapes_of m) bound s rest lf f i) (machine.performs ready bound st mf rest' the_op)
  call_alike stands =
      row_by runs stands row.CallsFunction call.of.calls (sym call.of.operands)
      (λ xs all. enters_alike stands.inst are_of xs (subst (λ vs. AllRead m made s.memory st f mf vs xs) call.of.operands all))
    where
      runs : Runs m entry
      runs = record { ready = ready; bound = bound; typed = typed; made = made; s = s; st = st; f = f; lf = lf; mf = mf; below = below; rest = rest; rest' = rest'; running = running; i = i }

      are_of : Each (IsOf f) (c ∷ args)
      are_of =
          subst (Each (IsOf f)) (stands.typed.takes ∙ call.of.operands) ((typed.functions lf.function.0 f running.frame.there).items (item.Inst lf.at)).taken

-- A function without a body is called: a turn, and an event that tells of its integers.
use Rattle.std.proofs.Common.{◌≡◌, ◌+◌, ◌++◌, ◌∙◌, ℕ, ℤ, List, [], ◌∷◌, false, Some, map, refl, sym, ap, subst}
use Rattle.std.specs.Prelude.{option_and_then}
use Rattle.std.proofs.lemmas.Bool.{cond-false}
use Rattle.count_machine_model.specs.holder_model.Data.{Datum, ValueOf, all_of, as_function, values_of}
use Rattle.count_machine_model.specs.holder_model.Effects as effects
use Rattle.count_machine_model.specs.holder_model.Effects.{unchanged}
use Rattle.count_machine_model.specs.holder_model.Frames.{has_any}
use Rattle.count_machine_model.specs.holder_model.ModuleShapes.{shapes_in, shapes_of}
use Rattle.count_machine_model.specs.holder_model.declared.event.Event.TheVariants as event
use Rattle.count_machine_model.specs.holder_model.declared.row_effect.RowEffect.TheVariants as row
use Rattle.count_machine_model.specs.holder_model.States as low
use Rattle.sil_cfg_items.specs.Parts.{inst_at}
use Rattle.count_machine_model.specs.holder_model.declared.lowered_run.low_fault.LowFault.{LowFault}
use Rattle.count_machine_model.specs.holder_model.LoweredRun.LowFrames.{LowFrame}
use Rattle.count_machine_model.specs.holder_model.LoweredRun.LowStepParts.{LowNext, LowState, on_some}
use Rattle.count_machine_model.specs.holder_model.LoweredRun.LowSteps as run
use Rattle.count_machine_model.specs.declared.machine_steps.frame.Frame.{Frame}
use Rattle.count_machine_model.specs.declared.machine_steps.frame.Task.{Task}
use Rattle.count_machine_model.specs.MachineSteps.Operands.{contents, gives, int_among}
use Rattle.count_machine_model.specs.MachineSteps.Rows as machine
use Rattle.count_machine_model.specs.MachineSteps.Views.{MachineView}
use Rattle.numbered_form.specs.Lists.{Each}
use Rattle.count_machine_model.specs.declared.ready_code.function.ReadyModule.{ReadyModule}
use Rattle.count_machine_model.specs.declared.ready_code.local.Local.{Local}
use Rattle.count_machine_model.specs.declared.ready_code.op.ReadyOp.{ReadyOp}
use Rattle.count_machine_model.specs.declared.ready_code.op.ReadyOp.TheVariants as op
use Rattle.count_machine_model.specs.ReadyCode.Layout.{local}
use Rattle.count_machine_model.specs.holder_model.RunTyping.CallForms.{IsOf}
use Rattle.count_machine_model.specs.holder_model.RunTyping.Forms.{OfValue, form_of, forms_of}
use Rattle.count_machine_model.specs.holder_model.RunTyping.RunTyped.{RunTyped}
use Rattle.holder_model_values.specs.RunValues.Shapes.{Integer, NoMember, Tuple}
use Rattle.holder_model_values.specs.RunValues.Values as value
use Rattle.holder_model_values.specs.RunValues.Values.{integer_of}
use Rattle.sil_ast.specs.declared.function.Function.{Function}
use Rattle.sil_ast.specs.declared.inst.Inst.{Inst}
use Rattle.sil_ast.specs.declared.module.Module.{Module}
use Rattle.sil_ast.specs.declared.place.FuncId.{FuncId}
use Rattle.sil_ast.specs.declared.place.ValueId.{ValueId}
use Rattle.sil_cfg.specs.declared.item.Item.TheVariants as item
use Rattle.sil_types_declarations.specs.TypeDefinitions.Declarations.{declarations_of}
use Rattle.count_machine_laws.proofs.Agreement.{PartsAgree}
use Rattle.count_machine_laws.proofs.CallingForms.{CallOf}
use Rattle.count_machine_laws.proofs.DropTasks.{tasks_move}
use Rattle.count_machine_laws.proofs.Ending.{Alike, alike_by, memory_moves, turn_alike}
use Rattle.count_machine_laws.proofs.Entries.{Ends}
use Rattle.count_machine_laws.proofs.FrameGoes.{frame_moves}
use Rattle.count_machine_laws.proofs.FrameSteps.{Running, StandsAt}
use Rattle.count_machine_laws.proofs.Grows.{were_made}
use Rattle.count_machine_laws.proofs.Operands.{AllRead, more, read_function}
use Rattle.count_machine_laws.proofs.Rows.Effects.{Runs, row_by}
use Rattle.count_machine_laws.proofs.Rows.Gives.{gives_value}
use Rattle.count_machine_laws.proofs.Rows.Integers.{int_at, ints_read, numbers_listed}
use Rattle.count_machine_laws.proofs.Rows.Steps.{defined_by}
use Rattle.count_machine_laws.proofs.Slots.{Made}
use Rattle.count_machine_laws.proofs.Tasks.{Beginning}

map_twice : {A B C : Type 0} (f : B → C) (g : A → B) (xs : List A) → map f (map g xs) ≡ map (λ x. f (g x)) xs
map_twice f g [] = refl
map_twice f g (x ∷ xs) = ap (λ ys. f (g x) ∷ ys) (map_twice f g xs)

-- the call of a function without a body
pub record CallsBodiless (m : Module) (f : Function) (i : Inst) (c r : ValueId) (args : List ValueId) (g : FuncId) (callee : Function) : Type 0 where
  pub of : CallOf m f i c r args g callee
  pub bodiless : has_any callee.blocks ≡ false
  pub widths : List ℕ
  pub taken : forms_of (declarations_of m) f args ≡ map (λ w. OfValue (Integer w)) widths
  pub given : form_of (declarations_of m) f r ≡ OfValue (Tuple NoMember)

module _ (m : Module) (ready : ReadyModule) (entry : Beginning) (bound : ℕ) (typed : RunTyped m) (made : List Made) (s : LowState) (st : MachineView)
    (f : Function) (lf : LowFrame) (mf : Frame) (below : Ends) (rest : List (low.Task LowFrame)) (rest' : List Task) (running : Running m entry made s st f lf mf below rest rest')
    (i : Inst) (c r : ValueId) (args : List ValueId) (g : FuncId) (callee : Function) (call : CallsBodiless m f i c r args g callee) where
  abbrev locals : List Local
  locals = map (local (declarations_of m) f) args

  abbrev the_op : ReadyOp
  the_op = op.CallOut g (c ∷ args) locals (local (declarations_of m) f r)

  abbrev calls_by : List Datum → effects.Effect LowFault
  calls_by xs = effects.calls (declarations_of m) (shapes_of m) (shapes_in (shapes_of m) lf.function) s.memory i xs

  abbrev numbers : List ℤ
  numbers = map (int_at m st f mf) args

  -- behind the turn, with the event
  abbrev told : LowState → LowState
  told s' = record s' { events = s'.events ++ event.Call g numbers ∷ [] }

  abbrev told' : MachineView → MachineView
  told' after = record after { events = after.events ++ event.Call g (map (λ l. int_among (contents st mf l)) locals) ∷ [] }

  abbrev next : LowState
  next = record s { turns = s.turns + 1 }

  abbrev next' : MachineView
  next' = record st { turns = st.turns + 1 }

  running_told : PartsAgree m made next next' → Running m entry made (told next) (told' next') f lf mf below rest rest'
  running_told turned = record {
    parts = record {
      memory = memory_moves turned.memory refl refl refl refl;
      events = ap (λ es. es ++ event.Call g (map (λ l. int_among (contents st mf l)) locals) ∷ []) turned.events
          ∙ ap (λ ns. s.events ++ event.Call g ns ∷ []) (map_twice (λ l. int_among (contents st mf l)) (local (declarations_of m) f) args);
      turns = turned.turns;
      retains = turned.retains;
      releases = turned.releases;
    };
    reached = running.reached;
    frame = frame_moves {st = st} {st' = told' next'} (were_made running.parts.memory.slots) refl refl refl refl refl running.frame;
    others = tasks_move {st = st} {st' = told' next'} (were_made running.parts.memory.slots) refl refl refl refl refl running.others;
    tasks = running.tasks;
  }

  are_defined : inst_at f lf.at ≡ Some i → IsOf f r
  are_defined inst =
      (subst (Each (IsOf f)) (defined_by f lf i inst ∙ call.of.results) ((typed.functions lf.function.0 f running.frame.there).items (item.Inst lf.at)).defined).0

  -- what the run does and the machine performs, by the operands that were read
  tells_alike : inst_at f lf.at ≡ Some i → (xs : List Datum) → AllRead m made s.memory st f mf (c ∷ args) xs
      → Alike m entry (run.performs m (shapes_of m) bound s rest lf f (item.Inst lf.at) (calls_by xs)) (machine.does ready bound st mf rest' the_op)
  tells_alike inst _ (more _ x _ xs is all) =
      alike_by
      (ap (λ y. performing (effects.with_some (λ h. effects.Calls h xs) (as_function y))) (read_function is g call.of.names)
      ∙ ap (on_some s (run.calls m (shapes_of m) bound s rest lf f (item.Inst lf.at) g xs)) call.of.there
      ∙ cond-false (has_any callee.blocks) (run.calls_in m (shapes_of m) bound s (low.Runs lf ∷ rest) g callee xs)
      (on_some s (run.calls_out m (shapes_of m) bound s rest lf f (item.Inst lf.at) g) (run.call_numbers m (shapes_of m) bound xs)) call.bodiless
      ∙ ap (on_some s (run.calls_out m (shapes_of m) bound s rest lf f (item.Inst lf.at) g)) numbers_are)
      refl
      (turn_alike running.parts bound (λ s'. run.goes_on m (shapes_of m) bound (told s') rest lf f (item.Inst lf.at) (record (unchanged s'.memory) {
        results = ValueOf (value.Group value.NoValue) ∷ [];
      })) (λ after. gives (told' after) mf rest' (local (declarations_of m) f r) [])
      (λ turned. gives_value (runs turned) inst r call.of.results (are_defined inst) (Tuple NoMember) call.given (value.Group value.NoValue) refl [] refl))
    where
      performing : effects.Effect LowFault → LowNext
      performing e = run.performs m (shapes_of m) bound s rest lf f (item.Inst lf.at) e

      numbers_are : option_and_then (all_of integer_of) (values_of xs) ≡ Some numbers
      numbers_are = ap (λ ys. option_and_then (all_of integer_of) (values_of ys)) (ints_read f mf args xs call.widths call.taken all) ∙ numbers_listed (int_at m st f mf) args

      runs : PartsAgree m made next next' → Runs m entry
      runs turned = record {
        ready = ready;
        bound = bound;
        typed = typed;
        made = made;
        s = told next;
        st = told' next';
        f = f;
        lf = lf;
        mf = mf;
        below = below;
        rest = rest;
        rest' = rest';
        running = running_told turned;
        i = i;
      }

  pub call_out_alike : StandsAt m f lf i the_op → Alike m entry (run.does m (shapes_of m) bound s rest lf f i) (machine.performs ready bound st mf rest' the_op)
  call_out_alike stands =
      row_by runs stands row.CallsFunction call.of.calls (sym call.of.operands)
      (λ xs all. tells_alike stands.inst xs (subst (λ vs. AllRead m made s.memory st f mf vs xs) call.of.operands all))
    where
      runs : Runs m entry
      runs = record { ready = ready; bound = bound; typed = typed; made = made; s = s; st = st; f = f; lf = lf; mf = mf; below = below; rest = rest; rest' = rest'; running = running; i = i }

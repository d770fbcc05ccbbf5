-- Returns: from the run's first frame, to a caller, or from a deinitialiser.
use Rattle.std.proofs.Common.{◌≡◌, ◌+◌, ◌∙◌, ℕ, List, [], ◌∷◌, Bool, true, Option, Some, None, cond, drop, length, refl, set, sym, ap, subst, take, zero-add}
use Rattle.std.specs.Prelude.{find, option_and_then, slice_get}
use Rattle.std.proofs.lemmas.Bool.{false≢true}
use Rattle.std.proofs.lemmas.Option.{none-some, same_Some}
use Rattle.count_heap.specs.HeapModel.HeapViews.{is_dead_in}
use Rattle.count_machine_model.specs.holder_model.Data.{ValueOf}
use Rattle.count_machine_model.specs.holder_model.Effects.{unchanged}
use Rattle.count_machine_model.specs.holder_model.Frames.{has_any}
use Rattle.count_machine_model.specs.holder_model.ModuleShapes.{shapes_of}
use Rattle.count_machine_model.specs.holder_model.Outcomes.{left_objects}
use Rattle.count_machine_model.specs.holder_model.States as low
use Rattle.count_machine_model.specs.holder_model.declared.lowered_run.low_fault.LowFault.TheVariants as fault
use Rattle.count_machine_model.specs.holder_model.LoweredRun.LowFrames.{LowFrame, put_all}
use Rattle.count_machine_model.specs.holder_model.LoweredRun.LowStepParts.{LowState, numbers_for, on_some}
use Rattle.count_machine_model.specs.holder_model.LoweredRun.LowSteps as run
use Rattle.count_machine_model.specs.holder_model.LoweredRun.Stored.{numbers_of}
use Rattle.count_machine_model.specs.declared.machine_steps.frame.Frame.{Frame}
use Rattle.count_machine_model.specs.declared.machine_steps.frame.Task.{Task}
use Rattle.count_machine_model.specs.declared.machine_steps.frame.Task.TheVariants as task
use Rattle.count_machine_model.specs.declared.machine_steps.run_end.RunEnd.TheVariants as end
use Rattle.count_machine_model.specs.MachineSteps.Calling.{without_frame}
use Rattle.count_machine_model.specs.MachineSteps.Ends as machine
use Rattle.count_machine_model.specs.MachineSteps.Operands.{contents, objects_among}
use Rattle.count_machine_model.specs.MachineSteps.Views.{MachineView}
use Rattle.numbered_form.specs.Lists.{Each}
use Rattle.count_machine_model.specs.declared.ready_code.function.ReadyModule.{ReadyModule}
use Rattle.count_machine_model.specs.declared.ready_code.local.Local.{Local}
use Rattle.count_machine_model.specs.declared.ready_code.op.ReadyOp.{ReadyOp}
use Rattle.count_machine_model.specs.ReadyCode.Layout.{local}
use Rattle.count_machine_model.specs.ReadyCode.ReadyModules.{IsReadyModule, Reaches}
use Rattle.count_machine_model.specs.ReadyCode.ReadyOps.{IsReadyOp, calls, calls_out, chooses_full, chooses_plain, computes, drops}
use Rattle.count_machine_model.specs.ReadyCode.ReadyOps.{field_address, forgets_name, function, groups, literal, loads, loads_name}
use Rattle.count_machine_model.specs.ReadyCode.ReadyOps.{look, member, member_address, object, removes, retains, same, slot, stores, stores_name, traps}
use Rattle.count_machine_model.specs.holder_model.RunTyping.CallForms.{IsOf}
use Rattle.count_machine_model.specs.holder_model.RunTyping.Forms.{OfFunction, form_of, given_shape}
use Rattle.count_machine_model.specs.holder_model.RunTyping.RunTyped.{FunctionIsTyped, RunTyped}
use Rattle.holder_model_values.specs.RunValues.Leaves.{leaves_of, value_of}
use Rattle.holder_model_values.specs.RunValues.Memory.{is_dead}
use Rattle.holder_model_values.specs.RunValues.Shapes.{Shape}
use Rattle.holder_model_values.specs.RunValues.Values.{Value, references_of}
use Rattle.holder_model_values.proofs.RunValues.LeavesBack.{come_back}
use Rattle.sil_ast.specs.declared.function.Function.{Function}
use Rattle.sil_ast.specs.declared.module.Module.{Module}
use Rattle.sil_ast.specs.declared.place.FuncId.{FuncId}
use Rattle.sil_ast.specs.declared.place.ObjectId.{ObjectId}
use Rattle.sil_cfg.specs.declared.item.Item.TheVariants as item
use Rattle.sil_types_declarations.specs.TypeDefinitions.Declarations.{declarations_of}
use Rattle.holder_model_values.specs.ValueParts.inner.Suits.{suits}
use Rattle.holder_model_values.proofs.ValueParts.Suiting.{suits_fits}
use Rattle.count_machine_laws.specs.inner.Told.{all_left, returned}
use Rattle.count_machine_laws.proofs.Agreement.{PartsAgree, ends_of}
use Rattle.count_machine_laws.proofs.CallingValues.{only_put, parts_values}
use Rattle.count_machine_laws.proofs.Ending.{Alike, alike_by, ends, fault_alike, goes, parts_with, strongs_of}
use Rattle.count_machine_laws.proofs.Entries.{Ends, FrameAgrees}
use Rattle.count_machine_laws.proofs.FinishedFields.{references_among}
use Rattle.count_machine_laws.proofs.FrameGoes.{goes_on_plain}
use Rattle.count_machine_laws.proofs.FrameReady.{Standing, at_end, at_inst, ready_where, standing}
use Rattle.count_machine_laws.proofs.FrameSteps.{Running}
use Rattle.count_machine_laws.proofs.Grows.{were_made}
use Rattle.count_machine_laws.proofs.GrowsSame.{frame_same, tasks_same}
use Rattle.count_machine_laws.proofs.GrowsTasks.{KeepsBelow, at_most_itself, frame_within, keeps_less}
use Rattle.count_machine_laws.proofs.Left.{left_agrees}
use Rattle.count_machine_laws.proofs.Numbers.{dead_agrees, numbers_stay}
use Rattle.count_machine_laws.proofs.Objects.{ObjectsAgree, is_of_class}
use Rattle.count_machine_laws.proofs.Pushes.{without_frame_ends, without_frame_keeps}
use Rattle.count_machine_laws.proofs.Rows.Steps.{defined_by, goes_behind, value_put}
use Rattle.count_machine_laws.proofs.Slots.{Made}
use Rattle.count_machine_laws.proofs.Tasks.{AwaitsAt, Beginning, ReadyFor, TasksAgree, bottom, dropped, finishes, runs, to_go_on, to_take, waits}
use Rattle.count_machine_laws.proofs.Tasks as tasks

-- what a call awaits
awaited_is : (m : Module) (f : Function) (lf : LowFrame) (s : Shape) (awaits : AwaitsAt m f lf s) (o : ReadyOp) → IsReadyOp m f awaits.call o
    → machine.awaited_by o ≡ Some (local (declarations_of m) f awaits.result)
awaited_is m f lf t awaits _ (calls c q args g callee is operands results form there bodied) =
    ap (λ v. Some (local (declarations_of m) f v)) (same_Some q awaits.result (ap (λ vs. slice_get vs 0) (sym results ∙ awaits.results)))
awaited_is m f lf t awaits _ (calls_out c q args g callee is operands results form there bodied) =
    let same_callee : c ≡ awaits.callee = same_Some c awaits.callee (ap (λ vs. slice_get vs 0) (sym operands ∙ awaits.operands)) in
    let same_function : OfFunction g ≡ OfFunction awaits.g = sym form ∙ ap (form_of (declarations_of m) f) same_callee ∙ awaits.names in
    let same_number : g ≡ awaits.g = cc in
    let same_body : callee ≡ awaits.body = same_Some callee awaits.body (sym there ∙ ap (λ h. slice_get m.functions h.0) same_number ∙ awaits.body_there) in
    absurd (false≢true (sym bodied ∙ ap (λ c. has_any c.blocks) same_body ∙ awaits.bodied))
awaited_is m f lf t awaits _ (look v is operands) = absurd (cc)
awaited_is m f lf t awaits _ (literal n q is number results) = absurd (cc)
awaited_is m f lf t awaits _ (function q is results) = absurd (cc)
awaited_is m f lf t awaits _ (computes b v w q more is named operands results) = absurd (cc)
awaited_is m f lf t awaits _ (traps v is operands) = absurd (cc)
awaited_is m f lf t awaits _ (object class k q is results form there) = absurd (cc)
awaited_is m f lf t awaits _ (slot s q is results form) = absurd (cc)
awaited_is m f lf t awaits _ (removes v is operands) = absurd (cc)
awaited_is m f lf t awaits _ (same v q is operands results) = absurd (cc)
awaited_is m f lf t awaits _ (retains v is operands) = absurd (cc)
awaited_is m f lf t awaits _ (drops v is operands) = absurd (cc)
awaited_is m f lf t awaits _ (loads v q is operands results) = absurd (cc)
awaited_is m f lf t awaits _ (stores v w s is operands form stored) = absurd (cc)
awaited_is m f lf t awaits _ (loads_name v q w s o is operands results form done) = absurd (cc)
awaited_is m f lf t awaits _ (stores_name v p w s o is operands form done) = absurd (cc)
awaited_is m f lf t awaits _ (forgets_name v w s is operands form) = absurd (cc)
awaited_is m f lf t awaits _ (groups q is results) = absurd (cc)
awaited_is m f lf t awaits _ (chooses_plain q s k is operands results form place) = absurd (cc)
awaited_is m f lf t awaits _ (chooses_full v q s k is operands results form place) = absurd (cc)
awaited_is m f lf t awaits _ (member v q s k is operands results form part) = absurd (cc)
awaited_is m f lf t awaits _ (member_address v q s k is operands results form part) = absurd (cc)
awaited_is m f lf t awaits _ (field_address v q k is operands results part) = absurd (cc)

pub awaited_there : {m : Module} {ready : ReadyModule} {f : Function} {lf : LowFrame} {mf : Frame} {s : Shape} → Standing m ready f lf mf → (awaits : AwaitsAt m f lf s)
    → machine.awaited ready mf ≡ Some (local (declarations_of m) f awaits.result)
awaited_there {m = m} {ready = ready} {f = f} {lf = lf} {mf = mf} {s = s} (at_inst block i o there op stands) awaits =
    ap (λ b. option_and_then machine.awaited_by (option_and_then (λ c. slice_get c.ops mf.index) b)) there ∙ ap (option_and_then machine.awaited_by) op
    ∙ awaited_is m f lf s awaits o (subst (λ j. IsReadyOp m f j o) (same_Some i awaits.call (sym stands.inst ∙ awaits.there)) stands.made_ready)
awaited_there (at_end block i there none inst end ready) awaits = absurd (none-some awaits.call (sym inst ∙ awaits.there))

find_alike : {A : Type 0} (p q : A → Bool) → ((x : A) → p x ≡ q x) → (xs : List A) → find p xs ≡ find q xs
find_alike p q alike [] = refl
find_alike p q alike (x ∷ xs) = ap (λ b. cond b (Some x) (find p xs)) (alike x) ∙ ap (cond (q x) (Some x)) (find_alike p q alike xs)

-- a frame of the function f gives a value, and goes
module _ (m : Module) (ready : ReadyModule) (entry : Beginning) (bound : ℕ) (typed : RunTyped m) (is_ready : IsReadyModule m entry.reached ready) (made : List Made) (s : LowState) (st : MachineView)
    (parts : PartsAgree m made s st) (f : Function) (lf : LowFrame) (mf : Frame) (below : Ends) (frame : FrameAgrees m made s.memory st f lf mf below (ends_of st))
    (rest' : List Task) (empty : length st.slots ≡ mf.slots) (shape : Shape) (x : Value) (fits : suits (is_of_class m s.memory) shape x ≡ true) (l : Local)
    (leaves : contents st mf l ≡ leaves_of shape x) where
  abbrev gone : MachineView
  gone = without_frame st mf rest'

  gone_keeps : KeepsBelow below st gone
  gone_keeps = without_frame_keeps frame (at_most_itself (ends_of st)) rest'

  gone_ends : ends_of gone ≡ below
  gone_ends = without_frame_ends frame refl rest' empty

  gone_parts : PartsAgree m made s gone
  gone_parts = parts_with (parts_values parts (only_put st gone.there gone.leaves gone.addresses)) s.tasks rest'

  -- the first frame returns
  leaves_alike : entry.gives ≡ shape → below ≡ tasks.no_ends
      → Alike m entry (run.returns_to m (shapes_of m) bound s (ValueOf x) []) (machine.returns_to ready bound st mf rest' l [])
  leaves_alike gives bottom_ = at (find (is_dead s.memory) (references_of x)) refl
    where
      objects : ObjectsAgree m (is_of_class m s.memory) s.memory.objects s.numbers st.heap.objects
      objects = parts.memory.objects

      found : find (is_dead_in st.heap) (objects_among (contents st mf l)) ≡ find (is_dead s.memory) (references_of x)
      found =
          ap (λ ls. find (is_dead_in st.heap) (objects_among ls)) leaves
          ∙ ap (find (is_dead_in st.heap)) (references_among (is_of_class m s.memory) shape x fits)
          ∙ find_alike (is_dead_in st.heap) (is_dead s.memory) (λ o. dead_agrees m (is_of_class m s.memory) s.memory s.numbers st.heap o objects) (references_of x)

      left : left_objects s.memory (numbers_of s.numbers) ≡ all_left st.heap
      left = left_agrees m (is_of_class m s.memory) s.memory s.numbers st.heap objects parts.memory.declared

      zero_ : mf.leaves + l.at ≡ l.at
      zero_ = ap (λ n. n + l.at) (frame.leaves ∙ ap (λ e. e.leaves) bottom_) ∙ zero-add l.at

      value : value_of entry.gives (take l.size (drop l.at st.leaves)) ≡ Some x
      value =
          ap (λ n. value_of entry.gives (take l.size (drop n st.leaves))) (sym zero_) ∙ ap (value_of entry.gives) leaves ∙ ap (λ t. value_of t (leaves_of shape x)) gives
          ∙ (come_back shape x (suits_fits (is_of_class m s.memory) shape x fits)).0

      at : (o : Option ObjectId) → find (is_dead s.memory) (references_of x) ≡ o
          → Alike m entry (run.returns_to m (shapes_of m) bound s (ValueOf x) []) (machine.returns_to ready bound st mf rest' l [])
      at None e =
          alike_by (ap (run.leaves_run m (shapes_of m) bound s x) e) (ap (machine.leaves_run ready bound st mf rest' l) (found ∙ e))
          (ends (record s { tasks = [] }) (record st { tasks = [] }) (low.Returned x) (end.Returned l) (returned l x value) (rw (parts.events, parts.retains, parts.releases, left))
          (strongs_of parts))
      at (Some o) e =
          alike_by (ap (run.leaves_run m (shapes_of m) bound s x) e) (ap (machine.leaves_run ready bound st mf rest' l) (found ∙ e)) (fault_alike parts (fault.Dead o))

  -- a caller is given the value
  gives_alike : (f' : Function) (lf' : LowFrame) (mf' : Frame) (below' : Ends) (rest : List (low.Task LowFrame)) (rest'' : List Task) → rest' ≡ task.Runs mf' ∷ rest''
      → Reaches entry.reached mf'.function → FrameAgrees m made s.memory st f' lf' mf' below' below → AwaitsAt m f' lf' shape
      → TasksAgree m entry made s.memory st (to_take (given_shape (declarations_of m) f')) below' rest rest''
      → Alike m entry (run.returns_to m (shapes_of m) bound s (ValueOf x) (low.Runs lf' ∷ rest)) (machine.returns_to ready bound st mf rest' l (task.Runs mf' ∷ rest''))
  gives_alike f' lf' mf' below' rest rest'' tasks_are reaches frame' awaits others =
      alike_by
      (ap (on_some s (λ f. run.goes_on m (shapes_of m) bound s rest lf' f (item.Inst lf'.at) (record (unchanged s.memory) { results = ValueOf x ∷ [] }))) frame'.there
      ∙ goes_on_plain m (shapes_of m) bound s rest lf' f' (item.Inst lf'.at) (ValueOf x ∷ []) (set lf'.values awaits.result.0 (Some (ValueOf x))) stay
      (ap (λ vs. put_all vs (ValueOf x ∷ []) lf'.values) (defined_by f' lf' awaits.call awaits.there ∙ awaits.results)))
      (ap (machine.given_back ready bound st mf rest' (contents st mf l) mf' rest'') (awaited_there (standing function_typed (ready_where is_ready reaches frame')) awaits))
      (goes_behind (value_put caller awaits.result is_of shape awaits.form x fits (contents st mf l) leaves) awaits.call awaits.there)
    where
      stay : numbers_for s.memory s.numbers ≡ s.numbers
      stay = numbers_stay m (is_of_class m s.memory) s.memory s.numbers st.heap parts.memory.objects

      function_typed : FunctionIsTyped m f'
      function_typed = typed.functions lf'.function.0 f' frame'.there

      is_of : IsOf f' awaits.result
      is_of = (subst (Each (IsOf f')) (defined_by f' lf' awaits.call awaits.there ∙ awaits.results) (function_typed.items (item.Inst lf'.at)).defined).0

      caller : Running m entry made s gone f' lf' mf' below' rest rest''
      caller = record {
        parts = gone_parts;
        reached = reaches;
        frame = subst (FrameAgrees m made s.memory gone f' lf' mf' below') (sym gone_ends) (frame_same {st = st} {st' = gone} (were_made parts.memory.slots) refl gone_keeps frame');
        others = tasks_same {st = st} {st' = gone} (were_made parts.memory.slots) refl (keeps_less (frame_within frame') gone_keeps) others;
        tasks = tasks_are;
      }

  -- a deinitialiser returns
  finishes_alike : (gs : List FuncId) (o : ObjectId) (called : ℕ) (rest : List (low.Task LowFrame)) (rest'' : List Task) → rest' ≡ task.Finishes o called ∷ rest''
      → TasksAgree m entry made s.memory st to_go_on below (low.Finishes gs o ∷ rest) (task.Finishes o called ∷ rest'')
      → Alike m entry (run.returns_to m (shapes_of m) bound s (ValueOf x) (low.Finishes gs o ∷ rest)) (machine.returns_to ready bound st mf rest' l (task.Finishes o called ∷ rest''))
  finishes_alike gs o called rest rest'' tasks_are finish = goes made (record s { tasks = low.Finishes gs o ∷ rest }) gone (record {
    parts = parts_with gone_parts (low.Finishes gs o ∷ rest) rest';
    tasks = subst (TasksAgree m entry made s.memory gone to_go_on (ends_of gone) (low.Finishes gs o ∷ rest)) (sym tasks_are)
        (subst (λ e. TasksAgree m entry made s.memory gone to_go_on e (low.Finishes gs o ∷ rest) (task.Finishes o called ∷ rest'')) (sym gone_ends)
        (tasks_same {st = st} {st' = gone} (were_made parts.memory.slots) refl gone_keeps finish));
  })

  -- to whichever task is below the frame
  pub returns_to_alike : (r : ReadyFor) (ends : Ends) (rest : List (low.Task LowFrame)) (rest'' : List Task) → r ≡ to_take shape → ends ≡ below → rest' ≡ rest''
      → TasksAgree m entry made s.memory st r ends rest rest''
      → Alike m entry (run.returns_to m (shapes_of m) bound s (ValueOf x) rest) (machine.returns_to ready bound st mf rest' l rest'')
  returns_to_alike _ _ _ _ takes same_ends same_tasks bottom = let gives : entry.gives ≡ shape = cc in leaves_alike gives (sym same_ends)
  returns_to_alike _ _ _ _ takes same_ends same_tasks (runs f' lf' mf' below' above rest rest'' reaches frame' others) = absurd (cc)
  returns_to_alike _ _ _ _ takes same_ends same_tasks (waits t f' lf' mf' below' above rest rest'' reaches frame' awaits others) =
      let given : t ≡ shape = cc in
      gives_alike f' lf' mf' below' rest rest'' same_tasks reaches (subst (FrameAgrees m made s.memory st f' lf' mf' below') same_ends frame') (subst (AwaitsAt m f' lf') given awaits) others
  returns_to_alike _ _ _ _ takes same_ends same_tasks (tasks.drops o os below' above rest rest'' up_to waiting others) = absurd (cc)
  returns_to_alike _ _ _ _ takes same_ends same_tasks (dropped above rest rest'' others) = absurd (cc)
  returns_to_alike _ _ _ _ takes same_ends same_tasks (finishes r gs o called above rest rest'' was_made phase deinits once others) =
      finishes_alike gs o called rest rest'' same_tasks
      (subst (λ e. TasksAgree m entry made s.memory st to_go_on e (low.Finishes gs o ∷ rest) (task.Finishes o called ∷ rest'')) same_ends
      (finishes to_go_on gs o called above rest rest'' was_made phase deinits once others))

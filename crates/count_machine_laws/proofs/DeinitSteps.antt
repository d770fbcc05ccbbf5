-- A deinitialiser of an object is called.
use Rattle.std.proofs.Common.{◌≡◌, ◌<◌, ◌+◌, ◌∙◌, ℕ, List, [], ◌∷◌, true, false, Option, Some, drop, length, map, nat_lt, refl, set, sym, ap, subst, arith}
use Rattle.std.specs.Prelude.{slice_get}
use Rattle.std.proofs.lemmas.Bool.{and_from, lt-ltb}
use Rattle.std.proofs.lemmas.Option.{same_Some}
use Rattle.count_machine_model.specs.holder_model.Calling.{value_count}
use Rattle.count_machine_model.specs.holder_model.Data.{Datum, ValueOf}
use Rattle.count_machine_model.specs.holder_model.Dropping.{deinits_of}
use Rattle.count_machine_model.specs.holder_model.Frames.{has_any}
use Rattle.count_machine_model.specs.holder_model.ModuleShapes.{shapes_of}
use Rattle.count_machine_model.specs.holder_model.States as low
use Rattle.sil_cfg_items.specs.Items.{item_defined}
use Rattle.count_machine_model.specs.holder_model.LoweredRun.LowFrames.{LowFrame, no_values, put_all}
use Rattle.count_machine_model.specs.holder_model.LoweredRun.LowStepParts as run
use Rattle.count_machine_model.specs.holder_model.LoweredRun.LowStepParts.{LowNext, LowState, on_some}
use Rattle.count_machine_model.specs.holder_model.LoweredRun.LowSteps as steps
use Rattle.count_machine_model.specs.declared.machine_steps.frame.Task.{Task}
use Rattle.count_machine_model.specs.declared.machine_steps.frame.Task.TheVariants as task
use Rattle.count_machine_model.specs.MachineSteps.Calling.{new_frame, with_frame}
use Rattle.count_machine_model.specs.MachineSteps.Operands.{put}
use Rattle.count_machine_model.specs.MachineSteps.Steps as machine
use Rattle.count_machine_model.specs.MachineSteps.Views.{Goes, MachineView}
use Rattle.numbered_form.specs.Lists.{Each}
use Rattle.numbered_form.specs.Names.{Name}
use Rattle.count_machine_model.specs.declared.ready_code.function.ReadyFunction.{ReadyFunction}
use Rattle.count_machine_model.specs.declared.ready_code.function.ReadyModule.{ReadyModule}
use Rattle.count_machine_model.specs.ReadyCode.Layout.{local}
use Rattle.count_machine_model.specs.ReadyCode.ReadyModules.{IsReadyFunction, IsReadyModule, Reaches, first_local, where_value}
use Rattle.count_machine_model.specs.holder_model.RunTyping.CallForms.{IsOf}
use Rattle.count_machine_model.specs.holder_model.RunTyping.Classes.{is_a}
use Rattle.count_machine_model.specs.holder_model.RunTyping.Forms.{OfValue, form_of, forms_of, given_shape}
use Rattle.count_machine_model.specs.holder_model.RunTyping.RunTyped.{RunTyped}
use Rattle.holder_model_values.specs.RunValues.Memory.{object_at}
use Rattle.holder_model_values.specs.RunValues.Shapes.{Reference}
use Rattle.holder_model_values.specs.RunValues.Values as value
use Rattle.holder_model_values.specs.declared.run_values.leaf.Leaf.TheVariants as leaf
use Rattle.holder_model_values.specs.declared.run_values.phase.Phase.TheVariants.{Deiniting}
use Rattle.sil_ast.specs.declared.function.Function.{Function}
use Rattle.sil_ast.specs.declared.module.Module.{Module}
use Rattle.sil_ast.specs.declared.place.FuncId.{FuncId}
use Rattle.sil_ast.specs.declared.place.ObjectId.{ObjectId}
use Rattle.sil_ast.specs.declared.place.ValueId.{ValueId}
use Rattle.sil_cfg.specs.declared.item.Item.TheVariants as item
use Rattle.sil_types_declarations.specs.TypeDefinitions.Declarations.{declarations_of}
use Rattle.count_machine_laws.proofs.Agreement.{Agrees, PartsAgree, ends_of}
use Rattle.count_machine_laws.proofs.CallingIn.{enter_alike}
use Rattle.count_machine_laws.proofs.DeinitClasses.{DeinitFrom, deinit_from}
use Rattle.count_machine_laws.proofs.DropTasks.{tasks_move}
use Rattle.count_machine_laws.proofs.Ending.{Alike, alike_by, goes, memory_moves, parts_with}
use Rattle.count_machine_laws.proofs.Entries.{FrameAgrees}
use Rattle.count_machine_laws.proofs.Grows.{were_made}
use Rattle.count_machine_laws.proofs.GrowsBy.{grows_itself}
use Rattle.count_machine_laws.proofs.GrowsTasks.{KeepsBelow, at_most_itself, keeps_then, tasks_keep}
use Rattle.count_machine_laws.proofs.Objects.{is_of_class}
use Rattle.count_machine_laws.proofs.Pushes.{frame_made, with_frame_keeps}
use Rattle.count_machine_laws.proofs.Puts.{put_agrees, put_ends, put_keeps}
use Rattle.count_machine_laws.proofs.Slots.{Made}
use Rattle.count_machine_laws.proofs.Tasks.{Beginning, TasksAgree, finishes, is_finishing, runs, to_go_on, to_take}

-- one value has the one form
pub one_of : {A B : Type 0} (f : A → B) (xs : List A) (y : B) → map f xs ≡ y ∷ [] → (x : A) × (xs ≡ x ∷ []) × (f x ≡ y)
one_of f [] y e = absurd (omega (arith, ap length e))
one_of f (x ∷ []) y e = (x, refl, same_Some (f x) y (ap (λ ys. slice_get ys 0) e))
one_of f (x ∷ z ∷ xs) y e = absurd (omega (arith, ap length e))

-- the function takes one argument, an object of a class
record TakesObject (m : Module) (f : Function) (class : Name) : Type 0 where
  pub argument : ValueId
  pub defined : item_defined f item.Entry ≡ argument ∷ []
  pub form : form_of (declarations_of m) f argument ≡ OfValue (Reference class)

-- the frame of a function that takes an object
module _ (m : Module) (entry : Beginning) (made : List Made) (s : LowState) (st : MachineView) (parts : PartsAgree m made s st) (g : FuncId) (body : Function) (code : ReadyFunction)
    (there : slice_get m.functions g.0 ≡ Some body) (bodied : has_any body.blocks ≡ true) (ready : IsReadyFunction m body code) (class : Name) (takes : TakesObject m body class)
    (is_of : IsOf body takes.argument) (o : ObjectId) (fits : is_of_class m s.memory class o ≡ true) where
  abbrev values : List (Option Datum)
  values = set (no_values (value_count body)) takes.argument.0 (Some (ValueOf (value.Object o)))

  abbrev entered : MachineView
  entered = put (with_frame st g code) (new_frame st g) (local (declarations_of m) body takes.argument) (leaf.Object o ∷ [])

  plain : FrameAgrees m made s.memory (with_frame st g code) body (run.new_frame g (no_values (value_count body))) (new_frame st g) (ends_of st) (ends_of (with_frame st g code))
  plain = frame_made m made s.memory st g body code there bodied ready

  frame_then : FrameAgrees m made s.memory entered body (run.new_frame g values) (new_frame st g) (ends_of st) (ends_of entered)
  frame_then =
      subst (FrameAgrees m made s.memory entered body (run.new_frame g values) (new_frame st g) (ends_of st))
      (sym (put_ends plain (at_most_itself (ends_of (with_frame st g code))) takes.argument is_of (Reference class) (value.Object o) (leaf.Object o ∷ []) takes.form fits refl))
      (put_agrees plain (at_most_itself (ends_of (with_frame st g code))) takes.argument is_of (Reference class) (value.Object o) (leaf.Object o ∷ []) takes.form fits refl)

  keeps : KeepsBelow (ends_of st) st entered
  keeps = keeps_then {st = st} {st' = with_frame st g code} {st'' = entered} (with_frame_keeps st g code)
      (put_keeps plain (at_most_itself (ends_of (with_frame st g code))) takes.argument is_of (Reference class) (value.Object o) (leaf.Object o ∷ []) takes.form fits refl)

  entered_agrees : (ts : List (low.Task LowFrame)) → Reaches entry.reached g → TasksAgree m entry made s.memory st (to_take (given_shape (declarations_of m) body)) (ends_of st) ts st.tasks
      → Agrees m entry made (record s { tasks = low.Runs (run.new_frame g values) ∷ ts }) entered
  entered_agrees ts reaches tasks = record {
    parts = record {
      memory = memory_moves parts.memory refl refl refl refl;
      events = parts.events;
      turns = parts.turns;
      retains = parts.retains;
      releases = parts.releases;
    };
    tasks = runs body (run.new_frame g values) (new_frame st g) (ends_of st) (ends_of entered) ts st.tasks reaches frame_then
        (tasks_keep {st = st} {st' = entered} (grows_itself (were_made parts.memory.slots) s.memory) keeps (λ p now. refl) tasks);
  }

module _ (m : Module) (ready : ReadyModule) (entry : Beginning) (bound : ℕ) (typed : RunTyped m) (is_ready : IsReadyModule m entry.reached ready) (made : List Made) where
  -- a function with a body that takes an object of a class
  calls_alike : (s : LowState) (st : MachineView) (o : ObjectId) → PartsAgree m made s st → (g : FuncId) (class : Name) (body : Function) → Reaches entry.reached g
      → slice_get m.functions g.0 ≡ Some body → has_any body.blocks ≡ true → TakesObject m body class → is_of_class m s.memory class o ≡ true
      → TasksAgree m entry made s.memory st (to_take (given_shape (declarations_of m) body)) (ends_of st) s.tasks st.tasks
      → Alike m entry (steps.deinit_called m (shapes_of m) bound s g o) (machine.calls_deinit ready bound st g o)
  calls_alike s st o parts g class body reaches there bodied takes fits tasks =
      alike_by
      (ap (on_some s (λ f. steps.calls_in m (shapes_of m) bound s s.tasks g f (ValueOf (value.Object o) ∷ []))) there
      ∙ ap (λ vs. on_some s going (put_all vs (ValueOf (value.Object o) ∷ []) (no_values (value_count body)))) takes.defined)
      refl
      (enter_alike parts tasks bound next (λ after. machine.deinit_entered ready bound g o after (slice_get ready.functions g.0)) (λ turned. entering turned))
    where
      code : (code : ReadyFunction) × (slice_get ready.functions g.0 ≡ Some code) × IsReadyFunction m body code
      code = is_ready.functions g body reaches there

      argument : ValueId
      argument = takes.argument

      first : code.0.first_argument ≡ Some (local (declarations_of m) body argument)
      first =
          code.2.first_argument ∙ ap (first_local (declarations_of m) body) takes.defined
          ∙ ap (λ form. where_value form (local (declarations_of m) body argument)) takes.form

      is_of : IsOf body argument
      is_of = (subst (Each (IsOf body)) takes.defined ((typed.functions g.0 body there).items item.Entry).defined).0

      next : LowState → LowNext
      next s' = low.Goes (record s' {
        tasks = low.Runs (run.new_frame g (set (no_values (value_count body)) argument.0 (Some (ValueOf (value.Object o))))) ∷ s.tasks;
      })

      going : List (Option Datum) → LowNext
      going values = low.enter bound s.tasks s (λ s'. low.Goes (record s' { tasks = low.Runs (run.new_frame g values) ∷ s.tasks }))

      turned' : MachineView
      turned' = record st { turns = st.turns + 1 }

      entering : PartsAgree m made (record s { turns = s.turns + 1 }) turned'
          → Alike m entry (next (record s { turns = s.turns + 1 })) (machine.deinit_entered ready bound g o turned' (slice_get ready.functions g.0))
      entering turned =
          alike_by refl
          (ap (machine.deinit_entered ready bound g o turned') code.1
          ∙ ap (λ l. Goes (machine.with_object ready bound (with_frame turned' g code.0) (new_frame turned' g) l o)) first)
          (goes made (record s { turns = s.turns + 1; tasks = low.Runs (run.new_frame g (set (no_values (value_count body)) argument.0 (Some (ValueOf (value.Object o))))) ∷ s.tasks })
          (put (with_frame turned' g code.0) (new_frame turned' g) (local (declarations_of m) body argument) (leaf.Object o ∷ []))
          (entered_agrees m entry made (record s { turns = s.turns + 1 }) turned' turned g body code.0 there bodied code.2 class takes is_of o fits s.tasks reaches
          (tasks_move {st = st} {st' = turned'} (were_made parts.memory.slots) refl refl refl refl refl tasks)))

  takes_object : (body : Function) (class : Name) → forms_of (declarations_of m) body (item_defined body item.Entry) ≡ OfValue (Reference class) ∷ [] → TakesObject m body class
  takes_object body class forms =
      let one = one_of (form_of (declarations_of m) body) (item_defined body item.Entry) (OfValue (Reference class)) forms in
      record { argument = one.0; defined = one.1; form = one.2 }

  -- the next deinitialiser of an object
  pub deinit_alike : (s : LowState) (st : MachineView) → PartsAgree m made s st → (o : ObjectId) → o.0 < length s.memory.objects → (object_at s.memory o).phase ≡ Deiniting
      → (g : FuncId) (gs : List FuncId) (called : ℕ) → Reaches entry.reached g → slice_get (deinits_of (declarations_of m) (object_at s.memory o).class) called ≡ Some g
      → gs ≡ drop (called + 1) (deinits_of (declarations_of m) (object_at s.memory o).class)
      → (rest : List (low.Task LowFrame)) (rest' : List Task) → is_finishing o rest' ≡ false → TasksAgree m entry made s.memory st to_go_on (ends_of st) rest rest'
      → Alike m entry (steps.deinit_called m (shapes_of m) bound (record s { tasks = low.Finishes gs o ∷ rest }) g o)
      (machine.calls_deinit ready bound (record st { tasks = task.Finishes o (called + 1) ∷ rest' }) g o)
  deinit_alike s st parts o was_made phase g gs called reaches there left rest rest' once others =
      calls_alike (record s { tasks = low.Finishes gs o ∷ rest }) st' o (parts_with parts (low.Finishes gs o ∷ rest) (task.Finishes o (called + 1) ∷ rest')) g from.of
      from.is_deinit.body reaches from.is_deinit.there from.is_deinit.bodied (takes_object from.is_deinit.body from.of from.is_deinit.takes)
      (and_from (nat_lt o.0 (length s.memory.objects)) (is_a (declarations_of m) (object_at s.memory o).class from.of) (lt-ltb o.0 (length s.memory.objects) was_made) from.above)
      (finishes (to_take (given_shape (declarations_of m) from.is_deinit.body)) gs o (called + 1) (ends_of st) rest rest' was_made phase left once
      (tasks_move {st = st} {st' = st'} (were_made parts.memory.slots) refl refl refl refl refl others))
    where
      st' : MachineView
      st' = record st { tasks = task.Finishes o (called + 1) ∷ rest' }

      from : DeinitFrom m (object_at s.memory o).class g
      from = deinit_from m typed (object_at s.memory o).class called g there

-- From the parts of a proof: two runs that are together make steps that are alike, so that whole runs agree.
use Rattle.std.proofs.Common.{◌≡◌, ℕ, zero, suc, ◌+◌, arith, List, [], ◌∷◌, ◌++◌, refl, sym, ap, ◌∙◌, subst, false, cond, Option, Some, None, ⊎_elim, inl}
use Rattle.std.specs.Prelude.{slice_get}
use Rattle.sil_ast.specs.declared.function.Function.{Function}
use Rattle.sil_ast.specs.declared.module.Module.{Module}
use Rattle.sil_ast.specs.declared.place.FuncId.{FuncId}
use Rattle.sil_ast.specs.declared.place.ObjectId.{ObjectId}
use Rattle.sil_cfg.specs.declared.item.Item.{Item}
use Rattle.sil_cfg.specs.declared.item.Item.TheVariants as item
use Rattle.sil_cfg_items.specs.Parts.{inst_at}
use Rattle.sil_types_declarations.specs.TypeDefinitions.Declarations.{declarations_of}
use Rattle.holder_model.specs.holder_model_values.declared.run_values.phase.Phase.TheVariants.{Deiniting}
use Rattle.holder_model.specs.holder_model_values.RunValues.Memory.{is_live, object_at, with_object}
use Rattle.holder_model.specs.holder_model_values.RunValues.Places.{Place}
use Rattle.holder_model.specs.holder_model_values.RunValues.Values as value
use Rattle.holder_model.specs.declared.event.Event.TheVariants as event
use Rattle.holder_model.specs.declared.trap.Trap.TheVariants as trap
use Rattle.holder_model.specs.Calling.{value_count}
use Rattle.holder_model.specs.Data.{ValueOf}
use Rattle.holder_model.specs.Dropping.{deinitialises, deinits_of, drop_with, ended, field_references, finish_with, in_phase}
use Rattle.holder_model.specs.Frames.{Entry, Frame, LentPlace, no_entries}
use Rattle.holder_model.specs.HolderStates.{HolderNext, HolderState, strong_holders}
use Rattle.holder_model.specs.ModuleFacts.{ModuleFacts}
use Rattle.holder_model.specs.Outcomes.{begins}
use Rattle.holder_model.specs.Standing.{stands_at}
use Rattle.holder_model.specs.StepParts.{on_some}
use Rattle.holder_model.specs.States.{Drops, Finishes, Goes, Task, Trapped, dropping}
use Rattle.holder_model.specs.Steps as steps
use Rattle.holder_model.specs.Holders.{one_object}
use Rattle.holder_model_laws.specs.HolderLaws.inner.Counts.Moving.{in_tasks}
use Rattle.holder_model_laws.proofs.HolderLaws.Counts.Moves.{first_task}
use Rattle.holder_model_laws.specs.LockstepRuns.inner.Laws.{AreRunsInLockstep}
use Rattle.holder_model_laws.specs.LockstepRuns.inner.Lockstep.{AreAtRest, AreInStep, AreLevel, AreTasksLike, AreTogether, Excess, IsFault, frame_at}
use Rattle.holder_model_laws.specs.LockstepRuns.inner.Parts.{AreFramesOn, Parts}
use Rattle.holder_model_laws.proofs.LockstepRuns.Alike as alike
use Rattle.holder_model_laws.proofs.LockstepRuns.Alike.{dropping_alike}
use Rattle.holder_model_laws.proofs.LockstepRuns.WholeRuns.{runs_agree}

module _ (m m' : Module) (told told' : ModuleFacts) (bound : ℕ) (First Second : HolderState → Type 0)
    (Like : FuncId → List Item → List Entry → List Item → List Entry → Type 0) (Alone : FuncId → List Item → Type 0)
    (parts : Parts m m' told told' bound First Second Like Alone) where
  abbrev Alike : HolderNext → HolderNext → Type 0
  Alike = alike.Alike m m' told told' bound First Second Like Alone

  goes : (h r : HolderState) → AreTasksLike Like h.tasks r.tasks → AreLevel h r → Alike (Goes h) (Goes r)
  goes = alike.goes_alike m m' told told' bound First Second Like Alone parts.alone

  -- ---- drops

  -- the object starts to deinitialise in both
  deinits_alike : (s s' : HolderState) (o : ObjectId) → AreLevel s s' → AreTasksLike Like s.tasks s'.tasks
      → Alike (deinitialises (declarations_of m) bound s o) (deinitialises (declarations_of m') bound s' o)
  deinits_alike s s' o l tasks =
      alike.turn_alike m m' told told' bound First Second Like Alone s s'
      (λ t. Goes (record t {
        tasks = Finishes (deinits_of (declarations_of m) (object_at t.memory o).class) o ∷ t.tasks;
        memory = in_phase Deiniting t.memory o;
        events = t.events ++ event.Deinit (object_at t.memory o).class o ∷ [];
      }))
      (λ t. Goes (record t {
        tasks = Finishes (deinits_of (declarations_of m') (object_at t.memory o).class) o ∷ t.tasks;
        memory = in_phase Deiniting t.memory o;
        events = t.events ++ event.Deinit (object_at t.memory o).class o ∷ [];
      })) l (λ t. goes _ _
      (subst (λ gs. AreTasksLike Like (Finishes (deinits_of (declarations_of m) (object_at s.memory o).class) o ∷ s.tasks) (Finishes gs o ∷ s'.tasks))
      (sym (parts.functions.deinits (object_at s'.memory o).class ∙ ap (λ x. deinits_of (declarations_of m) (object_at x o).class) l.memory))
      (AreTasksLike.finishes (deinits_of (declarations_of m) (object_at s.memory o).class) o s.tasks s'.tasks tasks))
      (record {
        memory = ap (λ x. in_phase Deiniting x o) l.memory;
        events = ap (λ x. s'.events ++ event.Deinit (object_at x o).class o ∷ []) l.memory ∙ ap (λ x. x ++ event.Deinit (object_at s.memory o).class o ∷ []) l.events;
        turns = t.turns;
        retains = t.retains;
        releases = t.releases;
      }))

  drop_alike : (s s' : HolderState) (o : ObjectId) (n n' : ℕ) → AreLevel s s' → AreTasksLike Like s.tasks s'.tasks
      → Excess n n' (is_live s'.memory o ≡ false) → Alike (drop_with (declarations_of m) bound s o n) (drop_with (declarations_of m') bound s' o n')
  drop_alike s s' o zero zero l tasks x =
      alike.cond_alike m m' told told' bound First Second Like Alone (is_live s.memory o) (is_live s'.memory o) (deinitialises (declarations_of m) bound s o) (Goes s)
      (deinitialises (declarations_of m') bound s' o) (Goes s') (ap (λ y. is_live y o) l.memory) (λ so. deinits_alike s s' o l tasks) (λ other. goes s s' tasks l)
  drop_alike s s' o zero (suc n') l tasks x = absurd (let a = x.sum in omega (arith, a))
  drop_alike s s' o (suc n) zero l tasks x =
      let spared : is_live s'.memory o ≡ false = ⊎_elim (λ a. absurd (omega (arith, a))) (λ a. a) (x.covered (let a = x.sum in omega (arith, a))) in
      subst (λ b. Alike (Goes s) (cond b (deinitialises (declarations_of m') bound s' o) (Goes s'))) (sym spared) (goes s s' tasks l)
  drop_alike s s' o (suc n) (suc n') l tasks x = goes s s' tasks l

  -- ---- finishes

  finish_alike : (s s' : HolderState) (o : ObjectId) (n n' : ℕ) → AreLevel s s' → AreTasksLike Like s.tasks s'.tasks → Excess n n' ⊥
      → Alike (finish_with s o n) (finish_with s' o n')
  finish_alike s s' o zero zero l tasks x =
      goes _ _
      (subst (λ y. AreTasksLike Like (dropping (field_references (object_at s.memory o)) s.tasks) (dropping (field_references (object_at y o)) s'.tasks)) (sym l.memory)
      (dropping_alike Like (field_references (object_at s.memory o)) s.tasks s'.tasks tasks))
      (record {
        memory = ap (λ y. with_object y o (ended (object_at y o))) l.memory;
        events = l.events;
        turns = l.turns;
        retains = l.retains;
        releases = l.releases;
      })
  finish_alike s s' o zero (suc n') l tasks x = absurd (let a = x.sum in omega (arith, a))
  finish_alike s s' o (suc n) zero l tasks x = absurd (⊎_elim (λ a. omega (arith, a)) (λ a. a) (x.covered (let a = x.sum in omega (arith, a))))
  finish_alike s s' o (suc n) (suc n') l tasks x = alike.ends_alike m m' told told' bound First Second Like Alone (Trapped trap.Escaped) s s' refl l

  -- ---- a step

  same_level : (h r : HolderState) (tasks tasks' : List (Task Frame)) → AreLevel h r → AreLevel (record h { tasks = tasks }) (record r { tasks = tasks' })
  same_level h r tasks tasks' l = record { memory = l.memory; events = l.events; turns = l.turns; retains = l.retains; releases = l.releases }

  -- a finish holds nothing
  finish_holds_none : (s : HolderState) (o : ObjectId) (rest : List (Task Frame)) → s.tasks ≡ Finishes [] o ∷ rest
      → strong_holders s o ≡ strong_holders (record s { tasks = rest }) o
  finish_holds_none s o rest is =
      let tasks : in_tasks (one_object o) s.tasks ≡ in_tasks (one_object o) (Finishes [] o ∷ rest) = ap (in_tasks (one_object o)) is in
      let first = first_task (one_object o) (Finishes [] o) rest in
      omega (arith, tasks, first)

  -- the functions of the two, where the first has one
  with_functions : (g : FuncId) (go : Function → HolderNext) (go' : Function → HolderNext) (h r : HolderState)
      → ((f f' : Function) → slice_get m.functions g.0 ≡ Some f → slice_get m'.functions g.0 ≡ Some f' → Alike (go f) (go' f'))
      → Alike (on_some h go (slice_get m.functions g.0)) (on_some r go' (slice_get m'.functions g.0))
  with_functions g go go' h r each =
      alike.some_alike m m' told told' bound First Second Like Alone h r go go' (slice_get m.functions g.0) (slice_get m'.functions g.0) (λ f is.
      let z = parts.functions.function g f is in (z.0, z.1, each f z.0 is z.1))

  frame_alike : (h r : HolderState) (g : FuncId) (slots : List Place) (lent : List LentPlace) (trail trail' : List Item) (entries entries' : List Entry)
      (rest rest' : List (Task Frame))
      → AreFramesOn m m' told told' bound First Second Like Alone h r g slots lent trail trail' entries entries' rest rest'
      → Alike (steps.runs m told bound h rest (frame_at g slots lent trail entries)) (steps.runs m' told' bound r rest' (frame_at g slots lent trail' entries'))
  frame_alike h r g slots lent trail trail' entries entries' rest rest' on = by_function (slice_get m.functions g.0) refl
    where
      by_function : (o : Option Function) → slice_get m.functions g.0 ≡ o
          → Alike (steps.runs m told bound h rest (frame_at g slots lent trail entries)) (steps.runs m' told' bound r rest' (frame_at g slots lent trail' entries'))
      by_function None is =
          inl (subst (λ o. IsFault (on_some h (λ f. steps.acts m told bound h rest (frame_at g slots lent trail entries) f (stands_at f trail) (inst_at f (stands_at f trail))) o))
          (sym is) tt)
      by_function (Some f) is =
          let z = parts.functions.function g f is in
          (parts.frames g f z.0 is z.1).step h r slots lent trail trail' entries entries' rest rest' on

  task_alike : (h r : HolderState) (tasks tasks' : List (Task Frame)) → First h → Second r → AreLevel h r → h.tasks ≡ tasks → r.tasks ≡ tasks'
      → AreTasksLike Like tasks tasks' → AreAtRest Like Alone tasks → Alike (steps.task_step m told bound h tasks) (steps.task_step m' told' bound r tasks')
  task_alike h r _ _ first second l is is' AreTasksLike.none rest = inl tt
  task_alike h r _ _ first second l is is' (AreTasksLike.runs g slots lent trail trail' entries entries' rest rest' like below) at_rest =
      frame_alike h r g slots lent trail trail' entries entries' rest rest'
      (record { first = first; second = second; level = l; h_tasks = is; r_tasks = is'; like = like; below = below; at_rest = at_rest })
  task_alike h r _ _ first second l is is' (AreTasksLike.drops [] rest rest' below) at_rest =
      goes (record h { tasks = rest }) (record r { tasks = rest' }) below (same_level h r rest rest' l)
  task_alike h r _ _ first second l is is' (AreTasksLike.drops (o ∷ os) rest rest' below) at_rest =
      drop_alike (record h { tasks = Drops os ∷ rest; releases = h.releases + 1 }) (record r { tasks = Drops os ∷ rest'; releases = r.releases + 1 }) o
      (strong_holders (record h { tasks = Drops os ∷ rest; releases = h.releases + 1 }) o)
      (strong_holders (record r { tasks = Drops os ∷ rest'; releases = r.releases + 1 }) o)
      (record {
        memory = l.memory;
        events = l.events;
        turns = l.turns;
        retains = l.retains;
        releases = let a = l.releases in omega (arith, a);
      })
      (AreTasksLike.drops os rest rest' below)
      (parts.dropped h r o os rest rest' (record { first = first; second = second; level = l; h_tasks = is; r_tasks = is'; below = below }))
  task_alike h r _ _ first second l is is' (AreTasksLike.finishes [] o rest rest' below) at_rest =
      finish_alike (record h { tasks = rest }) (record r { tasks = rest' }) o (strong_holders h o) (strong_holders r o) (same_level h r rest rest' l) below
      (let x = parts.finished h r o rest rest' (record { first = first; second = second; level = l; h_tasks = is; r_tasks = is'; below = below }) in
      subst (λ n. Excess n (strong_holders r o) ⊥) (sym (finish_holds_none h o rest is))
      (subst (λ n. Excess (strong_holders (record h { tasks = rest }) o) n ⊥) (sym (finish_holds_none r o rest' is')) x))
  task_alike h r _ _ first second l is is' (AreTasksLike.finishes (g ∷ gs) o rest rest' below) at_rest =
      with_functions g (λ f. steps.calls_in m told bound (record h { tasks = Finishes gs o ∷ rest }) (Finishes gs o ∷ rest) g f (ValueOf (value.Object o) ∷ []))
      (λ f. steps.calls_in m' told' bound (record r { tasks = Finishes gs o ∷ rest' }) (Finishes gs o ∷ rest') g f (ValueOf (value.Object o) ∷ []))
      (record h { tasks = Finishes gs o ∷ rest }) (record r { tasks = Finishes gs o ∷ rest' }) (λ f f' at at'.
      alike.calls_in_alike m m' told told' bound First Second Like Alone parts.alone (record h { tasks = Finishes gs o ∷ rest })
      (record r { tasks = Finishes gs o ∷ rest' }) (Finishes gs o ∷ rest) (Finishes gs o ∷ rest') g f f' (ValueOf (value.Object o) ∷ [])
      (same_level h r (Finishes gs o ∷ rest) (Finishes gs o ∷ rest') l) (AreTasksLike.finishes gs o rest rest' below)
      ((parts.frames g f f' at at').enter (ValueOf (value.Object o) ∷ [])))

  pub lock : (h r : HolderState) → First h → Second r → AreTogether Like Alone h r → Alike (steps.step m told bound h) (steps.step m' told' bound r)
  lock h r first second t = task_alike h r h.tasks r.tasks first second t.level refl refl t.tasks t.rest

  pub begins_in_step : (e : FuncId) (f f' : Function) → slice_get m.functions e.0 ≡ Some f → slice_get m'.functions e.0 ≡ Some f' → First (begins e f)
      → Second (begins e f') → AreInStep Like Alone m told bound (begins e f) (begins e f')
  begins_in_step e f f' is is' first second =
      parts.alone (begins e f) (begins e f') first second
      (AreTasksLike.runs e [] [] (item.Entry ∷ []) (item.Entry ∷ []) (no_entries (value_count f)) (no_entries (value_count f')) [] []
      (parts.frames e f f' is is').begin AreTasksLike.none)
      (record { memory = refl; events = refl; turns = refl; retains = omega arith; releases = omega arith })

pub runs_in_lockstep : AreRunsInLockstep
runs_in_lockstep m m' told told' bound First Second Like Alone kept kept' parts e f f' is is' first second =
    runs_agree m m' told told' bound First Second Like Alone kept kept' (lock m m' told told' bound First Second Like Alone parts) e f f' is is' first second
    (begins_in_step m m' told told' bound First Second Like Alone parts e f f' is is' first second)

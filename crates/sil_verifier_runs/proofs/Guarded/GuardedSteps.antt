-- A step of a guarded state leads to a guarded one, where open scopes keep what they lend.
use Rattle.std.proofs.Common.{◌≡◌, ℕ, ◌+◌, List, [], ◌∷◌, refl, sym, ap, ◌∙◌, subst, true, ◌⊎◌, inl, inr, Some, Ok, arith}
use Rattle.std.specs.Prelude.{slice_get}
use Rattle.std.proofs.lemmas.Option.{same_Some}
use Rattle.instruction_table.specs.Forms.{ending_of}
use Rattle.instruction_table.specs.declared.entries.Ending.TheVariants as ending
use Rattle.sil_cfg_items.specs.Items.{item_defined, item_taken}
use Rattle.sil_cfg_items.specs.Parts.{inst_at}
use Rattle.sil_ast.specs.declared.function.Function.{Function}
use Rattle.sil_ast.specs.declared.inst.Inst.{Inst}
use Rattle.sil_ast.specs.declared.module.Module.{Module}
use Rattle.sil_ast.specs.declared.place.EdgeId.{EdgeId}
use Rattle.sil_ast.specs.declared.place.ObjectId.{ObjectId}
use Rattle.sil_ast.specs.declared.place.ValueId.{ValueId}
use Rattle.sil_cfg.specs.Items.{leaves_function}
use Rattle.sil_cfg.specs.declared.item.Item.{Item}
use Rattle.sil_cfg.specs.declared.item.Item.TheVariants as item
use Rattle.sil_types_declarations.specs.TypeDefinitions.Declarations.{Declarations, declarations_of}
use Rattle.sil_types_declarations.specs.declared.type_definitions.kind.Kind.TheVariants as kind
use Rattle.holder_model_values.specs.declared.run_values.phase.Phase.TheVariants.{Deiniting}
use Rattle.holder_model_values.specs.RunValues.Memory.{is_dead, object_at}
use Rattle.holder_model_values.specs.RunValues.Values as value
use Rattle.holder_model_values.specs.RunValues.Values.{Value}
use Rattle.sil_verifier_frames.specs.ownership_kinds_origins.Facts.{facts_in}
use Rattle.sil_verifier_frames.specs.sil_verifier_trails.RunTrails.inner.RunTrails.{ComesAt}
use Rattle.sil_verifier_frames.specs.sil_verifier_accepted.AcceptedModules.inner.Checked.{IsVerified}
use Rattle.sil_verifier_frames.specs.sil_verifier_values.inner.Known.{kind_at}
use Rattle.sil_verifier_frames.proofs.sil_verifier_values.Facts.{run_facts}
use Rattle.sil_verifier_frames.specs.holder_model_typing.TypedMemory.inner.Worlds.{World}
use Rattle.sil_verifier_frames.specs.inner.Typed.TypedStates.{TasksAre, WaitsTyped}
use Rattle.sil_verifier_frames.proofs.Typed.Data.{read_value}
use Rattle.sil_verifier_frames.proofs.Typed.GoesOn.{Running}
use Rattle.sil_verifier_frames.proofs.Typed.Returns.{returned}
use Rattle.sil_verifier_frames.proofs.Typed.Stacks.{BelowTyped}
use Rattle.sil_verifier_frames.proofs.holder_model_laws.HolderLaws.Steps.StepsTold.{steps_told}
use Rattle.sil_verifier_frames.specs.holder_model.RunTyping.Forms.{given_shape}
use Rattle.sil_verifier_frames.specs.inner.Tracked.TrackedStates.{AreTasksTracked}
use Rattle.sil_verifier_frames.proofs.Tracked.ConsumedValues.{owned_typed}
use Rattle.sil_verifier_frames.proofs.Tracked.HowValuesEnd.{accepted_body}
use Rattle.sil_verifier_frames.proofs.Tracked.NextItems.{chooses_on, chosen_within, edge_comes, one_edge}
use Rattle.sil_verifier_frames.specs.holder_model.Calling.{value_count}
use Rattle.sil_verifier_frames.specs.holder_model.Data.{Datum, ValueOf}
use Rattle.sil_verifier_frames.specs.holder_model.Dropping.{deinits_of, in_phase}
use Rattle.sil_verifier_frames.specs.holder_model.Edges.{edge_of}
use Rattle.sil_verifier_frames.specs.holder_model.Effects as effects
use Rattle.sil_verifier_frames.specs.holder_model.Effects.{only, unchanged}
use Rattle.sil_verifier_frames.specs.holder_model.Faults.{HolderFault}
use Rattle.sil_verifier_frames.specs.holder_model.Frames.{Frame, Operands, has_any, no_entries, operands_of, results_put}
use Rattle.sil_verifier_frames.specs.holder_model.Holders.{one_object}
use Rattle.sil_verifier_frames.specs.holder_model.HolderStates.{HolderNext, HolderState}
use Rattle.sil_verifier_frames.specs.holder_model.ModuleFacts.{ModuleFacts, facts_of}
use Rattle.sil_verifier_frames.specs.holder_model.Standing.{stands_at}
use Rattle.sil_verifier_frames.specs.holder_model.States.{Drops, Finishes, Runs, Task}
use Rattle.sil_verifier_frames.specs.holder_model.Steps as steps
use Rattle.sil_verifier_frames.specs.holder_model_laws.HolderLaws.inner.Steps.Ways.{Acts, DropsOne, Enters, FinishesOne, GoesBehind, Leaves, Performs, Reaches, StandsAtEnd, StepsBy, TakesEdge}
use Rattle.sil_verifier_frames.specs.holder_model_laws.HolderLaws.inner.Steps.Ways.{left_with, moved, operands_in, with_tasks}
use Rattle.sil_verifier_frames.specs.holder_model_laws.HolderLaws.inner.Counts.Naming.{in_data, in_datum}
use Rattle.sil_verifier_frames.proofs.holder_model_laws.HolderLaws.Counts.Sums.{total_cons}
use Rattle.sil_verifier_runs.specs.inner.Guarded.GuardedStates.{IsGuardedRun, IsGuardedState, Loans}
use Rattle.sil_verifier_runs.specs.inner.Guarded.Laws.{AreStepsGuardedWhere}
use Rattle.sil_verifier_runs.specs.inner.Guarded.LoansKept.{IsPlacedState, LoansAreKept}
use Rattle.sil_verifier_runs.specs.inner.Guarded.Stepping.{frame_behind}
use Rattle.sil_verifier_runs.proofs.Guarded.FramesCurrent.{frames_current}
use Rattle.sil_verifier_runs.proofs.Guarded.Changing.{dead_unnamed, given_alive}
use Rattle.sil_verifier_runs.proofs.Guarded.FirstFrames.{frame_of}
use Rattle.sil_verifier_runs.proofs.Guarded.Following.{arguments_of_entry}
use Rattle.sil_verifier_runs.proofs.Guarded.GuardedDeinits.{deinit_entered}
use Rattle.sil_verifier_runs.proofs.Guarded.GuardedItems.{Given, GuardedNext, IsFirst, called_out}
use Rattle.sil_verifier_runs.proofs.Guarded.GuardedReturns.{returned_right}
use Rattle.sil_verifier_runs.proofs.Guarded.GuardedWays.{called, done, taken_edge}
use Rattle.sil_verifier_runs.proofs.Guarded.Stepping.{deaths_guarded, deinit_returns_guarded, deinits_guarded, drops_guarded, returns_guarded}
use Rattle.sil_verifier_runs.proofs.Guarded.TypedGiven.{carry_typed_values, typed_for_rows}

only_one : {A : Type 0} (xs : List A) (x : A) → only xs ≡ Some x → xs ≡ x ∷ []
only_one [] x e = absurd (cc)
only_one (y ∷ []) x e = ap (λ z. z ∷ []) (same_Some y x e)
only_one (y ∷ z ∷ zs) x e = absurd (cc)

module _ (m : Module) (loans : Loans) (Placed : HolderState → Type 0) (given : Given) (kept : LoansAreKept m loans Placed) (bound : ℕ) (verified : IsVerified m) where
  abbrev d : Declarations
  d = declarations_of m

  abbrev told : ModuleFacts
  told = facts_of m

  abbrev Next : HolderNext → Type 0
  Next next = GuardedNext m loans Placed next

  -- ---- what an instruction leads to

  module _ (s : HolderState) (rest : List (Task Frame)) (frame : Frame) (f : Function) (first : IsFirst m loans Placed s rest frame f)
      (x : Inst) (here : inst_at f (stands_at f frame.trail) ≡ Some x) (ops : Operands)
      (ops_are : operands_of (facts_in (declarations_of m) f) s.memory frame.entries (item_taken f (item.Inst (stands_at f frame.trail))) ≡ Ok ops)
      (comes : ComesAt f (stands_at f frame.trail) (item.Inst (stands_at f frame.trail))) where
    performs_guarded : (e : effects.Effect HolderFault) → steps.effect_in m told bound s frame x ops.given ≡ e → (next : HolderNext)
        → Performs m told bound s rest (left_with m told bound frame ops) f (item.Inst (stands_at f frame.trail)) e next → Next next
    performs_guarded _ made next (Performs.makes c n moves) = done m loans Placed given kept bound s rest frame f first x here ops ops_are c made s next moves
    performs_guarded _ made next (Performs.calls g args callee n there bodied before entering) =
        called m loans Placed given kept bound s rest frame f first x here ops ops_are verified g args made callee there bodied before next entering
    performs_guarded _ made next (Performs.calls_out g args callee numbers n there bare is turn moves) =
        called_out m loans Placed given kept bound s rest frame f first (item.Inst (stands_at f frame.trail)) comes ops ops_are _ next moves
    performs_guarded _ made _ (Performs.no_turn g args callee numbers there bare is turn) = tt
    performs_guarded _ made _ (Performs.traps t) = tt
    performs_guarded _ made _ (Performs.no_callee g args there) = tt
    performs_guarded _ made _ (Performs.no_numbers g args callee there bare is) = tt
    performs_guarded _ made _ (Performs.wrong_place g args callee there bodied before) = tt
    performs_guarded _ made _ (Performs.faults y) = tt
    performs_guarded _ made _ Performs.unfit = tt

  -- ---- returns

  -- an Owned value, or one without an owner
  taken_in : {T : Type 0} (f g : Function) (r : ValueId) → f ≡ g → (kind_at (declarations_of m) f r ≡ kind.Owned) ⊎ ((kind_at (declarations_of m) f r ≡ kind.Plain) × T)
      → (kind_at (declarations_of m) g r ≡ kind.Owned) ⊎ (kind_at (declarations_of m) g r ≡ kind.Plain)
  taken_in f g r same (inl owned) = inl (ap (λ h. kind_at d h r) (sym same) ∙ owned)
  taken_in f g r same (inr plain) = inr (ap (λ h. kind_at d h r) (sym same) ∙ plain.0)

  module _ (s : HolderState) (callee : Frame) (w : World) (state : IsPlacedState m loans Placed s) (x : Datum) (v : Value) (is_value : x ≡ ValueOf v)
      (unnamed : (o : ObjectId) → is_dead s.memory o ≡ true → in_datum (one_object o) x ≡ 0) where
    resumes_guarded : (rest : List (Task Frame)) (frame : Frame) (f : Function) → s.tasks ≡ Runs callee ∷ Runs frame ∷ rest
        → IsGuardedRun m loans s.memory (Runs callee ∷ Runs frame ∷ rest) → WaitsTyped m w callee frame rest → slice_get m.functions frame.function.0 ≡ Some f → (next : HolderNext)
        → GoesBehind m told bound s rest frame f (item.Inst (stands_at f frame.trail)) (record (unchanged s.memory) { results = x ∷ [] }) next → Next next
    resumes_guarded rest frame f tasks run waits there _ (GoesBehind.goes slots entries slots_are put) = λ placed.
        let is = frame_of m w frame waits.f f waits.of there in
        let a = accepted_body m frame.function.0 f verified there is.bodied in
        let same : waits.f ≡ f = same_Some waits.f f (sym waits.of.is ∙ there) in
        let here : inst_at f (stands_at f frame.trail) ≡ Some waits.call = subst (λ g. inst_at g (stands_at g frame.trail) ≡ Some waits.call) same waits.stands in
        let put' : results_put (facts_in d f) (item_defined f (item.Inst (stands_at f frame.trail))) (x ∷ []) frame.entries ≡ Ok entries =
        ap (λ facts. results_put facts (item_defined f (item.Inst (stands_at f frame.trail))) (x ∷ []) frame.entries) (sym (run_facts m frame.function f there)) ∙ put in
        returns_guarded m loans s.memory rest callee frame f (item.Inst (stands_at f frame.trail)) x slots entries run (record {
          is = there;
          put = put';
          arguments = λ u argument. arguments_of_entry m frame.function.0 f a (item.Inst (stands_at f frame.trail)) (λ e. cc) u argument;
          right = returned_right m frame.function.0 f a (stands_at f frame.trail) waits.call here waits.result waits.results (taken_in waits.f f waits.result same waits.taken)
              (loans f frame) (loans f (frame_behind m loans frame (item.Inst (stands_at f frame.trail)) entries slots)) s.memory frame.entries x v is_value
              (kept.resumed s (moved m told bound s rest frame (item.Inst (stands_at f frame.trail)) (record (unchanged s.memory) { results = x ∷ [] }) slots entries) rest
              callee frame f (record (unchanged s.memory) { results = x ∷ [] }) slots entries (record {
                state = state;
                tasks = tasks;
                there = there;
                memory = refl;
                same_slots = refl;
                leads = record { state = placed; tasks = refl; memory = refl; slots_are = slots_are; put = put' };
              }));
          none = unnamed;
        })
    resumes_guarded rest frame f tasks run waits there _ (GoesBehind.wrong_slot y e) = tt
    resumes_guarded rest frame f tasks run waits there _ (GoesBehind.wrong_result slots y is put) = tt

    reaches_guarded : (rest : List (Task Frame)) → s.tasks ≡ Runs callee ∷ rest → IsGuardedRun m loans s.memory (Runs callee ∷ rest) → BelowTyped m w callee rest
        → (next : HolderNext) → Reaches m told bound s x rest next → Next next
    reaches_guarded _ tasks run typed _ (Reaches.ends y is) = tt
    reaches_guarded _ tasks run typed next (Reaches.resumes frame rest f n there moves) = resumes_guarded rest frame f tasks run typed.0 there next moves
    reaches_guarded _ tasks run typed _ (Reaches.finishes deinits o rest) = λ placed. deinit_returns_guarded m loans s.memory rest callee deinits o run
    reaches_guarded _ tasks run typed _ (Reaches.no_value is) = tt
    reaches_guarded _ tasks run typed _ (Reaches.no_function frame rest there) = tt
    reaches_guarded _ tasks run typed _ (Reaches.on_drops os rest) = tt

  -- ---- a frame goes on

  module _ (s : HolderState) (rest : List (Task Frame)) (frame : Frame) (f : Function) (first : IsFirst m loans Placed s rest frame f) (running : Running m s rest frame f) where
    operands_so : (i : Item) (ops : Operands) → operands_in m told bound s frame f i ≡ Ok ops
        → operands_of (facts_in d f) s.memory frame.entries (item_taken f i) ≡ Ok ops
    operands_so i ops found = ap (λ facts. operands_of facts s.memory frame.entries (item_taken f i)) (sym (run_facts m frame.function f first.is.is)) ∙ found

    leaves_guarded : (i : Inst) → StandsAtEnd m told bound frame f i → ending_of i.op ≡ ending.Return → (ops : Operands)
        → operands_in m told bound s frame f (item.Exit (stands_at f frame.trail)) ≡ Ok ops → (x : Datum) → only ops.given ≡ Some x → (next : HolderNext)
        → Leaves m told bound s rest (left_with m told bound frame ops) f x next → Next next
    leaves_guarded i stands return ops found x one next (Leaves.leaves n held slots places reaches) =
        let y = returned m verified bound s rest frame f running i stands return ops found in
        let same : y.0 ≡ x = same_Some y.0 x (sym (ap only y.1) ∙ one) in
        let v = read_value m running.w y.2 (given_shape d f) refl in
        let alone : ops.given ≡ x ∷ [] = only_one ops.given x one in
        reaches_guarded s frame running.w first.state x v.0 (sym same ∙ v.1)
        (λ o dead.
        let all : in_data (one_object o) ops.given ≡ 0 =
        dead_unnamed s.memory ops.given o
        (given_alive (facts_in d f) s.memory frame.entries (item_taken f (item.Exit (stands_at f frame.trail))) ops (operands_so (item.Exit (stands_at f frame.trail)) ops found)) dead in
        let is : in_data (one_object o) ops.given ≡ in_data (one_object o) (x ∷ []) = ap (in_data (one_object o)) alone in
        let whole : in_data (one_object o) (x ∷ []) ≡ in_datum (one_object o) x + 0 = total_cons (in_datum (one_object o)) x [] in
        omega (arith, all, is, whole))
        rest first.tasks first.run running.below next reaches
    leaves_guarded i stands return ops found x one _ (Leaves.holds held) = tt
    leaves_guarded i stands return ops found x one _ (Leaves.has_slot slots) = tt
    leaves_guarded i stands return ops found x one _ (Leaves.wrong_place places) = tt

    takes_guarded : (e : EdgeId) → ComesAt f (stands_at f frame.trail) (item.Edge e) → (next : HolderNext) → TakesEdge m told bound s rest frame f e next → Next next
    takes_guarded e comes next (TakesEdge.takes ops carried n found is turn moves) =
        taken_edge m loans Placed given kept bound s rest frame f first e comes ops (operands_so (item.Edge e) ops found) carried is _ next moves
    takes_guarded e comes _ (TakesEdge.no_turn ops carried found is turn) = tt
    takes_guarded e comes _ (TakesEdge.wrong_operand x found) = tt
    takes_guarded e comes _ (TakesEdge.not_carried ops found is) = tt

    acts_guarded : (next : HolderNext) → Acts m told bound s rest frame f next → Next next
    acts_guarded next (Acts.does i ops n here found performed) =
        performs_guarded s rest frame f first i here ops (operands_so (item.Inst (stands_at f frame.trail)) ops found) (refl, i, here)
        (steps.effect_in m told bound s frame i ops.given) refl next performed
    acts_guarded next (Acts.branches i n stands one along_edge) =
        takes_guarded (edge_of (stands_at f frame.trail) 0)
        (edge_comes m told bound frame.function.0 f first.body frame i stands 0 (ap leaves_function one)
        (one_edge m frame.function.0 f first.body (stands_at f frame.trail).block.0 i stands.terminator one)) next along_edge
    acts_guarded next (Acts.chooses i choose x v k n stands how by worth chosen along_edge) =
        takes_guarded (edge_of (stands_at f frame.trail) k)
        (edge_comes m told bound frame.function.0 f first.body frame i stands k (chooses_on m told bound frame.function.0 f first.body frame i stands choose how)
        (chosen_within m told bound frame.function.0 f first.body frame i stands choose how v k chosen)) next along_edge
    acts_guarded next (Acts.returns i ops x n stands return found one leaving) = leaves_guarded i stands return ops found x one next leaving
    acts_guarded _ (Acts.unreachable i stands e) = tt
    acts_guarded _ (Acts.wrong_operand i x here found) = tt
    acts_guarded _ (Acts.no_operand i choose stands how none) = tt
    acts_guarded _ (Acts.no_entry i choose stands how by) = tt
    acts_guarded _ (Acts.no_value i choose x stands how by none) = tt
    acts_guarded _ (Acts.no_choice i choose x v stands how by worth none) = tt
    acts_guarded _ (Acts.wrong_returned i x stands return found) = tt
    acts_guarded _ (Acts.not_one_returned i ops stands return found none) = tt
    acts_guarded _ (Acts.no_ending i stands e) = tt
    acts_guarded _ (Acts.no_terminator behind none) = tt

  -- ---- drops and finishes

  drops_one : (s : HolderState) (o : ObjectId) (os : List ObjectId) (rest : List (Task Frame)) → s.tasks ≡ Drops os ∷ rest
      → IsGuardedRun m loans s.memory (Drops os ∷ rest) → (next : HolderNext) → DropsOne m told bound s o next → Next next
  drops_one s o os rest tasks run _ (DropsOne.held_still left is) = λ placed. subst (IsGuardedRun m loans s.memory) (sym tasks) run
  drops_one s o os rest tasks run _ (DropsOne.not_live none dead) = λ placed. subst (IsGuardedRun m loans s.memory) (sym tasks) run
  drops_one s o os rest tasks run _ (DropsOne.deinitialises none live turn) = λ placed.
      subst (λ ts. IsGuardedRun m loans (in_phase Deiniting s.memory o) (Finishes (deinits_of d (object_at s.memory o).class) o ∷ ts)) (sym tasks)
      (deinits_guarded m loans s.memory os rest o (deinits_of d (object_at s.memory o).class) live run)
  drops_one s o os rest tasks run _ (DropsOne.no_turn none live turn) = tt

  finishes_one : (s : HolderState) (o : ObjectId) (rest : List (Task Frame)) → IsGuardedRun m loans s.memory (Finishes [] o ∷ rest) → (next : HolderNext)
      → FinishesOne m told bound (with_tasks m told bound s rest) o next → Next next
  finishes_one s o rest run _ (FinishesOne.finishes none) = λ placed. deaths_guarded m loans s.memory rest o run none
  finishes_one s o rest run _ (FinishesOne.escapes left is) = tt

  -- ---- a step

  steps_guarded : (s : HolderState) → IsPlacedState m loans Placed s → IsGuardedState m loans s → (next : HolderNext) → StepsBy m told bound s next → Next next
  steps_guarded s state guarded next (StepsBy.runs frame rest f n is there acts) =
      let typed = state.typed in
      let h = subst (TasksAre m typed.world) is typed.tasks in
      let k = subst (AreTasksTracked m) is state.tracked in
      let it = frame_of m typed.world frame h.0.0 f h.0.1 there in
      acts_guarded s rest frame f
      (record {
        state = state;
        tasks = is;
        run = subst (IsGuardedRun m loans s.memory) is guarded;
        body = accepted_body m frame.function.0 f verified there it.bodied;
        w = typed.world;
        memory = typed.memory;
        is = it;
        along = k.0 f there;
      })
      (record { w = typed.world; of = typed.of; memory = typed.memory; typed = it; below = h.1 })
      next acts
  steps_guarded s state guarded _ (StepsBy.dropped rest is) = λ placed. (drops_guarded m loans s.memory rest).1 (subst (IsGuardedRun m loans s.memory) is guarded)
  steps_guarded s state guarded next (StepsBy.drops o os rest n is dropping_one) =
      drops_one _ o os rest refl ((drops_guarded m loans s.memory rest).0 o os (subst (IsGuardedRun m loans s.memory) is guarded)) next dropping_one
  steps_guarded s state guarded next (StepsBy.finishes o rest n is finishing) = finishes_one s o rest (subst (IsGuardedRun m loans s.memory) is guarded) next finishing
  steps_guarded s state guarded next (StepsBy.calls_deinit g gs o rest f n is there entering) = by next entering
    where
      typed : TasksAre m state.typed.world (Finishes (g ∷ gs) o ∷ rest)
      typed = subst (TasksAre m state.typed.world) is state.typed.tasks

      bodied : has_any f.blocks ≡ true
      bodied =
          let deinit = typed.0.1.0 in
          let body = (owned_typed m verified).deinits deinit.class g deinit.is in
          subst (λ x. has_any x.blocks ≡ true) (same_Some body.body f (sym body.there ∙ there)) body.bodied

      by : (next : HolderNext) → Enters m told bound (with_tasks m told bound s (Finishes gs o ∷ rest)) (Finishes gs o ∷ rest) g f (ValueOf (value.Object o) ∷ []) next → Next next
      by _ (Enters.enters entries put deep turn) = λ placed.
          deinit_entered m loans s.memory rest g gs o (subst (IsGuardedRun m loans s.memory) is guarded) f (accepted_body m g.0 f verified there bodied) entries
          (ap (λ facts. results_put facts (item_defined f item.Entry) (ValueOf (value.Object o) ∷ []) (no_entries (value_count f))) (sym (run_facts m g f there)) ∙ put)
      by _ (Enters.wrong_argument x put) = tt
      by _ (Enters.too_deep deep) = tt
      by _ (Enters.no_turn deep turn) = tt
  steps_guarded s state guarded _ (StepsBy.no_task is) = tt
  steps_guarded s state guarded _ (StepsBy.no_function frame rest is there) = tt
  steps_guarded s state guarded _ (StepsBy.no_deinit g gs o rest is there) = tt

modules_give : Given
modules_give = record { current = frames_current; rows = typed_for_rows; edges = carry_typed_values }

pub steps_stay_guarded_where : AreStepsGuardedWhere
steps_stay_guarded_where m loans Placed bound s next verified kept state placed guarded e =
    subst (GuardedNext m loans Placed) e
    (steps_guarded m loans Placed modules_give kept bound verified s state guarded (steps.step m (facts_of m) bound s) (steps_told m (facts_of m) bound s)) placed

-- No step of a guarded state ends where an operand names a dead object.
use Rattle.std.proofs.Common.{◌≡◌, ℕ, List, ◌∷◌, refl, sym, ap, ◌∙◌, subst, false, Err}
use Rattle.sil_cfg_items.specs.Items.{item_defined, item_taken}
use Rattle.sil_ast.specs.declared.function.Function.{Function}
use Rattle.sil_ast.specs.declared.module.Module.{Module}
use Rattle.sil_ast.specs.declared.place.EdgeId.{EdgeId}
use Rattle.sil_ast.specs.declared.place.FuncId.{FuncId}
use Rattle.sil_ast.specs.declared.place.ObjectId.{ObjectId}
use Rattle.sil_cfg.specs.Items.{leaves_function}
use Rattle.sil_cfg.specs.declared.item.Item.{Item}
use Rattle.sil_cfg.specs.declared.item.Item.TheVariants as item
use Rattle.sil_types_declarations.specs.TypeDefinitions.Declarations.{Declarations, declarations_of}
use Rattle.sil_verifier_frames.specs.sil_verifier_accepted.AcceptedModules.inner.Checked.{IsVerified}
use Rattle.sil_verifier_frames.specs.sil_verifier_values.inner.Known.{IsAcceptedBody}
use Rattle.sil_verifier_frames.proofs.sil_verifier_values.Facts.{run_facts}
use Rattle.sil_verifier_frames.specs.ownership_kinds_origins.Facts.{facts_in}
use Rattle.sil_verifier_frames.specs.sil_verifier_trails.RunTrails.inner.RunTrails.{ComesAt}
use Rattle.sil_verifier_frames.proofs.sil_verifier_trails.RunTrails.WalkEdges.{are_next}
use Rattle.sil_verifier_frames.specs.holder_model.Calling.{value_count}
use Rattle.sil_verifier_frames.specs.holder_model.Data.{Datum}
use Rattle.sil_verifier_frames.specs.holder_model.Edges.{edge_of}
use Rattle.sil_verifier_frames.specs.holder_model.Effects as effects
use Rattle.sil_verifier_frames.specs.holder_model.Effects.{Change}
use Rattle.sil_verifier_frames.specs.holder_model.Faults.{HolderFault, NamesDead}
use Rattle.sil_verifier_frames.specs.holder_model.Frames.{Frame, no_entries, operands_of}
use Rattle.sil_verifier_frames.specs.holder_model.HolderStates.{HolderNext, HolderState}
use Rattle.sil_verifier_frames.specs.holder_model.ModuleFacts.{ModuleFacts, facts_of, facts_told}
use Rattle.sil_verifier_frames.specs.holder_model.Standing.{stands_at}
use Rattle.sil_verifier_frames.specs.holder_model.States.{Ends, Faulted, Goes, OutOfTurns, Returned, Runs, Task, Trapped}
use Rattle.sil_verifier_frames.specs.holder_model.Steps as steps
use Rattle.sil_verifier_frames.specs.holder_model_laws.HolderLaws.inner.Steps.Ways.{Acts, DropsOne, Enters, FinishesOne, GoesBehind, Leaves, Performs, Reaches, StepsBy, TakesEdge, operands_in}
use Rattle.sil_verifier_frames.proofs.holder_model_laws.HolderLaws.Steps.StepsTold.{steps_told}
use Rattle.sil_verifier_frames.proofs.holder_model_laws.HolderLaws.Steps.WhichFaults.{IsOperandFault, IsPlaceFault, IsResultFault, effect_faults, operands_err, results_err, slots_err}
use Rattle.sil_verifier_frames.specs.holder_model_typing.TypedMemory.inner.Worlds.{World}
use Rattle.sil_verifier_frames.specs.inner.Typed.TypedStates.{FrameIs, TasksAre}
use Rattle.sil_verifier_frames.specs.inner.Tracked.TrackedStates.{AreTasksTracked, GoesAlong, IsTrackedState}
use Rattle.sil_verifier_frames.proofs.Tracked.HowValuesEnd.{accepted_body}
use Rattle.sil_verifier_frames.proofs.Tracked.NextItems.{chooses_on, chosen_within, edge_comes, exit_comes, inst_comes, one_edge}
use Rattle.sil_verifier_runs.specs.inner.Guarded.GuardedStates.{IsGuardedState, Loans}
use Rattle.sil_verifier_runs.specs.inner.Guarded.Laws.{NoDeadFaults, is_dead_fault}
use Rattle.sil_verifier_runs.proofs.Guarded.FramesCurrent.{frames_current}
use Rattle.sil_verifier_runs.proofs.Guarded.Alive.{operands_alive}
use Rattle.sil_verifier_runs.proofs.Guarded.FirstFrames.{frame_of}

abbrev DeadNext : HolderNext → Type 0
DeadNext (Goes s) = Unit {0}
DeadNext (Ends (Returned x) s) = Unit {0}
DeadNext (Ends (Trapped t) s) = Unit {0}
DeadNext (Ends OutOfTurns s) = Unit {0}
DeadNext (Ends (Faulted x) s) = is_dead_fault x ≡ false

place_fault : (x : HolderFault) → IsPlaceFault x → is_dead_fault x ≡ false
place_fault _ IsPlaceFault.empty_place = refl
place_fault _ IsPlaceFault.full_place = refl
place_fault _ IsPlaceFault.not_last_slot = refl

result_fault : (x : HolderFault) → IsResultFault x → is_dead_fault x ≡ false
result_fault _ IsResultFault.overwrites_held = refl
result_fault _ IsResultFault.wrong_shape = refl

operand_fault : (x : HolderFault) → IsOperandFault x → (x ≡ NamesDead → ⊥) → is_dead_fault x ≡ false
operand_fault _ IsOperandFault.no_entry other = refl
operand_fault _ IsOperandFault.consumes_lent other = refl
operand_fault _ IsOperandFault.names_dead other = absurd (other refl)

module _ (m : Module) (bound : ℕ) where
  abbrev d : Declarations
  d = declarations_of m

  abbrev told : ModuleFacts
  told = facts_of m

  behind_dead : (s : HolderState) (rest : List (Task Frame)) (frame : Frame) (f : Function) (i : Item) (c : Change) (next : HolderNext)
      → GoesBehind m told bound s rest frame f i c next → DeadNext next
  behind_dead s rest frame f i c _ (GoesBehind.goes slots entries is put) = tt
  behind_dead s rest frame f i c _ (GoesBehind.wrong_slot x e) = ap is_dead_fault (slots_err c.slots frame.slots x e)
  behind_dead s rest frame f i c _ (GoesBehind.wrong_result slots x is put) =
      result_fault x (results_err (facts_told told frame.function) (item_defined f i) c.results frame.entries x put)

  enters_dead : (s : HolderState) (rest : List (Task Frame)) (g : FuncId) (callee : Function) (args : List Datum) (next : HolderNext)
      → Enters m told bound s rest g callee args next → DeadNext next
  enters_dead s rest g callee args _ (Enters.enters entries put deep turn) = tt
  enters_dead s rest g callee args _ (Enters.wrong_argument x put) =
      result_fault x (results_err (facts_told told g) (item_defined callee item.Entry) args (no_entries (value_count callee)) x put)
  enters_dead s rest g callee args _ (Enters.too_deep deep) = tt
  enters_dead s rest g callee args _ (Enters.no_turn deep turn) = tt

  performs_dead : (s : HolderState) (rest : List (Task Frame)) (frame : Frame) (f : Function) (i : Item) (e : effects.Effect HolderFault) (next : HolderNext)
      → Performs m told bound s rest frame f i e next → ((x : HolderFault) → e ≡ effects.Faults x → is_dead_fault x ≡ false) → DeadNext next
  performs_dead s rest frame f i _ next (Performs.makes c n moves) h = behind_dead s rest frame f i c next moves
  performs_dead s rest frame f i _ next (Performs.calls g args callee n there bodied before entering) h = enters_dead _ _ g callee _ next entering
  performs_dead s rest frame f i _ next (Performs.calls_out g args callee numbers n there bare is turn moves) h = behind_dead _ rest frame f i _ next moves
  performs_dead s rest frame f i _ _ (Performs.no_turn g args callee numbers there bare is turn) h = tt
  performs_dead s rest frame f i _ _ (Performs.traps t) h = tt
  performs_dead s rest frame f i _ _ (Performs.no_callee g args there) h = refl
  performs_dead s rest frame f i _ _ (Performs.no_numbers g args callee there bare is) h = refl
  performs_dead s rest frame f i _ _ (Performs.wrong_place g args callee there bodied before) h = refl
  performs_dead s rest frame f i _ _ (Performs.faults x) h = h x refl
  performs_dead s rest frame f i _ _ Performs.unfit h = refl

  reaches_dead : (s : HolderState) (x : Datum) (rest : List (Task Frame)) (next : HolderNext) → Reaches m told bound s x rest next → DeadNext next
  reaches_dead s x _ _ (Reaches.ends v is) = tt
  reaches_dead s x _ next (Reaches.resumes frame rest f n there moves) = behind_dead s rest frame f (item.Inst (stands_at f frame.trail)) _ next moves
  reaches_dead s x _ _ (Reaches.finishes deinits o rest) = tt
  reaches_dead s x _ _ (Reaches.no_value is) = refl
  reaches_dead s x _ _ (Reaches.no_function frame rest there) = refl
  reaches_dead s x _ _ (Reaches.on_drops os rest) = refl

  leaves_dead : (s : HolderState) (rest : List (Task Frame)) (frame : Frame) (f : Function) (x : Datum) (next : HolderNext) → Leaves m told bound s rest frame f x next
      → DeadNext next
  leaves_dead s rest frame f x next (Leaves.leaves n held slots places reaches) = reaches_dead s x rest next reaches
  leaves_dead s rest frame f x _ (Leaves.holds held) = refl
  leaves_dead s rest frame f x _ (Leaves.has_slot slots) = refl
  leaves_dead s rest frame f x _ (Leaves.wrong_place places) = refl

  drops_dead : (s : HolderState) (o : ObjectId) (next : HolderNext) → DropsOne m told bound s o next → DeadNext next
  drops_dead s o _ (DropsOne.held_still left is) = tt
  drops_dead s o _ (DropsOne.not_live none dead) = tt
  drops_dead s o _ (DropsOne.deinitialises none live turn) = tt
  drops_dead s o _ (DropsOne.no_turn none live turn) = tt

  finishes_dead : (s : HolderState) (o : ObjectId) (next : HolderNext) → FinishesOne m told bound s o next → DeadNext next
  finishes_dead s o _ (FinishesOne.finishes none) = tt
  finishes_dead s o _ (FinishesOne.escapes left is) = tt

  -- ---- a frame goes on

  module _ (verified : IsVerified m) (loans : Loans) (w : World) (s : HolderState) (guarded : IsGuardedState m loans s)
      (rest : List (Task Frame)) (frame : Frame) (f : Function) (tasks : s.tasks ≡ Runs frame ∷ rest) (is : FrameIs m w f frame) (along : GoesAlong d f frame) where
    a : IsAcceptedBody m frame.function.0 f
    a = accepted_body m frame.function.0 f verified is.is is.bodied

    operands_dead : (i : Item) → ComesAt f (stands_at f frame.trail) i → (x : HolderFault) → operands_in m told bound s frame f i ≡ Err x → is_dead_fault x ≡ false
    operands_dead i comes x e = operand_fault x (operands_err (facts_told told frame.function) s.memory frame.entries (item_taken f i) x e) (λ dead. alive (found ∙ ap Err dead))
      where
        found : operands_of (facts_in d f) s.memory frame.entries (item_taken f i) ≡ Err x
        found = ap (λ facts. operands_of facts s.memory frame.entries (item_taken f i)) (sym (run_facts m frame.function f is.is)) ∙ e

        alive : operands_of (facts_in d f) s.memory frame.entries (item_taken f i) ≡ Err NamesDead → ⊥
        alive = operands_alive m loans s frame rest f (item_taken f i) guarded tasks is.is
            (frames_current m frame.function.0 f a (loans f frame) s.memory frame i (are_next f frame.trail i is.goes comes, is.trail) along)

    takes_dead : (e : EdgeId) → ComesAt f (stands_at f frame.trail) (item.Edge e) → (next : HolderNext) → TakesEdge m told bound s rest frame f e next → DeadNext next
    takes_dead e comes next (TakesEdge.takes ops carried n found is turn moves) = behind_dead _ rest _ f (item.Edge e) _ next moves
    takes_dead e comes _ (TakesEdge.no_turn ops carried found is turn) = tt
    takes_dead e comes _ (TakesEdge.wrong_operand x found) = operands_dead (item.Edge e) comes x found
    takes_dead e comes _ (TakesEdge.not_carried ops found is) = refl

    acts_dead : (next : HolderNext) → Acts m told bound s rest frame f next → DeadNext next
    acts_dead next (Acts.does i ops n here found performed) =
        performs_dead s rest _ f (item.Inst (stands_at f frame.trail)) (steps.effect_in m told bound s frame i ops.given) next performed
        (λ x e. place_fault x (effect_faults d told.shapes (steps.shapes m told bound frame.function) s.memory i ops.given x e))
    acts_dead next (Acts.branches i n stands one along_edge) =
        takes_dead (edge_of (stands_at f frame.trail) 0)
        (edge_comes m told bound frame.function.0 f a frame i stands 0 (ap leaves_function one) (one_edge m frame.function.0 f a (stands_at f frame.trail).block.0 i stands.terminator one))
        next along_edge
    acts_dead next (Acts.chooses i choose x v k n stands how by worth chosen along_edge) =
        takes_dead (edge_of (stands_at f frame.trail) k)
        (edge_comes m told bound frame.function.0 f a frame i stands k (chooses_on m told bound frame.function.0 f a frame i stands choose how)
        (chosen_within m told bound frame.function.0 f a frame i stands choose how v k chosen)) next along_edge
    acts_dead next (Acts.returns i ops x n stands return found one leaving) = leaves_dead s rest _ f x next leaving
    acts_dead _ (Acts.unreachable i stands e) = tt
    acts_dead _ (Acts.wrong_operand i x here found) = operands_dead (item.Inst (stands_at f frame.trail)) (inst_comes f (stands_at f frame.trail) i here) x found
    acts_dead _ (Acts.no_operand i choose stands how none) = refl
    acts_dead _ (Acts.no_entry i choose stands how by) = refl
    acts_dead _ (Acts.no_value i choose x stands how by none) = refl
    acts_dead _ (Acts.no_choice i choose x v stands how by worth none) = refl
    acts_dead _ (Acts.wrong_returned i x stands return found) = operands_dead (item.Exit (stands_at f frame.trail)) (exit_comes m told bound frame.function.0 f a frame i stands return) x found
    acts_dead _ (Acts.not_one_returned i ops stands return found none) = refl
    acts_dead _ (Acts.no_ending i stands e) = refl
    acts_dead _ (Acts.no_terminator behind none) = refl

  -- ---- a step

  module _ (verified : IsVerified m) (loans : Loans) (w : World) (s : HolderState) (typed : TasksAre m w s.tasks) (tracked : IsTrackedState m s)
      (guarded : IsGuardedState m loans s) where
    steps_dead : (next : HolderNext) → StepsBy m told bound s next → DeadNext next
    steps_dead next (StepsBy.runs frame rest f n is there acts) =
        let h = subst (TasksAre m w) is typed in
        let k = subst (AreTasksTracked m) is tracked in
        acts_dead verified loans w s guarded rest frame f is (frame_of m w frame h.0.0 f h.0.1 there) (k.0 f there) next acts
    steps_dead _ (StepsBy.dropped rest is) = tt
    steps_dead next (StepsBy.drops o os rest n is dropping_one) = drops_dead _ o next dropping_one
    steps_dead next (StepsBy.finishes o rest n is finishing) = finishes_dead _ o next finishing
    steps_dead next (StepsBy.calls_deinit g gs o rest f n is there entering) = enters_dead _ _ g f _ next entering
    steps_dead _ (StepsBy.no_task is) = refl
    steps_dead _ (StepsBy.no_function frame rest is there) = refl
    steps_dead _ (StepsBy.no_deinit g gs o rest is there) = refl

pub no_dead_faults : NoDeadFaults
no_dead_faults m loans bound s last x verified typed tracked guarded e =
    subst DeadNext e (steps_dead m bound verified loans typed.world s typed.tasks tracked guarded (steps.step m (facts_of m) bound s) (steps_told m (facts_of m) bound s))

-- A step of a tracked state leads to a tracked one, and ends in no fault of entries.
use Rattle.std.proofs.Common.{◌≡◌, ℕ, List, [], ◌∷◌, length, refl, sym, ap, ◌∙◌, subst, true, false, Option, Some, None, Ok, Err}
use Rattle.std.specs.Prelude.{slice_get, unwrap_or}
use Rattle.std.proofs.lemmas.Bool.{true≢false}
use Rattle.std.proofs.lemmas.Option.{same_Some}
use Rattle.instruction_table.specs.Forms.{ending_of}
use Rattle.instruction_table.specs.declared.entries.Ending.TheVariants as ending
use Rattle.sil_cfg_items.specs.Items.{item_defined, item_taken}
use Rattle.sil_cfg_items.specs.Parts.{inst_at}
use Rattle.holder_model_laws.specs.ownership_kinds_chains.OwnershipChains.Facts.{value_of}
use Rattle.holder_model_values.specs.RunValues.Memory.{object_at}
use Rattle.sil_ast.specs.declared.function.Function.{Function}
use Rattle.sil_ast.specs.declared.inst.Inst.{Inst}
use Rattle.sil_ast.specs.declared.module.Module.{Module}
use Rattle.sil_ast.specs.declared.place.EdgeId.{EdgeId}
use Rattle.sil_ast.specs.declared.place.FuncId.{FuncId}
use Rattle.sil_ast.specs.declared.place.ObjectId.{ObjectId}
use Rattle.sil_cfg.specs.Items.{leaves_function}
use Rattle.sil_cfg.specs.declared.item.Item.{Item}
use Rattle.sil_cfg.specs.declared.item.Item.TheVariants as item
use Rattle.sil_types_declarations.specs.TypeDefinitions.Declarations.{Declarations, declarations_of}
use Rattle.sil_verifier_trails.specs.sil_verifier_values.inner.Known.{IsAcceptedBody}
use Rattle.sil_verifier_trails.specs.sil_verifier_accepted.AcceptedModules.inner.Checked.{IsVerified}
use Rattle.sil_verifier_trails.proofs.sil_verifier_values.Facts.{run_facts}
use Rattle.sil_verifier_trails.proofs.holder_model_typing.RunTypingLaws.ListFacts.{get_next}
use Rattle.sil_verifier_trails.specs.RunTrails.inner.RunTrails.{ComesAt, IsTurnedTrail}
use Rattle.holder_model_laws.specs.holder_model.Calling.{holds_something, value_count}
use Rattle.holder_model_laws.specs.holder_model.Data.{Datum}
use Rattle.holder_model_laws.specs.holder_model.Dropping.{field_references}
use Rattle.holder_model_laws.specs.holder_model.Edges.{edge_of}
use Rattle.holder_model_laws.specs.holder_model.Effects as effects
use Rattle.holder_model_laws.specs.holder_model.Effects.{Change}
use Rattle.holder_model_laws.specs.holder_model.Faults.{HolderFault}
use Rattle.holder_model_laws.specs.holder_model.Frames.{Entry, Frame, Gone, Operands, entry_at, has_any, is_held, no_entries, operands_of, results_put}
use Rattle.holder_model_laws.specs.holder_model.HolderStates.{HolderNext, HolderState}
use Rattle.holder_model_laws.specs.holder_model.ModuleFacts.{ModuleFacts, facts_of}
use Rattle.holder_model_laws.specs.holder_model.Standing.{stands_at}
use Rattle.holder_model_laws.specs.holder_model.StepParts.{new_frame}
use Rattle.holder_model_laws.specs.holder_model.States.{Ends, Faulted, Goes, OutOfTurns, Returned, Runs, Task, Trapped, dropping}
use Rattle.holder_model_laws.specs.holder_model.Steps as steps
use Rattle.holder_model_laws.specs.ownership_kinds_origins.Facts.{facts_in}
use Rattle.sil_verifier_trails.proofs.HeldEntries.TrackedOn.{none_held_at_return}
use Rattle.sil_verifier_trails.proofs.AcceptedTrails.Tests.{first_of}
use Rattle.holder_model_laws.specs.HolderLaws.inner.Steps.Stacks.{Below}
use Rattle.holder_model_laws.specs.HolderLaws.inner.Steps.Ways.{Acts, DropsOne, Enters, FinishesOne, GoesBehind, Leaves, Performs, Reaches, StandsAtEnd, StepsBy, TakesEdge, left_with, lent_at}
use Rattle.holder_model_laws.specs.HolderLaws.inner.Steps.Ways.{operands_in}
use Rattle.holder_model_laws.proofs.HolderLaws.Steps.StepsTold.{steps_told}
use Rattle.holder_model_laws.proofs.HolderLaws.Steps.TaskStacks.{below_another, going_dropping}
use Rattle.holder_model_laws.proofs.HolderLaws.Steps.WhichFaults.{IsPlaceFault, effect_faults, slots_err}
use Rattle.sil_verifier_trails.specs.holder_model_typing.TypedMemory.inner.Worlds.{World}
use Rattle.sil_verifier_frames.specs.inner.Typed.TypedStates.{DeinitsTyped, DroppedTyped, FinishedTyped, FrameIs, GoesTyped, IsTypedState, TasksAre, WaitsTyped}
use Rattle.sil_verifier_frames.specs.inner.Tracked.Laws.{AreEntriesRight, AreStepsTracked, is_entry_fault}
use Rattle.sil_verifier_frames.specs.inner.Tracked.TrackedStates.{AreTasksTracked, GoesAlong, InFunction, IsThere, IsTrackedState, WaitsAlong}
use Rattle.sil_verifier_frames.proofs.Tracked.ConsumedValues.{owned_typed}
use Rattle.sil_verifier_frames.proofs.Tracked.Entering.{entered, entry_turned}
use Rattle.sil_verifier_frames.proofs.Tracked.HowValuesEnd.{accepted_body, accepted_in, is_owned_in}
use Rattle.sil_verifier_frames.proofs.Tracked.NextItems.{chooses_on, chosen_within, edge_comes, exit_comes, exit_returns, first_taken, first_within, inst_comes, one_edge, turned_next}
use Rattle.sil_verifier_frames.proofs.Tracked.OperandsFound.{held_left, operand_there, operands_left, operands_right, others_left, size_left, there_datum, tracked_left, typed_held}
use Rattle.sil_verifier_frames.proofs.Tracked.ResultsPut.{AreLeft, others_on, results_fault, tracked_on}

-- a fault of places is none of entries
place_fault : (x : HolderFault) → IsPlaceFault x → is_entry_fault x ≡ false
place_fault _ IsPlaceFault.empty_place = refl
place_fault _ IsPlaceFault.full_place = refl
place_fault _ IsPlaceFault.not_last_slot = refl

abbrev TrackedNext : Module → HolderNext → Type 0
TrackedNext m (Goes s) = IsTrackedState m s
TrackedNext m (Ends (Returned x) s) = Unit {0}
TrackedNext m (Ends (Trapped t) s) = Unit {0}
TrackedNext m (Ends OutOfTurns s) = Unit {0}
TrackedNext m (Ends (Faulted x) s) = is_entry_fault x ≡ false

abbrev TrackedBelow : Module → Frame → List (Task Frame) → Type 0
TrackedBelow m callee tasks =
    Below (λ frame rest. InFunction m GoesAlong frame) (λ callee frame rest. InFunction m WaitsAlong frame)
    (λ callee o. Unit {0}) (λ references. Unit {0}) (λ deinits o. Unit {0}) callee tasks

abbrev TypedBelow : Module → World → Frame → List (Task Frame) → Type 0
TypedBelow m w callee tasks = Below (GoesTyped m w) (WaitsTyped m w) (DeinitsTyped m w) (DroppedTyped m w) (FinishedTyped m w) callee tasks

-- of a function's frame, what holds in this function holds in whichever the module has there
pub in_function : (m : Module) (P : Declarations → Function → Frame → Type 0) (frame : Frame) (f : Function) → slice_get m.functions frame.function.0 ≡ Some f
    → P (declarations_of m) f frame → InFunction m P frame
in_function m P frame f is h g there = subst (λ x. P (declarations_of m) x frame) (same_Some f g (sym is ∙ there)) h

frame_of : (m : Module) (w : World) (frame : Frame) (f g : Function) → FrameIs m w f frame → slice_get m.functions frame.function.0 ≡ Some g → FrameIs m w g frame
frame_of m w frame f g is there = subst (λ x. FrameIs m w x frame) (same_Some f g (sym is.is ∙ there)) is

-- references wait to be dropped
dropping_tracked : (m : Module) (os : List ObjectId) (tasks : List (Task Frame)) → AreTasksTracked m tasks → AreTasksTracked m (dropping os tasks)
dropping_tracked m os tasks h =
    going_dropping (λ frame rest. InFunction m GoesAlong frame) (λ callee frame rest. InFunction m WaitsAlong frame)
    (λ callee o. Unit {0}) (λ references. Unit {0}) (λ deinits o. Unit {0}) os tasks tt h

-- nothing is said of a callee
below_other : (m : Module) (callee other : Frame) (tasks : List (Task Frame)) → TrackedBelow m callee tasks → TrackedBelow m other tasks
below_other m callee other tasks h =
    below_another (λ frame rest. InFunction m GoesAlong frame) (λ callee frame rest. InFunction m WaitsAlong frame)
    (λ callee o. Unit {0}) (λ references. Unit {0}) (λ deinits o. Unit {0}) callee other tasks (λ frame rest x. x) (λ o x. x) h

module _ (m : Module) (bound : ℕ) (verified : IsVerified m) (w : World) where
  abbrev d : Declarations
  d = declarations_of m

  abbrev told : ModuleFacts
  told = facts_of m

  -- ---- behind an item

  behind_tracked : (s : HolderState) (rest : List (Task Frame)) (frame : Frame) (f : Function) (i : Item) (c : Change) (a : IsAcceptedBody m frame.function.0 f)
      → IsTurnedTrail f (i ∷ frame.trail) → AreLeft d f frame.trail i frame.entries → TrackedBelow m frame rest
      → (next : HolderNext) → GoesBehind m told bound s rest frame f i c next → TrackedNext m next
  behind_tracked s rest frame f i c a turned are below _ (GoesBehind.goes slots entries is put) =
      dropping_tracked m c.dropped (Runs (record frame { trail = i ∷ frame.trail; entries = entries; slots = slots; lent = [] }) ∷ rest) (
        in_function m GoesAlong (record frame { trail = i ∷ frame.trail; entries = entries; slots = slots; lent = [] }) f a.body.there (record {
          tracked = tracked_on m frame.function.0 f a frame.trail i turned frame.entries are c.results entries put';
          others = others_on m frame.function.0 f a frame.trail i turned frame.entries are c.results entries put';
        }),
        below_other m frame (record frame { trail = i ∷ frame.trail; entries = entries; slots = slots; lent = [] }) rest below,
      )
    where
      put' : results_put (facts_in d f) (item_defined f i) c.results frame.entries ≡ Ok entries
      put' = ap (λ facts. results_put facts (item_defined f i) c.results frame.entries) (sym (run_facts m frame.function f a.body.there)) ∙ put
  behind_tracked s rest frame f i c a turned are below _ (GoesBehind.wrong_slot x e) = ap is_entry_fault (slots_err c.slots frame.slots x e)
  behind_tracked s rest frame f i c a turned are below _ (GoesBehind.wrong_result slots x is put) =
      ap is_entry_fault (results_fault m frame.function.0 f a frame.trail i turned frame.entries are c.results x
      (ap (λ facts. results_put facts (item_defined f i) c.results frame.entries) (sym (run_facts m frame.function f a.body.there)) ∙ put))

  -- ---- a call

  enters_tracked : (s : HolderState) (rest : List (Task Frame)) (g : FuncId) (callee : Function) (args : List Datum) → IsAcceptedBody m g.0 callee
      → ((new : Frame) → TrackedBelow m new rest) → (next : HolderNext) → Enters m told bound s rest g callee args next → TrackedNext m next
  enters_tracked s rest g callee args a below _ (Enters.enters entries put deep turn) =
      let put' = ap (λ facts. results_put facts (item_defined callee item.Entry) args (no_entries (value_count callee))) (sym (run_facts m g callee a.body.there)) ∙ put in
      let turned = entry_turned m g.0 callee a in
      let are = entered d callee in (
        in_function m GoesAlong (new_frame g entries) callee a.body.there (record {
          tracked = tracked_on m g.0 callee a [] item.Entry turned (no_entries (value_count callee)) are args entries put';
          others = others_on m g.0 callee a [] item.Entry turned (no_entries (value_count callee)) are args entries put';
        }),
        below (new_frame g entries),
      )
  enters_tracked s rest g callee args a below _ (Enters.wrong_argument x put) =
      ap is_entry_fault (results_fault m g.0 callee a [] item.Entry (entry_turned m g.0 callee a) (no_entries (value_count callee)) (entered d callee) args x
      (ap (λ facts. results_put facts (item_defined callee item.Entry) args (no_entries (value_count callee))) (sym (run_facts m g callee a.body.there)) ∙ put))
  enters_tracked s rest g callee args a below _ (Enters.too_deep deep) = tt
  enters_tracked s rest g callee args a below _ (Enters.no_turn deep turn) = tt

  -- ---- what an instruction does, in a frame without the operands that ended

  module _ (s : HolderState) (rest : List (Task Frame)) (frame : Frame) (f : Function) (a : IsAcceptedBody m frame.function.0 f)
      (turned : IsTurnedTrail f (item.Inst (stands_at f frame.trail) ∷ frame.trail))
      (are : AreLeft d f frame.trail (item.Inst (stands_at f frame.trail)) frame.entries) (below : TrackedBelow m frame rest) where
    performs_tracked : (e : effects.Effect HolderFault) (next : HolderNext) → Performs m told bound s rest frame f (item.Inst (stands_at f frame.trail)) e next
        → ((x : HolderFault) → e ≡ effects.Faults x → is_entry_fault x ≡ false) → TrackedNext m next
    performs_tracked _ next (Performs.makes c n moves) h = behind_tracked s rest frame f (item.Inst (stands_at f frame.trail)) c a turned are below next moves
    performs_tracked _ next (Performs.calls g args callee n there bodied before entering) h =
        enters_tracked _ _ g callee _ (accepted_body m g.0 callee verified there bodied)
        (λ new. (
          in_function m WaitsAlong (record frame { lent = lent_at m told bound f (item.Inst (stands_at f frame.trail)) args }) f a.body.there
              (record { tracked = are.tracked; others = are.others }),
          below_other m frame (record frame { lent = lent_at m told bound f (item.Inst (stands_at f frame.trail)) args }) rest below,
        )) next entering
    performs_tracked _ next (Performs.calls_out g args callee numbers n there bare is turn moves) h =
        behind_tracked _ rest frame f (item.Inst (stands_at f frame.trail)) _ a turned are below next moves
    performs_tracked _ _ (Performs.no_turn g args callee numbers there bare is turn) h = tt
    performs_tracked _ _ (Performs.traps t) h = tt
    performs_tracked _ _ (Performs.no_callee g args there) h = refl
    performs_tracked _ _ (Performs.no_numbers g args callee there bare is) h = refl
    performs_tracked _ _ (Performs.wrong_place g args callee there bodied before) h = refl
    performs_tracked _ _ (Performs.faults x) h = h x refl
    performs_tracked _ _ Performs.unfit h = refl

  -- ---- returns

  -- the entries of a frame that waits
  waiting_left : (frame : Frame) (f : Function) → FrameIs m w f frame → WaitsAlong d f frame → AreLeft d f frame.trail (item.Inst (stands_at f frame.trail)) frame.entries
  waiting_left frame f is waits =
      record { tracked = waits.tracked; others = waits.others; size = is.entries.size; held = typed_held m w f frame.entries is.entries }

  reaches_tracked : (s : HolderState) (x : Datum) (callee : Frame) (rest : List (Task Frame)) → TypedBelow m w callee rest → TrackedBelow m callee rest
      → (next : HolderNext) → Reaches m told bound s x rest next → TrackedNext m next
  reaches_tracked s x callee _ typed below _ (Reaches.ends v is) = tt
  reaches_tracked s x callee _ typed below next (Reaches.resumes frame rest f n there moves) =
      let waits = typed.0 in
      let is = frame_of m w frame waits.f f waits.of there in
      let a = accepted_body m frame.function.0 f verified there is.bodied in
      let same = same_Some waits.f f (sym waits.of.is ∙ there) in
      let here = subst (λ g. inst_at g (stands_at g frame.trail) ≡ Some waits.call) same waits.stands in
      behind_tracked s rest frame f (item.Inst (stands_at f frame.trail)) _ a
      (turned_next m frame.function.0 f a frame.trail (item.Inst (stands_at f frame.trail)) is.trail is.goes (inst_comes f (stands_at f frame.trail) waits.call here))
      (waiting_left frame f is (below.0 f there)) below.1 next moves
  reaches_tracked s x callee _ typed below _ (Reaches.finishes deinits o rest) = (below.1, below.2)
  reaches_tracked s x callee _ typed below _ (Reaches.no_value is) = refl
  reaches_tracked s x callee _ typed below _ (Reaches.no_function frame rest there) = refl
  reaches_tracked s x callee _ typed below _ (Reaches.on_drops os rest) = refl

  -- ---- a frame goes on

  module _ (s : HolderState) (rest : List (Task Frame)) (frame : Frame) (f : Function) (is : FrameIs m w f frame) (along : GoesAlong d f frame)
      (typed : TypedBelow m w frame rest) (below : TrackedBelow m frame rest) where
    a : IsAcceptedBody m frame.function.0 f
    a = accepted_body m frame.function.0 f verified is.is is.bodied

    turned : (i : Item) → ComesAt f (stands_at f frame.trail) i → IsTurnedTrail f (i ∷ frame.trail)
    turned i comes = turned_next m frame.function.0 f a frame.trail i is.trail is.goes comes

    facts_so : (i : Item) → operands_in m told bound s frame f i ≡ operands_of (facts_in d f) s.memory frame.entries (item_taken f i)
    facts_so i = ap (λ facts. operands_of facts s.memory frame.entries (item_taken f i)) (run_facts m frame.function f is.is)

    -- no entry of an operand is wrong
    operand_fault : (i : Item) → ComesAt f (stands_at f frame.trail) i → (x : HolderFault) → operands_in m told bound s frame f i ≡ Err x → is_entry_fault x ≡ false
    operand_fault i comes x e =
        ap is_entry_fault (operands_right m frame.function.0 f a w frame.trail i (turned i comes) frame.entries is.entries along.tracked along.others s.memory x
        (sym (facts_so i) ∙ e))

    -- what the operands that end leave
    left_so : (i : Item) → ComesAt f (stands_at f frame.trail) i → (ops : Operands) → operands_in m told bound s frame f i ≡ Ok ops → AreLeft d f frame.trail i ops.left
    left_so i comes ops e =
        subst (AreLeft d f frame.trail i)
        (sym (operands_left m frame.function.0 f a w frame.trail i (turned i comes) frame.entries is.entries along.tracked along.others s.memory ops (sym (facts_so i) ∙ e)))
        (record {
          tracked = tracked_left m frame.function.0 f a w frame.trail i (turned i comes) frame.entries is.entries along.tracked along.others;
          others = others_left m frame.function.0 f a w frame.trail i (turned i comes) frame.entries is.entries along.tracked along.others;
          size = size_left m frame.function.0 f a w frame.trail i (turned i comes) frame.entries is.entries along.tracked along.others;
          held = held_left m frame.function.0 f a w frame.trail i (turned i comes) frame.entries is.entries along.tracked along.others;
        })

    below_left : (ops : Operands) → TrackedBelow m (left_with m told bound frame ops) rest
    below_left ops = below_other m frame (left_with m told bound frame ops) rest below

    takes_tracked : (e : EdgeId) → ComesAt f (stands_at f frame.trail) (item.Edge e) → (next : HolderNext) → TakesEdge m told bound s rest frame f e next → TrackedNext m next
    takes_tracked e comes next (TakesEdge.takes ops carried n found is turn moves) =
        behind_tracked _ rest (left_with m told bound frame ops) f (item.Edge e) _ a (turned (item.Edge e) comes) (left_so (item.Edge e) comes ops found)
        (below_left ops) next moves
    takes_tracked e comes _ (TakesEdge.no_turn ops carried found is turn) = tt
    takes_tracked e comes _ (TakesEdge.wrong_operand x found) = operand_fault (item.Edge e) comes x found
    takes_tracked e comes _ (TakesEdge.not_carried ops found is) = refl

    -- at a `return` none is held
    module _ (i : Inst) (stands : StandsAtEnd m told bound frame f i) (return : ending_of i.op ≡ ending.Return) (ops : Operands)
        (found : operands_in m told bound s frame f (item.Exit (stands_at f frame.trail)) ≡ Ok ops) where
      exits : ComesAt f (stands_at f frame.trail) (item.Exit (stands_at f frame.trail))
      exits = exit_comes m told bound frame.function.0 f a frame i stands return

      none_held : holds_something ops.left ≡ true → ⊥
      none_held held =
          let are = left_so (item.Exit (stands_at f frame.trail)) exits ops found in
          let e = first_of is_held ops.left held in
          let v = value_of (length e.front) in
          let there : entry_at ops.left v ≡ e.here =
          ap (λ (o : Option Entry). unwrap_or o Gone) (ap (λ es. slice_get es (length e.front)) e.parts ∙ get_next e.front e.here e.rest) in
          let holds : is_held (entry_at ops.left v) ≡ true = ap is_held there ∙ e.passes in
          let owned = is_owned_in m frame.function.0 f a v (are.held v holds) in
          true≢false
          (sym holds ∙ none_held_at_return d f (accepted_in m frame.function.0 f a) frame.trail (item.Exit (stands_at f frame.trail))
          (turned (item.Exit (stands_at f frame.trail)) exits) (exit_returns m told bound frame.function.0 f a frame i stands return) ops.left are.tracked v owned)

      leaves_tracked : (x : Datum) (next : HolderNext) → Leaves m told bound s rest (left_with m told bound frame ops) f x next → TrackedNext m next
      leaves_tracked x next (Leaves.leaves n held slots places reaches) = reaches_tracked s x frame rest typed below next reaches
      leaves_tracked x _ (Leaves.holds held) = absurd (none_held held)
      leaves_tracked x _ (Leaves.has_slot slots) = refl
      leaves_tracked x _ (Leaves.wrong_place places) = refl

    acts_tracked : (next : HolderNext) → Acts m told bound s rest frame f next → TrackedNext m next
    acts_tracked next (Acts.does i ops n here found performed) =
        performs_tracked s rest (left_with m told bound frame ops) f a (turned (item.Inst (stands_at f frame.trail)) (inst_comes f (stands_at f frame.trail) i here))
        (left_so (item.Inst (stands_at f frame.trail)) (inst_comes f (stands_at f frame.trail) i here) ops found) (below_left ops) (steps.effect_in m told bound s frame i ops.given) next performed
        (λ x e. place_fault x (effect_faults d told.shapes (steps.shapes m told bound frame.function) s.memory i ops.given x e))
    acts_tracked next (Acts.branches i n stands one along_edge) =
        takes_tracked (edge_of (stands_at f frame.trail) 0)
        (edge_comes m told bound frame.function.0 f a frame i stands 0 (ap leaves_function one) (one_edge m frame.function.0 f a (stands_at f frame.trail).block.0 i stands.terminator one))
        next along_edge
    acts_tracked next (Acts.chooses i choose x v k n stands how by worth chosen along_edge) =
        takes_tracked (edge_of (stands_at f frame.trail) k)
        (edge_comes m told bound frame.function.0 f a frame i stands k (chooses_on m told bound frame.function.0 f a frame i stands choose how)
        (chosen_within m told bound frame.function.0 f a frame i stands choose how v k chosen)) next along_edge
    acts_tracked next (Acts.returns i ops x n stands return found one leaving) = leaves_tracked i stands return ops found x next leaving
    acts_tracked _ (Acts.unreachable i stands e) = tt
    acts_tracked _ (Acts.wrong_operand i x here found) = operand_fault (item.Inst (stands_at f frame.trail)) (inst_comes f (stands_at f frame.trail) i here) x found
    acts_tracked _ (Acts.no_operand i choose stands how none) = refl
    acts_tracked _ (Acts.no_entry i choose stands how by) =
        let first = first_taken m told bound frame.function.0 f a frame i stands by.operand 0 by.first in
        let comes = edge_comes m told bound frame.function.0 f a frame i stands 0 (chooses_on m told bound frame.function.0 f a frame i stands choose how)
        (first_within m told bound frame.function.0 f a frame i stands choose how) in
        let there =
        operand_there m frame.function.0 f a w frame.trail (item.Edge (edge_of (stands_at f frame.trail) 0)) (turned (item.Edge (edge_of (stands_at f frame.trail) 0)) comes)
        frame.entries is.entries along.tracked along.others [] first.rest first.taken first.parts in
        let x = there_datum (entry_at frame.entries by.operand.value) (subst (λ v. IsThere (entry_at frame.entries v)) first.is there) in
        let two : None ≡ Some x.0 = sym by.is ∙ x.1 in
        absurd (cc)
    acts_tracked _ (Acts.no_value i choose x stands how by none) = refl
    acts_tracked _ (Acts.no_choice i choose x v stands how by worth none) = refl
    acts_tracked _ (Acts.wrong_returned i x stands return found) = operand_fault (item.Exit (stands_at f frame.trail)) (exit_comes m told bound frame.function.0 f a frame i stands return) x found
    acts_tracked _ (Acts.not_one_returned i ops stands return found none) = refl
    acts_tracked _ (Acts.no_ending i stands e) = refl
    acts_tracked _ (Acts.no_terminator behind none) = refl

  -- ---- drops and finishes

  drops_tracked : (s : HolderState) (o : ObjectId) → IsTrackedState m s → (next : HolderNext) → DropsOne m told bound s o next → TrackedNext m next
  drops_tracked s o tracked _ (DropsOne.held_still left is) = tracked
  drops_tracked s o tracked _ (DropsOne.not_live none dead) = tracked
  drops_tracked s o tracked _ (DropsOne.deinitialises none live turn) = (tt, tracked)
  drops_tracked s o tracked _ (DropsOne.no_turn none live turn) = tt

  finishes_tracked : (s : HolderState) (o : ObjectId) → IsTrackedState m s → (next : HolderNext) → FinishesOne m told bound s o next → TrackedNext m next
  finishes_tracked s o tracked _ (FinishesOne.finishes none) = dropping_tracked m (field_references (object_at s.memory o)) s.tasks tracked
  finishes_tracked s o tracked _ (FinishesOne.escapes left is) = tt

  -- ---- a step

  steps_tracked : (s : HolderState) → TasksAre m w s.tasks → IsTrackedState m s → (next : HolderNext) → StepsBy m told bound s next → TrackedNext m next
  steps_tracked s typed tracked next (StepsBy.runs frame rest f n is there acts) =
      let h = subst (TasksAre m w) is typed in
      let k = subst (AreTasksTracked m) is tracked in
      acts_tracked s rest frame f (frame_of m w frame h.0.0 f h.0.1 there) (k.0 f there) h.1 k.1 next acts
  steps_tracked s typed tracked _ (StepsBy.dropped rest is) = (subst (AreTasksTracked m) is tracked).1
  steps_tracked s typed tracked next (StepsBy.drops o os rest n is dropping_one) = drops_tracked _ o (tt, (subst (AreTasksTracked m) is tracked).1) next dropping_one
  steps_tracked s typed tracked next (StepsBy.finishes o rest n is finishing) = finishes_tracked _ o (subst (AreTasksTracked m) is tracked).1 next finishing
  steps_tracked s typed tracked next (StepsBy.calls_deinit g gs o rest f n is there entering) =
      let h = subst (TasksAre m w) is typed in
      let k = subst (AreTasksTracked m) is tracked in
      let deinit = h.0.1.0 in
      let body = (owned_typed m verified).deinits deinit.class g deinit.is in
      let bodied = subst (λ x. has_any x.blocks ≡ true) (same_Some body.body f (sym body.there ∙ there)) body.bodied in
      enters_tracked _ _ g f _ (accepted_body m g.0 f verified there bodied) (λ new. (tt, tt, k.1)) next entering
  steps_tracked s typed tracked _ (StepsBy.no_task is) = refl
  steps_tracked s typed tracked _ (StepsBy.no_function frame rest is there) = refl
  steps_tracked s typed tracked _ (StepsBy.no_deinit g gs o rest is there) = refl

next_tracked : (m : Module) (bound : ℕ) (s : HolderState) → IsVerified m → IsTypedState m s → IsTrackedState m s → TrackedNext m (steps.step m (facts_of m) bound s)
next_tracked m bound s verified typed tracked =
    steps_tracked m bound verified typed.world s typed.tasks tracked (steps.step m (facts_of m) bound s) (steps_told m (facts_of m) bound s)

pub steps_are_tracked : AreStepsTracked
steps_are_tracked m bound s next verified typed tracked e = subst (TrackedNext m) e (next_tracked m bound s verified typed tracked)

pub entries_are_right : AreEntriesRight
entries_are_right m bound s last x verified typed tracked e = subst (TrackedNext m) e (next_tracked m bound s verified typed tracked)

-- Each step but a drop lowers the work that is left, and each drop the work of drops.
use Rattle.std.proofs.Common.{◌≡◌, ℕ, ◌+◌, ◌-◌, ◌<◌, ◌≤◌, ◌==◌, Bool, true, false, not, cond, List, [], ◌∷◌, ◌++◌, Option, Some, None, length, refl, ap, ◌∙◌, arith}
use Rattle.std.specs.Prelude.{slice_get, take}
use Rattle.std.specs.Prelude.{option_and_then}
use Rattle.std.proofs.lemmas.List.{length-take-le}
use Rattle.std.proofs.lemmas.Option.{slice_get_within}
use Rattle.count_heap.specs.HeapModel.HeapCalls.{released, started, takes_last}
use Rattle.count_heap.specs.HeapModel.HeapViews.{fields_in, is_dead_in, phase_in, strong_in}
use Rattle.holder_model.specs.declared.event.Event.TheVariants as event
use Rattle.count_machine_model.specs.declared.ready_code.block.ReadyBlock.{ReadyBlock}
use Rattle.count_machine_model.specs.declared.ready_code.function.ReadyFunction.{ReadyFunction}
use Rattle.count_machine_model.specs.declared.ready_code.function.ReadyModule.{ReadyModule}
use Rattle.count_machine_model.specs.declared.ready_code.local.Local.{Local}
use Rattle.count_machine_model.specs.declared.ready_code.op.ReadyOp.{ReadyOp}
use Rattle.sil_ast.specs.declared.place.FuncId.{FuncId}
use Rattle.sil_ast.specs.declared.place.ObjectId.{ObjectId}
use Rattle.count_machine_model.specs.declared.machine_steps.frame.Frame.{Frame}
use Rattle.count_machine_model.specs.declared.machine_steps.frame.Task.{Task}
use Rattle.count_machine_model.specs.declared.machine_steps.frame.Task.TheVariants as task
use Rattle.count_machine_model.specs.MachineSteps.Calling.{new_frame, with_frame}
use Rattle.count_machine_model.specs.MachineSteps.Ends.{block_at}
use Rattle.count_machine_model.specs.MachineSteps.Operands.{behind_op}
use Rattle.count_machine_model.specs.MachineSteps.Steps as steps
use Rattle.count_machine_model.specs.MachineSteps.Turning.{dropping}
use Rattle.count_machine_model.specs.MachineSteps.Views.{Goes, MachineView}
use Rattle.count_machine_engine.specs.inner.Work.{drop_work, drops_in, left_in, left_of, longest, work}
use Rattle.count_machine_engine.proofs.Onward.{OnGoing, on-cond, on-enter, on-turn}
use Rattle.count_machine_engine.proofs.Performing.{on-performs}
use Rattle.count_machine_engine.proofs.Terminating.{on-ends}
use Rattle.count_machine_engine.proofs.Working.{behind_op-less, frame-positive, left_of-bound, work-no_more, work-same_turns, work-turn}

-- an instruction that is there stands in its block
op-within : (ready : ReadyModule) (fr : Frame) (b : Option ReadyBlock) (o : ReadyOp) → block_at ready fr.function fr.block ≡ b →
    option_and_then (λ x. slice_get x.ops fr.index) b ≡ Some o → left_of ready (task.Runs (behind_op fr)) < left_of ready (task.Runs fr)
op-within ready fr None o at e = cc
op-within ready fr (Some b) o at e = behind_op-less ready fr b at (slice_get_within b.ops fr.index o e)

module _ (ready : ReadyModule) (bound : ℕ) (st : MachineView) where
  abbrev Less : MachineView → Type 0
  Less after = work ready bound after < work ready bound st

  -- from what the tasks were, and what they are

  by_same : (before tasks : List Task) (after : MachineView) → st.tasks ≡ before → after.turns ≡ st.turns → after.tasks ≡ tasks → left_in ready tasks < left_in ready before → Less after
  by_same before tasks after e turns e' h = work-same_turns ready bound st after turns (rw (e, e') h)

  by_turn : (before tasks : List Task) (after : MachineView) → st.tasks ≡ before → st.turns < bound → after.turns ≡ st.turns + 1 → after.tasks ≡ tasks →
      left_in ready tasks ≤ left_in ready before + (longest ready + 2) → Less after
  by_turn before tasks after e lt turns e' h = work-turn ready bound st after lt turns (rw (e, e') h)

  -- frames

  module _ (fr : Frame) (rest : List Task) (top : st.tasks ≡ task.Runs fr ∷ rest) where
    acts-fall : (b : ReadyBlock) (o : Option ReadyOp) → block_at ready fr.function fr.block ≡ Some b → slice_get b.ops fr.index ≡ o →
        OnGoing Less (steps.acts ready bound st fr rest b o)
    acts-fall b None at e =
        on-ends ready bound st fr rest Less
        (λ after next lt turns tasks. by_turn _ _ after top lt turns tasks (omega (arith, left_of-bound ready (task.Runs next))))
        (λ after caller below o waits at_call turns tasks.
        by_same _ _ after (rw waits at top) turns tasks (omega (arith, frame-positive ready fr, op-within ready caller (block_at ready caller.function caller.block) o refl at_call)))
        (λ after turns tasks. by_same _ _ after top turns tasks (omega (arith, frame-positive ready fr)))
        b.end
    acts-fall b (Some o) at e =
        let less = behind_op-less ready fr b at (slice_get_within b.ops fr.index o e) in
        on-performs ready bound st fr rest Less
        (λ after turns tasks. by_same _ _ after top turns tasks (omega (arith, less)))
        (λ after from turns tasks. by_same _ _ after top turns tasks (omega (arith, less)))
        (λ after lt turns tasks. by_turn _ _ after top lt turns tasks (omega (arith, less)))
        (λ after callee lt turns tasks. by_turn st.tasks _ after refl lt turns tasks (omega (arith, left_of-bound ready (task.Runs callee))))
        o

    runs_block-fall : (b : Option ReadyBlock) → block_at ready fr.function fr.block ≡ b → OnGoing Less (steps.runs_block ready bound st fr rest b)
    runs_block-fall None at = tt
    runs_block-fall (Some b) at = acts-fall b (slice_get b.ops fr.index) at refl

    pub runs-fall : OnGoing Less (steps.runs ready bound st fr rest)
    runs-fall = runs_block-fall (block_at ready fr.function fr.block) refl

  -- deinitialisation

  module _ (o : ObjectId) (called : ℕ) (rest : List Task) (top : st.tasks ≡ task.Finishes o called ∷ rest) where
    with_object-fall : (g : FuncId) (f : ReadyFunction) (to : Option Local) → st.turns < bound →
        let called_on : MachineView = record st { tasks = task.Finishes o (called + 1) ∷ rest; turns = st.turns + 1 } in
        Less (steps.with_object ready bound (with_frame called_on g f) (new_frame called_on g) to o)
    with_object-fall g f None lt =
        let at = new_frame st g in by_turn _ (task.Runs at ∷ task.Finishes o (called + 1) ∷ rest) _ top lt refl refl (omega (arith, left_of-bound ready (task.Runs at)))
    with_object-fall g f (Some to) lt =
        let at = new_frame st g in by_turn _ (task.Runs at ∷ task.Finishes o (called + 1) ∷ rest) _ top lt refl refl (omega (arith, left_of-bound ready (task.Runs at)))

    entered-fall : (g : FuncId) (f : Option ReadyFunction) → st.turns < bound →
        OnGoing Less (steps.deinit_entered ready bound g o (record st { tasks = task.Finishes o (called + 1) ∷ rest; turns = st.turns + 1 }) f)
    entered-fall g None lt = tt
    entered-fall g (Some f) lt = with_object-fall g f f.first_argument lt

    dropping-fall : (os : List ObjectId) (after : MachineView) → after.turns ≡ st.turns → after.tasks ≡ rest → Less (dropping os after)
    dropping-fall [] after turns tasks = by_same _ rest _ top turns tasks (omega arith)
    dropping-fall (x ∷ xs) after turns tasks = by_same _ (task.Drops (length after.waiting) ∷ rest) _ top turns (ap (λ ts. task.Drops (length after.waiting) ∷ ts) tasks) (omega arith)

    finishes-fall : OnGoing Less (steps.finishes ready bound (record st { tasks = rest }) o)
    finishes-fall =
        on-cond Less (not (strong_in st.heap o == 0)) _ _ (λ _. tt)
        (λ _. on-cond Less (steps.is_deiniting (phase_in st.heap o)) _ _
        (λ _. dropping-fall (steps.strong_in_fields (steps.class_of ready st.heap o).fields (fields_in st.heap o)) _ refl refl)
        (λ _. tt))

    pub deinit_step-fall : (g : Option FuncId) → OnGoing Less (steps.deinit_step ready bound st o called rest g)
    deinit_step-fall None = finishes-fall
    deinit_step-fall (Some g) =
        on-enter Less bound (record st { tasks = task.Finishes o (called + 1) ∷ rest })
        (λ after. steps.deinit_entered ready bound g o after (slice_get ready.functions g.0))
        (λ lt. entered-fall g (slice_get ready.functions g.0) lt)

  -- drops

  abbrev LessDrops : MachineView → Type 0
  LessDrops after = (work ready bound after ≤ work ready bound st) × (drop_work after < drop_work st)

  drop_work-less : (before tasks : List Task) (after : MachineView) → st.tasks ≡ before → after.tasks ≡ tasks →
      length after.waiting + drops_in tasks < length st.waiting + drops_in before → drop_work after < drop_work st
  unfolding drop_work
  drop_work-less before tasks after e e' h = rw (e, e') h

  module _ (from : ℕ) (rest : List Task) (top : st.tasks ≡ task.Drops from ∷ rest) where
    abbrev left : ℕ
    left = length st.waiting - 1

    still-left : (b : Bool) → left_in ready (cond b rest (task.Drops from ∷ rest)) ≡ left_in ready rest
    still-left true = refl
    still-left false = omega arith

    still-drops : (b : Bool) → drops_in (cond b rest (task.Drops from ∷ rest)) ≤ 1 + drops_in rest
    still-drops true = omega arith
    still-drops false = omega arith

    abbrev still : List Task
    still = steps.still_dropping ready bound from left rest

    released-fall : (o : ObjectId) → slice_get st.waiting left ≡ Some o → (after : MachineView) → after.turns ≡ st.turns → after.tasks ≡ still →
        after.waiting ≡ take left st.waiting → LessDrops after
    released-fall o e after turns tasks waiting =
        let within = slice_get_within st.waiting left o e in
        let cut = ap length waiting ∙ length-take-le left st.waiting (omega arith) in (
          work-no_more ready bound st after turns (rw (tasks, top) (omega (arith, still-left (left == from)))),
          drop_work-less _ still after top tasks (omega (arith, cut, still-drops (left == from))),
        )

    started-fall : (o x : ObjectId) → slice_get st.waiting left ≡ Some o → (after : MachineView) → st.turns < bound → after.turns ≡ st.turns + 1 →
        after.tasks ≡ task.Finishes x 0 ∷ still → after.waiting ≡ take left st.waiting → LessDrops after
    started-fall o x e after lt turns tasks waiting =
        let within = slice_get_within st.waiting left o e in
        let cut = ap length waiting ∙ length-take-le left st.waiting (omega arith) in
        let less = by_turn _ (task.Finishes x 0 ∷ still) after top lt turns tasks (omega (arith, still-left (left == from))) in
        (omega (arith, less), drop_work-less _ (task.Finishes x 0 ∷ still) after top tasks (omega (arith, cut, still-drops (left == from))))

    drops_last-fall : (o : Option ObjectId) → slice_get st.waiting left ≡ o → OnGoing LessDrops (steps.drops_last ready bound st from rest left o)
    drops_last-fall None e =
        (work-no_more ready bound st (record st { tasks = rest }) refl (rw top (omega arith)), drop_work-less _ rest (record st { tasks = rest }) top refl (omega arith))
    drops_last-fall (Some o) e =
        let dropped : MachineView = record st { waiting = take left st.waiting; tasks = still } in
        on-cond LessDrops (is_dead_in st.heap o) _ _ (λ _. tt)
        (λ _. on-cond LessDrops (strong_in st.heap o == 0) _ _ (λ _. tt)
        (λ _. on-cond LessDrops (takes_last st.heap o) (steps.deinitialises ready bound (record dropped { heap = released st.heap o }) o)
        (Goes (record dropped { heap = released st.heap o }))
        (λ _. on-turn LessDrops bound (record dropped { heap = released st.heap o }) (λ after. Goes (record after {
          tasks = task.Finishes o 0 ∷ after.tasks;
          heap = started after.heap o;
          events = after.events ++ event.Deinit (steps.name_of after.heap o) o ∷ [];
        })) (λ lt. started-fall o o e _ lt refl refl refl))
        (λ _. released-fall o e (record dropped { heap = released st.heap o }) refl refl refl)))

    pub drops-fall : OnGoing LessDrops (steps.drops ready bound st from rest)
    drops-fall = drops_last-fall (slice_get st.waiting left) refl

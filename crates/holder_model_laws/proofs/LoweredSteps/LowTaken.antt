-- What is told of a step of a run of lowered code is the step.
use Rattle.std.proofs.Common.{◌≡◌, ℕ, ◌+◌, ◌++◌, arith, List, [], ◌∷◌, refl, ap, ◌∙◌, Bool, true, false, cond, Option, Some, None}
use Rattle.std.specs.Prelude.{find}
use Rattle.instruction_table.specs.Forms.{ending_of}
use Rattle.sil_ast.specs.declared.function.Function.{Function}
use Rattle.sil_ast.specs.declared.inst.Inst.{Inst}
use Rattle.sil_ast.specs.declared.module.Module.{Module}
use Rattle.sil_ast.specs.declared.place.EdgeId.{EdgeId}
use Rattle.sil_ast.specs.declared.place.FuncId.{FuncId}
use Rattle.sil_ast.specs.declared.place.ObjectId.{ObjectId}
use Rattle.sil_cfg.specs.declared.item.Item.{Item}
use Rattle.sil_cfg_items.specs.Parts.{inst_at}
use Rattle.sil_types_declarations.specs.TypeDefinitions.Declarations.{declarations_of}
use Rattle.holder_model.specs.holder_model_values.RunValues.Memory.{is_dead}
use Rattle.holder_model.specs.holder_model_values.RunValues.Values.{Value}
use Rattle.holder_model.specs.Data.{Datum}
use Rattle.holder_model.specs.Dropping.{drop_with}
use Rattle.holder_model.specs.Edges.{edge_of}
use Rattle.holder_model.specs.Effects as effects
use Rattle.holder_model.specs.Effects.{Change}
use Rattle.holder_model.specs.ModuleShapes.{ModuleShapes}
use Rattle.holder_model.specs.States.{Task}
use Rattle.holder_model.specs.declared.lowered_run.low_fault.LowFault.{LowFault}
use Rattle.holder_model.specs.declared.lowered_run.low_fault.LowFault.TheVariants as fault
use Rattle.holder_model.specs.LoweredRun.LowFrames.{LowFrame}
use Rattle.holder_model.specs.LoweredRun.LowStepParts.{LowNext, LowState, fails, retains_each}
use Rattle.holder_model.specs.LoweredRun.LowSteps as steps
use Rattle.holder_model.specs.LoweredRun.Stored.{changed, one_more}
use Rattle.holder_model_laws.specs.LoweredSteps.inner.LowWays.{Acts, AreToldStepsTaken, Chooses, Enters, Falls, FinishesOne, GoesBehind, Performs, Reaches, ReleasesOne, StandsAtEnd, StepsBy}
use Rattle.holder_model_laws.specs.LoweredSteps.inner.LowWays.{TakesEdge}
use Rattle.holder_model_laws.specs.LoweredSteps.inner.LowWays.{retained}

-- ---- references are made one after another

none_first : (b : Bool) (o : ObjectId) (rest : Option ObjectId) → cond b (Some o) rest ≡ None → (b ≡ false) × (rest ≡ None)
none_first true o rest e = grind arith
none_first false o rest e = (refl, e)

module _ (go : LowState → LowNext) where
  retains_alive : (os : List ObjectId) (s : LowState) → find (is_dead s.memory) os ≡ None → retains_each os s go ≡ go (retained os s)
  retains_alive [] s h = refl
  retains_alive (o ∷ os) s h =
      let e = none_first (is_dead s.memory o) o (find (is_dead s.memory) os) h in
      rw e.0 (retains_alive os (record s { numbers = changed one_more s.numbers o; retains = s.retains + 1 }) e.1)

  retains_dead : (before behind : List ObjectId) (o : ObjectId) (s : LowState) → find (is_dead s.memory) before ≡ None → is_dead s.memory o ≡ true
      → retains_each (before ++ o ∷ behind) s go ≡ fails (retained before s) (fault.Dead o)
  retains_dead [] behind o s h d = rw d
  retains_dead (p ∷ before) behind o s h d =
      let e = none_first (is_dead s.memory p) p (find (is_dead s.memory) before) h in
      rw e.0 (retains_dead before behind o (record s { numbers = changed one_more s.numbers p; retains = s.retains + 1 }) e.1 d)

module _ (m : Module) (told : ModuleShapes) (bound : ℕ) where
  goes_behind : (s : LowState) (rest : List (Task LowFrame)) (frame : LowFrame) (f : Function) (i : Item) (c : Change) (next : LowNext)
      → GoesBehind m told bound s rest frame f i c next → steps.goes_on m told bound s rest frame f i c ≡ next
  goes_behind s rest frame f i c _ (GoesBehind.goes slots values is put alive) = rw (is, put) (retains_alive _ c.retained s alive)
  goes_behind s rest frame f i c _ (GoesBehind.wrong_slot x is) = rw is
  goes_behind s rest frame f i c _ (GoesBehind.wrong_result slots is put) = rw (is, put)
  goes_behind s rest frame f i c _ (GoesBehind.retains_dead slots values before behind o is put those alive dead) =
      rw (is, put) (rw (← those) (retains_dead _ before behind o s alive dead))

  enters : (s : LowState) (rest : List (Task LowFrame)) (g : FuncId) (callee : Function) (args : List Datum) (next : LowNext)
      → Enters m told bound s rest g callee args next → steps.calls_in m told bound s rest g callee args ≡ next
  enters s rest g callee args _ (Enters.enters values put deep turn) = rw (put, deep, turn)
  enters s rest g callee args _ (Enters.too_deep values put deep) = rw (put, deep)
  enters s rest g callee args _ (Enters.no_turn values put deep turn) = rw (put, deep, turn)
  enters s rest g callee args _ (Enters.wrong_argument put) = rw put

  performs : (s : LowState) (rest : List (Task LowFrame)) (frame : LowFrame) (f : Function) (i : Item) (e : effects.Effect LowFault) (next : LowNext)
      → Performs m told bound s rest frame f i e next → steps.performs m told bound s rest frame f i e ≡ next
  performs s rest frame f i _ next (Performs.makes c _ way) = goes_behind s rest frame f i c next way
  performs s rest frame f i _ next (Performs.calls g args callee _ there bodied way) = rw (there, bodied) (enters s _ g callee args next way)
  performs s rest frame f i _ next (Performs.calls_out g args callee numbers _ there bare is turn way) =
      rw (there, bare, is, turn) (goes_behind _ rest frame f i _ next way)
  performs s rest frame f i _ _ (Performs.no_turn g args callee numbers there bare is turn) = rw (there, bare, is, turn)
  performs s rest frame f i _ _ (Performs.traps t) = refl
  performs s rest frame f i _ _ (Performs.no_callee g args there) = rw there
  performs s rest frame f i _ _ (Performs.no_numbers g args callee there bare is) = rw (there, bare, is)
  performs s rest frame f i _ _ (Performs.faults x) = refl
  performs s rest frame f i _ _ Performs.unfit = refl

  reaches : (s : LowState) (x : Datum) (rest : List (Task LowFrame)) (next : LowNext) → Reaches m told bound s x rest next → steps.returns_to m told bound s x rest ≡ next
  reaches s x _ _ (Reaches.ends v is alive) = rw (is, alive)
  reaches s x _ next (Reaches.resumes frame rest f _ there way) = rw there (goes_behind s rest frame f _ _ next way)
  reaches s x _ _ (Reaches.finishes deinits o rest) = refl
  reaches s x _ _ (Reaches.no_value is) = rw is
  reaches s x _ _ (Reaches.returns_dead v o is dead) = rw (is, dead)
  reaches s x _ _ (Reaches.no_function frame rest there) = rw there
  reaches s x _ _ (Reaches.on_drops os rest) = refl

  module _ (s : LowState) (rest : List (Task LowFrame)) (frame : LowFrame) (f : Function) where
    takes_edge : (e : EdgeId) (next : LowNext) → TakesEdge m told bound s rest frame f e next → steps.takes_edge m told bound s rest frame f e ≡ next
    takes_edge e next (TakesEdge.takes xs carried _ read is turn way) = rw (read, is, turn) (goes_behind _ rest frame f _ _ next way)
    takes_edge e _ (TakesEdge.no_turn xs carried read is turn) = rw (read, is, turn)
    takes_edge e _ (TakesEdge.missing x read) = rw read
    takes_edge e _ (TakesEdge.not_carried xs read is) = rw (read, is)

    -- the edge that the terminator's operand chooses
    abbrev chosen : Inst → (Value → Option ℕ) → LowNext
    chosen i choose = steps.with_chosen m told bound s frame i choose (λ k. steps.takes_edge m told bound s rest frame f (edge_of frame.at k))

    ends_by : (i : Inst) (choose : Value → Option ℕ) → Chooses m told bound frame i choose
        → steps.ends_block_by m told bound (ending_of i.op) s rest frame f i ≡ chosen i choose
    ends_by i _ (Chooses.by_bit is) = rw is
    ends_by i _ (Chooses.by_case is) = rw is

    at_end : (i : Inst) (next : LowNext) → StandsAtEnd m told bound frame f i → steps.ends_block_by m told bound (ending_of i.op) s rest frame f i ≡ next
        → steps.acts m told bound s rest frame f (inst_at f frame.at) ≡ next
    at_end i next stands e = rw (stands.behind, stands.terminator) e

    acts : (next : LowNext) → Acts m told bound s rest frame f next → steps.acts m told bound s rest frame f (inst_at f frame.at) ≡ next
    acts next (Acts.does i xs _ here read way) = rw (here, read) (performs _ rest frame f _ _ next way)
    acts next (Acts.branches i _ stands is way) = at_end i next stands (rw is (takes_edge _ next way))
    acts next (Acts.chooses i choose xs x v k _ stands how read one worth is way) =
        at_end i next stands (ends_by i choose how ∙ rw (read, one, worth, is) (takes_edge _ next way))
    acts next (Acts.returns i xs x _ stands is read slots one way) = at_end i next stands (rw (is, read, slots, one) (reaches s x rest next way))
    acts _ (Acts.unreachable i stands is) = at_end i _ stands (rw is)
    acts _ (Acts.missing i x here read) = rw (here, read)
    acts _ (Acts.missing_chosen i choose x stands how read) = at_end i _ stands (ends_by i choose how ∙ rw read)
    acts _ (Acts.not_one_chosen i choose xs stands how read one) = at_end i _ stands (ends_by i choose how ∙ rw (read, one))
    acts _ (Acts.no_value i choose xs x stands how read one worth) = at_end i _ stands (ends_by i choose how ∙ rw (read, one, worth))
    acts _ (Acts.no_choice i choose xs x v stands how read one worth is) = at_end i _ stands (ends_by i choose how ∙ rw (read, one, worth, is))
    acts _ (Acts.missing_returned i x stands is read) = at_end i _ stands (rw (is, read))
    acts _ (Acts.leaves_slot i xs stands is read slots) = at_end i _ stands (rw (is, read, slots))
    acts _ (Acts.not_one_returned i xs stands is read slots one) = at_end i _ stands (rw (is, read, slots, one))
    acts _ (Acts.no_ending i stands is) = at_end i _ stands (rw is)
    acts _ (Acts.no_terminator behind terminator) = rw (behind, terminator)

  falls : (s : LowState) (o : ObjectId) (n : ℕ) (next : LowNext) → Falls m told bound s o n next → drop_with (declarations_of m) bound s o n ≡ next
  falls s o _ _ (Falls.held_still left) = refl
  falls s o _ _ (Falls.not_live live) = rw live
  falls s o _ _ (Falls.deinitialises live turn) = rw (live, turn)
  falls s o _ _ (Falls.no_turn live turn) = rw (live, turn)

  releases : (s : LowState) (o : ObjectId) (next : LowNext) → ReleasesOne m told bound s o next → steps.releases_one m told bound s o ≡ next
  releases s o next (ReleasesOne.releases left _ alive is way) = rw (alive, is) (falls _ o left next way)
  releases s o _ (ReleasesOne.dead dead) = rw dead
  releases s o _ (ReleasesOne.underflow alive is) = rw (alive, is)

  finishes : (s : LowState) (o : ObjectId) (next : LowNext) → FinishesOne m told bound s o next → steps.finishes m told bound s o ≡ next
  finishes s o _ (FinishesOne.finishes is) = rw is
  finishes s o _ (FinishesOne.escapes left is) = rw is

  step_taken : (s : LowState) (next : LowNext) → StepsBy m told bound s next → steps.task_step m told bound s s.tasks ≡ next
  step_taken s next (StepsBy.runs frame rest f _ is there way) = ap (steps.task_step m told bound s) is ∙ rw there (acts s rest frame f next way)
  step_taken s _ (StepsBy.dropped rest is) = ap (steps.task_step m told bound s) is
  step_taken s next (StepsBy.drops o os rest _ is way) = ap (steps.task_step m told bound s) is ∙ releases _ o next way
  step_taken s next (StepsBy.finishes o rest _ is way) = ap (steps.task_step m told bound s) is ∙ finishes _ o next way
  step_taken s next (StepsBy.calls_deinit g gs o rest f _ is there way) = ap (steps.task_step m told bound s) is ∙ rw there (enters _ _ g f _ next way)
  step_taken s _ (StepsBy.no_task is) = ap (steps.task_step m told bound s) is
  step_taken s _ (StepsBy.no_function frame rest is there) = ap (steps.task_step m told bound s) is ∙ rw there
  step_taken s _ (StepsBy.no_deinit g gs o rest is there) = ap (steps.task_step m told bound s) is ∙ rw there

pub told_taken : AreToldStepsTaken
told_taken m told bound s next way = step_taken m told bound s next way

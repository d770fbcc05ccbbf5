-- Each step of a run of lowered code leaves less, way by way.
use Rattle.std.proofs.Common.{◌≡◌, ◌⊎◌, inl, inr, ℕ, ◌+◌, ◌<◌, ◌≤◌, arith, refl, sym, subst, List, [], ◌∷◌, ◌++◌, Some, slice_get, ltb-true}
use Rattle.sil_ast.specs.declared.function.Function.{Function}
use Rattle.sil_ast.specs.declared.module.Module.{Module}
use Rattle.sil_ast.specs.declared.place.EdgeId.{EdgeId}
use Rattle.sil_ast.specs.declared.place.FuncId.{FuncId}
use Rattle.sil_ast.specs.declared.place.ObjectId.{ObjectId}
use Rattle.sil_ast.specs.declared.place.PointId.{PointId}
use Rattle.sil_cfg.specs.declared.item.Item.{Item}
use Rattle.sil_cfg.specs.declared.item.Item.TheVariants as item
use Rattle.holder_model_values.specs.RunValues.Memory.{object_at}
use Rattle.sil_verifier_runs.specs.holder_model.declared.event.Event.TheVariants as event
use Rattle.sil_verifier_runs.specs.holder_model.Data.{Datum}
use Rattle.sil_verifier_runs.specs.holder_model.Dropping.{field_references}
use Rattle.sil_verifier_runs.specs.holder_model.Effects as effects
use Rattle.sil_verifier_runs.specs.holder_model.Effects.{Change}
use Rattle.sil_verifier_runs.specs.holder_model.ModuleShapes.{ModuleShapes}
use Rattle.sil_verifier_runs.specs.holder_model.Standing.{behind, point_behind}
use Rattle.sil_verifier_runs.specs.holder_model.States.{Drops, Finishes, Runs, Task}
use Rattle.sil_verifier_runs.specs.holder_model.declared.lowered_run.low_fault.LowFault.{LowFault}
use Rattle.sil_verifier_runs.specs.holder_model.LoweredRun.LowFrames.{LowFrame}
use Rattle.sil_verifier_runs.specs.holder_model.LoweredRun.LowStepParts.{LowNext, LowState, new_frame}
use Rattle.sil_verifier_runs.specs.holder_model.LoweredRun.LowSteps as steps
use Rattle.sil_verifier_runs.specs.holder_model.LoweredRun.Stored.{changed, one_more}
use Rattle.sil_verifier_runs.specs.holder_model_laws.LoweredSteps.inner.LowWays.{Acts, Enters, Falls, FinishesOne, GoesBehind, Performs, Reaches, ReleasesOne, StepsBy, TakesEdge}
use Rattle.sil_verifier_runs.specs.holder_model_laws.LoweredSteps.inner.LowWays.{effect_in, released, retained, turned, with_tasks}
use Rattle.sil_verifier_runs.proofs.holder_model_laws.LoweredSteps.LowTold.{low_told}
use Rattle.ownership_lowering_runs.proofs.EndedRuns.Measured.{OnGoing, on_map}
use Rattle.ownership_lowering_runs.proofs.EndedRuns.Work.{IsLess, LeavesLess, left_at, left_at-most, left_in, left_in-dropping, less_behind, longest, no_more_behind}

retained-turns : (os : List ObjectId) (s : LowState) → (retained os s).turns ≡ s.turns
retained-turns [] s = refl
retained-turns (o ∷ os) s = retained-turns os (record s { numbers = changed one_more s.numbers o; retains = s.retains + 1 })

module _ (m : Module) (told : ModuleShapes) (bound : ℕ) where
  -- what is left of a frame's block
  abbrev pub left : LowFrame → ℕ
  left frame = left_at (slice_get m.functions frame.function.0) frame.at

  abbrev Less : ℕ → ℕ → LowState → Type 0
  Less turns before t = IsLess left (longest m) bound turns before t

  -- in this turn, and with so much left
  abbrev HasLeft : ℕ → ℕ → LowState → Type 0
  HasLeft turns n t = (t.turns ≡ turns) × (left_in left t.tasks ≡ n)

  abbrev HasNoMore : ℕ → ℕ → LowState → Type 0
  HasNoMore turns n t = (t.turns ≡ turns) × (left_in left t.tasks ≤ n)

  -- with the frame at this point
  abbrev left_with : LowFrame → PointId → List (Task LowFrame) → ℕ
  left_with frame p rest = (left_at (slice_get m.functions frame.function.0) p + 1) + left_in left rest

  behind_left : (s : LowState) (rest : List (Task LowFrame)) (frame : LowFrame) (f : Function) (i : Item) (c : Change) (next : LowNext)
      → GoesBehind m told bound s rest frame f i c next → OnGoing (HasLeft s.turns (left_with frame (behind f i) rest)) next
  behind_left s rest frame f i c _ (GoesBehind.goes slots values is put alive) = (
    retained-turns c.retained s,
    left_in-dropping left c.dropped (Runs (record frame { at = behind f i; values = values; slots = slots }) ∷ rest),
  )
  behind_left s rest frame f i c _ (GoesBehind.wrong_slot x is) = tt
  behind_left s rest frame f i c _ (GoesBehind.wrong_result slots is put) = tt
  behind_left s rest frame f i c _ (GoesBehind.retains_dead slots values before after o is put those alive dead) = tt

  enters_less : (s : LowState) (rest : List (Task LowFrame)) (g : FuncId) (callee : Function) (args : List Datum) (next : LowNext)
      → Enters m told bound s rest g callee args next → OnGoing (Less s.turns (left_in left rest)) next
  enters_less s rest g callee args _ (Enters.enters values put deep turn) =
      let new = left_at-most m g (new_frame g values).at in inr (ltb-true s.turns bound turn, refl, omega (arith, new))
  enters_less s rest g callee args _ (Enters.too_deep values put deep) = tt
  enters_less s rest g callee args _ (Enters.no_turn values put deep turn) = tt
  enters_less s rest g callee args _ (Enters.wrong_argument put) = tt

  reaches_left : (s : LowState) (x : Datum) (rest : List (Task LowFrame)) (next : LowNext) → Reaches m told bound s x rest next
      → OnGoing (HasNoMore s.turns (left_in left rest)) next
  reaches_left s x _ _ (Reaches.ends v is alive) = tt
  reaches_left s x _ next (Reaches.resumes frame rest f n there way) =
      let kept = no_more_behind (slice_get m.functions frame.function.0) frame.at in
      on_map (HasLeft s.turns (left_with frame (point_behind frame.at) rest)) (HasNoMore s.turns (left_in left (Runs frame ∷ rest)))
      (λ t h. let same = h.1 in (h.0, omega (arith, same, kept))) next (behind_left s rest frame f (item.Inst frame.at) _ next way)
  reaches_left s x _ _ (Reaches.finishes deinits o rest) = (refl, omega arith)
  reaches_left s x _ _ (Reaches.no_value is) = tt
  reaches_left s x _ _ (Reaches.returns_dead v o is dead) = tt
  reaches_left s x _ _ (Reaches.no_function frame rest there) = tt
  reaches_left s x _ _ (Reaches.on_drops os rest) = tt

  -- ---- a frame goes on

  module _ (rest : List (Task LowFrame)) (frame : LowFrame) (f : Function) (there : slice_get m.functions frame.function.0 ≡ Some f) where
    abbrev Here : ℕ → LowState → Type 0
    Here turns t = Less turns (left_in left (Runs frame ∷ rest)) t

    performs_less : left_at (slice_get m.functions frame.function.0) (point_behind frame.at) < left_at (slice_get m.functions frame.function.0) frame.at
        → (s : LowState) (e : effects.Effect LowFault) (next : LowNext) → Performs m told bound s rest frame f (item.Inst frame.at) e next
        → OnGoing (Here s.turns) next
    performs_less fewer s _ next (Performs.makes c n way) =
        on_map (HasLeft s.turns (left_with frame (point_behind frame.at) rest)) (Here s.turns)
        (λ t h. let same = h.1 in inl (h.0, omega (arith, same, fewer))) next (behind_left s rest frame f (item.Inst frame.at) c next way)
    performs_less fewer s _ next (Performs.calls g args callee n called bodied way) = enters_less s (Runs frame ∷ rest) g callee args next way
    performs_less fewer s _ next (Performs.calls_out g args callee numbers n called bare is turn way) =
        on_map (HasLeft (s.turns + 1) (left_with frame (point_behind frame.at) rest)) (Here s.turns)
        (λ t h. let same = h.1 in inr (ltb-true s.turns bound turn, h.0, omega (arith, same, fewer))) next
        (behind_left (record (turned s) { events = s.events ++ event.Call g numbers ∷ [] }) rest frame f (item.Inst frame.at) _ next way)
    performs_less fewer s _ _ (Performs.no_turn g args callee numbers called bare is turn) = tt
    performs_less fewer s _ _ (Performs.traps t) = tt
    performs_less fewer s _ _ (Performs.no_callee g args called) = tt
    performs_less fewer s _ _ (Performs.no_numbers g args callee called bare is) = tt
    performs_less fewer s _ _ (Performs.faults x) = tt
    performs_less fewer s _ _ Performs.unfit = tt

    takes_less : (s : LowState) (e : EdgeId) (next : LowNext) → TakesEdge m told bound s rest frame f e next → OnGoing (Here s.turns) next
    takes_less s e next (TakesEdge.takes xs carried n read is turn way) =
        let target = left_at-most m frame.function (behind f (item.Edge e)) in
        on_map (HasLeft (s.turns + 1) (left_with frame (behind f (item.Edge e)) rest)) (Here s.turns)
        (λ t h. let same = h.1 in inr (ltb-true s.turns bound turn, h.0, omega (arith, same, target))) next
        (behind_left (turned s) rest frame f (item.Edge e) _ next way)
    takes_less s e _ (TakesEdge.no_turn xs carried read is turn) = tt
    takes_less s e _ (TakesEdge.missing x read) = tt
    takes_less s e _ (TakesEdge.not_carried xs read is) = tt

    acts_less : (s : LowState) (next : LowNext) → Acts m told bound s rest frame f next → OnGoing (Here s.turns) next
    acts_less s next (Acts.does i xs n here read way) =
        performs_less (less_behind (slice_get m.functions frame.function.0) f frame.at i there here) (steps.with_names m told bound s frame i xs)
        (effect_in m told bound s frame i xs) next way
    acts_less s next (Acts.branches i n stands is way) = takes_less s _ next way
    acts_less s next (Acts.chooses i choose xs x v k n stands how read one worth is way) = takes_less s _ next way
    acts_less s next (Acts.returns i xs x n stands is read slots one way) =
        on_map (HasNoMore s.turns (left_in left rest)) (Here s.turns) (λ t h. let kept = h.1 in inl (h.0, omega (arith, kept))) next
        (reaches_left s x rest next way)
    acts_less s _ (Acts.unreachable i stands is) = tt
    acts_less s _ (Acts.missing i x here read) = tt
    acts_less s _ (Acts.missing_chosen i choose x stands how read) = tt
    acts_less s _ (Acts.not_one_chosen i choose xs stands how read one) = tt
    acts_less s _ (Acts.no_value i choose xs x stands how read one worth) = tt
    acts_less s _ (Acts.no_choice i choose xs x v stands how read one worth is) = tt
    acts_less s _ (Acts.missing_returned i x stands is read) = tt
    acts_less s _ (Acts.leaves_slot i xs stands is read slots) = tt
    acts_less s _ (Acts.not_one_returned i xs stands is read slots one) = tt
    acts_less s _ (Acts.no_ending i stands is) = tt
    acts_less s _ (Acts.no_terminator none terminator) = tt

  -- ---- drops and finishes

  -- the tasks are as they were, or a deinitialisation waits above them
  abbrev Dropped : LowState → LowState → Type 0
  Dropped s t = ((t.turns ≡ s.turns) × (t.tasks ≡ s.tasks)) ⊎ Less s.turns (left_in left s.tasks) t

  falls_so : (s : LowState) (o : ObjectId) (n : ℕ) (next : LowNext) → Falls m told bound s o n next → OnGoing (Dropped s) next
  falls_so s o _ _ (Falls.held_still n) = inl (refl, refl)
  falls_so s o _ _ (Falls.not_live live) = inl (refl, refl)
  falls_so s o _ _ (Falls.deinitialises live turn) = inr (inr (ltb-true s.turns bound turn, refl, omega arith))
  falls_so s o _ _ (Falls.no_turn live turn) = tt

  releases_so : (s : LowState) (o : ObjectId) (next : LowNext) → ReleasesOne m told bound s o next → OnGoing (Dropped s) next
  releases_so s o next (ReleasesOne.releases n _ alive is way) = falls_so (released m told bound s o) o n next way
  releases_so s o _ (ReleasesOne.dead dead) = tt
  releases_so s o _ (ReleasesOne.underflow alive is) = tt

  finishes_left : (s : LowState) (o : ObjectId) (next : LowNext) → FinishesOne m told bound s o next → OnGoing (HasLeft s.turns (left_in left s.tasks)) next
  finishes_left s o _ (FinishesOne.finishes none) = (refl, left_in-dropping left (field_references (object_at s.memory o)) s.tasks)
  finishes_left s o _ (FinishesOne.escapes n is) = tt

  -- ---- a step

  module _ (s : LowState) where
    abbrev Leaves : LowState → Type 0
    Leaves t = LeavesLess left (longest m) bound s t

    -- where the tasks were these
    less_of : (ts : List (Task LowFrame)) (t : LowState) → s.tasks ≡ ts → Less s.turns (left_in left ts) t → Leaves t
    less_of ts t is h = inl (subst (λ us. Less s.turns (left_in left us) t) (sym is) h)

    drops_so : (o : ObjectId) (os : List ObjectId) (rest : List (Task LowFrame)) (t : LowState) → s.tasks ≡ Drops (o ∷ os) ∷ rest
        → Dropped (with_tasks m told bound s (Drops os ∷ rest)) t → Leaves t
    drops_so o os rest t is (inl h) = inr (h.0, rw (h.1, is) (omega arith), rw (h.1, is) (omega arith))
    drops_so o os rest t is (inr h) = less_of (Drops (o ∷ os) ∷ rest) t is h

    way_leaves : (next : LowNext) → StepsBy m told bound s next → OnGoing Leaves next
    way_leaves next (StepsBy.runs frame rest f n is there way) =
        on_map (Here rest frame f there s.turns) Leaves (λ t h. less_of (Runs frame ∷ rest) t is h) next (acts_less rest frame f there s next way)
    way_leaves _ (StepsBy.dropped rest is) = inr (refl, rw is (omega arith), rw is (omega arith))
    way_leaves next (StepsBy.drops o os rest n is way) =
        on_map (Dropped (with_tasks m told bound s (Drops os ∷ rest))) Leaves (λ t h. drops_so o os rest t is h) next
        (releases_so (with_tasks m told bound s (Drops os ∷ rest)) o next way)
    way_leaves next (StepsBy.finishes o rest n is way) =
        on_map (HasLeft s.turns (left_in left rest)) Leaves
        (λ t h. let same = h.1 in less_of (Finishes [] o ∷ rest) t is (inl (h.0, omega (arith, same)))) next
        (finishes_left (with_tasks m told bound s rest) o next way)
    way_leaves next (StepsBy.calls_deinit g gs o rest f n is there way) =
        on_map (Less s.turns (left_in left (Finishes gs o ∷ rest))) Leaves (λ t h. less_of (Finishes (g ∷ gs) o ∷ rest) t is h) next
        (enters_less (with_tasks m told bound s (Finishes gs o ∷ rest)) (Finishes gs o ∷ rest) g f _ next way)
    way_leaves _ (StepsBy.no_task is) = tt
    way_leaves _ (StepsBy.no_function frame rest is there) = tt
    way_leaves _ (StepsBy.no_deinit g gs o rest is there) = tt

  pub low_leaves_less : (s : LowState) → OnGoing (LeavesLess left (longest m) bound s) (steps.low_step m told bound s)
  low_leaves_less s = way_leaves s (steps.low_step m told bound s) (low_told m told bound s)

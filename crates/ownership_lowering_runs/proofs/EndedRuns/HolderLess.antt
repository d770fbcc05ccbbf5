-- Each step of a run by holders leaves less, way by way.
use Rattle.std.proofs.Common.{◌≡◌, ◌⊎◌, inl, inr, ℕ, ◌+◌, ◌<◌, ◌≤◌, arith, refl, sym, subst, List, [], ◌∷◌, ◌++◌, Option, Some, None, slice_get, ltb-true}
use Rattle.sil_ast.specs.declared.function.Function.{Function}
use Rattle.sil_ast.specs.declared.inst.Inst.{Inst}
use Rattle.sil_ast.specs.declared.module.Module.{Module}
use Rattle.sil_ast.specs.declared.place.EdgeId.{EdgeId}
use Rattle.sil_ast.specs.declared.place.FuncId.{FuncId}
use Rattle.sil_ast.specs.declared.place.ObjectId.{ObjectId}
use Rattle.sil_cfg.specs.declared.item.Item.{Item}
use Rattle.sil_cfg.specs.declared.item.Item.TheVariants as item
use Rattle.sil_cfg_items.specs.Parts.{inst_at}
use Rattle.holder_model_values.specs.RunValues.Memory.{object_at}
use Rattle.sil_verifier_runs.specs.holder_model.declared.event.Event.TheVariants as event
use Rattle.sil_verifier_runs.specs.holder_model.Data.{Datum}
use Rattle.sil_verifier_runs.specs.holder_model.Dropping.{field_references}
use Rattle.sil_verifier_runs.specs.holder_model.Effects as effects
use Rattle.sil_verifier_runs.specs.holder_model.Effects.{Change}
use Rattle.sil_verifier_runs.specs.holder_model.Faults.{HolderFault}
use Rattle.sil_verifier_runs.specs.holder_model.Frames.{Frame, Operands}
use Rattle.sil_verifier_runs.specs.holder_model.HolderStates.{HolderNext, HolderState}
use Rattle.sil_verifier_runs.specs.holder_model.ModuleFacts.{ModuleFacts}
use Rattle.sil_verifier_runs.specs.holder_model.Standing.{stands_at}
use Rattle.sil_verifier_runs.specs.holder_model.States.{Drops, Finishes, Runs, Task}
use Rattle.sil_verifier_runs.specs.holder_model.Steps as steps
use Rattle.sil_verifier_runs.specs.holder_model_laws.HolderLaws.inner.Steps.Ways.{Acts, DropsOne, Enters, FinishesOne, GoesBehind, Leaves, Performs, Reaches, StepsBy, TakesEdge}
use Rattle.sil_verifier_runs.specs.holder_model_laws.HolderLaws.inner.Steps.Ways.{left_with, lent_at, turned, waiting, with_tasks}
use Rattle.sil_verifier_runs.proofs.holder_model_laws.HolderLaws.Steps.StepsTold.{steps_told}
use Rattle.ownership_lowering_runs.proofs.EndedRuns.Measured.{OnGoing, on_map}
use Rattle.ownership_lowering_runs.proofs.EndedRuns.Work.{IsLess, LeavesLess, left_at, left_at-most, left_in, left_in-dropping, less_behind, longest, no_more_behind}

-- what is left of the block to which a trail has come
abbrev pub left_behind : Option Function → List Item → ℕ
left_behind None trail = 0
left_behind (Some f) trail = left_at (Some f) (stands_at f trail)

module _ (m : Module) (told : ModuleFacts) (bound : ℕ) where
  abbrev pub left : Frame → ℕ
  left frame = left_behind (slice_get m.functions frame.function.0) frame.trail

  abbrev Less : ℕ → ℕ → HolderState → Type 0
  Less turns before t = IsLess left (longest m) bound turns before t

  -- in this turn, and with so much left
  abbrev HasLeft : ℕ → ℕ → HolderState → Type 0
  HasLeft turns n t = (t.turns ≡ turns) × (left_in left t.tasks ≡ n)

  abbrev HasNoMore : ℕ → ℕ → HolderState → Type 0
  HasNoMore turns n t = (t.turns ≡ turns) × (left_in left t.tasks ≤ n)

  -- with this trail of the frame's function
  abbrev left_on : FuncId → List Item → List (Task Frame) → ℕ
  left_on g trail rest = (left_behind (slice_get m.functions g.0) trail + 1) + left_in left rest

  left_behind-most : (g : FuncId) (trail : List Item) → left_behind (slice_get m.functions g.0) trail ≤ longest m
  left_behind-most g trail = at (slice_get m.functions g.0) refl
    where
      at : (o : Option Function) → slice_get m.functions g.0 ≡ o → left_behind o trail ≤ longest m
      at None e = omega arith
      at (Some f) e = subst (λ o. left_at o (stands_at f trail) ≤ longest m) e (left_at-most m g (stands_at f trail))

  -- behind the instruction at which a trail has come to stand
  module _ (g : FuncId) (f : Function) (there : slice_get m.functions g.0 ≡ Some f) (trail : List Item) where
    abbrev on_by_one : List Item
    on_by_one = item.Inst (stands_at f trail) ∷ trail

    fewer : (i : Inst) → inst_at f (stands_at f trail) ≡ Some i → left_behind (slice_get m.functions g.0) on_by_one < left_behind (slice_get m.functions g.0) trail
    fewer i here =
        subst (λ o. left_behind o on_by_one < left_behind o trail) (sym there) (less_behind (Some f) f (stands_at f trail) i refl here)

    no_more : left_behind (slice_get m.functions g.0) on_by_one ≤ left_behind (slice_get m.functions g.0) trail
    no_more = subst (λ o. left_behind o on_by_one ≤ left_behind o trail) (sym there) (no_more_behind (Some f) (stands_at f trail))

  behind_left : (s : HolderState) (rest : List (Task Frame)) (frame : Frame) (f : Function) (i : Item) (c : Change) (next : HolderNext)
      → GoesBehind m told bound s rest frame f i c next → OnGoing (HasLeft s.turns (left_on frame.function (i ∷ frame.trail) rest)) next
  behind_left s rest frame f i c _ (GoesBehind.goes slots entries is put) = (
    refl,
    left_in-dropping left c.dropped (Runs (record frame { trail = i ∷ frame.trail; entries = entries; slots = slots; lent = [] }) ∷ rest),
  )
  behind_left s rest frame f i c _ (GoesBehind.wrong_slot x is) = tt
  behind_left s rest frame f i c _ (GoesBehind.wrong_result slots x is put) = tt

  enters_less : (s : HolderState) (rest : List (Task Frame)) (g : FuncId) (callee : Function) (args : List Datum) (next : HolderNext)
      → Enters m told bound s rest g callee args next → OnGoing (Less s.turns (left_in left rest)) next
  enters_less s rest g callee args _ (Enters.enters entries put deep turn) =
      let new = left_behind-most g (item.Entry ∷ []) in inr (ltb-true s.turns bound turn, refl, omega (arith, new))
  enters_less s rest g callee args _ (Enters.wrong_argument x put) = tt
  enters_less s rest g callee args _ (Enters.too_deep deep) = tt
  enters_less s rest g callee args _ (Enters.no_turn deep turn) = tt

  reaches_left : (s : HolderState) (x : Datum) (rest : List (Task Frame)) (next : HolderNext) → Reaches m told bound s x rest next
      → OnGoing (HasNoMore s.turns (left_in left rest)) next
  reaches_left s x _ _ (Reaches.ends v is) = tt
  reaches_left s x _ next (Reaches.resumes frame rest f n there way) =
      let kept = no_more frame.function f there frame.trail in
      on_map (HasLeft s.turns (left_on frame.function (item.Inst (stands_at f frame.trail) ∷ frame.trail) rest))
      (HasNoMore s.turns (left_in left (Runs frame ∷ rest))) (λ t h. let same = h.1 in (h.0, omega (arith, same, kept))) next
      (behind_left s rest frame f (item.Inst (stands_at f frame.trail)) _ next way)
  reaches_left s x _ _ (Reaches.finishes deinits o rest) = (refl, omega arith)
  reaches_left s x _ _ (Reaches.no_value is) = tt
  reaches_left s x _ _ (Reaches.no_function frame rest there) = tt
  reaches_left s x _ _ (Reaches.on_drops os rest) = tt

  -- ---- a frame goes on

  module _ (rest : List (Task Frame)) (frame : Frame) (f : Function) (there : slice_get m.functions frame.function.0 ≡ Some f) where
    abbrev Here : ℕ → HolderState → Type 0
    Here turns t = Less turns (left_on frame.function frame.trail rest) t

    -- without the operands that ended, it stands where it stood
    performs_less : (i : Inst) → inst_at f (stands_at f frame.trail) ≡ Some i → (ops : Operands) (s : HolderState) (e : effects.Effect HolderFault) (next : HolderNext)
        → Performs m told bound s rest (left_with m told bound frame ops) f (item.Inst (stands_at f frame.trail)) e next → OnGoing (Here s.turns) next
    performs_less i here ops s _ next (Performs.makes c n way) =
        let less = fewer frame.function f there frame.trail i here in
        on_map (HasLeft s.turns (left_on frame.function (item.Inst (stands_at f frame.trail) ∷ frame.trail) rest)) (Here s.turns)
        (λ t h. let same = h.1 in inl (h.0, omega (arith, same, less))) next
        (behind_left s rest (left_with m told bound frame ops) f (item.Inst (stands_at f frame.trail)) c next way)
    performs_less i here ops s _ next (Performs.calls g args callee n called bodied before way) =
        enters_less _ (waiting m told bound rest (left_with m told bound frame ops) (lent_at m told bound f (item.Inst (stands_at f frame.trail)) args)) g callee _ next way
    performs_less i here ops s _ next (Performs.calls_out g args callee numbers n called bare is turn way) =
        let less = fewer frame.function f there frame.trail i here in
        on_map (HasLeft (s.turns + 1) (left_on frame.function (item.Inst (stands_at f frame.trail) ∷ frame.trail) rest)) (Here s.turns)
        (λ t h. let same = h.1 in inr (ltb-true s.turns bound turn, h.0, omega (arith, same, less))) next
        (behind_left (record (turned s) { events = s.events ++ event.Call g numbers ∷ [] }) rest (left_with m told bound frame ops) f
        (item.Inst (stands_at f frame.trail)) _ next way)
    performs_less i here ops s _ _ (Performs.no_turn g args callee numbers called bare is turn) = tt
    performs_less i here ops s _ _ (Performs.traps t) = tt
    performs_less i here ops s _ _ (Performs.no_callee g args called) = tt
    performs_less i here ops s _ _ (Performs.no_numbers g args callee called bare is) = tt
    performs_less i here ops s _ _ (Performs.wrong_place g args callee called bodied before) = tt
    performs_less i here ops s _ _ (Performs.faults x) = tt
    performs_less i here ops s _ _ Performs.unfit = tt

    takes_less : (s : HolderState) (e : EdgeId) (next : HolderNext) → TakesEdge m told bound s rest frame f e next → OnGoing (Here s.turns) next
    takes_less s e next (TakesEdge.takes ops carried n found is turn way) =
        let target = left_behind-most frame.function (item.Edge e ∷ frame.trail) in
        on_map (HasLeft (s.turns + 1) (left_on frame.function (item.Edge e ∷ frame.trail) rest)) (Here s.turns)
        (λ t h. let same = h.1 in inr (ltb-true s.turns bound turn, h.0, omega (arith, same, target))) next
        (behind_left (turned s) rest (left_with m told bound frame ops) f (item.Edge e) _ next way)
    takes_less s e _ (TakesEdge.no_turn ops carried found is turn) = tt
    takes_less s e _ (TakesEdge.wrong_operand x found) = tt
    takes_less s e _ (TakesEdge.not_carried ops found is) = tt

    frame_leaves : (s : HolderState) (other : Frame) (x : Datum) (next : HolderNext) → Leaves m told bound s rest other f x next → OnGoing (Here s.turns) next
    frame_leaves s other x next (Leaves.leaves n held slots places way) =
        on_map (HasNoMore s.turns (left_in left rest)) (Here s.turns) (λ t h. let kept = h.1 in inl (h.0, omega (arith, kept))) next
        (reaches_left s x rest next way)
    frame_leaves s other x _ (Leaves.holds held) = tt
    frame_leaves s other x _ (Leaves.has_slot slots) = tt
    frame_leaves s other x _ (Leaves.wrong_place places) = tt

    acts_less : (s : HolderState) (next : HolderNext) → Acts m told bound s rest frame f next → OnGoing (Here s.turns) next
    acts_less s next (Acts.does i ops n here found way) = performs_less i here ops s (steps.effect_in m told bound s frame i ops.given) next way
    acts_less s next (Acts.branches i n stands one way) = takes_less s _ next way
    acts_less s next (Acts.chooses i choose x v k n stands how by worth chosen way) = takes_less s _ next way
    acts_less s next (Acts.returns i ops x n stands returns found one way) = frame_leaves s (left_with m told bound frame ops) x next way
    acts_less s _ (Acts.unreachable i stands e) = tt
    acts_less s _ (Acts.wrong_operand i x here found) = tt
    acts_less s _ (Acts.no_operand i choose stands how none) = tt
    acts_less s _ (Acts.no_entry i choose stands how by) = tt
    acts_less s _ (Acts.no_value i choose x stands how by none) = tt
    acts_less s _ (Acts.no_choice i choose x v stands how by worth none) = tt
    acts_less s _ (Acts.wrong_returned i x stands returns found) = tt
    acts_less s _ (Acts.not_one_returned i ops stands returns found none) = tt
    acts_less s _ (Acts.no_ending i stands e) = tt
    acts_less s _ (Acts.no_terminator behind none) = tt

  -- ---- drops and finishes

  -- the tasks are as they were, or a deinitialisation waits above them
  abbrev Dropped : HolderState → HolderState → Type 0
  Dropped s t = ((t.turns ≡ s.turns) × (t.tasks ≡ s.tasks)) ⊎ Less s.turns (left_in left s.tasks) t

  drops_one : (s : HolderState) (o : ObjectId) (next : HolderNext) → DropsOne m told bound s o next → OnGoing (Dropped s) next
  drops_one s o _ (DropsOne.held_still n is) = inl (refl, refl)
  drops_one s o _ (DropsOne.not_live none dead) = inl (refl, refl)
  drops_one s o _ (DropsOne.deinitialises none live turn) = inr (inr (ltb-true s.turns bound turn, refl, omega arith))
  drops_one s o _ (DropsOne.no_turn none live turn) = tt

  finishes_left : (s : HolderState) (o : ObjectId) (next : HolderNext) → FinishesOne m told bound s o next → OnGoing (HasLeft s.turns (left_in left s.tasks)) next
  finishes_left s o _ (FinishesOne.finishes none) = (refl, left_in-dropping left (field_references (object_at s.memory o)) s.tasks)
  finishes_left s o _ (FinishesOne.escapes n is) = tt

  -- ---- a step

  module _ (s : HolderState) where
    abbrev LeavesSo : HolderState → Type 0
    LeavesSo t = LeavesLess left (longest m) bound s t

    -- where the tasks were these
    less_of : (ts : List (Task Frame)) (t : HolderState) → s.tasks ≡ ts → Less s.turns (left_in left ts) t → LeavesSo t
    less_of ts t is h = inl (subst (λ us. Less s.turns (left_in left us) t) (sym is) h)

    abbrev one_less : List ObjectId → List (Task Frame) → HolderState
    one_less os rest = record s { tasks = Drops os ∷ rest; releases = s.releases + 1 }

    drops_so : (o : ObjectId) (os : List ObjectId) (rest : List (Task Frame)) (t : HolderState) → s.tasks ≡ Drops (o ∷ os) ∷ rest
        → Dropped (one_less os rest) t → LeavesSo t
    drops_so o os rest t is (inl h) = inr (h.0, rw (h.1, is) (omega arith), rw (h.1, is) (omega arith))
    drops_so o os rest t is (inr h) = less_of (Drops (o ∷ os) ∷ rest) t is h

    way_leaves : (next : HolderNext) → StepsBy m told bound s next → OnGoing LeavesSo next
    way_leaves next (StepsBy.runs frame rest f n is there way) =
        on_map (Here rest frame f there s.turns) LeavesSo (λ t h. less_of (Runs frame ∷ rest) t is h) next (acts_less rest frame f there s next way)
    way_leaves _ (StepsBy.dropped rest is) = inr (refl, rw is (omega arith), rw is (omega arith))
    way_leaves next (StepsBy.drops o os rest n is way) =
        on_map (Dropped (one_less os rest)) LeavesSo (λ t h. drops_so o os rest t is h) next (drops_one (one_less os rest) o next way)
    way_leaves next (StepsBy.finishes o rest n is way) =
        on_map (HasLeft s.turns (left_in left rest)) LeavesSo
        (λ t h. let same = h.1 in less_of (Finishes [] o ∷ rest) t is (inl (h.0, omega (arith, same)))) next
        (finishes_left (with_tasks m told bound s rest) o next way)
    way_leaves next (StepsBy.calls_deinit g gs o rest f n is there way) =
        on_map (Less s.turns (left_in left (Finishes gs o ∷ rest))) LeavesSo (λ t h. less_of (Finishes (g ∷ gs) o ∷ rest) t is h) next
        (enters_less (with_tasks m told bound s (Finishes gs o ∷ rest)) (Finishes gs o ∷ rest) g f _ next way)
    way_leaves _ (StepsBy.no_task is) = tt
    way_leaves _ (StepsBy.no_function frame rest is there) = tt
    way_leaves _ (StepsBy.no_deinit g gs o rest is there) = tt

  pub holder_leaves_less : (s : HolderState) → OnGoing (LeavesLess left (longest m) bound s) (steps.step m told bound s)
  holder_leaves_less s = way_leaves s (steps.step m told bound s) (steps_told m told bound s)

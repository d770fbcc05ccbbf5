-- Each step of a run of lowered code keeps its totals even, and so they are even in each state that the run comes to.
use Rattle.std.proofs.Common.{◌≡◌, ℕ, zero, suc, ◌+◌, ◌-◌, ◌<◌, ◌≢◌, ◌++◌, ⊎_elim, List, [], ◌∷◌, length, set, get_or, arith, refl, sym, ap, ◌∙◌, subst, Bool, true, false, cond}
use Rattle.std.proofs.Common.{Option, Some, None, find, sum_by}
use Rattle.std.specs.Prelude.{◌==◌}
use Rattle.std.proofs.lemmas.Bool.{eqb-false, eqb-true, false≢true}
use Rattle.std.proofs.lemmas.List.{get_or-set_other, length-set, length-append}
use Rattle.sil_ast.specs.declared.function.Function.{Function}
use Rattle.sil_ast.specs.declared.inst.Inst.{Inst}
use Rattle.sil_ast.specs.declared.module.Module.{Module}
use Rattle.sil_ast.specs.declared.place.EdgeId.{EdgeId}
use Rattle.sil_ast.specs.declared.place.FuncId.{FuncId}
use Rattle.sil_ast.specs.declared.place.ObjectId.{ObjectId}
use Rattle.sil_cfg.specs.declared.item.Item.{Item}
use Rattle.sil_types_declarations.specs.TypeDefinitions.Declarations.{declarations_of}
use Rattle.holder_model.specs.holder_model_values.RunValues.Memory.{Memory, Object, is_dead, is_dead_phase, object_at}
use Rattle.holder_model.specs.Data.{Datum}
use Rattle.holder_model.specs.Effects as effects
use Rattle.holder_model.specs.Effects.{Change}
use Rattle.holder_model.specs.ModuleShapes.{ModuleShapes, shapes_in}
use Rattle.holder_model.specs.Outcomes.{Numbers, run}
use Rattle.holder_model.specs.States.{Ends, Goes, Task, step_on}
use Rattle.holder_model.specs.declared.lowered_run.low_fault.LowFault.{LowFault}
use Rattle.holder_model.specs.LoweredRun.LowFrames.{LowFrame}
use Rattle.holder_model.specs.LoweredRun.LowOutcomes.{low_begins}
use Rattle.holder_model.specs.LoweredRun.LowStepParts.{LowNext, LowState, numbers_for}
use Rattle.holder_model.specs.LoweredRun.LowSteps.{low_step}
use Rattle.holder_model.specs.LoweredRun.LowSteps as steps
use Rattle.holder_model.specs.LoweredRun.Stored.{changed, new_numbers, numbers_of, one_less, one_more, unnamed}
use Rattle.holder_model_laws.specs.LoweredSteps.inner.LowWays.{Acts, Enters, Falls, FinishesOne, GoesBehind, Performs, Reaches, ReleasesOne, StepsBy, TakesEdge}
use Rattle.holder_model_laws.specs.LoweredSteps.inner.LowWays.{deinitialising, released, retained}
use Rattle.holder_model_laws.proofs.LoweredSteps.LowTold.{low_told}
use Rattle.holder_model_laws.specs.ReferenceTotals.inner.Totals.{AreTotalsOf, AreTotalsStored, BeginWithTotals, come_to}
use Rattle.holder_model_laws.proofs.ReferenceTotals.Grown.{Grown, GrownBy, effect_grown, stays}
use Rattle.holder_model_laws.proofs.ReferenceTotals.Objects.{alive_within, dead_at, pushed_alive, set_alive, set_any}
use Rattle.holder_model_laws.proofs.ReferenceTotals.Strongs.{changed_strongs, insts_left, joined_strongs, push_sum, pushed, set_sum, strong_at, strongs, strongs_length, strongs_sum, unnamed_left}

-- ---- totals by the strong numbers alone

pub record AreEven (memory : Memory) (ks : List ℕ) (retains releases : ℕ) : Type 0 where
  pub size : length ks ≡ length memory.objects
  pub even : length memory.objects + retains ≡ sum_by (λ n. n) ks + releases
  pub dead : (o : ObjectId) → is_dead memory o ≡ true → get_or ks o.0 0 ≡ 0

abbrev IsEven : LowState → Type 0
IsEven l = AreEven l.memory (strongs l.numbers) l.retains l.releases

pub even_of : (l : LowState) → AreTotalsOf l → IsEven l
even_of l h = record {
  size = strongs_length l.numbers ∙ h.size;
  even = h.even ∙ ap (λ k. k + l.releases) (sym (strongs_sum l.numbers));
  dead = λ o is. sym (strong_at l.numbers o.0) ∙ h.dead o is;
}

totals_of : (l : LowState) → IsEven l → AreTotalsOf l
totals_of l h = record {
  size = sym (strongs_length l.numbers) ∙ h.size;
  even = h.even ∙ ap (λ k. k + l.releases) (strongs_sum l.numbers);
  dead = λ o is. strong_at l.numbers o.0 ∙ h.dead o is;
}

-- ---- retains and releases

-- the number of an object that isn't dead changes
module _ (memory : Memory) (ks : List ℕ) (retains releases : ℕ) (h : AreEven memory ks retains releases) (o : ObjectId) (alive : is_dead memory o ≡ false) where
  has_number : o.0 < length ks
  has_number = let lt = alive_within memory.objects o.0 alive in omega (arith, lt, h.size)

  still_dead : (k : ℕ) (p : ObjectId) → is_dead memory p ≡ true → get_or (set ks o.0 k) p.0 0 ≡ 0
  still_dead k p is = get_or-set_other ks o.0 p.0 k 0 apart ∙ h.dead p is
    where
      other : p.0 ≡ o.0 → ⊥
      other e = false≢true (sym alive ∙ subst (λ (n : ℕ). is_dead memory (record { 0 = n }) ≡ true) e is)

      apart : p.0 ≢ o.0
      apart = other

  one_retained : AreEven memory (set ks o.0 (get_or ks o.0 0 + 1)) (retains + 1) releases
  one_retained = record {
    size = length-set ks o.0 _ ∙ h.size;
    even = let more = set_sum ks o.0 (get_or ks o.0 0 + 1) has_number in omega (arith, more, h.even);
    dead = still_dead (get_or ks o.0 0 + 1);
  }

  one_released : (left : ℕ) → get_or ks o.0 0 ≡ suc left → AreEven memory (set ks o.0 left) retains (releases + 1)
  one_released left is = record {
    size = length-set ks o.0 _ ∙ h.size;
    even = let less = set_sum ks o.0 left has_number in omega (arith, less, is, h.even);
    dead = still_dead left;
  }

-- the numbers of one object after another grow
none_first : (b : Bool) (o : ObjectId) (rest : Option ObjectId) → cond b (Some o) rest ≡ None → (b ≡ false) × (rest ≡ None)
none_first true o rest e = grind arith
none_first false o rest e = (refl, e)

retained_memory : (os : List ObjectId) (s : LowState) → (retained os s).memory ≡ s.memory
retained_memory [] s = refl
retained_memory (o ∷ os) s = retained_memory os (record s { numbers = changed one_more s.numbers o; retains = s.retains + 1 })

each_retained : (os : List ObjectId) (s : LowState) → find (is_dead s.memory) os ≡ None → IsEven s → IsEven (retained os s)
each_retained [] s alive h = h
each_retained (o ∷ os) s alive h =
    let first = none_first (is_dead s.memory o) o (find (is_dead s.memory) os) alive in
    each_retained os (record s { numbers = changed one_more s.numbers o; retains = s.retains + 1 }) first.1
    (subst (λ ks. AreEven s.memory ks (s.retains + 1) s.releases)
    (sym (changed_strongs one_more s.numbers o ∙ ap (λ k. set (strongs s.numbers) o.0 (k + 1)) (strong_at s.numbers o.0)))
    (one_retained s.memory (strongs s.numbers) s.retains s.releases h o first.0))

-- ---- objects that are made

same_size : (m later : Memory) (stored : List Numbers) → length stored ≡ length m.objects → length later.objects ≡ length m.objects → numbers_for later stored ≡ stored
same_size m later stored size same = at (length stored == length later.objects) refl
  where
    at : (b : Bool) → (length stored == length later.objects) ≡ b → cond b stored (stored ++ new_numbers ∷ []) ≡ stored
    at true e = refl
    at false e = absurd (eqb-false (length stored) (length later.objects) e (size ∙ sym same))

one_larger : (m later : Memory) (stored : List Numbers) → length stored ≡ length m.objects → length later.objects ≡ suc (length m.objects)
    → numbers_for later stored ≡ stored ++ new_numbers ∷ []
one_larger m later stored size larger = at (length stored == length later.objects) refl
  where
    at : (b : Bool) → (length stored == length later.objects) ≡ b → cond b stored (stored ++ new_numbers ∷ []) ≡ stored ++ new_numbers ∷ []
    at true e = let same = eqb-true (length stored) (length later.objects) e in absurd (omega (arith, size, larger, same))
    at false e = refl

module _ (m later : Memory) (stored : List Numbers) (retains releases : ℕ) (h : AreEven m (strongs stored) retains releases) where
  sized : length stored ≡ length m.objects
  sized = sym (strongs_length stored) ∙ h.size

  behind_same : length later.objects ≡ length m.objects → ((o : ObjectId) → is_dead later o ≡ true → is_dead m o ≡ true)
      → AreEven later (strongs (numbers_for later stored)) retains releases
  behind_same size dead = subst (λ ns. AreEven later (strongs ns) retains releases) (sym (same_size m later stored sized size)) (record {
    size = h.size ∙ sym size;
    even = ap (λ n. n + retains) size ∙ h.even;
    dead = λ o is. h.dead o (dead o is);
  })

  abbrev ks : List ℕ
  ks = strongs stored

  behind_one : (x : Object) → is_dead_phase x.phase ≡ false → later.objects ≡ m.objects ++ x ∷ [] → AreEven later (strongs (numbers_for later stored)) retains releases
  behind_one x alive is =
      subst (λ ns. AreEven later (strongs ns) retains releases) (sym (one_larger m later stored sized larger))
      (subst (λ ks. AreEven later ks retains releases) (sym (joined_strongs stored)) (record {
        size = length-append ks (1 ∷ []) ∙ omega (arith, h.size, larger);
        even = let more = push_sum ks 1 in omega (arith, more, larger, h.even);
        dead = none_stored;
      }))
    where
      larger : length later.objects ≡ suc (length m.objects)
      larger = ap length is ∙ length-append m.objects (x ∷ []) ∙ omega arith

      none_stored : (o : ObjectId) → is_dead later o ≡ true → get_or (ks ++ 1 ∷ []) o.0 0 ≡ 0
      none_stored o dead =
          let was = pushed_alive m.objects x o.0 alive (subst (λ xs. dead_at xs o.0 ≡ true) is dead) in
          ⊎_elim (λ (e : get_or (ks ++ 1 ∷ []) o.0 0 ≡ get_or ks o.0 0). e ∙ h.dead o was.0) (λ (e : o.0 ≡ length ks). absurd (was.1 (e ∙ h.size))) (pushed ks 1 o.0)

  pub behind_grown : Grown m later → AreEven later (strongs (numbers_for later stored)) retains releases
  behind_grown (Grown.same size dead) = behind_same size dead
  behind_grown (Grown.one x alive is) = behind_one x alive is

-- ---- the ways of a step

module _ (m : Module) (told : ModuleShapes) (bound : ℕ) where
  goes_behind : (s : LowState) (rest : List (Task LowFrame)) (frame : LowFrame) (f : Function) (i : Item) (c : Change) (next : LowNext) → Grown s.memory c.memory
      → GoesBehind m told bound s rest frame f i c next → IsEven s → IsEven (come_to next)
  goes_behind s rest frame f i c _ grown (GoesBehind.goes slots values is put alive) h =
      behind_grown (retained c.retained s).memory c.memory (retained c.retained s).numbers (retained c.retained s).retains (retained c.retained s).releases
      (each_retained c.retained s alive h) (subst (λ x. Grown x c.memory) (sym (retained_memory c.retained s)) grown)
  goes_behind s rest frame f i c _ grown (GoesBehind.wrong_slot x is) h = h
  goes_behind s rest frame f i c _ grown (GoesBehind.wrong_result slots is put) h = h
  goes_behind s rest frame f i c _ grown (GoesBehind.retains_dead slots values before behind o is put those alive dead) h = each_retained before s alive h

  enters : (s : LowState) (rest : List (Task LowFrame)) (g : FuncId) (callee : Function) (args : List Datum) (next : LowNext)
      → Enters m told bound s rest g callee args next → IsEven s → IsEven (come_to next)
  enters s rest g callee args _ (Enters.enters values put deep turn) h = h
  enters s rest g callee args _ (Enters.too_deep values put deep) h = h
  enters s rest g callee args _ (Enters.no_turn values put deep turn) h = h
  enters s rest g callee args _ (Enters.wrong_argument put) h = h

  performs : (s : LowState) (rest : List (Task LowFrame)) (frame : LowFrame) (f : Function) (i : Item) (e : effects.Effect LowFault) (next : LowNext)
      → GrownBy s.memory e → Performs m told bound s rest frame f i e next → IsEven s → IsEven (come_to next)
  performs s rest frame f i _ next grown (Performs.makes c _ way) h = goes_behind s rest frame f i c next grown way h
  performs s rest frame f i _ next grown (Performs.calls g args callee _ there bodied way) h = enters s _ g callee args next way h
  performs s rest frame f i _ next grown (Performs.calls_out g args callee numbers _ there bare is turn way) h =
      goes_behind _ rest frame f i _ next (stays s.memory) way h
  performs s rest frame f i _ _ grown (Performs.no_turn g args callee numbers there bare is turn) h = h
  performs s rest frame f i _ _ grown (Performs.traps t) h = h
  performs s rest frame f i _ _ grown (Performs.no_callee g args there) h = h
  performs s rest frame f i _ _ grown (Performs.no_numbers g args callee there bare is) h = h
  performs s rest frame f i _ _ grown (Performs.faults x) h = h
  performs s rest frame f i _ _ grown Performs.unfit h = h

  reaches : (s : LowState) (x : Datum) (rest : List (Task LowFrame)) (next : LowNext) → Reaches m told bound s x rest next → IsEven s → IsEven (come_to next)
  reaches s x _ _ (Reaches.ends v is alive) h = h
  reaches s x _ next (Reaches.resumes frame rest f _ there way) h = goes_behind s rest frame f _ _ next (stays s.memory) way h
  reaches s x _ _ (Reaches.finishes deinits o rest) h = h
  reaches s x _ _ (Reaches.no_value is) h = h
  reaches s x _ _ (Reaches.returns_dead v o is dead) h = h
  reaches s x _ _ (Reaches.no_function frame rest there) h = h
  reaches s x _ _ (Reaches.on_drops os rest) h = h

  module _ (s : LowState) (rest : List (Task LowFrame)) (frame : LowFrame) (f : Function) where
    takes_edge : (e : EdgeId) (next : LowNext) → TakesEdge m told bound s rest frame f e next → IsEven s → IsEven (come_to next)
    takes_edge e next (TakesEdge.takes xs carried _ read is turn way) h = goes_behind _ rest frame f _ _ next (stays s.memory) way h
    takes_edge e _ (TakesEdge.no_turn xs carried read is turn) h = h
    takes_edge e _ (TakesEdge.missing x read) h = h
    takes_edge e _ (TakesEdge.not_carried xs read is) h = h

    with_names : (i : Inst) (xs : List Datum) → IsEven s → IsEven (steps.with_names m told bound s frame i xs)
    with_names i xs h =
        subst (λ ks. AreEven s.memory ks s.retains s.releases)
        (sym (insts_left (declarations_of m) told (shapes_in told frame.function) s.memory i xs s.numbers)) h

    acts : (next : LowNext) → Acts m told bound s rest frame f next → IsEven s → IsEven (come_to next)
    acts next (Acts.does i xs _ here read way) h =
        performs _ rest frame f _ _ next (effect_grown (declarations_of m) told (shapes_in told frame.function) s.memory i xs) way (with_names i xs h)
    acts next (Acts.branches i _ stands is way) h = takes_edge _ next way h
    acts next (Acts.chooses i choose xs x v k _ stands how read one worth is way) h = takes_edge _ next way h
    acts next (Acts.returns i xs x _ stands is read slots one way) h = reaches s x rest next way h
    acts _ (Acts.unreachable i stands is) h = h
    acts _ (Acts.missing i x here read) h = h
    acts _ (Acts.missing_chosen i choose x stands how read) h = h
    acts _ (Acts.not_one_chosen i choose xs stands how read one) h = h
    acts _ (Acts.no_value i choose xs x stands how read one worth) h = h
    acts _ (Acts.no_choice i choose xs x v stands how read one worth is) h = h
    acts _ (Acts.missing_returned i x stands is read) h = h
    acts _ (Acts.leaves_slot i xs stands is read slots) h = h
    acts _ (Acts.not_one_returned i xs stands is read slots one) h = h
    acts _ (Acts.no_ending i stands is) h = h
    acts _ (Acts.no_terminator behind terminator) h = h

  -- an object that isn't dead changes its phase, and isn't dead behind that
  deinits : (s : LowState) (o : ObjectId) → IsEven s → IsEven (deinitialising m told bound s o)
  deinits s o h = record {
    size = h.size ∙ sym (length-set s.memory.objects o.0 _);
    even = ap (λ n. n + s.retains) (length-set s.memory.objects o.0 _) ∙ h.even;
    dead = λ p is. h.dead p (set_alive s.memory.objects o.0 p.0 _ refl is);
  }

  falls : (s : LowState) (o : ObjectId) (n : ℕ) (next : LowNext) → Falls m told bound s o n next → IsEven s → IsEven (come_to next)
  falls s o _ _ (Falls.held_still left) h = h
  falls s o _ _ (Falls.not_live live) h = h
  falls s o _ _ (Falls.deinitialises live turn) h = deinits s o h
  falls s o _ _ (Falls.no_turn live turn) h = h

  one_less_of : (s : LowState) (o : ObjectId) (left : ℕ) → is_dead s.memory o ≡ false → (numbers_of s.numbers o).strong ≡ suc left → IsEven s → IsEven (released m told bound s o)
  one_less_of s o left alive is h =
      subst (λ ks. AreEven s.memory ks s.retains (s.releases + 1))
      (sym (changed_strongs one_less s.numbers o ∙ ap (λ k. set (strongs s.numbers) o.0 (k - 1)) is ∙ ap (set (strongs s.numbers) o.0) (omega arith)))
      (one_released s.memory (strongs s.numbers) s.retains s.releases h o alive left (sym (strong_at s.numbers o.0) ∙ is))

  releases : (s : LowState) (o : ObjectId) (next : LowNext) → ReleasesOne m told bound s o next → IsEven s → IsEven (come_to next)
  releases s o next (ReleasesOne.releases left _ alive is way) h = falls _ o left next way (one_less_of s o left alive is h)
  releases s o _ (ReleasesOne.dead dead) h = h
  releases s o _ (ReleasesOne.underflow alive is) h = h

  -- what weak and unowned fields named
  ceases : (s : LowState) (o : ObjectId) → IsEven s → AreEven s.memory (strongs (unnamed (object_at s.memory o).cells s.numbers)) s.retains s.releases
  ceases s o h = subst (λ ks. AreEven s.memory ks s.retains s.releases) (sym (unnamed_left (object_at s.memory o).cells s.numbers)) h

  finishes : (s : LowState) (o : ObjectId) (next : LowNext) → FinishesOne m told bound s o next → IsEven s → IsEven (come_to next)
  finishes s o _ (FinishesOne.finishes is) h =
      let g = ceases s o h in
      record {
        size = g.size ∙ sym (length-set s.memory.objects o.0 _);
        even = ap (λ n. n + s.retains) (length-set s.memory.objects o.0 _) ∙ g.even;
        dead = λ p dead. ⊎_elim
            (λ (e : p.0 ≡ o.0).
            ap (λ ks. get_or ks p.0 0) (unnamed_left (object_at s.memory o).cells s.numbers) ∙ ap (λ k. get_or (strongs s.numbers) k 0) e
            ∙ sym (strong_at s.numbers o.0) ∙ is)
            (λ (was : is_dead s.memory p ≡ true). g.dead p was)
            (set_any s.memory.objects o.0 p.0 _ dead);
      }
  finishes s o _ (FinishesOne.escapes left is) h = ceases s o h

  step_even : (s : LowState) (next : LowNext) → StepsBy m told bound s next → IsEven s → IsEven (come_to next)
  step_even s next (StepsBy.runs frame rest f _ is there way) h = acts s rest frame f next way h
  step_even s _ (StepsBy.dropped rest is) h = h
  step_even s next (StepsBy.drops o os rest _ is way) h = releases _ o next way h
  step_even s next (StepsBy.finishes o rest _ is way) h = finishes _ o next way h
  step_even s next (StepsBy.calls_deinit g gs o rest f _ is there way) h = enters _ _ g f _ next way h
  step_even s _ (StepsBy.no_task is) h = h
  step_even s _ (StepsBy.no_function frame rest is there) h = h
  step_even s _ (StepsBy.no_deinit g gs o rest is there) h = h

  kept : (s : LowState) → AreTotalsOf s → AreTotalsOf (come_to (low_step m told bound s))
  kept s h = totals_of (come_to (low_step m told bound s)) (step_even s (low_step m told bound s) (low_told m told bound s) (even_of s h))

  pub come_kept : (k : ℕ) (s : LowState) → AreTotalsOf s → AreTotalsOf (come_to (run (low_step m told bound) k s))
  come_kept zero s h = h
  come_kept (suc k) s h = at (low_step m told bound s) (kept s h) (λ t. come_kept k t)
    where
      at : (n : LowNext) → AreTotalsOf (come_to n) → ((t : LowState) → AreTotalsOf t → AreTotalsOf (come_to (run (low_step m told bound) k t)))
          → AreTotalsOf (come_to (step_on (run (low_step m told bound) k) n))
      at (Goes t) g on = on t g
      at (Ends e t) g on = g

pub begin_with_totals : BeginWithTotals
begin_with_totals e f = record { size = refl; even = refl; dead = λ o is. refl }

pub totals_stored : AreTotalsStored
totals_stored m told bound e f steps = come_kept m told bound steps (low_begins e f) (begin_with_totals e f)

-- Drops, and the start of a deinitialisation: what is released has its stored number, and the states go along.
use Rattle.std.proofs.Common.{◌≡◌, ℕ, zero, suc, ◌+◌, ◌-◌, ◌<◌, length-set, List, [], ◌∷◌, ◌++◌, length, arith, refl, sym, ap, ◌∙◌, subst, Bool, true, false, eq-eqb}
use Rattle.std.specs.Prelude.{cond, nat_lt}
use Rattle.std.proofs.lemmas.Bool.{true≢false}
use Rattle.numbered_form.specs.Lists.{Each}
use Rattle.sil_ast.specs.declared.module.Module.{Module}
use Rattle.sil_ast.specs.declared.place.ObjectId.{ObjectId}
use Rattle.sil_types_declarations.specs.TypeDefinitions.Declarations.{declarations_of}
use Rattle.holder_model_values.specs.RunValues.Memory.{Memory, Object, is_dead, is_live, object_at}
use Rattle.sil_verifier_runs.specs.holder_model.declared.event.Event.TheVariants as event
use Rattle.sil_verifier_runs.specs.holder_model.Dropping.{deinits_of}
use Rattle.sil_verifier_runs.specs.holder_model.Frames.{Frame}
use Rattle.sil_verifier_runs.specs.holder_model.HolderStates.{HolderNext, HolderState, strong_holders}
use Rattle.sil_verifier_runs.specs.holder_model.Holders.{one_object, unowned_holders, weak_holders}
use Rattle.sil_verifier_runs.specs.holder_model.ModuleFacts.{facts_of}
use Rattle.sil_verifier_runs.specs.holder_model.ModuleShapes.{shapes_of}
use Rattle.sil_verifier_runs.specs.holder_model.Outcomes.{Numbers}
use Rattle.sil_verifier_runs.specs.holder_model.States.{Drops, Ends, Finishes, Goes, OutOfTurns, Task}
use Rattle.sil_verifier_runs.specs.holder_model.LoweredRun.LowFrames.{LowFrame}
use Rattle.sil_verifier_runs.specs.holder_model.LoweredRun.LowStepParts.{LowNext, LowState}
use Rattle.sil_verifier_runs.specs.holder_model.LoweredRun.LowSteps as steps
use Rattle.sil_verifier_runs.specs.holder_model.LoweredRun.Stored.{numbers_of, one_less}
use Rattle.ownership_lowering_laws.specs.ownership_lowering_model.LoweredModules.{lowered}
use Rattle.sil_verifier_runs.specs.holder_model_laws.HolderLaws.inner.Steps.Ways as holder
use Rattle.sil_verifier_runs.specs.holder_model_laws.HolderLaws.inner.Steps.Ways.{DropsOne}
use Rattle.sil_verifier_runs.specs.holder_model_laws.LoweredSteps.inner.LowWays as ways
use Rattle.sil_verifier_runs.specs.holder_model_laws.LoweredSteps.inner.LowWays.{Falls, ReleasesOne, StepsBy, released}
use Rattle.sil_verifier_runs.proofs.holder_model_laws.LoweredSteps.LowTaken.{told_taken}
use Rattle.ownership_lowering_runs.specs.StoredRuns.inner.Frames.{AreTasksFor, HasFullParts, IsTaskFor}
use Rattle.sil_verifier_runs.specs.holder_model_laws.StoredCounts.inner.Numbers.{AreCounts, holders_of}
use Rattle.ownership_lowering_runs.specs.StoredRuns.inner.Runs.{IsEndingFor, IsNextFor}
use Rattle.ownership_lowering_runs.specs.StoredRuns.inner.States.{IsStateFor}
use Rattle.ownership_lowering_runs.proofs.StoredRuns.MemoriesFor.{dead_for, live_for, object_for, phase_put}
use Rattle.sil_verifier_runs.proofs.holder_model_laws.StoredCounts.StoredCounts.{changed_length, less_strong_by, one_changed, strong_less}

-- what stands on top of both
pub record DropsTop (m : Module) (os : List ObjectId) (rest : List (Task Frame)) (l : LowState) : Type 0 where
  pub others : List (Task LowFrame)
  pub is_top : l.tasks ≡ Drops os ∷ others
  pub rest_for : AreTasksFor m rest others

low_drops : (m : Module) (os : List ObjectId) (x : Task LowFrame) → IsTaskFor m (Drops os) x → x ≡ Drops os
low_drops m _ _ (IsTaskFor.drops os) = refl

pub drops_top : (m : Module) (os : List ObjectId) (rest : List (Task Frame)) (tasks : List (Task Frame)) (l : LowState) → AreTasksFor m tasks l.tasks → tasks ≡ Drops os ∷ rest
    → DropsTop m os rest l
drops_top m os rest tasks l h is = at l.tasks refl (subst (λ ts. AreTasksFor m ts l.tasks) is h)
  where
    at : (ts : List (Task LowFrame)) → l.tasks ≡ ts → AreTasksFor m (Drops os ∷ rest) ts → DropsTop m os rest l
    at [] e k = absurd k
    at (x ∷ ts) e k = record { others = ts; is_top = e ∙ ap (λ y. y ∷ ts) (low_drops m os x k.0); rest_for = k.1 }

-- an object that isn't dead was made
pub alive_within : (m : Memory) (o : ObjectId) → is_dead m o ≡ false → o.0 < length m.objects
alive_within m o alive = at m.objects o.0 alive
  where
    at : (xs : List Object) (k : ℕ) → is_dead (record { stack = m.stack; objects = xs }) (record { 0 = k }) ≡ false → k < length xs
    at [] k e = absurd (true≢false e)
    at (x ∷ xs) zero e = omega arith
    at (x ∷ xs) (suc k) e = let r = at xs k e in omega arith

full_parts_same : (m : Module) (low : Memory) (tasks : List (Task LowFrame)) (os : List ObjectId) (others : List (Task LowFrame)) → tasks ≡ Drops os ∷ others
    → Each (HasFullParts m low) tasks → Each (HasFullParts m low) others
full_parts_same m low tasks os others is h = (subst (Each (HasFullParts m low)) is h).1

module _ (m : Module) (bound : ℕ) (s : HolderState) (l : LowState) (related : IsStateFor m s l) (o : ObjectId) (os : List ObjectId) (rest : List (Task Frame))
    (is : s.tasks ≡ Drops (o ∷ os) ∷ rest) (alive : is_dead s.memory o ≡ false) where
  -- the reference has left its list, and the release is counted
  abbrev s1 : HolderState
  s1 = record s { tasks = Drops os ∷ rest; releases = s.releases + 1 }

  module _ (counted : (p : ObjectId) → strong_holders s1 p + one_object p o ≡ strong_holders s p)
      (deinit_counted : is_live s.memory o ≡ true → (p : ObjectId) → holders_of (holder.deinitialising m (facts_of m) bound s1 o) p ≡ holders_of s1 p)
      (parts_stay : (tasks : List (Task LowFrame)) → Each (HasFullParts m l.memory) tasks
      → Each (HasFullParts m (ways.deinitialising (lowered m) (shapes_of (lowered m)) bound l o).memory) tasks) where
    top : DropsTop m (o ∷ os) rest l
    top = drops_top m (o ∷ os) rest s.tasks l related.tasks is

    abbrev l1 : LowState
    l1 = ways.with_tasks (lowered m) (shapes_of (lowered m)) bound l (Drops os ∷ top.others)

    abbrev l2 : LowState
    l2 = released (lowered m) (shapes_of (lowered m)) bound l1 o

    within : o.0 < length l.numbers
    within = subst (λ n. o.0 < n) (sym related.counts.size) (alive_within s.memory o alive)

    itself : one_object o o ≡ 1
    itself = ap (λ b. cond b 1 0) (eq-eqb o.0 o.0 refl)

    number : (numbers_of l.numbers o).strong ≡ suc (strong_holders s1 o)
    number =
        ap (λ (n : Numbers). n.strong) (related.counts.each o)
        ∙ (let a = counted o in let b = itself in omega (arith, a, b))

    -- the numbers behind the release
    counts : AreCounts s1 l2.numbers
    counts = record {
      size = changed_length one_less l.numbers o ∙ related.counts.size;
      each = λ p. one_changed one_less less_strong_by strong_less l.numbers o within p ∙ ap (less_strong_by (one_object p o)) (related.counts.each p)
          ∙ ap (λ n. record { strong = n; unowned = unowned_holders s.memory p; weak = weak_holders s.memory p }) (less p);
    }
      where
        less : (p : ObjectId) → strong_holders s p - one_object p o ≡ strong_holders s1 p
        less p = let a = counted p in omega (arith, a)

    state : IsStateFor m s1 l2
    state = record {
      tasks = (IsTaskFor.drops os, top.rest_for);
      memory = related.memory;
      parts = (tt, full_parts_same m l.memory l.tasks (o ∷ os) top.others top.is_top related.parts);
      counts = counts;
      events = related.events;
      turns = related.turns;
      retains = related.retains;
      releases = ap (λ n. n + 1) related.releases;
    }

    deinit_state : is_live s.memory o ≡ true → IsStateFor m (holder.deinitialising m (facts_of m) bound s1 o) (ways.deinitialising (lowered m) (shapes_of (lowered m)) bound l2 o)
    deinit_state live = record {
      tasks = (
        subst (λ c. IsTaskFor m (Finishes (deinits_of (declarations_of m) (object_at s.memory o).class) o) (Finishes (deinits_of (declarations_of m) c) o)) (sym class)
            (IsTaskFor.finishes (deinits_of (declarations_of m) (object_at s.memory o).class) o),
        (IsTaskFor.drops os, top.rest_for),
      );
      memory = phase_put s.memory l.memory related.memory _ o;
      parts = (tt, (tt, parts_stay top.others (full_parts_same m l.memory l.tasks (o ∷ os) top.others top.is_top related.parts)));
      counts = record { size = counts.size ∙ sym (length-set s.memory.objects o.0 _); each = λ p. counts.each p ∙ sym (deinit_counted live p) };
      events = ap (λ es. es ++ event.Deinit (object_at l.memory o).class o ∷ []) related.events ∙ ap (λ c. s.events ++ event.Deinit c o ∷ []) class;
      turns = ap (λ n. n + 1) related.turns;
      retains = related.retains;
      releases = ap (λ n. n + 1) related.releases;
    }
      where
        class : (object_at l.memory o).class ≡ (object_at s.memory o).class
        class = (object_for s.memory l.memory related.memory o).class

    -- ---- the step

    pub record NextSo (next : HolderNext) : Type 0 where
      pub low_next : LowNext
      pub step : steps.low_step (lowered m) (shapes_of (lowered m)) bound l ≡ low_next
      pub for : IsNextFor m next low_next

    falls : (n : ℕ) (next : LowNext) → strong_holders s1 o ≡ n → Falls (lowered m) (shapes_of (lowered m)) bound l2 o n next
        → steps.low_step (lowered m) (shapes_of (lowered m)) bound l ≡ next
    falls n next e way =
        told_taken (lowered m) (shapes_of (lowered m)) bound l next
        (StepsBy.drops o os top.others next top.is_top
        (ReleasesOne.releases n next (dead_for s.memory l.memory related.memory o ∙ alive) (number ∙ ap suc e) way))

    live_low : (b : Bool) → is_live s.memory o ≡ b → is_live l.memory o ≡ b
    live_low b e = live_for s.memory l.memory related.memory o ∙ e

    turn_low : (b : Bool) → nat_lt s.turns bound ≡ b → nat_lt l.turns bound ≡ b
    turn_low b e = ap (λ n. nat_lt n bound) related.turns ∙ e

    pub dropping_step : (next : HolderNext) → DropsOne m (facts_of m) bound s1 o next → NextSo next
    dropping_step _ (DropsOne.held_still left e) = record { low_next = Goes l2; step = falls (suc left) (Goes l2) e (Falls.held_still left); for = state }
    dropping_step _ (DropsOne.not_live e live) = record { low_next = Goes l2; step = falls 0 (Goes l2) e (Falls.not_live (live_low false live)); for = state }
    dropping_step _ (DropsOne.deinitialises e live turn) = record {
      low_next = Goes (ways.deinitialising (lowered m) (shapes_of (lowered m)) bound l2 o);
      step = falls 0 _ e (Falls.deinitialises (live_low true live) (turn_low true turn));
      for = deinit_state live;
    }
    dropping_step _ (DropsOne.no_turn e live turn) = record {
      low_next = Ends OutOfTurns l2;
      step = falls 0 (Ends OutOfTurns l2) e (Falls.no_turn (live_low true live) (turn_low false turn));
      for = record { events = related.events; ending = IsEndingFor.out_of_turns; left = refl; retains = related.retains; releases = ap (λ n. n + 1) related.releases };
    }

-- A drop and a finish in both runs.
use Rattle.std.proofs.Common.{◌≡◌, ◌⊎◌, inl, inr, ℕ, suc, ◌+◌, List, [], ◌∷◌, refl, sym, ap, ap₂, ◌∙◌, subst, true, false, Some}
use Rattle.std.specs.Prelude.{drop, is_some, slice_get, take}
use Rattle.std.specs.List.{flat_map}
use Rattle.numbered_form.specs.Lists.{Each}
use Rattle.sil_ast.specs.declared.decl.Storage.TheVariants as storage
use Rattle.sil_ast.specs.declared.module.Module.{Module}
use Rattle.sil_ast.specs.declared.place.ObjectId.{ObjectId}
use Rattle.holder_model_values.specs.declared.run_values.phase.Phase.TheVariants.{Deiniting}
use Rattle.holder_model_values.specs.RunValues.Cells.{Cell, Empty, cell_count, in_cells}
use Rattle.holder_model_values.specs.RunValues.Memory.{Memory, is_dead, object_at, with_object}
use Rattle.holder_model_values.specs.RunValues.Places.{Home, Inside, OnStack, home_cells}
use Rattle.sil_verifier_runs.specs.holder_model.declared.trap.Trap.TheVariants as trap
use Rattle.sil_verifier_runs.specs.holder_model.Dropping.{ended, field_references, in_phase}
use Rattle.sil_verifier_runs.specs.holder_model.Frames.{Frame}
use Rattle.sil_verifier_runs.specs.holder_model.HolderStates.{HolderNext, HolderState, strong_holders}
use Rattle.sil_verifier_runs.specs.holder_model.Holders.{kept_references, one_object}
use Rattle.sil_verifier_runs.specs.holder_model.ModuleFacts.{facts_of}
use Rattle.sil_verifier_runs.specs.holder_model.ModuleShapes.{ModuleShapes, shapes_of}
use Rattle.sil_verifier_runs.specs.holder_model.Outcomes.{Numbers}
use Rattle.sil_verifier_runs.specs.holder_model.States.{Drops, Ends, Finishes, Goes, Task, Trapped, dropping}
use Rattle.sil_verifier_runs.specs.holder_model.LoweredRun.LowFrames.{LowFrame}
use Rattle.sil_verifier_runs.specs.holder_model.LoweredRun.LowStepParts.{LowNext, LowState}
use Rattle.sil_verifier_runs.specs.holder_model.LoweredRun.LowSteps as steps
use Rattle.sil_verifier_runs.specs.holder_model.LoweredRun.Stored.{unnamed}
use Rattle.ownership_lowering_laws.specs.ownership_lowering_model.LoweredModules.{lowered}
use Rattle.sil_verifier_runs.specs.holder_model_laws.HolderLaws.inner.Steps.Ways as holder
use Rattle.sil_verifier_runs.specs.holder_model_laws.LoweredSteps.inner.LowWays as ways
use Rattle.sil_verifier_runs.proofs.holder_model_laws.LoweredSteps.LowTaken.{told_taken}
use Rattle.sil_verifier_runs.specs.holder_model_laws.HolderLaws.inner.Counts.Moving.{in_tasks}
use Rattle.sil_verifier_runs.proofs.holder_model_laws.HolderLaws.Counts.Moves.{deinits_counted, drops_counted}
use Rattle.sil_verifier_runs.proofs.holder_model_laws.HolderLaws.Counts.Places.{phases_counted}
use Rattle.sil_verifier_runs.specs.holder_model_laws.StoredCounts.inner.Numbers.{AreCounts, AreNamesStored, holders_of}
use Rattle.sil_verifier_runs.proofs.holder_model_laws.StoredCounts.Turns.{deaths_stored, same_numbers, tasks_stored}
use Rattle.ownership_lowering_runs.specs.StoredRuns.inner.Frames.{AreTasksFor, HasFullParts}
use Rattle.ownership_lowering_runs.specs.StoredRuns.inner.Memories.{AreCellsFor, IsCellFor}
use Rattle.ownership_lowering_runs.specs.StoredRuns.inner.Runs.{IsEndingFor}
use Rattle.ownership_lowering_runs.specs.StoredRuns.inner.States.{IsStateFor}
use Rattle.ownership_lowering_runs.proofs.StoredRuns.HandedOver.{set_cases}
use Rattle.ownership_lowering_runs.proofs.StoredRuns.MemoriesFor.{object_ended, object_for}
use Rattle.ownership_lowering_runs.proofs.StoredRuns.RowSteps.{KeepsFull, parts_kept}
use Rattle.ownership_lowering_runs.proofs.StoredRuns.StayingSteps.{dropping_for}
use Rattle.ownership_lowering_runs.proofs.StoredRuns.TaskSteps as tasks
use Rattle.ownership_lowering_runs.proofs.StoredRuns.Typed.TypedSteps.{LowFinish, finish_top}
use Rattle.ownership_lowering_runs.specs.SameRuns.inner.Followed.{StepsToo}

-- what finishes isn't dead, and each of its fields is written
pub record FinishesWhole (s : HolderState) (o : ObjectId) : Type 0 where
  pub alive : is_dead s.memory o ≡ false
  pub written : (n : ℕ) → slice_get (object_at s.memory o).cells n ≡ Some Empty → ⊥

-- ---- cells

-- where no cell is empty the lowered run has the same
cells_same : (xs low : List Cell) → AreCellsFor xs low → ((n : ℕ) → slice_get xs n ≡ Some Empty → ⊥) → low ≡ xs
cells_same [] [] h w = refl
cells_same [] (l ∷ low) h w = absurd h
cells_same (c ∷ xs) [] h w = absurd h
cells_same (c ∷ xs) (l ∷ low) h w = ap₂ (λ a b. a ∷ b) (one c l h.0 (w 0)) (cells_same xs low h.1 (λ n. w (suc n)))
  where
    one : (c l : Cell) → IsCellFor c l → (Some c ≡ Some Empty → ⊥) → l ≡ c
    one _ _ (IsCellFor.same c) w = refl
    one _ _ (IsCellFor.taken x) w = absurd (w refl)

-- in another phase an object keeps its cells
phase_home : (low : Memory) (o : ObjectId) (home : Home) → home_cells (in_phase Deiniting low o) home ≡ home_cells low home
phase_home low o OnStack = refl
phase_home low o (Inside u) = at (set_cases low.objects o.0 u.0 (record (object_at low o) { phase = Deiniting }))
  where
    at : (object_at (in_phase Deiniting low o) u ≡ object_at low u)
        ⊎ ((u.0 ≡ o.0) × (object_at (in_phase Deiniting low o) u ≡ record (object_at low o) { phase = Deiniting }))
        → (object_at (in_phase Deiniting low o) u).cells ≡ (object_at low u).cells
    at (inl same) = ap (λ x. x.cells) same
    at (inr (is, same)) = ap (λ x. x.cells) same ∙ ap (λ n. (object_at low (record { 0 = n })).cells) (sym is)

phase_keeps : (low : Memory) (o : ObjectId) → KeepsFull low (in_phase Deiniting low o)
phase_keeps low o p full =
    subst (λ cells. is_some ((in_cells p.shape).value (take (cell_count p.shape) (drop p.first cells))) ≡ true) (sym (phase_home low o p.home)) full

each_dropping : (m : Module) (low : Memory) (os : List ObjectId) (ts : List (Task LowFrame)) → Each (HasFullParts m low) ts → Each (HasFullParts m low) (dropping os ts)
each_dropping m low [] ts h = h
each_dropping m low (o ∷ os) ts h = (tt, h)

module _ (m : Module) (bound : ℕ) (s : HolderState) (l : LowState) (related : IsStateFor m s l) where
  abbrev low_told : ModuleShapes
  low_told = shapes_of (lowered m)

  -- ---- a drop

  pub dropping_followed : (o : ObjectId) (os : List ObjectId) (rest : List (Task Frame)) → s.tasks ≡ Drops (o ∷ os) ∷ rest → is_dead s.memory o ≡ false
      → (next : HolderNext) → holder.DropsOne m (facts_of m) bound (record s { tasks = Drops os ∷ rest; releases = s.releases + 1 }) o next → StepsToo m bound l next
  dropping_followed o os rest is alive next way =
      let d = tasks.dropping_step m bound s l related o os rest is alive
      (λ p. drops_counted m (facts_of m) bound (one_object p) s o os rest is)
      (λ live p.
      let s1 : HolderState = record s { tasks = Drops os ∷ rest; releases = s.releases + 1 } in
      same_numbers (holders_of (holder.deinitialising m (facts_of m) bound s1 o) p) (holders_of s1 p)
      (deinits_counted m (facts_of m) bound (one_object p) s1 o live)
      (phases_counted (one_object p) storage.Unowned s.memory o Deiniting alive refl) (phases_counted (one_object p) storage.Weak s.memory o Deiniting alive refl))
      (λ ts full. parts_kept m l.memory (in_phase Deiniting l.memory o) (phase_keeps l.memory o) ts full) next way in
      record { low_next = d.low_next; step = d.step; for = d.for }

  -- no reference is left to be dropped
  pub dropped_followed : (rest : List (Task Frame)) → s.tasks ≡ Drops [] ∷ rest → StepsToo m bound l (Goes (holder.with_tasks m (facts_of m) bound s rest))
  dropped_followed rest is =
      let top = tasks.drops_top m [] rest s.tasks l related.tasks is in
      record {
        low_next = Goes (record l { tasks = top.others });
        step = told_taken (lowered m) low_told bound l (Goes (record l { tasks = top.others })) (ways.StepsBy.dropped top.others top.is_top);
        for = record {
          tasks = top.rest_for;
          memory = related.memory;
          parts = (subst (Each (HasFullParts m l.memory)) top.is_top related.parts).1;
          counts = tasks_stored s rest l.numbers (λ p. sym (ap (in_tasks (one_object p)) is)) related.counts;
          events = related.events;
          turns = related.turns;
          retains = related.retains;
          releases = related.releases;
        };
      }

  -- ---- a finish

  module _ (o : ObjectId) (rest : List (Task Frame)) (is : s.tasks ≡ Finishes [] o ∷ rest) (whole : FinishesWhole s o)
      (named : AreNamesStored l.numbers (object_at s.memory o).cells)
      (outlive : strong_holders (record s { tasks = rest }) o ≡ 0 → (lrest : List (Task LowFrame)) → AreTasksFor m rest lrest → Each (HasFullParts m l.memory) lrest
      → Each (HasFullParts m (with_object l.memory o (ended (object_at l.memory o)))) lrest) where
    top : LowFinish m [] o rest l
    top = finish_top m [] o rest l l.tasks refl (subst (λ ts. AreTasksFor m ts l.tasks) is related.tasks)

    abbrev s1 : HolderState
    s1 = record s { tasks = rest }

    abbrev l1 : LowState
    l1 = record l { tasks = top.others }

    counts : AreCounts s1 l.numbers
    counts = tasks_stored s rest l.numbers (λ p. sym (ap (in_tasks (one_object p)) is)) related.counts

    cells : (object_at l.memory o).cells ≡ (object_at s.memory o).cells
    cells = cells_same (object_at s.memory o).cells (object_at l.memory o).cells (object_for s.memory l.memory related.memory o).cells whole.written

    full : Each (HasFullParts m l.memory) top.others
    full = (subst (Each (HasFullParts m l.memory)) top.is_top related.parts).1

    low_step : (next : LowNext) → ways.FinishesOne (lowered m) low_told bound l1 o next → steps.low_step (lowered m) low_told bound l ≡ next
    low_step next way = told_taken (lowered m) low_told bound l next (ways.StepsBy.finishes o top.others next top.is_top way)

    finished_for : strong_holders s1 o ≡ 0 → IsStateFor m (holder.finished m (facts_of m) bound s1 o) (ways.finished (lowered m) low_told bound l1 o)
    finished_for none = record {
      tasks = subst (λ cs. AreTasksFor m (dropping (field_references (object_at s.memory o)) rest) (dropping (flat_map (kept_references storage.Strong) cs) top.others)) (sym cells)
          (dropping_for m (field_references (object_at s.memory o)) rest top.others top.rest_for);
      memory = object_ended s.memory l.memory related.memory o;
      parts = each_dropping m (with_object l.memory o (ended (object_at l.memory o))) (field_references (object_at l.memory o)) top.others (outlive none top.others top.rest_for full);
      counts = subst (λ cs. AreCounts (holder.finished m (facts_of m) bound s1 o) (unnamed cs l.numbers)) (sym cells)
          (deaths_stored m (facts_of m) bound s1 o l.numbers whole.alive named counts);
      events = related.events;
      turns = related.turns;
      retains = related.retains;
      releases = related.releases;
    }

    pub finishing_followed : (next : HolderNext) → holder.FinishesOne m (facts_of m) bound s1 o next → StepsToo m bound l next
    finishing_followed _ (holder.FinishesOne.finishes none) = record {
      low_next = Goes (ways.finished (lowered m) low_told bound l1 o);
      step = low_step (Goes (ways.finished (lowered m) low_told bound l1 o)) (ways.FinishesOne.finishes (ap (λ (n : Numbers). n.strong) (counts.each o) ∙ none));
      for = finished_for none;
    }
    finishing_followed _ (holder.FinishesOne.escapes left some) = record {
      low_next = Ends (Trapped trap.Escaped) (ways.ceased (lowered m) low_told bound l1 o);
      step = low_step (Ends (Trapped trap.Escaped) (ways.ceased (lowered m) low_told bound l1 o))
          (ways.FinishesOne.escapes left (ap (λ (n : Numbers). n.strong) (counts.each o) ∙ some));
      for = record { events = related.events; ending = IsEndingFor.trapped trap.Escaped; left = refl; retains = related.retains; releases = related.releases };
    }

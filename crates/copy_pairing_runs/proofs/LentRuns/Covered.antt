-- From what is covered: the parts of lockstep that speak of drops, of objects that die, and of the copies that are destroyed in the first run alone.
use Rattle.std.proofs.Common.{◌≡◌, ℕ, ◌<◌, ◌+◌, List, [], ◌∷◌, set, refl, sym, ap, ◌∙◌, subst, arith, false, cond, inl, inr, ⊎_elim, Some}
use Rattle.std.specs.Prelude.{slice_get}
use Rattle.std.proofs.lemmas.Bool.{eq-eqb}
use Rattle.holder_model_values.specs.declared.run_values.phase.Phase.{Phase}
use Rattle.holder_model_values.specs.declared.run_values.phase.Phase.TheVariants.{Dead, Deiniting, Live}
use Rattle.holder_model_values.specs.RunValues.Memory.{Memory, is_live, is_live_phase, phase_of}
use Rattle.sil_ast.specs.declared.decl.Storage.TheVariants as storage
use Rattle.sil_ast.specs.declared.function.Function.{Function}
use Rattle.sil_ast.specs.declared.module.Module.{Module}
use Rattle.sil_ast.specs.declared.place.FuncId.{FuncId}
use Rattle.sil_ast.specs.declared.place.ObjectId.{ObjectId}
use Rattle.sil_ast.specs.declared.place.PointId.{PointId}
use Rattle.sil_ast.specs.declared.place.ValueId.{ValueId}
use Rattle.sil_cfg.specs.declared.item.Item.{Item}
use Rattle.sil_types_declarations.specs.TypeDefinitions.Declarations.{declarations_of}
use Rattle.copy_pairing_acceptance.specs.copy_pairing_model.Rewritten.{lent}
use Rattle.holder_model_laws.specs.holder_model.Data.{references_in}
use Rattle.holder_model_laws.specs.holder_model.Frames.{Entry, Frame, Gone, entry_at}
use Rattle.holder_model_laws.specs.holder_model.Holders.{in_memory, of_references, one_object}
use Rattle.holder_model_laws.specs.holder_model.HolderStates.{HolderState, in_entry, in_task}
use Rattle.holder_model_laws.specs.holder_model.ModuleFacts.{ModuleFacts}
use Rattle.holder_model_laws.specs.holder_model.States.{Drops, Finishes, Runs, Task}
use Rattle.holder_model_laws.specs.HolderLaws.inner.Counts.Moving.{in_tasks}
use Rattle.holder_model_laws.specs.HolderLaws.inner.Counts.Taking.{in_entries}
use Rattle.holder_model_laws.proofs.HolderLaws.Counts.Sums.{total_cons}
use Rattle.sil_verifier_runs.specs.inner.Guarded.GuardedStates.{IsGuardedState, Loans, TasksAreGuarded, finishes_of, is_deiniting_phase}
use Rattle.sil_verifier_runs.proofs.Guarded.Named.{counts_itself}
use Rattle.holder_model_laws.specs.LockstepRuns.inner.Lockstep.{AreAtRest, AreTasksLike, frame_at}
use Rattle.holder_model_laws.specs.LockstepRuns.inner.Parts.{AreDropsCovered, AreFinishesCovered, ComeTogether}
use Rattle.copy_pairing_acceptance.proofs.LentFunctions.Ready.{Ready}
use Rattle.copy_pairing_runs.specs.LentRuns.inner.Covering.{IsCovered, lent_count}
use Rattle.copy_pairing_runs.specs.LentRuns.inner.LentEntries.{IsLentFrame, NeverAlone, lent_entries}
use Rattle.copy_pairing_runs.specs.LentRuns.inner.Sparing.{AreCopiesSpared}
use Rattle.copy_pairing_runs.proofs.LentRuns.Cover.{covered, tasks_sum}
use Rattle.copy_pairing_runs.proofs.LentRuns.Entries.{gone_holds}

-- an object that deinitialises isn't live
not_live : (p : Phase) (k : ℕ) → k ≡ cond (is_deiniting_phase p) 1 0 → 0 < k → is_live_phase p ≡ false
not_live Live k e some = absurd (omega (arith, e, some))
not_live Deiniting k e some = refl
not_live Dead k e some = refl

one_most : (p : Phase) (k : ℕ) → 1 + k ≡ cond (is_deiniting_phase p) 1 0 → k ≡ 0
one_most Live k e = absurd (omega (arith, e))
one_most Deiniting k e = omega (arith, e)
one_most Dead k e = absurd (omega (arith, e))

at_rest : (n : ℕ) (f : Function) (c : ValueId) (tasks : List (Task Frame)) → AreAtRest (IsLentFrame n f c) NeverAlone tasks
at_rest n f c [] = tt
at_rest n f c (Runs frame ∷ rest) = λ a. a
at_rest n f c (Drops references ∷ rest) = tt
at_rest n f c (Finishes deinits o ∷ rest) = tt

module _ (m m' : Module) (told told' : ModuleFacts) (bound : ℕ) (loans : Loans) (First Second : HolderState → Type 0)
    (guarded : (s : HolderState) → Second s → IsGuardedState m' loans s)
    (n : ℕ) (f : Function) (p : PointId) (c v : ValueId) (r : Ready (declarations_of m) f p c v) (declarations : declarations_of m' ≡ declarations_of m)
    (there' : (g : FuncId) → g.0 ≡ n → slice_get m'.functions g.0 ≡ Some (lent c f)) where
  abbrev Like : FuncId → List Item → List Entry → List Item → List Entry → Type 0
  Like = IsLentFrame n f c

  abbrev Covers : Memory → List (Task Frame) → List (Task Frame) → ObjectId → Type 0
  Covers memory tasks tasks' o = 0 < lent_count n c o tasks → IsCovered memory tasks' o

  going_covered : (memory : Memory) (tasks tasks' : List (Task Frame)) → AreTasksLike Like tasks tasks' → TasksAreGuarded m' loans memory tasks'
      → (o : ObjectId) → Covers memory tasks tasks' o
  going_covered memory tasks tasks' like stack o some = covered m m' loans memory n f p c v r declarations there' o tasks tasks' like (inl stack) some

  pub drops_covered : AreDropsCovered m m' told told' bound First Second Like NeverAlone
  drops_covered h s o os rest rest' at = record {
    more = lent_count n c o rest;
    sum = omega (arith, first, second, later, same);
    covered = λ some.
        ⊎_elim (λ held. inl (omega (arith, second, held)))
        (λ finishes. inr (not_live (phase_of s.memory o) (finishes_of o rest') (sym (ap (finishes_of o) at.r_tasks) ∙ state.finishes o) finishes))
        (going_covered s.memory rest rest' at.below (subst (TasksAreGuarded m' loans s.memory) at.r_tasks state.tasks_are).1 o some);
  }
    where
      state : IsGuardedState m' loans s
      state = guarded s at.second

      first : in_tasks (one_object o) (Drops os ∷ rest) ≡ of_references (one_object o) os + in_tasks (one_object o) rest
      first = total_cons (in_task (one_object o)) (Drops os) rest

      second : in_tasks (one_object o) (Drops os ∷ rest') ≡ of_references (one_object o) os + in_tasks (one_object o) rest'
      second = total_cons (in_task (one_object o)) (Drops os) rest'

      later : in_tasks (one_object o) rest ≡ in_tasks (one_object o) rest' + lent_count n c o rest
      later = tasks_sum n f c o rest rest' at.below

      same : in_memory (one_object o) storage.Strong s.memory ≡ in_memory (one_object o) storage.Strong h.memory
      same = ap (in_memory (one_object o) storage.Strong) at.level.memory

  pub finishes_covered : AreFinishesCovered m m' told told' bound First Second Like NeverAlone
  finishes_covered h s o rest rest' at = record {
    more = lent_count n c o rest;
    sum = omega (arith, later, same);
    covered = λ some.
        ⊎_elim (λ held. inl held) (λ finishes. absurd (omega (arith, finishes, none)))
        (going_covered s.memory rest rest' at.below (subst (TasksAreGuarded m' loans s.memory) at.r_tasks state.tasks_are).1 o some);
  }
    where
      state : IsGuardedState m' loans s
      state = guarded s at.second

      later : in_tasks (one_object o) rest ≡ in_tasks (one_object o) rest' + lent_count n c o rest
      later = tasks_sum n f c o rest rest' at.below

      same : in_memory (one_object o) storage.Strong s.memory ≡ in_memory (one_object o) storage.Strong h.memory
      same = ap (in_memory (one_object o) storage.Strong) at.level.memory

      none : finishes_of o rest' ≡ 0
      none =
          one_most (phase_of s.memory o) (finishes_of o rest')
          (ap (λ k. k + finishes_of o rest') (sym (counts_itself o)) ∙ (sym (ap (finishes_of o) at.r_tasks) ∙ state.finishes o))

  pub come_together : ComeTogether m m' told told' bound First Second Like NeverAlone
  come_together h s first second like level = record {
    ahead = 0;
    later = h;
    comes = refl;
    together = record { tasks = like; level = level; rest = at_rest n f c h.tasks };
  }

  pub copies_spared : (g : FuncId) → g.0 ≡ n → AreCopiesSpared m m' told told' bound First Second n f c g
  copies_spared g numbered h s slots lent_to trail trail' es es' rest rest' on x held places t o named =
      ⊎_elim (λ some. inl (omega (arith, whole, behind, own, later, same, some)))
      (λ finishes. inr (ap (λ y. is_live y o) (sym on.level.memory)
      ∙ not_live (phase_of s.memory o) (finishes_of o tasks') (sym (ap (finishes_of o) on.r_tasks) ∙ state.finishes o) finishes))
      (going_covered s.memory tasks tasks' (AreTasksLike.runs g slots lent_to trail trail' es es' rest rest' on.like on.below)
      (subst (TasksAreGuarded m' loans s.memory) on.r_tasks state.tasks_are) o (omega (arith, here, named)))
    where
      tasks : List (Task Frame)
      tasks = Runs (frame_at g slots lent_to trail es) ∷ rest

      tasks' : List (Task Frame)
      tasks' = Runs (frame_at g slots lent_to trail' es') ∷ rest'

      state : IsGuardedState m' loans s
      state = guarded s on.second

      here : lent_count n c o tasks ≡ of_references (one_object o) (references_in x) + lent_count n c o rest
      here =
          ap (λ b. cond {A = ℕ} b (in_entry (one_object o) (entry_at es c)) 0 + lent_count n c o rest) (eq-eqb g.0 n numbered)
          ∙ ap (λ e. in_entry (one_object o) e + lent_count n c o rest) held

      whole : in_tasks (one_object o) tasks' ≡ in_entries (one_object o) es' + in_tasks (one_object o) rest'
      whole = total_cons (in_task (one_object o)) (Runs (frame_at g slots lent_to trail' es')) rest'

      behind : in_tasks (one_object o) (Runs (frame_at g places [] t (set es c.0 Gone)) ∷ rest) ≡ in_entries (one_object o) (set es c.0 Gone) + in_tasks (one_object o) rest
      behind = total_cons (in_task (one_object o)) (Runs (frame_at g places [] t (set es c.0 Gone))) rest

      own : in_entries (one_object o) (set es c.0 Gone) ≡ in_entries (one_object o) es'
      own =
          gone_holds c (one_object o) es
          ∙ ap (in_entries (one_object o)) (sym (on.like.lent ∙ ap (λ b. cond b (lent_entries c es) es) (eq-eqb g.0 n numbered)))

      later : in_tasks (one_object o) rest ≡ in_tasks (one_object o) rest' + lent_count n c o rest
      later = tasks_sum n f c o rest rest' on.below

      same : in_memory (one_object o) storage.Strong s.memory ≡ in_memory (one_object o) storage.Strong h.memory
      same = ap (in_memory (one_object o) storage.Strong) on.level.memory

-- What a copy holds in the first run has another holder in the second one, or a finish: there the copy's scope is open, so it is guarded.
use Rattle.std.proofs.Common.{◌≡◌, ℕ, zero, suc, ◌<◌, ◌≤◌, ◌+◌, List, [], ◌∷◌, refl, sym}
use Rattle.std.proofs.Common.{ap, ◌∙◌, subst, arith, Bool, true, false, cond, ◌⊎◌, inl, inr, ⊎_elim, Some}
use Rattle.std.specs.Prelude.{◌||◌, ◌&&◌, ◌==◌, not, slice_get}
use Rattle.std.specs.List.{list_any}
use Rattle.std.proofs.lemmas.Bool.{eqb-true}
use Rattle.std.proofs.lemmas.Option.{same_Some}
use Rattle.ownership_kinds_chains.specs.OwnershipChains.Facts.{has, known_or}
use Rattle.holder_model_values.specs.RunValues.Memory.{Memory}
use Rattle.holder_model_values.specs.RunValues.Places.{Place}
use Rattle.sil_ast.specs.declared.function.Function.{Function}
use Rattle.sil_ast.specs.declared.module.Module.{Module}
use Rattle.sil_ast.specs.declared.place.FuncId.{FuncId}
use Rattle.sil_ast.specs.declared.place.ObjectId.{ObjectId}
use Rattle.sil_ast.specs.declared.place.PointId.{PointId}
use Rattle.sil_ast.specs.declared.place.ValueId.{ValueId}
use Rattle.sil_cfg.specs.declared.item.Item.{Item}
use Rattle.sil_types_declarations.specs.TypeDefinitions.Declarations.{declarations_of}
use Rattle.holder_model_laws.specs.ownership_kinds_origins.Facts.{facts_in}
use Rattle.copy_pairing_acceptance.specs.copy_pairing_model.Rewritten.{lent}
use Rattle.holder_model_laws.specs.holder_model.Data.{references_in}
use Rattle.holder_model_laws.specs.holder_model.Frames.{Entry, Frame, Lent, LentPlace, entry_at}
use Rattle.holder_model_laws.specs.holder_model.Holders.{of_references, one_object}
use Rattle.holder_model_laws.specs.holder_model.HolderStates.{in_entry, in_task}
use Rattle.holder_model_laws.specs.holder_model.States.{Drops, Finishes, Runs, Task}
use Rattle.holder_model_laws.specs.HolderLaws.inner.Counts.Moving.{in_tasks}
use Rattle.holder_model_laws.specs.HolderLaws.inner.Counts.Taking.{in_entries}
use Rattle.holder_model_laws.proofs.HolderLaws.Counts.Sums.{total_cons}
use Rattle.sil_verifier_runs.specs.inner.Guarded.GuardedStates.{BelowIsGuarded, IsGuardedFrame, IsGuardedIn, Loans, TasksAreGuarded, finishes_of}
use Rattle.sil_verifier_runs.specs.inner.Guarded.Guards.{AreLentGuarded, IsCurrent, IsNamed, IsThere}
use Rattle.sil_verifier_runs.specs.sil_verifier_trails.AcceptedTrails.inner.Bases.{IsBaseOf}
use Rattle.sil_verifier_runs.specs.sil_verifier_trails.AcceptedTrails.inner.Defined.{makes}
use Rattle.sil_verifier_runs.specs.sil_verifier_trails.RunTrails.inner.Since.{is_none_since}
use Rattle.sil_verifier_runs.proofs.Guarded.Behind.{lent_there}
use Rattle.sil_verifier_runs.proofs.Guarded.Guards.{guarded_in, kept_holders}
use Rattle.holder_model_laws.specs.LockstepRuns.inner.Lockstep.{AreTasksLike, frame_at}
use Rattle.copy_pairing_acceptance.proofs.LentFunctions.Parts.{defined_lent}
use Rattle.copy_pairing_acceptance.proofs.LentFunctions.Ready.{Ready}
use Rattle.copy_pairing_acceptance.proofs.LentFunctions.Tables.{known_lent}
use Rattle.copy_pairing_acceptance.proofs.LentFunctions.ValueRows.{same_value}
use Rattle.copy_pairing_runs.specs.LentRuns.inner.Covering.{IsCovered, IsGuardedStack, lent_count}
use Rattle.copy_pairing_runs.specs.LentRuns.inner.LentEntries.{IsGoneOrMade, IsLentFrame, IsMadeHeld, lent_entries, lent_entry, makes_copy}
use Rattle.copy_pairing_runs.proofs.LentRuns.Entries.{entry_copy, lent_holds}

-- ---- what the first run holds more

module _ (n : ℕ) (f : Function) (c : ValueId) where
  abbrev Like : FuncId → List Item → List Entry → List Item → List Entry → Type 0
  Like = IsLentFrame n f c

  entries_sum : (weight : ObjectId → ℕ) (es : List Entry) (b : Bool)
      → in_entries weight es ≡ in_entries weight (cond b (lent_entries c es) es) + cond b (in_entry weight (entry_at es c)) 0
  entries_sum weight es true = lent_holds c weight es
  entries_sum weight es false = omega arith

  pub tasks_sum : (o : ObjectId) (tasks tasks' : List (Task Frame)) → AreTasksLike Like tasks tasks'
      → in_tasks (one_object o) tasks ≡ in_tasks (one_object o) tasks' + lent_count n c o tasks
  tasks_sum o _ _ AreTasksLike.none = refl
  tasks_sum o _ _ (AreTasksLike.runs g slots lent trail trail' es es' rest rest' like below) =
      let first : in_tasks (one_object o) (Runs (frame_at g slots lent trail es) ∷ rest) ≡ in_entries (one_object o) es + in_tasks (one_object o) rest =
      total_cons (in_task (one_object o)) (Runs (frame_at g slots lent trail es)) rest in
      let second : in_tasks (one_object o) (Runs (frame_at g slots lent trail' es') ∷ rest') ≡ in_entries (one_object o) es' + in_tasks (one_object o) rest' =
      total_cons (in_task (one_object o)) (Runs (frame_at g slots lent trail' es')) rest' in
      let own : in_entries (one_object o) es ≡ in_entries (one_object o) es' + cond (g.0 == n) (in_entry (one_object o) (entry_at es c)) 0 =
      subst (λ xs. in_entries (one_object o) es ≡ in_entries (one_object o) xs + cond (g.0 == n) (in_entry (one_object o) (entry_at es c)) 0) (sym like.lent)
      (entries_sum (one_object o) es (g.0 == n)) in
      let later : in_tasks (one_object o) rest ≡ in_tasks (one_object o) rest' + lent_count n c o rest = tasks_sum o rest rest' below in
      omega (arith, first, second, own, later)
  tasks_sum o _ _ (AreTasksLike.drops os rest rest' below) =
      let first : in_tasks (one_object o) (Drops os ∷ rest) ≡ of_references (one_object o) os + in_tasks (one_object o) rest =
      total_cons (in_task (one_object o)) (Drops os) rest in
      let second : in_tasks (one_object o) (Drops os ∷ rest') ≡ of_references (one_object o) os + in_tasks (one_object o) rest' =
      total_cons (in_task (one_object o)) (Drops os) rest' in
      let later : in_tasks (one_object o) rest ≡ in_tasks (one_object o) rest' + lent_count n c o rest = tasks_sum o rest rest' below in
      omega (arith, first, second, later)
  tasks_sum o _ _ (AreTasksLike.finishes gs x rest rest' below) =
      let first : in_tasks (one_object o) (Finishes gs x ∷ rest) ≡ 0 + in_tasks (one_object o) rest = total_cons (in_task (one_object o)) (Finishes gs x) rest in
      let second : in_tasks (one_object o) (Finishes gs x ∷ rest') ≡ 0 + in_tasks (one_object o) rest' = total_cons (in_task (one_object o)) (Finishes gs x) rest' in
      let later : in_tasks (one_object o) rest ≡ in_tasks (one_object o) rest' + lent_count n c o rest = tasks_sum o rest rest' below in
      omega (arith, first, second, later)

-- ---- and what covers it

since_itself : (p : Item → Bool) (t : List Item) → list_any p t ≡ true → is_none_since p p t ≡ true
since_itself p [] h = h
since_itself p (i ∷ t) h = at (p i) (is_none_since p p t) (since_itself p t) h
  where
    at : (here : Bool) (none : Bool) → (list_any p t ≡ true → none ≡ true) → (here || list_any p t) ≡ true → (here || (not here && none)) ≡ true
    at true none more e = refl
    at false none more e = more e

module _ (m m' : Module) (loans : Loans) (memory : Memory) (n : ℕ) (f : Function) (p : PointId) (c v : ValueId) (r : Ready (declarations_of m) f p c v)
    (declarations : declarations_of m' ≡ declarations_of m)
    (there' : (g : FuncId) → g.0 ≡ n → slice_get m'.functions g.0 ≡ Some (lent c f)) where
  abbrev f' : Function
  f' = lent c f

  makes_same : (trail : List Item) → list_any (makes f' c) trail ≡ list_any (makes_copy f c) trail
  makes_same [] = refl
  makes_same (i ∷ trail) =
      ap (λ vs. has vs c.0 || list_any (makes f' c) trail) (defined_lent c f i) ∙ ap (λ b. makes_copy f c i || b) (makes_same trail)

  only_base : (b : ValueId) → IsBaseOf (declarations_of m') f' b c → b ≡ c
  only_base b base =
      same_value b c (sym (eqb-true c.0 b.0
      (first (c.0 == b.0) (sym (ap (λ bases. has bases b.0) (ap (λ k. (known_or (facts_in k f') c).bases) declarations
      ∙ ap (λ x. x.bases) (known_lent (declarations_of m) f p c v r))) ∙ base))))
    where
      first : (a : Bool) → (a || false) ≡ true → a ≡ true
      first true e = refl
      first false e = e

  module _ (g : FuncId) (numbered : g.0 ≡ n) (slots : List Place) (lent_to : List LentPlace) (trail : List Item) (es : List Entry)
      (made : IsMadeHeld f c trail es) (rest' : List (Task Frame)) (o : ObjectId) (named : IsNamed o (references_in made.datum)) where
    abbrev frame' : Frame
    frame' = frame_at g slots lent_to trail (lent_entries c es)

    is_lent : entry_at (lent_entries c es) c ≡ Lent made.datum
    is_lent = entry_copy c c es refl ∙ ap lent_entry made.held

    current : IsCurrent (declarations_of m') f' (loans f' frame') memory (lent_entries c es) trail c
    current b base =
        let same : b ≡ c = only_base b base in (
          subst (λ w. IsThere (entry_at (lent_entries c es) w)) (sym same) (lent_there (entry_at (lent_entries c es) c) made.datum is_lent),
          subst (λ w. is_none_since (makes f' w) (makes f' c) trail ≡ true) (sym same)
              (since_itself (makes f' c) trail (makes_same trail ∙ made.made)),
        )

    guarded : IsGuardedFrame m' loans memory frame' rest' → IsGuardedIn m' loans memory frame' o
    guarded top =
        let lent_so : AreLentGuarded (declarations_of m') f' (loans f' frame') memory (lent_entries c es) trail =
        subst (λ (k : Function). AreLentGuarded (declarations_of m') k (loans k frame') memory (lent_entries c es) trail)
        (same_Some top.f f' (sym top.is ∙ there' g numbered)) top.lent in
        let z = lent_so c made.datum is_lent current o named in
        record { f = f'; is = there' g numbered; base = z.base; guard = z.guard }

    pub frame_covered : (callee : Frame) → BelowIsGuarded m' loans memory callee (Runs frame' ∷ rest') → IsCovered memory (Runs frame' ∷ rest') o
    frame_covered callee below =
        ⊎_elim (λ own. inl (omega (arith, whole, own)))
        (λ kept. ⊎_elim (λ some. inl (omega (arith, whole, some))) (λ some. inr some) (kept_holders m' loans memory frame' rest' o below.1 kept))
        (guarded_in m' loans memory frame' rest' o below (guarded below.0))
      where
        whole : in_tasks (one_object o) (Runs frame' ∷ rest') ≡ in_entries (one_object o) (lent_entries c es) + in_tasks (one_object o) rest'
        whole = total_cons (in_task (one_object o)) (Runs frame') rest'

  -- what is covered below is covered
  module _ (o : ObjectId) where
    behind : (task : Task Frame) (tasks : List (Task Frame)) → finishes_of o tasks ≤ finishes_of o (task ∷ tasks) → IsCovered memory tasks o
        → IsCovered memory (task ∷ tasks) o
    behind task tasks less covered =
        let whole : in_tasks (one_object o) (task ∷ tasks) ≡ in_task (one_object o) task + in_tasks (one_object o) tasks =
        total_cons (in_task (one_object o)) task tasks in
        ⊎_elim (λ some. inl (omega (arith, whole, some))) (λ some. inr (omega (arith, less, some))) covered

    front : (frame : Frame) (rest : List (Task Frame)) → IsGuardedStack m' loans memory (Runs frame ∷ rest)
        → IsGuardedFrame m' loans memory frame rest × BelowIsGuarded m' loans memory frame rest
    front frame rest (inl going) = going
    front frame rest (inr below) = below.1

    some_or : (k : ℕ) → (k ≡ 0) ⊎ (0 < k)
    some_or zero = inl refl
    some_or (suc k) = inr (omega arith)

    pub covered : (tasks tasks' : List (Task Frame)) → AreTasksLike (IsLentFrame n f c) tasks tasks' → IsGuardedStack m' loans memory tasks'
        → 0 < lent_count n c o tasks → IsCovered memory tasks' o
    covered _ _ AreTasksLike.none stack some = absurd (omega (arith, some))
    covered _ _ (AreTasksLike.runs g slots lent trail trail' es es' rest rest' like below) stack some =
        let z = front (frame_at g slots lent trail' es') rest' stack in
        ⊎_elim (λ none. behind (Runs (frame_at g slots lent trail' es')) rest' (omega arith)
        (covered rest rest' below (inr (frame_at g slots lent trail' es', z.1)) (omega (arith, some, none))))
        (λ here. own g slots lent trail trail' es es' rest' like z here (g.0 == n) refl) (some_or (cond (g.0 == n) (in_entry (one_object o) (entry_at es c)) 0))
      where
        own : (g : FuncId) (slots : List Place) (lent : List LentPlace) (trail trail' : List Item) (es es' : List Entry) (rest' : List (Task Frame))
            → IsLentFrame n f c g trail es trail' es'
            → IsGuardedFrame m' loans memory (frame_at g slots lent trail' es') rest' × BelowIsGuarded m' loans memory (frame_at g slots lent trail' es') rest'
            → 0 < cond (g.0 == n) (in_entry (one_object o) (entry_at es c)) 0 → (b : Bool) → (g.0 == n) ≡ b
            → IsCovered memory (Runs (frame_at g slots lent trail' es') ∷ rest') o
        own g slots lent trail trail' es es' rest' like z here false e =
            let none : cond (g.0 == n) (in_entry (one_object o) (entry_at es c)) 0 ≡ 0 = ap (λ b. cond {A = ℕ} b (in_entry (one_object o) (entry_at es c)) 0) e in
            absurd (omega (arith, here, none))
        own g slots lent trail trail' es es' rest' like z here true e =
            let numbered : g.0 ≡ n = eqb-true g.0 n e in
            let some : cond (g.0 == n) (in_entry (one_object o) (entry_at es c)) 0 ≡ in_entry (one_object o) (entry_at es c) =
            ap (λ b. cond {A = ℕ} b (in_entry (one_object o) (entry_at es c)) 0) e in
            let same : es' ≡ lent_entries c es = like.lent ∙ ap (λ b. cond b (lent_entries c es) es) e in
            by numbered some same (like.copy numbered)
          where
            by : g.0 ≡ n → cond (g.0 == n) (in_entry (one_object o) (entry_at es c)) 0 ≡ in_entry (one_object o) (entry_at es c) → es' ≡ lent_entries c es
                → IsGoneOrMade f c trail es → IsCovered memory (Runs (frame_at g slots lent trail' es') ∷ rest') o
            by numbered some same (inl gone) =
                let none : in_entry (one_object o) (entry_at es c) ≡ 0 = ap (in_entry (one_object o)) gone in
                absurd (omega (arith, here, some, none))
            by numbered some same (inr made) =
                let named : in_entry (one_object o) (entry_at es c) ≡ of_references (one_object o) (references_in made.datum) =
                ap (in_entry (one_object o)) made.held in
                subst (λ t. IsCovered memory (Runs (frame_at g slots lent t es') ∷ rest') o) (sym like.trails)
                (subst (λ xs. IsCovered memory (Runs (frame_at g slots lent trail xs) ∷ rest') o) (sym same)
                (frame_covered g numbered slots lent trail es made rest' o (omega (arith, here, some, named)) (frame_at g slots lent trail (lent_entries c es))
                (subst (λ xs. BelowIsGuarded m' loans memory (frame_at g slots lent trail (lent_entries c es)) (Runs (frame_at g slots lent trail xs) ∷ rest')) same
                (subst (λ t. BelowIsGuarded m' loans memory (frame_at g slots lent trail (lent_entries c es)) (Runs (frame_at g slots lent t es') ∷ rest')) like.trails z))))
    covered _ _ (AreTasksLike.drops os rest rest' below) stack some =
        behind (Drops os) rest' (omega arith) (covered rest rest' below (inl (going stack)) some)
      where
        going : IsGuardedStack m' loans memory (Drops os ∷ rest') → TasksAreGuarded m' loans memory rest'
        going (inl both) = both.1
        going (inr below) = absurd below.1
    covered _ _ (AreTasksLike.finishes gs x rest rest' below) stack some =
        behind (Finishes gs x) rest' (omega arith) (covered rest rest' below (inl (going stack)) some)
      where
        going : IsGuardedStack m' loans memory (Finishes gs x ∷ rest') → TasksAreGuarded m' loans memory rest'
        going (inl both) = both.1
        going (inr below) = below.1.2

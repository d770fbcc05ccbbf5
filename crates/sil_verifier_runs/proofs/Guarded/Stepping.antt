-- The memory and the tasks of a state stay guarded, way by way.
use Rattle.std.proofs.Common.{◌≡◌, ℕ, zero, suc, ◌+◌, ◌<◌, ◌≤◌, List, [], ◌∷◌, refl, sym, ap, ◌∙◌, subst, Bool, true, false, cond, ◌⊎◌, inl, inr, ⊎_elim, Some, Ok, arith, eq-eqb}
use Rattle.std.specs.Prelude.{◌==◌, length, replicate, set, slice_get, unwrap_or}
use Rattle.std.proofs.lemmas.Bool.{cases_Bool, eqb-true, false≢true, true≢false}
use Rattle.std.proofs.lemmas.Option.{same_Some}
use Rattle.sil_ast.specs.declared.decl.Storage.TheVariants as storage
use Rattle.sil_ast.specs.declared.function.Function.{Function}
use Rattle.sil_ast.specs.declared.module.Module.{Module}
use Rattle.sil_ast.specs.declared.place.ObjectId.{ObjectId}
use Rattle.sil_ast.specs.declared.place.ValueId.{ValueId}
use Rattle.sil_types_declarations.specs.TypeDefinitions.Declarations.{Declarations, declarations_of}
use Rattle.holder_model_values.specs.declared.run_values.phase.Phase.{Phase}
use Rattle.holder_model_values.specs.declared.run_values.phase.Phase.TheVariants.{Dead, Deiniting, Live}
use Rattle.holder_model_values.specs.RunValues.Memory.{Memory, Object, is_dead, is_dead_phase, is_live, is_live_phase, no_object, object_at, phase_of, with_object}
use Rattle.holder_model_values.specs.RunValues.Places.{Place}
use Rattle.sil_cfg.specs.declared.item.Item.{Item}
use Rattle.sil_cfg.specs.declared.item.Item.TheVariants as item
use Rattle.sil_ast.specs.declared.place.FuncId.{FuncId}
use Rattle.sil_verifier_frames.specs.sil_verifier_values.inner.Known.{kind_at}
use Rattle.sil_cfg_items.specs.Items.{item_defined, item_taken}
use Rattle.sil_verifier_frames.specs.sil_verifier_trails.AcceptedTrails.inner.Defined.{makes}
use Rattle.sil_verifier_frames.specs.ownership_kinds_origins.Facts.{facts_in}
use Rattle.sil_verifier_frames.specs.holder_model.Data.{Datum, references_in}
use Rattle.sil_verifier_frames.specs.holder_model.Dropping.{ended, field_references, in_phase}
use Rattle.sil_verifier_frames.specs.holder_model.Effects.{Change, SameSlots, unchanged}
use Rattle.sil_verifier_frames.specs.holder_model.Outcomes.{object_number}
use Rattle.sil_verifier_frames.specs.holder_model.Calling.{value_count}
use Rattle.sil_verifier_frames.specs.holder_model.Frames.{Entry, Frame, Gone, Held, Lent, LentPlace, Operands, entry_at, made_entry, no_entries, operands_of, results_put, without_ended}
use Rattle.sil_verifier_frames.specs.holder_model.Holders.{in_memory, of_references, one_object}
use Rattle.sil_verifier_frames.specs.holder_model.HolderStates.{in_entry}
use Rattle.sil_verifier_frames.specs.holder_model.StepParts.{new_frame}
use Rattle.sil_verifier_frames.specs.holder_model.States.{Drops, Finishes, Runs, Task, dropping}
use Rattle.sil_verifier_frames.specs.holder_model_laws.HolderLaws.inner.Counts.Moving.{in_tasks}
use Rattle.sil_verifier_frames.specs.holder_model_laws.HolderLaws.inner.Counts.Naming.{HoldsNone, in_data, in_datum}
use Rattle.sil_verifier_frames.specs.holder_model_laws.HolderLaws.inner.Counts.Taking.{in_entries}
use Rattle.sil_verifier_frames.proofs.holder_model_laws.HolderLaws.Counts.Bounds.{results_most}
use Rattle.sil_verifier_frames.proofs.holder_model_laws.HolderLaws.Counts.Entries.{IsLeftOf, ends_counted, left_of, was_there}
use Rattle.sil_verifier_frames.proofs.holder_model_laws.HolderLaws.Counts.Moves.{first_task, operands_are, waiting_counted}
use Rattle.sil_verifier_frames.proofs.holder_model_laws.HolderLaws.Counts.Places.{deaths_counted, live_not_dead, made_object, phases_counted, references_counted}
use Rattle.sil_verifier_frames.proofs.holder_model_laws.HolderLaws.Counts.Sums.{total_cons, total_none}
use Rattle.sil_verifier_runs.proofs.Guarded.Named.{counts_itself}
use Rattle.sil_verifier_runs.specs.inner.Guarded.Guards.{AreLentGuarded, AreOfKinds, Guard, IsArgument, IsNamed, Lending}
use Rattle.sil_verifier_runs.specs.inner.Guarded.GuardedStates.{AreFinishesRight, BelowIsGuarded, IsGuardedFrame, IsGuardedRun, KeepsBelow, Loans, TasksAreGuarded}
use Rattle.sil_verifier_runs.specs.inner.Guarded.GuardedStates.{finishes_of, holders_in, is_deiniting_phase}
use Rattle.sil_verifier_runs.specs.inner.Guarded.Kept.{ArePutRight, by_caller}
use Rattle.sil_verifier_runs.specs.inner.Guarded.Stepping.{AreArgumentsGuarded, AreCallsGuarded, AreDeathsGuarded, AreDeinitCallsGuarded, AreDeinitReturnsGuarded, AreDeinitsGuarded, AreDropsGuarded}
use Rattle.sil_verifier_runs.specs.inner.Guarded.Stepping.{AreItemsGuarded, AreReturnsGuarded, KeepsBorrowed, KeepsPhases}
use Rattle.sil_verifier_runs.specs.inner.Guarded.Stepping.{CallsGuarded, KeepLoans, KeepsLoans, frame_behind, frame_waiting}
use Rattle.sil_verifier_runs.proofs.Guarded.Behind.{guarded_behind, guarded_left, lent_there}
use Rattle.sil_verifier_runs.proofs.Guarded.Entries.{made_lent_same, results_either, results_others}
use Rattle.sil_verifier_runs.proofs.Guarded.Guards.{guard_there, guards_kept}

module _ (m : Module) (loans : Loans) (memory later : Memory) where
  abbrev d : Declarations
  d = declarations_of m

  -- ---- frames stay guarded while memory changes, but for what their open scopes lend

  guard_later : (frame : Frame) (f : Function) → slice_get m.functions frame.function.0 ≡ Some f → KeepsLoans m loans memory later frame → (o : ObjectId) (b : ValueId)
      → Guard d f (loans f frame) memory frame.entries o b → Guard d f (loans f frame) later frame.entries o b
  guard_later frame f is keep o b g =
      guards_kept d f (loans f frame) (loans f frame) memory later frame.entries frame.entries
      (record {
        held = λ v x e there. e;
        lent = λ v x anchor e there. e;
        borrowed = λ s b x is e there from there_b. there_b;
        lending = λ s x k y borrow e there l keeps. (l, keep f s x k y is borrow e l keeps);
      })
      o b g (guard_there d f (loans f frame) memory frame.entries o b g)

  below_later : (rest : List (Task Frame)) (o : ObjectId) → KeepLoans m loans memory later rest → KeepsBelow m loans memory rest o → KeepsBelow m loans later rest o
  below_later [] o keep h = h
  below_later (Runs frame ∷ rest) o keep h = record { f = h.f; is = h.is; base = h.base; guard = guard_later frame h.f h.is keep.0 o h.base h.guard }
  below_later (Drops references ∷ rest) o keep h = h
  below_later (Finishes deinits p ∷ rest) o keep h = h

  frame_later : (frame : Frame) (rest : List (Task Frame)) → KeepsLoans m loans memory later frame → KeepLoans m loans memory later rest
      → IsGuardedFrame m loans memory frame rest → IsGuardedFrame m loans later frame rest
  frame_later frame rest own keep h = record {
    f = h.f;
    is = h.is;
    kinds = h.kinds;
    lent = λ v x e current o n.
        let g = h.lent v x e current o n in
        record { base = g.base; is_base = g.is_base; guard = guard_later frame h.f h.is own o g.base g.guard };
    arguments = λ a x o is e n. below_later rest o keep (h.arguments a x o is e n);
  }

  mutual
    pub tasks_later : (tasks : List (Task Frame)) → KeepLoans m loans memory later tasks → TasksAreGuarded m loans memory tasks → TasksAreGuarded m loans later tasks
    tasks_later [] keep h = h
    tasks_later (Runs frame ∷ rest) keep h = (frame_later frame rest keep.0 keep.1 h.0, waits_later frame frame rest keep.1 h.1)
    tasks_later (Drops references ∷ rest) keep h = (h.0, tasks_later rest keep h.1)
    tasks_later (Finishes deinits o ∷ rest) keep h = (h.0, tasks_later rest keep h.1)

    -- whatever the callee is
    pub waits_later : (callee other : Frame) (rest : List (Task Frame)) → KeepLoans m loans memory later rest → BelowIsGuarded m loans memory callee rest
        → BelowIsGuarded m loans later other rest
    waits_later callee other [] keep h = h
    waits_later callee other (Runs frame ∷ rest) keep h = (frame_later frame rest keep.0 keep.1 h.0, waits_later frame frame rest keep.1 h.1)
    waits_later callee other (Drops references ∷ rest) keep h = h
    waits_later callee other (Finishes deinits o ∷ rest) keep h = (h.0, h.1, tasks_later rest keep h.2)

-- ---- drops that wait

finishes_dropping : (o : ObjectId) (os : List ObjectId) (tasks : List (Task Frame)) → finishes_of o (dropping os tasks) ≡ finishes_of o tasks
finishes_dropping o [] tasks = refl
finishes_dropping o (p ∷ os) tasks = refl

module _ (m : Module) (loans : Loans) where
  -- slots' cells stay as they are
  pub stack_kept : (memory later : Memory) → later.stack ≡ memory.stack → (tasks : List (Task Frame)) → KeepLoans m loans memory later tasks
  stack_kept memory later same [] = tt
  stack_kept memory later same (Runs frame ∷ rest) = (λ f s x k y is borrow e l keeps. ap (λ cells. slice_get cells k) same ∙ keeps, stack_kept memory later same rest)
  stack_kept memory later same (Drops references ∷ rest) = stack_kept memory later same rest
  stack_kept memory later same (Finishes deinits o ∷ rest) = stack_kept memory later same rest

  guarded_dropping : (memory : Memory) (os : List ObjectId) (tasks : List (Task Frame)) → TasksAreGuarded m loans memory tasks → TasksAreGuarded m loans memory (dropping os tasks)
  guarded_dropping memory [] tasks h = h
  guarded_dropping memory (o ∷ os) tasks h = (tt, h)

  -- ---- an item

  -- a frame over these tasks, of which these entries are left where its results are put
  record LeftGuarded (memory : Memory) (rest : List (Task Frame)) (frame : Frame) (f : Function) (lends : Lending) (left : List Entry) : Type 0 where
    is : slice_get m.functions frame.function.0 ≡ Some f
    kinds : AreOfKinds (declarations_of m) f left
    lent : AreLentGuarded (declarations_of m) f lends memory left frame.trail
    arguments : (a : ValueId) (x : Datum) (o : ObjectId) → IsArgument f a → entry_at left a ≡ Lent x → IsNamed o (references_in x) → KeepsBelow m loans memory rest o
    waits : BelowIsGuarded m loans memory frame rest
    dead : (o : ObjectId) → is_dead memory o ≡ true → in_entries (one_object o) left + in_tasks (one_object o) rest + in_memory (one_object o) storage.Strong memory ≡ 0
    finishes : AreFinishesRight memory rest

  module _ (memory : Memory) (rest : List (Task Frame)) (frame : Frame) (f : Function) (lends : Lending) (left : List Entry) (i : Item) (c : Change) (slots : List Place) (entries : List Entry)
      (h : LeftGuarded memory rest frame f lends left)
      (put : results_put (facts_in (declarations_of m) f) (item_defined f i) c.results left ≡ Ok entries)
      (unmade : (a : ValueId) → IsArgument f a → makes f a i ≡ false)
      (right : ArePutRight (declarations_of m) f lends (loans f (frame_behind m loans frame i entries slots)) memory c.memory i c.results left)
      (phases : KeepsPhases memory c.memory) (none : (o : ObjectId) → is_dead c.memory o ≡ true → HoldsNone (one_object o) c)
      (below : KeepLoans m loans memory c.memory rest) where
    abbrev dm : Declarations
    dm = declarations_of m

    abbrev behind : Frame
    behind = frame_behind m loans frame i entries slots

    behind_guarded : AreOfKinds dm f entries × AreLentGuarded dm f (loans f behind) c.memory entries (i ∷ frame.trail)
    behind_guarded = guarded_behind dm f lends (loans f behind) memory c.memory left entries frame.trail i c.results h.kinds h.lent put right

    argument_was : (a : ValueId) (x : Datum) → IsArgument f a → entry_at entries a ≡ Lent x → entry_at left a ≡ Lent x
    argument_was a x is e = sym (results_others (facts_in dm f) (item_defined f i) c.results left entries put a (unmade a is)) ∙ e

    behind_frame : IsGuardedFrame m loans c.memory behind rest
    behind_frame = record {
      f = f;
      is = h.is;
      kinds = behind_guarded.0;
      lent = behind_guarded.1;
      arguments = λ a x o is e n. below_later m loans memory c.memory rest o below (h.arguments a x o is (argument_was a x is e) n);
    }

    item_dead : (o : ObjectId) → is_dead c.memory o ≡ true → holders_in c.memory (dropping c.dropped (Runs behind ∷ rest)) o ≡ 0
    item_dead o dead =
        let holds = none o dead in
        let before : in_entries (one_object o) left + in_tasks (one_object o) rest + in_memory (one_object o) storage.Strong memory ≡ 0 = h.dead o (phases.dead o dead) in
        let puts = results_most (one_object o) (facts_in dm f) (item_defined f i) c.results left entries put in
        let waits = waiting_counted (one_object o) c.dropped (Runs behind ∷ rest) in
        let now = first_task (one_object o) (Runs behind) rest in
        let results = holds.results in
        let dropped = holds.dropped in
        let kept = holds.memory in
        omega (arith, before, puts, waits, now, results, dropped, kept)

    item_guarded : IsGuardedRun m loans c.memory (dropping c.dropped (Runs behind ∷ rest))
    item_guarded = record {
      tasks_are = guarded_dropping c.memory c.dropped (Runs behind ∷ rest) (behind_frame, waits_later m loans memory c.memory frame behind rest below h.waits);
      dead = item_dead;
      finishes = λ o. finishes_dropping o c.dropped (Runs behind ∷ rest) ∙ h.finishes o ∙ ap (λ b. cond b 1 0) (sym (phases.deiniting o));
    }

  -- what an item's ends leave
  left_by_ends : (memory : Memory) (rest : List (Task Frame)) (frame : Frame) (f : Function) (i : Item) (ops : Operands) → IsGuardedRun m loans memory (Runs frame ∷ rest)
      → slice_get m.functions frame.function.0 ≡ Some f → operands_of (facts_in (declarations_of m) f) memory frame.entries (item_taken f i) ≡ Ok ops
      → KeepsBorrowed m loans f frame.entries ops.left → LeftGuarded memory rest frame f (loans f frame) ops.left
  left_by_ends memory rest frame f i ops h is ops_are borrowed = record {
    is = is;
    kinds = left_guarded.0;
    lent = left_guarded.1;
    arguments = λ a x o is_argument e n. top.arguments a x o (subst (λ (g : Function). IsArgument g a) (sym same_function) is_argument)
        (was_there frame.entries ops.left a from (lent_there (entry_at ops.left a) x e) ∙ e) n;
    waits = h.tasks_are.1;
    dead = λ o dead.
        let before : in_tasks (one_object o) (Runs frame ∷ rest) + in_memory (one_object o) storage.Strong memory ≡ 0 = h.dead o dead in
        let first = first_task (one_object o) (Runs frame) rest in
        let ends = ends_counted (one_object o) (facts_in (declarations_of m) f) (item_taken f i) frame.entries ops.left left_is in
        omega (arith, before, first, ends);
    finishes = h.finishes;
  }
    where
      top : IsGuardedFrame m loans memory frame rest
      top = h.tasks_are.0

      same_function : top.f ≡ f
      same_function = same_Some top.f f (sym top.is ∙ is)

      left_is : without_ended (facts_in (declarations_of m) f) (item_taken f i) frame.entries ≡ Ok ops.left
      left_is = (operands_are (facts_in (declarations_of m) f) memory frame.entries (item_taken f i) ops ops_are).left

      from : IsLeftOf frame.entries ops.left
      from = left_of (facts_in (declarations_of m) f) (item_taken f i) frame.entries ops.left left_is

      left_guarded : AreOfKinds (declarations_of m) f ops.left × AreLentGuarded (declarations_of m) f (loans f frame) memory ops.left frame.trail
      left_guarded = guarded_left (declarations_of m) f (loans f frame) memory frame.entries ops.left frame.trail (item_taken f i)
          (subst (λ (g : Function). AreOfKinds (declarations_of m) g frame.entries) same_function top.kinds)
          (subst (λ (g : Function). AreLentGuarded (declarations_of m) g (loans g frame) memory frame.entries frame.trail) same_function top.lent) left_is borrowed

  -- what a callee leaves that returns
  left_by_callee : (memory : Memory) (rest : List (Task Frame)) (callee frame : Frame) (f : Function) → IsGuardedRun m loans memory (Runs callee ∷ Runs frame ∷ rest)
      → slice_get m.functions frame.function.0 ≡ Some f → LeftGuarded memory rest frame f (loans f frame) frame.entries
  left_by_callee memory rest callee frame f h is = record {
    is = is;
    kinds = subst (λ (g : Function). AreOfKinds (declarations_of m) g frame.entries) same_function top.kinds;
    lent = subst (λ (g : Function). AreLentGuarded (declarations_of m) g (loans g frame) memory frame.entries frame.trail) same_function top.lent;
    arguments = λ a x o is_argument e n. top.arguments a x o (subst (λ (g : Function). IsArgument g a) (sym same_function) is_argument) e n;
    waits = h.tasks_are.1.1;
    dead = λ o dead.
        let before : in_tasks (one_object o) (Runs callee ∷ Runs frame ∷ rest) + in_memory (one_object o) storage.Strong memory ≡ 0 = h.dead o dead in
        let first = first_task (one_object o) (Runs callee) (Runs frame ∷ rest) in
        let second = first_task (one_object o) (Runs frame) rest in
        omega (arith, before, first, second);
    finishes = h.finishes;
  }
    where
      top : IsGuardedFrame m loans memory frame rest
      top = h.tasks_are.1.0

      same_function : top.f ≡ f
      same_function = same_Some top.f f (sym top.is ∙ is)

  deinit_returned : (memory : Memory) (rest : List (Task Frame)) (callee : Frame) (deinits : List FuncId) (o : ObjectId)
      → IsGuardedRun m loans memory (Runs callee ∷ Finishes deinits o ∷ rest) → IsGuardedRun m loans memory (Finishes deinits o ∷ rest)
  deinit_returned memory rest callee deinits o h = record {
    tasks_are = (h.tasks_are.1.1, h.tasks_are.1.2);
    dead = λ p dead.
        let before : in_tasks (one_object p) (Runs callee ∷ Finishes deinits o ∷ rest) + in_memory (one_object p) storage.Strong memory ≡ 0 = h.dead p dead in
        let first = first_task (one_object p) (Runs callee) (Finishes deinits o ∷ rest) in
        omega (arith, before, first);
    finishes = h.finishes;
  }

pub items_guarded : (m : Module) (loans : Loans) → AreItemsGuarded m loans
items_guarded m loans memory rest frame f i ops c slots entries h goes =
    item_guarded m loans memory rest frame f (loans f frame) ops.left i c slots entries (left_by_ends m loans memory rest frame f i ops h goes.is goes.ops_are goes.borrowed)
    goes.put goes.arguments goes.right goes.phases goes.none goes.below

-- nothing changes in memory
pub same_phases : (memory : Memory) → KeepsPhases memory memory
same_phases memory = record { dead = λ o h. h; deiniting = λ o. refl }

pub returns_guarded : (m : Module) (loans : Loans) → AreReturnsGuarded m loans
returns_guarded m loans memory rest callee frame f i x slots entries h goes =
    item_guarded m loans memory rest frame f (loans f frame) frame.entries i (record (unchanged memory) { results = x ∷ [] }) slots entries
    (left_by_callee m loans memory rest callee frame f h goes.is) goes.put goes.arguments goes.right (same_phases memory)
    (λ o dead.
    let one : in_data (one_object o) (x ∷ []) ≡ in_datum (one_object o) x + 0 = total_cons (in_datum (one_object o)) x [] in
    let none = goes.none o dead in
    let before : in_tasks (one_object o) (Runs callee ∷ Runs frame ∷ rest) + in_memory (one_object o) storage.Strong memory ≡ 0 = h.dead o dead in
    record { results = omega (arith, one, none); dropped = refl; memory = omega (arith, before) })
    (stack_kept m loans memory memory refl rest)

pub deinit_returns_guarded : (m : Module) (loans : Loans) → AreDeinitReturnsGuarded m loans
deinit_returns_guarded m loans memory rest callee deinits o h = deinit_returned m loans memory rest callee deinits o h

-- ---- calls

same_object : (o p : ObjectId) → o.0 ≡ p.0 → o ≡ p
same_object o p e = ap (λ n. object_number n) e

other_way : (a b : ℕ) → (a == b) ≡ false → (b == a) ≡ false
other_way a b other = ⊎_elim (λ same. absurd (true≢false (sym (eq-eqb a b (sym (eqb-true b a same))) ∙ other))) (λ no. no) (cases_Bool (b == a))

no_entry : (n : ℕ) (v : ℕ) → unwrap_or (slice_get (replicate n Gone) v) Gone ≡ Gone
no_entry zero v = refl
no_entry (suc n) zero = refl
no_entry (suc n) (suc v) = no_entry n v

module _ (m : Module) (loans : Loans) where
  abbrev md : Declarations
  md = declarations_of m

  -- a frame that is entered, where its arguments are kept below
  entered_frame : (memory : Memory) (below : List (Task Frame)) (g : FuncId) (callee : Function) (args : List Datum) (entries : List Entry) → slice_get m.functions g.0 ≡ Some callee
      → results_put (facts_in md callee) (item_defined callee item.Entry) args (no_entries (value_count callee)) ≡ Ok entries
      → AreArgumentsGuarded m loans callee args (KeepsBelow m loans memory below) → IsGuardedFrame m loans memory (new_frame g entries) below
  entered_frame memory below g callee args entries is put arguments = record {
    f = callee;
    is = is;
    kinds = behind.0;
    lent = behind.1;
    arguments = kept;
  }
    where
      gone : (v : ValueId) → entry_at (no_entries (value_count callee)) v ≡ Gone
      gone v = no_entry (value_count callee) v.0

      none_lent : (v : ValueId) (x : Datum) → entry_at (no_entries (value_count callee)) v ≡ Lent x → ⊥
      none_lent v x e = let none = gone v in cc

      none_held : (v : ValueId) (x : Datum) → entry_at (no_entries (value_count callee)) v ≡ Held x → ⊥
      none_held v x e = let none = gone v in cc

      behind : AreOfKinds md callee entries × AreLentGuarded md callee (loans callee (new_frame g entries)) memory entries (item.Entry ∷ [])
      behind =
          guarded_behind md callee (λ s k. false) (loans callee (new_frame g entries)) memory memory (no_entries (value_count callee)) entries [] item.Entry args
          (λ v. inl (gone v)) (λ v x e. absurd (none_lent v x e)) put
          (record {
            anchors = λ v x anchor e. absurd (none_lent v x e);
            lending = λ s x k y is e. absurd (none_lent s x e);
            made = λ n v x o there given made named. let own = arguments.own n v x o there given made named in by_caller own.0 own.1;
          })

      kept : (a : ValueId) (x : Datum) (o : ObjectId) → IsArgument callee a → entry_at entries a ≡ Lent x → IsNamed o (references_in x) → KeepsBelow m loans memory below o
      kept a x o is e n =
          ⊎_elim (λ same. absurd (none_lent a x (sym same ∙ e)))
          (λ r.
          let it : r.datum ≡ x = made_lent_same (kind_at md callee a) r.datum x (r.made ∙ ap Ok e) in
          (arguments.own r.n a x o r.value_is (r.datum_is ∙ ap Some it)
          (subst (λ (y : Datum). made_entry (kind_at md callee a) y ≡ Ok (Lent x)) it (r.made ∙ ap Ok e)) n).2)
          (results_either (facts_in md callee) (item_defined callee item.Entry) args (no_entries (value_count callee)) entries put a)

  -- what a frame that is entered holds
  entered_most : (weight : ObjectId → ℕ) (callee : Function) (args : List Datum) (entries : List Entry)
      → results_put (facts_in md callee) (item_defined callee item.Entry) args (no_entries (value_count callee)) ≡ Ok entries → in_entries weight entries ≤ in_data weight args
  entered_most weight callee args entries put =
      let most = results_most weight (facts_in md callee) (item_defined callee item.Entry) args (no_entries (value_count callee)) entries put in
      let none : in_entries weight (no_entries (value_count callee)) ≡ 0 = total_none (in_entry weight) (value_count callee) Gone refl in
      omega (arith, most, none)

  module _ (memory later : Memory) (rest : List (Task Frame)) (frame : Frame) (f : Function) (i : Item) (ops : Operands) (lent : List LentPlace)
      (g : FuncId) (callee : Function) (args : List Datum) (entries : List Entry) (h : IsGuardedRun m loans memory (Runs frame ∷ rest))
      (calls : CallsGuarded m loans memory later rest frame f i ops lent g callee args entries) where
    abbrev waiting : Frame
    waiting = frame_waiting m loans frame ops lent

    caller : IsGuardedFrame m loans memory frame rest
    caller = h.tasks_are.0

    caller_is : caller.f ≡ f
    caller_is = same_Some caller.f f (sym caller.is ∙ calls.is)

    ends : without_ended (facts_in md f) (item_taken f i) frame.entries ≡ Ok ops.left
    ends = (operands_are (facts_in md f) memory frame.entries (item_taken f i) ops calls.ops_are).left

    left_from : IsLeftOf frame.entries ops.left
    left_from = left_of (facts_in md f) (item_taken f i) frame.entries ops.left ends

    caller_left : AreOfKinds md f ops.left × AreLentGuarded md f (loans f frame) memory ops.left frame.trail
    caller_left = guarded_left md f (loans f frame) memory frame.entries ops.left frame.trail (item_taken f i)
        (subst (λ (k : Function). AreOfKinds md k frame.entries) caller_is caller.kinds)
        (subst (λ (k : Function). AreLentGuarded md k (loans k frame) memory frame.entries frame.trail) caller_is caller.lent) ends calls.borrowed

    guard_waits : (o : ObjectId) (b : ValueId) → Guard md f (loans f frame) memory ops.left o b → Guard md f (loans f waiting) later ops.left o b
    guard_waits o b guard =
        guards_kept md f (loans f frame) (loans f waiting) memory later ops.left ops.left
        (record {
          held = λ v x e there. e;
          lent = λ v x anchor e there. e;
          borrowed = λ s b x is e there from there_b. there_b;
          lending = λ s x k y borrow e there l keeps. calls.lending s x k y borrow e l keeps;
        })
        o b guard (guard_there md f (loans f frame) memory ops.left o b guard)

    waiting_frame : IsGuardedFrame m loans later waiting rest
    waiting_frame = record {
      f = f;
      is = calls.is;
      kinds = caller_left.0;
      lent = λ v x e current o n.
          let guarded = caller_left.1 v x e current o n in
          record { base = guarded.base; is_base = guarded.is_base; guard = guard_waits o guarded.base guarded.guard };
      arguments = λ a x o is e n.
          below_later m loans memory later rest o calls.below
          (caller.arguments a x o (subst (λ (k : Function). IsArgument k a) (sym caller_is) is) (was_there frame.entries ops.left a left_from (lent_there (entry_at ops.left a) x e) ∙ e) n);
    }

    called_dead : (o : ObjectId) → is_dead later o ≡ true → holders_in later (Runs (new_frame g entries) ∷ Runs waiting ∷ rest) o ≡ 0
    called_dead o dead =
        let gone = calls.phases.dead o dead in
        let before : in_tasks (one_object o) (Runs frame ∷ rest) + in_memory (one_object o) storage.Strong memory ≡ 0 = h.dead o gone in
        let first = first_task (one_object o) (Runs frame) rest in
        let left = ends_counted (one_object o) (facts_in md f) (item_taken f i) frame.entries ops.left ends in
        let top = first_task (one_object o) (Runs (new_frame g entries)) (Runs waiting ∷ rest) in
        let second = first_task (one_object o) (Runs waiting) rest in
        let most = entered_most (one_object o) callee args entries calls.put in
        let none = (calls.none o gone).results in
        let less = calls.less o in
        omega (arith, before, first, left, top, second, most, none, less)

    called : IsGuardedRun m loans later (Runs (new_frame g entries) ∷ Runs waiting ∷ rest)
    called = record {
      tasks_are = (
        entered_frame later (Runs waiting ∷ rest) g callee args entries calls.callee_is calls.put calls.arguments,
        (waiting_frame, waits_later m loans memory later frame waiting rest calls.below h.tasks_are.1),
      );
      dead = called_dead;
      finishes = λ o. h.finishes o ∙ ap (λ b. cond b 1 0) (sym (calls.phases.deiniting o));
    }

  deinit_called : (memory : Memory) (rest : List (Task Frame)) (g h : FuncId) (gs : List FuncId) (o : ObjectId) (callee : Function) (args : List Datum) (entries : List Entry)
      → IsGuardedRun m loans memory (Finishes (h ∷ gs) o ∷ rest) → slice_get m.functions g.0 ≡ Some callee
      → results_put (facts_in md callee) (item_defined callee item.Entry) args (no_entries (value_count callee)) ≡ Ok entries
      → ((p : ObjectId) → is_dead memory p ≡ true → HoldsNone (one_object p) (record { results = args; dropped = []; retained = []; memory = memory; slots = SameSlots }))
      → AreArgumentsGuarded m loans callee args (λ p. p ≡ o)
      → IsGuardedRun m loans memory (Runs (new_frame g entries) ∷ Finishes gs o ∷ rest)
  deinit_called memory rest g h gs o callee args entries state is put none arguments = record {
    tasks_are = (entered_frame memory (Finishes gs o ∷ rest) g callee args entries is put arguments, (tt, tt, state.tasks_are.1));
    dead = λ p dead.
        let before : in_tasks (one_object p) (Finishes (h ∷ gs) o ∷ rest) + in_memory (one_object p) storage.Strong memory ≡ 0 = state.dead p dead in
        let old = first_task (one_object p) (Finishes (h ∷ gs) o) rest in
        let top = first_task (one_object p) (Runs (new_frame g entries)) (Finishes gs o ∷ rest) in
        let second = first_task (one_object p) (Finishes gs o) rest in
        let most = entered_most (one_object p) callee args entries put in
        let empty = (none p dead).results in
        omega (arith, before, old, top, second, most, empty);
    finishes = λ p. state.finishes p;
  }

  -- ---- drops

  dropped_one : (memory : Memory) (rest : List (Task Frame)) (o : ObjectId) (os : List ObjectId) → IsGuardedRun m loans memory (Drops (o ∷ os) ∷ rest) → IsGuardedRun m loans memory (Drops os ∷ rest)
  dropped_one memory rest o os h = record {
    tasks_are = h.tasks_are;
    dead = λ p dead.
        let before : in_tasks (one_object p) (Drops (o ∷ os) ∷ rest) + in_memory (one_object p) storage.Strong memory ≡ 0 = h.dead p dead in
        let old = first_task (one_object p) (Drops (o ∷ os)) rest in
        let new = first_task (one_object p) (Drops os) rest in
        let one : of_references (one_object p) (o ∷ os) ≡ one_object p o + of_references (one_object p) os = total_cons (one_object p) o os in
        omega (arith, before, old, new, one);
    finishes = h.finishes;
  }

  dropped_all : (memory : Memory) (rest : List (Task Frame)) → IsGuardedRun m loans memory (Drops [] ∷ rest) → IsGuardedRun m loans memory rest
  dropped_all memory rest h = record {
    tasks_are = h.tasks_are.1;
    dead = λ p dead.
        let before : in_tasks (one_object p) (Drops [] ∷ rest) + in_memory (one_object p) storage.Strong memory ≡ 0 = h.dead p dead in
        let old = first_task (one_object p) (Drops []) rest in
        omega (arith, before, old);
    finishes = h.finishes;
  }

pub calls_guarded : (m : Module) (loans : Loans) → AreCallsGuarded m loans
calls_guarded m loans memory later rest frame f i ops lent g callee args entries h calls = called m loans memory later rest frame f i ops lent g callee args entries h calls

pub deinit_calls_guarded : (m : Module) (loans : Loans) → AreDeinitCallsGuarded m loans
deinit_calls_guarded m loans memory rest g h gs o callee args entries state is put none arguments = deinit_called m loans memory rest g h gs o callee args entries state is put none arguments

pub drops_guarded : (m : Module) (loans : Loans) → AreDropsGuarded m loans
drops_guarded m loans memory rest = (λ o os h. dropped_one m loans memory rest o os h, λ h. dropped_all m loans memory rest h)

-- ---- objects that start to deinitialise, and that die

set_at : (objects : List Object) (n k : ℕ) (x : Object) → (n ≡ k) × (n < length objects) ⊎ (unwrap_or (slice_get (set objects n x) k) no_object ≡ unwrap_or (slice_get objects k) no_object)
set_at [] n k x = inr refl
set_at (y ∷ ys) zero zero x = inl (refl, omega arith)
set_at (y ∷ ys) zero (suc k) x = inr refl
set_at (y ∷ ys) (suc n) zero x = inr refl
set_at (y ∷ ys) (suc n) (suc k) x = ⊎_elim (λ same. inl (ap suc same.0, omega (arith, same.1))) (λ other. inr other) (set_at ys n k x)

set_itself : (objects : List Object) (n : ℕ) (x : Object) → n < length objects → unwrap_or (slice_get (set objects n x) n) no_object ≡ x
set_itself [] n x lt = absurd (omega (arith, lt))
set_itself (y ∷ ys) zero x lt = refl
set_itself (y ∷ ys) (suc n) x lt = set_itself ys n x (omega (arith, lt))

abbrev one_if : Bool → ℕ
one_if b = cond b 1 0

counts_other : (o p : ObjectId) → (o.0 == p.0) ≡ false → one_object o p ≡ 0
counts_other o p e = ap (λ b. cond b 1 0) e

module _ (m : Module) (loans : Loans) where
  module _ (memory : Memory) (o : ObjectId) (x : Object) (made : o.0 < length memory.objects) where
    abbrev changed : Memory
    changed = with_object memory o x

    -- the object is the new one, and the others are as they were
    changed_at : (p : ObjectId) → (o.0 == p.0) ≡ true → object_at changed p ≡ x
    changed_at p same = ap (λ n. unwrap_or (slice_get (set memory.objects o.0 x) n) no_object) (sym (eqb-true o.0 p.0 same)) ∙ set_itself memory.objects o.0 x made

    others_at : (p : ObjectId) → (o.0 == p.0) ≡ false → object_at changed p ≡ object_at memory p
    others_at p other = ⊎_elim (λ same. absurd (true≢false (sym (eq-eqb o.0 p.0 same.0) ∙ other))) (λ is. is) (set_at memory.objects o.0 p.0 x)

  module _ (memory : Memory) (os : List ObjectId) (rest : List (Task Frame)) (o : ObjectId) (deinits : List FuncId) (live : is_live memory o ≡ true)
      (h : IsGuardedRun m loans memory (Drops os ∷ rest)) where
    abbrev deinitialising : Memory
    deinitialising = in_phase Deiniting memory o

    alive : is_dead memory o ≡ false
    alive = live_not_dead memory o live

    deiniting_at : (p : ObjectId) → (o.0 == p.0) ≡ true → phase_of deinitialising p ≡ Deiniting
    deiniting_at p same = ap (λ (x : Object). x.phase) (changed_at memory o (record (object_at memory o) { phase = Deiniting }) (made_object memory o alive) p same)

    others_phase : (p : ObjectId) → (o.0 == p.0) ≡ false → phase_of deinitialising p ≡ phase_of memory p
    others_phase p other = ap (λ (x : Object). x.phase) (others_at memory o (record (object_at memory o) { phase = Deiniting }) (made_object memory o alive) p other)

    not_deiniting : is_deiniting_phase (phase_of memory o) ≡ false
    not_deiniting = at (phase_of memory o) live
      where
        at : (q : Phase) → is_live_phase q ≡ true → is_deiniting_phase q ≡ false
        at Live e = refl
        at Deiniting e = absurd (false≢true e)
        at Dead e = absurd (false≢true e)

    deinit_dead : (p : ObjectId) → is_dead deinitialising p ≡ true → holders_in deinitialising (Finishes deinits o ∷ Drops os ∷ rest) p ≡ 0
    deinit_dead p dead = ⊎_elim
        (λ same. absurd (true≢false (sym dead ∙ ap is_dead_phase (deiniting_at p same))))
        (λ other.
        let before : in_tasks (one_object p) (Drops os ∷ rest) + in_memory (one_object p) storage.Strong memory ≡ 0 = h.dead p (sym (ap is_dead_phase (others_phase p other)) ∙ dead) in
        let top = first_task (one_object p) (Finishes deinits o) (Drops os ∷ rest) in
        let kept = phases_counted (one_object p) storage.Strong memory o Deiniting alive refl in
        omega (arith, before, top, kept))
        (cases_Bool (o.0 == p.0))

    deinit_finishes : (p : ObjectId) → finishes_of p (Finishes deinits o ∷ Drops os ∷ rest) ≡ cond (is_deiniting_phase (phase_of deinitialising p)) 1 0
    deinit_finishes p = ⊎_elim
        (λ same.
        let it : o ≡ p = same_object o p (eqb-true o.0 p.0 same) in
        let one : one_object p o ≡ 1 = subst (λ (q : ObjectId). one_object q o ≡ 1) it (counts_itself o) in
        let was : finishes_of p rest ≡ 0 =
        subst (λ (q : ObjectId). finishes_of q rest ≡ 0) it (h.finishes o ∙ ap one_if not_deiniting) in
        let now : one_if (is_deiniting_phase (phase_of deinitialising p)) ≡ 1 = ap (λ (q : Phase). one_if (is_deiniting_phase q)) (deiniting_at p same) in
        omega (arith, one, was, now))
        (λ other.
        let none : one_object p o ≡ 0 = counts_other p o (other_way o.0 p.0 other) in
        let was : finishes_of p rest ≡ one_if (is_deiniting_phase (phase_of memory p)) = h.finishes p in
        let now : one_if (is_deiniting_phase (phase_of deinitialising p)) ≡ one_if (is_deiniting_phase (phase_of memory p)) =
        ap (λ (q : Phase). one_if (is_deiniting_phase q)) (others_phase p other) in
        omega (arith, none, was, now))
        (cases_Bool (o.0 == p.0))

    deinit_guarded : IsGuardedRun m loans deinitialising (Finishes deinits o ∷ Drops os ∷ rest)
    deinit_guarded = record {
      tasks_are = (tt, tasks_later m loans memory deinitialising (Drops os ∷ rest) (stack_kept m loans memory deinitialising refl (Drops os ∷ rest)) h.tasks_are);
      dead = deinit_dead;
      finishes = deinit_finishes;
    }

  module _ (memory : Memory) (rest : List (Task Frame)) (o : ObjectId) (h : IsGuardedRun m loans memory (Finishes [] o ∷ rest)) (unheld : holders_in memory rest o ≡ 0) where
    abbrev dying : Memory
    dying = with_object memory o (ended (object_at memory o))

    -- it is deinitialising, as it has a finish
    ending : is_deiniting_phase (phase_of memory o) ≡ true
    ending = ⊎_elim (λ is. is) (λ other. absurd (never other)) (cases_Bool (is_deiniting_phase (phase_of memory o)))
      where
        never : is_deiniting_phase (phase_of memory o) ≡ false → ⊥
        never other =
            let count : one_object o o + finishes_of o rest ≡ 0 = h.finishes o ∙ ap one_if other in
            let one = counts_itself o in
            omega (arith, count, one)

    not_dead : is_dead memory o ≡ false
    not_dead = at (phase_of memory o) ending
      where
        at : (q : Phase) → is_deiniting_phase q ≡ true → is_dead_phase q ≡ false
        at Live e = absurd (false≢true e)
        at Deiniting e = refl
        at Dead e = absurd (false≢true e)

    dead_at : (p : ObjectId) → (o.0 == p.0) ≡ true → phase_of dying p ≡ Dead
    dead_at p same = ap (λ (x : Object). x.phase) (changed_at memory o (ended (object_at memory o)) (made_object memory o not_dead) p same)

    others_stay : (p : ObjectId) → (o.0 == p.0) ≡ false → phase_of dying p ≡ phase_of memory p
    others_stay p other = ap (λ (x : Object). x.phase) (others_at memory o (ended (object_at memory o)) (made_object memory o not_dead) p other)

    -- what is held behind is what was held
    as_much : (p : ObjectId) → holders_in dying (dropping (field_references (object_at memory o)) rest) p ≡ holders_in memory rest p
    as_much p =
        let dies = deaths_counted (one_object p) storage.Strong memory o not_dead in
        let fields = (references_counted (one_object p)).1 (object_at memory o) in
        let waits = waiting_counted (one_object p) (field_references (object_at memory o)) rest in
        omega (arith, dies, fields, waits)

    death_dead : (p : ObjectId) → is_dead dying p ≡ true → holders_in dying (dropping (field_references (object_at memory o)) rest) p ≡ 0
    death_dead p dead = ⊎_elim
        (λ same. as_much p ∙ subst (λ (q : ObjectId). holders_in memory rest q ≡ 0) (same_object o p (eqb-true o.0 p.0 same)) unheld)
        (λ other.
        let before : in_tasks (one_object p) (Finishes [] o ∷ rest) + in_memory (one_object p) storage.Strong memory ≡ 0 = h.dead p (sym (ap is_dead_phase (others_stay p other)) ∙ dead) in
        let top = first_task (one_object p) (Finishes [] o) rest in
        let same = as_much p in
        omega (arith, before, top, same))
        (cases_Bool (o.0 == p.0))

    death_finishes : (p : ObjectId) → finishes_of p (dropping (field_references (object_at memory o)) rest) ≡ cond (is_deiniting_phase (phase_of dying p)) 1 0
    death_finishes p = finishes_dropping p (field_references (object_at memory o)) rest ∙ ⊎_elim
        (λ same.
        let it : o ≡ p = same_object o p (eqb-true o.0 p.0 same) in
        let count : one_object o o + finishes_of o rest ≡ 1 = h.finishes o ∙ ap one_if ending in
        let one = counts_itself o in
        let none : finishes_of p rest ≡ 0 = subst (λ (q : ObjectId). finishes_of q rest ≡ 0) it (omega (arith, count, one)) in
        none ∙ sym (ap (λ (q : Phase). one_if (is_deiniting_phase q)) (dead_at p same)))
        (λ other.
        let none : one_object p o ≡ 0 = counts_other p o (other_way o.0 p.0 other) in
        let count : one_object p o + finishes_of p rest ≡ one_if (is_deiniting_phase (phase_of memory p)) = h.finishes p in
        let now : one_if (is_deiniting_phase (phase_of dying p)) ≡ one_if (is_deiniting_phase (phase_of memory p)) =
        ap (λ (q : Phase). one_if (is_deiniting_phase q)) (others_stay p other) in
        omega (arith, none, count, now))
        (cases_Bool (o.0 == p.0))

    death_guarded : IsGuardedRun m loans dying (dropping (field_references (object_at memory o)) rest)
    death_guarded = record {
      tasks_are = guarded_dropping m loans dying (field_references (object_at memory o)) rest
          (tasks_later m loans memory dying rest (stack_kept m loans memory dying refl rest) h.tasks_are.1);
      dead = death_dead;
      finishes = death_finishes;
    }

pub deinits_guarded : (m : Module) (loans : Loans) → AreDeinitsGuarded m loans
deinits_guarded m loans memory os rest o deinits live h = deinit_guarded m loans memory os rest o deinits live h

pub deaths_guarded : (m : Module) (loans : Loans) → AreDeathsGuarded m loans
deaths_guarded m loans memory rest o h unheld = death_guarded m loans memory rest o h unheld

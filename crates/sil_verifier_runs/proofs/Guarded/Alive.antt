-- What is guarded in the frame that goes on isn't dead, and no operand names a dead object.
use Rattle.std.proofs.Common.{◌≡◌, ◌+◌, List, [], ◌∷◌, refl, sym, ap, ◌∙◌, subst, Bool, true, false, cond, ◌⊎◌, inl, inr, ⊎_elim, Option, Some, None, Ok, Err, arith}
use Rattle.std.specs.declared.result.Result.{Result}
use Rattle.std.proofs.lemmas.Bool.{cases_Bool, false≢true, true≢false}
use Rattle.std.proofs.lemmas.Option.{same_Some}
use Rattle.sil_cfg_items.specs.declared.taken.Taken.{Taken}
use Rattle.instruction_table.specs.declared.entries.Role.{Role}
use Rattle.numbered_form.specs.Lists.{Each}
use Rattle.sil_verifier_frames.specs.ownership_kinds_chains.declared.ownership_chains.facts.Facts.{Facts}
use Rattle.sil_ast.specs.declared.decl.Storage.TheVariants as storage
use Rattle.sil_ast.specs.declared.function.Function.{Function}
use Rattle.sil_ast.specs.declared.module.Module.{Module}
use Rattle.sil_ast.specs.declared.place.ObjectId.{ObjectId}
use Rattle.sil_ast.specs.declared.place.ValueId.{ValueId}
use Rattle.sil_types_declarations.specs.TypeDefinitions.Declarations.{Declarations, declarations_of}
use Rattle.holder_model_values.specs.declared.run_values.phase.Phase.{Phase}
use Rattle.holder_model_values.specs.declared.run_values.phase.Phase.TheVariants.{Dead, Deiniting, Live}
use Rattle.holder_model_values.specs.RunValues.Memory.{Memory, is_dead, is_dead_phase, phase_of}
use Rattle.sil_verifier_frames.specs.ownership_kinds_origins.Facts.{facts_in}
use Rattle.sil_verifier_frames.specs.holder_model.Data.{Datum, references_in}
use Rattle.sil_verifier_frames.specs.holder_model.Faults.{HolderFault, ConsumesLent, NamesDead}
use Rattle.sil_verifier_frames.specs.holder_model.Frames.{Entry, Frame, Gone, Held, Lent, Plain, and_more, any_dead, datum_in, datum_or_fault, ended_entry, ends}
use Rattle.sil_verifier_frames.specs.holder_model.Frames.{entry_at, is_consumed, operand, operand_data, operands_of, unless_dead, used_datum, with_ok, without_ended}
use Rattle.sil_verifier_frames.specs.holder_model.Holders.{in_memory, one_object}
use Rattle.sil_verifier_frames.specs.holder_model.HolderStates.{HolderState, in_task}
use Rattle.sil_verifier_frames.specs.holder_model.States.{Runs, Task}
use Rattle.sil_verifier_frames.specs.holder_model_laws.HolderLaws.inner.Counts.Moving.{in_tasks}
use Rattle.sil_verifier_frames.specs.holder_model_laws.HolderLaws.inner.Counts.Taking.{in_entries}
use Rattle.sil_verifier_frames.proofs.holder_model_laws.HolderLaws.Counts.Entries.{IsLeftOf, left_of, was_there}
use Rattle.sil_verifier_frames.proofs.holder_model_laws.HolderLaws.Counts.Moves.{with_left}
use Rattle.sil_verifier_frames.proofs.holder_model_laws.HolderLaws.Counts.Sums.{total_cons}
use Rattle.sil_verifier_runs.specs.inner.Guarded.Guards.{AreLentGuarded, AreOfKinds, IsCurrent, IsNamed}
use Rattle.sil_verifier_runs.specs.inner.Guarded.GuardedStates.{BelowIsGuarded, IsGuardedFrame, IsGuardedState, Loans, TasksAreGuarded, finishes_of, is_deiniting_phase}
use Rattle.sil_verifier_runs.specs.inner.Guarded.Kept.{AreGuardedAlive, AreOperandsAlive}
use Rattle.sil_verifier_runs.proofs.Guarded.Entries.{plain_bare}
use Rattle.sil_verifier_runs.proofs.Guarded.Guards.{guarded_in, kept_holders, operands_guarded}
use Rattle.sil_verifier_runs.proofs.Guarded.Named.{dead_named}

dead_not_deiniting : (p : Phase) → is_dead_phase p ≡ true → is_deiniting_phase p ≡ false
dead_not_deiniting Live h = refl
dead_not_deiniting Deiniting h = absurd (false≢true h)
dead_not_deiniting Dead h = refl

-- the first task of a guarded state that runs, and what waits below it
pub first_frame : (m : Module) (loans : Loans) (s : HolderState) (frame : Frame) (rest : List (Task Frame)) → IsGuardedState m loans s → s.tasks ≡ Runs frame ∷ rest
    → BelowIsGuarded m loans s.memory frame (Runs frame ∷ rest)
first_frame m loans s frame rest state at = subst (TasksAreGuarded m loans s.memory) at state.tasks_are

pub guarded_alive : AreGuardedAlive
guarded_alive m loans s frame rest o state at g = ⊎_elim (λ dead. absurd (not_dead dead)) (λ alive. alive) (cases_Bool (is_dead s.memory o))
  where
    below : BelowIsGuarded m loans s.memory frame (Runs frame ∷ rest)
    below = first_frame m loans s frame rest state at

    tasks : in_tasks (one_object o) s.tasks ≡ in_entries (one_object o) frame.entries + in_tasks (one_object o) rest
    tasks = ap (in_tasks (one_object o)) at ∙ total_cons (in_task (one_object o)) (Runs frame) rest

    not_dead : is_dead s.memory o ≡ true → ⊥
    not_dead dead = ⊎_elim (λ n. omega (arith, none, tasks, n)) (λ later. ⊎_elim (λ n. omega (arith, none, tasks, n)) (λ n. omega (arith, unfinished, n))
        (kept_holders m loans s.memory frame rest o below.1 later))
        (guarded_in m loans s.memory frame rest o below g)
      where
        none : in_tasks (one_object o) s.tasks + in_memory (one_object o) storage.Strong s.memory ≡ 0
        none = state.dead o dead

        unfinished : finishes_of o rest ≡ 0
        unfinished = sym (ap (finishes_of o) at) ∙ state.finishes o ∙ ap (λ b. cond b 1 0) (dead_not_deiniting (phase_of s.memory o) dead)

-- ---- operands

-- no end of an operand fails because something is dead
ended_alive : (v : ValueId) (entries : List Entry) (e : Entry) → ended_entry v entries e ≡ Err NamesDead → ⊥
ended_alive v entries Gone h = cc
ended_alive v entries (Held x) h = cc
ended_alive v entries (Lent x) h = cc
ended_alive v entries (Plain x) h = cc

through_ends : (go : List Entry → Result (List Entry) HolderFault) (r : Result (List Entry) HolderFault) → ((entries : List Entry) → go entries ≡ Err NamesDead → ⊥)
    → (r ≡ Err NamesDead → ⊥) → with_ok go r ≡ Err NamesDead → ⊥
through_ends go (Ok entries) later now h = later entries h
through_ends go (Err x) later now h = now h

ends_alive : (facts : ValueId → Option Facts) (ts : List Taken) (entries : List Entry) → without_ended facts ts entries ≡ Err NamesDead → ⊥
ends_alive facts [] entries h = cc
ends_alive facts (t ∷ ts) entries h = at (ends_alive facts ts) (ends facts t) h
  where
    at : ((es : List Entry) → without_ended facts ts es ≡ Err NamesDead → ⊥) → (b : Bool)
        → cond b (with_ok (without_ended facts ts) (ended_entry t.value entries (entry_at entries t.value))) (without_ended facts ts entries) ≡ Err NamesDead → ⊥
    at more true h =
        through_ends (without_ended facts ts) (ended_entry t.value entries (entry_at entries t.value)) more (ended_alive t.value entries (entry_at entries t.value)) h
    at more false h = more entries h

datum_alive : (m : Memory) (x : Datum) → any_dead m (references_in x) ≡ false → unless_dead m x ≡ Err NamesDead → ⊥
datum_alive m x alive h = let fine : unless_dead m x ≡ Ok x = ap (λ b. cond b (Err NamesDead) (Ok x)) alive in cc

-- an operand's datum comes from its entry
given_alive : (m : Memory) (o : Option Datum) → ((x : Datum) → o ≡ Some x → any_dead m (references_in x) ≡ false) → with_ok (unless_dead m) (datum_or_fault o) ≡ Err NamesDead → ⊥
given_alive m None alive h = cc
given_alive m (Some x) alive h = datum_alive m x (alive x refl) h

used_alive : (m : Memory) (r : Role) (e : Entry) → ((x : Datum) → datum_in e ≡ Some x → any_dead m (references_in x) ≡ false) → with_ok (unless_dead m) (used_datum r e) ≡ Err NamesDead → ⊥
used_alive m r Gone alive h = cc
used_alive m r (Held x) alive h = datum_alive m x (alive x refl) h
used_alive m r (Lent x) alive h = at (is_consumed r) h
  where
    at : (b : Bool) → with_ok (unless_dead m) (cond b (Err ConsumesLent) (Ok x)) ≡ Err NamesDead → ⊥
    at true h = cc
    at false h = datum_alive m x (alive x refl) h
used_alive m r (Plain x) alive h = datum_alive m x (alive x refl) h

module _ (facts : ValueId → Option Facts) (m : Memory) (before left : List Entry) (from : IsLeftOf before left) where
  -- what is told of the entries before holds of those that are left
  left_alive : (v : ValueId) → ((x : Datum) → datum_in (entry_at before v) ≡ Some x → any_dead m (references_in x) ≡ false)
      → (x : Datum) → datum_in (entry_at left v) ≡ Some x → any_dead m (references_in x) ≡ false
  left_alive v alive x e = alive x (ap datum_in (was_there before left v from (λ gone. none (sym (ap datum_in gone) ∙ e))) ∙ e)
    where
      none : None ≡ Some x → ⊥
      none h = cc

  operand_alive : (t : Taken) → ((x : Datum) → datum_in (entry_at before t.value) ≡ Some x → any_dead m (references_in x) ≡ false) → operand facts m before left t ≡ Err NamesDead → ⊥
  operand_alive t alive h = at (ends facts t) h
    where
      at : (b : Bool) → with_ok (unless_dead m) (cond b (datum_or_fault (datum_in (entry_at before t.value))) (used_datum t.role (entry_at left t.value))) ≡ Err NamesDead → ⊥
      at true h = given_alive m (datum_in (entry_at before t.value)) alive h
      at false h = used_alive m t.role (entry_at left t.value) (left_alive t.value alive) h

  more_alive : (x : Datum) (r : Result (List Datum) HolderFault) → (r ≡ Err NamesDead → ⊥) → and_more x r ≡ Err NamesDead → ⊥
  more_alive x (Ok xs) alive h = cc
  more_alive x (Err e) alive h = let same : e ≡ NamesDead = cc in alive (ap Err same)

  all_alive : (ts : List Taken) → Each (λ (t : Taken). (x : Datum) → datum_in (entry_at before t.value) ≡ Some x → any_dead m (references_in x) ≡ false) ts
      → operand_data facts m before left ts ≡ Err NamesDead → ⊥
  all_alive [] each h = cc
  all_alive (t ∷ ts) each h = at (all_alive ts each.1) (operand facts m before left t) refl h
    where
      at : (operand_data facts m before left ts ≡ Err NamesDead → ⊥) → (r : Result Datum HolderFault) → operand facts m before left t ≡ r
          → with_ok (λ x. and_more x (operand_data facts m before left ts)) r ≡ Err NamesDead → ⊥
      at more (Ok x) is h = more_alive x (operand_data facts m before left ts) more h
      at more (Err e) is h = let same : e ≡ NamesDead = cc in operand_alive t each.0 (is ∙ ap Err same)

all_given : (left : List Entry) (r : Result (List Datum) HolderFault) → (r ≡ Err NamesDead → ⊥) → with_ok (with_left left) r ≡ Err NamesDead → ⊥
all_given left (Ok xs) alive h = cc
all_given left (Err e) alive h = let same : e ≡ NamesDead = cc in alive (ap Err same)

-- no operand is dead where the entries name nothing that is
operands_alive_where : (facts : ValueId → Option Facts) (m : Memory) (entries : List Entry) (ts : List Taken)
    → Each (λ (t : Taken). (x : Datum) → datum_in (entry_at entries t.value) ≡ Some x → any_dead m (references_in x) ≡ false) ts → operands_of facts m entries ts ≡ Err NamesDead → ⊥
operands_alive_where facts m entries ts each h = at (without_ended facts ts entries) refl h
  where
    at : (r : Result (List Entry) HolderFault) → without_ended facts ts entries ≡ r → with_ok (λ left. with_ok (with_left left) (operand_data facts m entries left ts)) r ≡ Err NamesDead → ⊥
    at (Ok left) is h = all_given left (operand_data facts m entries left ts) (all_alive facts m entries left (left_of facts ts entries left is) ts each) h
    at (Err e) is h = let same : e ≡ NamesDead = cc in ends_alive facts ts entries (is ∙ ap Err same)

pub operands_alive : AreOperandsAlive
operands_alive m loans s frame rest f ts state at is each h = operands_alive_where (facts_in (declarations_of m) f) s.memory frame.entries ts (alive_each ts each) h
  where
    d : Declarations
    d = declarations_of m

    top : IsGuardedFrame m loans s.memory frame rest
    top = (first_frame m loans s frame rest state at).0

    kinds : AreOfKinds d f frame.entries
    kinds = subst (λ (g : Function). AreOfKinds d g frame.entries) (same_Some top.f f (sym top.is ∙ is)) top.kinds

    lent : AreLentGuarded d f (loans f frame) s.memory frame.entries frame.trail
    lent = subst (λ (g : Function). AreLentGuarded d g (loans g frame) s.memory frame.entries frame.trail) (same_Some top.f f (sym top.is ∙ is)) top.lent

    -- what an entry names that is held or lent isn't dead
    named_alive : (v : ValueId) (x : Datum) → IsCurrent d f (loans f frame) s.memory frame.entries frame.trail v
        → (entry_at frame.entries v ≡ Held x) ⊎ (entry_at frame.entries v ≡ Lent x) → any_dead s.memory (references_in x) ≡ false
    named_alive v x current form = ⊎_elim (λ dead. absurd (never (dead_named s.memory (references_in x) dead))) (λ alive. alive) (cases_Bool (any_dead s.memory (references_in x)))
      where
        never : ((o : ObjectId) × IsNamed o (references_in x) × (is_dead s.memory o ≡ true)) → ⊥
        never p =
            let g = operands_guarded d f (loans f frame) s.memory frame.entries frame.trail v x p.0 lent current form p.1 in
            true≢false (sym p.2 ∙ guarded_alive m loans s frame rest p.0 state at (record { f = f; is = is; base = g.0; guard = g.1 }))

    entry_alive : (v : ValueId) → IsCurrent d f (loans f frame) s.memory frame.entries frame.trail v → (e : Entry) → entry_at frame.entries v ≡ e
        → (x : Datum) → datum_in e ≡ Some x → any_dead s.memory (references_in x) ≡ false
    entry_alive v current Gone is x h = cc
    entry_alive v current (Held y) is x h = let same : y ≡ x = cc in named_alive v x current (inl (is ∙ ap Held same))
    entry_alive v current (Lent y) is x h = let same : y ≡ x = cc in named_alive v x current (inr (is ∙ ap Lent same))
    entry_alive v current (Plain y) is x h = let same : y ≡ x = cc in ap (any_dead s.memory) (ap references_in (sym same) ∙ plain_bare d f frame.entries kinds v y is)

    alive_each : (ts : List Taken) → Each (λ (t : Taken). IsCurrent d f (loans f frame) s.memory frame.entries frame.trail t.value) ts
        → Each (λ (t : Taken). (x : Datum) → datum_in (entry_at frame.entries t.value) ≡ Some x → any_dead s.memory (references_in x) ≡ false) ts
    alive_each [] each = tt
    alive_each (t ∷ ts) each = (λ x h. entry_alive t.value each.0 (entry_at frame.entries t.value) refl x h, alive_each ts each.1)

-- A run begins guarded: its one frame has no entries, memory has no objects, and no finish waits.
use Rattle.std.proofs.Common.{◌≡◌, ℕ, zero, suc, ◌+◌, [], refl, inl, arith}
use Rattle.std.specs.Prelude.{replicate, slice_get, unwrap_or}
use Rattle.sil_ast.specs.declared.decl.Storage.TheVariants as storage
use Rattle.sil_ast.specs.declared.place.ObjectId.{ObjectId}
use Rattle.sil_ast.specs.declared.place.ValueId.{ValueId}
use Rattle.sil_verifier_frames.specs.holder_model.Calling.{value_count}
use Rattle.sil_verifier_frames.specs.holder_model.Data.{Datum}
use Rattle.sil_verifier_frames.specs.holder_model.Frames.{Gone, Lent, entry_at, no_entries}
use Rattle.sil_verifier_frames.specs.holder_model.Holders.{in_memory, one_object}
use Rattle.sil_verifier_frames.specs.holder_model.HolderStates.{in_entry, in_task}
use Rattle.sil_verifier_frames.specs.holder_model.Outcomes.{begins}
use Rattle.sil_verifier_frames.specs.holder_model.StepParts.{new_frame}
use Rattle.sil_verifier_frames.specs.holder_model.States.{Runs}
use Rattle.sil_verifier_frames.specs.holder_model_laws.HolderLaws.inner.Counts.Moving.{in_tasks}
use Rattle.sil_verifier_frames.specs.holder_model_laws.HolderLaws.inner.Counts.Taking.{in_entries}
use Rattle.sil_verifier_frames.proofs.holder_model_laws.HolderLaws.Counts.Sums.{total_cons, total_none}
use Rattle.sil_verifier_runs.specs.inner.Guarded.Premises.{BeginGuarded}

no_entry : (n : ℕ) (v : ℕ) → unwrap_or (slice_get (replicate n Gone) v) Gone ≡ Gone
no_entry zero v = refl
no_entry (suc n) zero = refl
no_entry (suc n) (suc v) = no_entry n v

pub begin_guarded : BeginGuarded
begin_guarded m loans e f verified there may = record {
  tasks_are = (
    record {
      f = f;
      is = there;
      kinds = λ v. inl (gone v);
      lent = λ v x is current o named. absurd (none_lent v x is);
      arguments = λ a x o argument is named. absurd (none_lent a x is);
    },
    tt,
  );
  dead = λ o dead. none_held o;
  finishes = λ o. refl;
}
  where
    gone : (v : ValueId) → entry_at (no_entries (value_count f)) v ≡ Gone
    gone v = no_entry (value_count f) v.0

    none_lent : (v : ValueId) (x : Datum) → entry_at (no_entries (value_count f)) v ≡ Lent x → ⊥
    none_lent v x is = let none = gone v in cc

    none_held : (o : ObjectId) → in_tasks (one_object o) (begins e f).tasks + in_memory (one_object o) storage.Strong (begins e f).memory ≡ 0
    none_held o =
        let entries : in_entries (one_object o) (no_entries (value_count f)) ≡ 0 = total_none (in_entry (one_object o)) (value_count f) Gone refl in
        let tasks : in_tasks (one_object o) (begins e f).tasks ≡ in_entries (one_object o) (no_entries (value_count f)) + 0 =
        total_cons (in_task (one_object o)) (Runs (new_frame e (no_entries (value_count f)))) [] in
        let memory : in_memory (one_object o) storage.Strong (begins e f).memory ≡ 0 = refl in
        omega (arith, entries, tasks, memory)

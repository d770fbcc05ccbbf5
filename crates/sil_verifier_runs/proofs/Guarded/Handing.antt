-- Places that are handed over to a callee: no phase changes, and memory holds no more.
use Rattle.std.proofs.Common.{◌≡◌, ℕ, ◌+◌, ◌≤◌, List, [], ◌∷◌, map, replicate, refl, sym, ap, ◌∙◌, arith}
use Rattle.argument_conventions.specs.declared.row.Content.{Content}
use Rattle.argument_conventions.specs.declared.row.Content.TheVariants as content
use Rattle.sil_ast.specs.declared.decl.Storage.{Storage}
use Rattle.sil_ast.specs.declared.place.ObjectId.{ObjectId}
use Rattle.holder_model_values.specs.RunValues.Cells.{Empty, cell_count}
use Rattle.holder_model_values.specs.RunValues.Memory.{Memory, is_dead_phase, phase_of}
use Rattle.sil_verifier_frames.specs.holder_model.Calling.{as_argument, emptied_for, handed_over}
use Rattle.sil_verifier_frames.specs.holder_model.Data.{AddressOf, Datum, FunctionOf, ValueOf, references_in}
use Rattle.sil_verifier_frames.specs.holder_model.Frames.{LentPlace}
use Rattle.sil_verifier_frames.specs.holder_model.Holders.{in_memory, of_references}
use Rattle.sil_verifier_frames.specs.holder_model_laws.HolderLaws.inner.Counts.Naming.{in_data, in_datum}
use Rattle.sil_verifier_frames.proofs.holder_model_laws.HolderLaws.Counts.Most.{emptied_most, place_phases}
use Rattle.sil_verifier_frames.proofs.holder_model_laws.HolderLaws.Counts.Sums.{total_cons}
use Rattle.sil_verifier_runs.specs.inner.Guarded.GuardedStates.{is_deiniting_phase}
use Rattle.sil_verifier_runs.specs.inner.Guarded.Stepping.{KeepsPhases}

one_phase : (m : Memory) (l : LentPlace) (c : Content) (o : ObjectId) → phase_of (emptied_for m l c) o ≡ phase_of m o
one_phase m l content.Empty o = place_phases m l.place (replicate (cell_count l.place.shape) Empty) o
one_phase m l content.Full o = refl

all_phases : (ls : List LentPlace) (m : Memory) (o : ObjectId) → phase_of (handed_over m ls) o ≡ phase_of m o
all_phases [] m o = refl
all_phases (l ∷ ls) m o = all_phases ls (emptied_for m l l.row.before) o ∙ one_phase m l l.row.before o

pub handed_phases : (ls : List LentPlace) (m : Memory) → KeepsPhases m (handed_over m ls)
handed_phases ls m = record {
  dead = λ o dead. sym (ap is_dead_phase (all_phases ls m o)) ∙ dead;
  deiniting = λ o. ap is_deiniting_phase (all_phases ls m o);
}

module _ (weight : ObjectId → ℕ) (how : Storage) where
  one_less : (m : Memory) (l : LentPlace) (c : Content) → in_memory weight how (emptied_for m l c) ≤ in_memory weight how m
  one_less m l content.Empty = emptied_most weight how m l.place
  one_less m l content.Full = omega arith

  pub handed_less : (ls : List LentPlace) (m : Memory) → in_memory weight how (handed_over m ls) ≤ in_memory weight how m
  handed_less [] m = omega arith
  handed_less (l ∷ ls) m =
      let rest = handed_less ls (emptied_for m l l.row.before) in
      let first = one_less m l l.row.before in
      omega (arith, rest, first)

-- ---- what is handed over names what the operands name

pub argument_names : (x : Datum) → references_in (as_argument x) ≡ references_in x
argument_names (ValueOf x) = refl
argument_names (AddressOf p) = refl
argument_names (FunctionOf g) = refl

pub arguments_name : (weight : ObjectId → ℕ) (xs : List Datum) → in_data weight (map as_argument xs) ≡ in_data weight xs
arguments_name weight [] = refl
arguments_name weight (x ∷ xs) =
    let new : in_data weight (map as_argument (x ∷ xs)) ≡ in_datum weight (as_argument x) + in_data weight (map as_argument xs) =
    total_cons (in_datum weight) (as_argument x) (map as_argument xs) in
    let old : in_data weight (x ∷ xs) ≡ in_datum weight x + in_data weight xs = total_cons (in_datum weight) x xs in
    let first : in_datum weight (as_argument x) ≡ in_datum weight x = ap (of_references weight) (argument_names x) in
    let rest : in_data weight (map as_argument xs) ≡ in_data weight xs = arguments_name weight xs in
    omega (arith, new, old, first, rest)

-- Guards stay where what they rest on does, and what is guarded is held.
use Rattle.std.proofs.Common.{◌≡◌, ◌+◌, ◌<◌, List, [], ◌∷◌, sym, ap, ◌∙◌, subst, ◌⊎◌, inl, inr, ⊎_elim, arith}
use Rattle.std.proofs.lemmas.Option.{same_Some}
use Rattle.sil_ast.specs.declared.decl.Storage.TheVariants as storage
use Rattle.sil_ast.specs.declared.function.Function.{Function}
use Rattle.sil_ast.specs.declared.module.Module.{Module}
use Rattle.sil_ast.specs.declared.place.ObjectId.{ObjectId}
use Rattle.sil_ast.specs.declared.place.ValueId.{ValueId}
use Rattle.sil_types_declarations.specs.TypeDefinitions.Declarations.{Declarations, declarations_of}
use Rattle.holder_model_values.specs.RunValues.Memory.{Memory}
use Rattle.sil_verifier_frames.specs.holder_model.Data.{references_in}
use Rattle.sil_verifier_frames.specs.holder_model.Frames.{Entry, Frame, entry_at}
use Rattle.sil_verifier_frames.specs.holder_model.Holders.{in_memory, of_references, one_object}
use Rattle.sil_verifier_frames.specs.holder_model.HolderStates.{in_entry, in_task}
use Rattle.sil_verifier_frames.specs.holder_model.States.{Drops, Finishes, Runs, Task}
use Rattle.sil_verifier_frames.specs.holder_model_laws.HolderLaws.inner.Counts.Moving.{in_tasks}
use Rattle.sil_verifier_frames.specs.holder_model_laws.HolderLaws.inner.Counts.Taking.{in_entries}
use Rattle.sil_verifier_frames.proofs.holder_model_laws.HolderLaws.Counts.Sums.{total_cons}
use Rattle.sil_verifier_runs.specs.inner.Guarded.Guards.{Guard, IsArgument, IsThere, Lending, argument, loan, owner, scope}
use Rattle.sil_verifier_runs.specs.inner.Guarded.GuardedStates.{BelowIsGuarded, IsGuardedIn, KeepsBelow, Loans, finishes_of}
use Rattle.sil_verifier_runs.specs.inner.Guarded.Kept.{AreGuardsKept, AreOperandsGuarded, HaveGuardedHolders, IsHeldSomehow, from_argument, here}
use Rattle.sil_verifier_runs.proofs.Guarded.Named.{counts_itself, entry_at_most, kept_at_most}

pub guard_there : (d : Declarations) (f : Function) (lends : Lending) (m : Memory) (entries : List Entry) (o : ObjectId) (b : ValueId) → Guard d f lends m entries o b → IsThere (entry_at entries b)
guard_there d f lends m entries o _ (owner b x e n) gone = cc
guard_there d f lends m entries o _ (argument b x a e n) gone = cc
guard_there d f lends m entries o _ (scope s b x is e from g) gone = cc
guard_there d f lends m entries o _ (loan s x k y is e l keeps n) gone = cc

pub guards_kept : AreGuardsKept
guards_kept d f lends lends' m m' entries now stay o _ (owner b x e n) there = owner b x (stay.held b x e there) n
guards_kept d f lends lends' m m' entries now stay o _ (argument b x a e n) there = argument b x a (stay.lent b x (inr a) e there) n
guards_kept d f lends lends' m m' entries now stay o _ (scope s b x is e from g) there =
    scope s b x is (stay.lent s x (inl is) e there) from
    (guards_kept d f lends lends' m m' entries now stay o b g (stay.borrowed s b x is e there from (guard_there d f lends m entries o b g)))
guards_kept d f lends lends' m m' entries now stay o _ (loan s x k y is e l keeps n) there =
    let kept = stay.lending s x k y is e there l keeps in
    loan s x k y is (stay.lent s x (inl is) e there) kept.0 kept.1 n

pub guarded_holders : HaveGuardedHolders
guarded_holders d f lends m entries o _ (owner b x e n) =
    let most = entry_at_most (one_object o) entries b in
    let same : in_entry (one_object o) (entry_at entries b) ≡ of_references (one_object o) (references_in x) = ap (in_entry (one_object o)) e in
    here (omega (arith, most, same, n))
guarded_holders d f lends m entries o _ (argument b x a e n) = from_argument b x a e n
guarded_holders d f lends m entries o _ (scope s b x is e from g) = guarded_holders d f lends m entries o b g
guarded_holders d f lends m entries o _ (loan s x k y is e l keeps n) =
    let most = kept_at_most (one_object o) m k y keeps in
    here (omega (arith, most, n))

pub operands_guarded : AreOperandsGuarded
operands_guarded d f lends m entries t v x o lent current form n =
    ⊎_elim (λ held. (v, owner v x held n)) (λ lends_it. let g = lent v x lends_it current o n in (g.base, g.guard)) form

module _ (m : Module) (loans : Loans) (memory : Memory) where
  -- an object that is guarded in a frame is held there, or kept below for an argument
  pub guarded_in : (frame : Frame) (rest : List (Task Frame)) (o : ObjectId) → BelowIsGuarded m loans memory frame (Runs frame ∷ rest) → IsGuardedIn m loans memory frame o
      → (0 < in_entries (one_object o) frame.entries + in_memory (one_object o) storage.Strong memory) ⊎ KeepsBelow m loans memory rest o
  guarded_in frame rest o below g = at (guarded_holders (declarations_of m) g.f (loans g.f frame) memory frame.entries o g.base g.guard)
    where
      at : IsHeldSomehow g.f memory frame.entries o → (0 < in_entries (one_object o) frame.entries + in_memory (one_object o) storage.Strong memory) ⊎ KeepsBelow m loans memory rest o
      at (here n) = inl n
      at (from_argument a x is e n) =
          inr (below.0.arguments a x o (subst (λ (f : Function). IsArgument f a) (same_Some g.f below.0.f (sym g.is ∙ below.0.is)) is) e n)

  pub kept_holders : (callee : Frame) (rest : List (Task Frame)) (o : ObjectId) → BelowIsGuarded m loans memory callee rest → KeepsBelow m loans memory rest o
      → (0 < in_tasks (one_object o) rest + in_memory (one_object o) storage.Strong memory) ⊎ (0 < finishes_of o rest)
  kept_holders callee [] o below kept = absurd kept
  kept_holders callee (Runs frame ∷ rest) o below kept =
      let first : in_tasks (one_object o) (Runs frame ∷ rest) ≡ in_entries (one_object o) frame.entries + in_tasks (one_object o) rest = total_cons (in_task (one_object o)) (Runs frame) rest in
      ⊎_elim (λ n. inl (omega (arith, first, n)))
      (λ later. ⊎_elim (λ n. inl (omega (arith, first, n))) (λ n. inr n) (kept_holders frame rest o below.1 later))
      (guarded_in frame rest o below kept)
  kept_holders callee (Drops references ∷ rest) o below kept = absurd below
  kept_holders callee (Finishes deinits p ∷ rest) o below kept =
      let one : one_object o p ≡ 1 = subst (λ (q : ObjectId). one_object o q ≡ 1) kept (counts_itself o) in
      inr (omega (arith, one))

-- For the laws on the statuses of `run`: which texts it answers with the status of an ending, and which with that of no entry function.
use Rattle.std.proofs.Common.{◌≡◌, ◌↔◌, ◌⊎◌, ◌∙◌, inl, inr, ℕ, ◌==◌, Bool, List, refl, sym, ap, subst, subst₂, arith}
use Rattle.std.specs.Prelude.{cond}
use Rattle.sil_command_words.specs.inner.Laws.{SayOneThing}
use Rattle.sil_verifier.specs.holder_model.Faults.{HolderFault}
use Rattle.sil_verifier.specs.holder_model.Outcomes.{EndsSo, Outcome}
use Rattle.sil_verifier.specs.holder_model.States as ending
use Rattle.sil_verifier.specs.holder_model.States.{Ending}
use Rattle.sil_verifier.specs.holder_model.inner.Laws.{RunsEndOnce}
use Rattle.module_runner.specs.Entries.{HasEntry, IsEntry}
use Rattle.module_runner.specs.Optimising.{IsOptimisedIf}
use Rattle.module_runner.specs.inner.Laws.{HaveOneEntry, IsOne}
use Rattle.numbered_form.specs.inner.NumberedForm.{IsNumbered}
use Rattle.sil_ast.specs.declared.function.Function.{Function}
use Rattle.sil_ast.specs.declared.module.Module.{Module}
use Rattle.sil_ast.specs.declared.place.FuncId.{FuncId}
use Rattle.sil_grammar.specs.inner.Laws.{AreSpelledNumbered, AreSpelledOnce}
use Rattle.sil_command.specs.declared.status.Status.{Status}
use Rattle.sil_command.specs.declared.status.Status.TheVariants.{Done, Refused, Trapped, OutOfTurns, Limit, NoEntry}
use Rattle.sil_command.specs.Statuses.{code_of}
use Rattle.sil_verifier_accepted.specs.AcceptedModules.Findings.{Accepted, limit as found_limit}
use Rattle.sil_verifier_accepted.specs.AcceptedModules.inner.Laws.{AreAcceptedWhereNothingIsFound}
use Rattle.sil_command.specs.declared.words.Mode.TheVariants.{Run}
use Rattle.sil_command.specs.Answers.{AnswersModule, AnswersRun, AnswersWrong, limit_passed, refused, wrong, accepted, HasStatus, no_entry, ran}
use Rattle.sil_command.specs.Laws.{AreRunExactly, HaveNoEntryExactly, RunsTo}
use Rattle.sil_command.proofs.StatusLemmas.{answers_exactly}

ending_code : (x : Ending HolderFault) (s : Status) → HasStatus x s → (code_of s ≡ 0) ⊎ (code_of s ≡ 6) ⊎ (code_of s ≡ 7)
ending_code (ending.Returned x) s is = inl (ap code_of is)
ending_code (ending.Trapped t) s is = inr (inl (ap code_of is))
ending_code ending.OutOfTurns s is = inr (inr (ap code_of is))
ending_code (ending.Faulted x) s is = absurd is

wrong_code : (m : Module) (answer : List ℕ) (status : ℕ) → AnswersWrong m answer status → (status ≡ code_of Refused) ⊎ (status ≡ code_of Limit)
wrong_code m _ _ (refused x first rule) = inl refl
wrong_code m _ _ (limit_passed what first) = inr refl

one_status : (x : Ending HolderFault) (s t : Status) → HasStatus x s → HasStatus x t → s ≡ t
one_status (ending.Returned x) s t is so = is ∙ sym so
one_status (ending.Trapped x) s t is so = is ∙ sym so
one_status ending.OutOfTurns s t is so = is ∙ sym so
one_status (ending.Faulted x) s t is so = absurd is

-- the status of an ending, by its code
abbrev status_at : ℕ → Status
status_at n = cond (n == 0) Done (cond (n == 6) Trapped OutOfTurns)

at_code : (x : Ending HolderFault) (s : Status) → HasStatus x s → status_at (code_of s) ≡ s
at_code (ending.Returned x) s is = ap (λ t. status_at (code_of t)) is ∙ sym is
at_code (ending.Trapped x) s is = ap (λ t. status_at (code_of t)) is ∙ sym is
at_code ending.OutOfTurns s is = ap (λ t. status_at (code_of t)) is ∙ sym is
at_code (ending.Faulted x) s is = absurd is

-- endings whose statuses have one code have one status
same_status : (x y : Ending HolderFault) (s t : Status) → HasStatus x s → HasStatus y t → code_of s ≡ code_of t → s ≡ t
same_status x y s t is so same = sym (at_code x s is) ∙ ap status_at same ∙ at_code y t so

module _ (law : AreAcceptedWhereNothingIsFound) where
  never_wrong : (m : Module) (answer : List ℕ) (status : ℕ) → AnswersWrong m answer status → Accepted m → ⊥
  never_wrong m _ _ (refused x first rule) known = (law m).0 known x first.shown
  never_wrong m _ _ (limit_passed what first) known = (law m).0 known (found_limit what) first.shown

  module _ (name : List ℕ) (bound : ℕ) (optimises : Bool) where
    -- a run of which an ending is told ends with its status
    module _ (one_entry : HaveOneEntry) (is_one : IsOne) (once : RunsEndOnce) (x : Ending HolderFault) (s : Status) (has : HasStatus x s)
        (m : Module) (numbered : IsNumbered m) where
      ends_same : (k : Module) (e : FuncId) (f : Function) (y : Outcome HolderFault) (t : Status) → IsOptimisedIf optimises m k → IsEntry m name e f
          → EndsSo k e bound y → HasStatus y.ending t → RunsTo name bound optimises s m → code_of t ≡ code_of s
      ends_same k e f y t left entry ends so (other, i, g, z, also_left, again, ends_so, also) =
          let number : i ≡ e = (one_entry m name e i f g numbered entry again).0 in
          let run : other ≡ k = is_one optimises m other k also_left left in
          let outcome : z ≡ y = once k e bound z y (subst₂ (λ l n. EndsSo l n bound z) run number ends_so) ends in
          ap code_of (one_status y.ending t s so (subst (λ (o : Outcome HolderFault). HasStatus o.ending s) outcome also))

      run_tells : (answer : List ℕ) (status : ℕ) → AnswersRun m name bound optimises answer status
          → RunsTo name bound optimises s m ↔ (status ≡ code_of s)
      run_tells _ _ (no_entry none) = (λ known. absurd (none (known.1, known.2, known.5)), λ ten. absurd (omega (arith, ten, ending_code x s has)))
      run_tells _ _ (ran k e f y t left entry ends so never) = (
        ends_same k e f y t left entry ends so,
        λ same. (k, e, f, y, left, entry, ends, subst (HasStatus y.ending) (same_status y.ending x t s so has same) so),
      )

      tells : (answer : List ℕ) (status : ℕ) → AnswersModule (Run name bound optimises) m answer status
          → (Accepted m × RunsTo name bound optimises s m) ↔ (status ≡ code_of s)
      tells answer status (wrong _ _ answers) = (
        λ known. absurd (never_wrong m answer status answers known.0),
        λ same. absurd (omega (arith, same, ending_code x s has, wrong_code m answer status answers)),
      )
      tells answer status (accepted _ _ all answers) =
          let told = run_tells answer status answers in (λ known. told.0 known.1, λ same. (all, told.1 same))

    no_entry_tells : (m : Module) (answer : List ℕ) (status : ℕ) → AnswersModule (Run name bound optimises) m answer status
        → (Accepted m × (HasEntry m name → ⊥)) ↔ (status ≡ code_of NoEntry)
    no_entry_tells m answer status (wrong _ _ answers) =
        (λ known. absurd (never_wrong m answer status answers known.0), λ ten. absurd (omega (arith, ten, wrong_code m answer status answers)))
    no_entry_tells m _ _ (accepted _ _ all (no_entry none)) = (λ known. refl, λ ten. (all, none))
    no_entry_tells m _ _ (accepted _ _ all (ran k e f y t left entry ends so never)) =
        (λ known. absurd (known.1 (e, f, entry)), λ ten. absurd (omega (arith, ten, ending_code y.ending t so)))

pub run_exactly : SayOneThing → AreSpelledOnce → AreAcceptedWhereNothingIsFound → AreSpelledNumbered → HaveOneEntry → IsOne → RunsEndOnce → AreRunExactly
run_exactly one once law numbered one_entry is_one ends_once name bound optimises x s has =
    answers_exactly one once (Run name bound optimises) (code_of s) (λ m. Accepted m × RunsTo name bound optimises s m)
    (λ m text spells. tells law name bound optimises one_entry is_one ends_once x s has m (numbered m text spells))
    (λ e. omega (arith, e, ending_code x s has), λ e. omega (arith, e, ending_code x s has))

pub no_entry_exactly : SayOneThing → AreSpelledOnce → AreAcceptedWhereNothingIsFound → HaveNoEntryExactly
no_entry_exactly one once law name bound optimises =
    answers_exactly one once (Run name bound optimises) (code_of NoEntry) (λ m. Accepted m × (HasEntry m name → ⊥))
    (λ m text spells. no_entry_tells law name bound optimises m) (λ e. omega arith, λ e. omega arith)

-- The answer of `generate`: how a call ends with it, and with which statuses.
use Rattle.std.proofs.Common.{◌≡◌, ◌↔◌, ◌≤◌, ℕ, zero, suc, ◌+◌, List, [], ◌∷◌, ◌++◌, Option, Some, None, map, refl, subst, arith}
use Rattle.std.specs.Prelude.{codes, slice_get}
use Rattle.std.specs.List.{range_with_len}
use Rattle.sil_command_words.specs.inner.Laws.{SayOneThing}
use Rattle.sil_verifier_accepted.specs.AcceptedModules.Findings.{Accepted}
use Rattle.sil_verifier_accepted.specs.AcceptedModules.inner.Laws.{AreAcceptedWhereNothingIsFound}
use Rattle.sil_command_generator.specs.GeneratedModules.{generated, generated_module, main}
use Rattle.sil_command_generator.specs.Parts.{fn}
use Rattle.sil_command_generator.specs.WorkFunctions.{work}
use Rattle.sil_command_generator.specs.inner.Laws.{AreGeneratedNumbered, AreGeneratedShort}
use Rattle.module_runner.specs.Entries.{HasEntry}
use Rattle.sil_ast.specs.declared.function.Function.{Function}
use Rattle.sil_ast.specs.declared.module.Module.{Module}
use Rattle.sil_grammar.specs.Spells.{Spells}
use Rattle.sil_grammar.specs.inner.Laws.{AreSpelledOnce}
use Rattle.sil_printer_laws.specs.inner.Laws.{ArePrintedSpelled}
use Rattle.sil_command.specs.declared.status.Status.TheVariants.{Done}
use Rattle.sil_command.specs.declared.words.Mode.TheVariants.{Generate}
use Rattle.sil_command.specs.Statuses.{code_of}
use Rattle.sil_command.specs.Words.{AsksFor, IsAskedFor, IsSizeBy}
use Rattle.sil_command.specs.Answers.{AnswersText, in_mode}
use Rattle.sil_command.specs.Ends.{IsAnswer}
use Rattle.sil_command.specs.Generated.{AnswersGenerated, both_ran}
use Rattle.sil_command.specs.GivenTexts.{AskForText, TakesSource}
use Rattle.sil_command.specs.Laws.{AreGeneratedExactly}
use Rattle.sil_command.proofs.Asked.{asks_for_one}
use Rattle.sil_command.proofs.StatusLemmas.{accepted_done, answers_exactly}

-- a size that is asked for is within its bounds
size_given : (number : Option (List ℕ)) (size : ℕ) → IsSizeBy number size → (1 ≤ size) × (size ≤ 500)
size_given None size is = absurd is
size_given (Some digits) size is = (is.some, is.most)

pub size_asked : (size : ℕ) → IsAskedFor (Generate size) → (1 ≤ size) × (size ≤ 500)
size_asked size (words, asks) = size_given asks.number size asks.takes.0

-- the answer to the generated text is an allowed one, whatever the source has
module _ (one : SayOneThing) (words : List (List ℕ)) (size : ℕ) (asks : AsksFor words (Generate size)) where
  not_taken : AskForText words → ⊥
  not_taken is = subst TakesSource (asks_for_one one words (Generate size) is.0 asks is.1) is.2

  pub generated_answer : (left : Option (List ℕ)) (Takes : List ℕ → Type 0) (answer : List ℕ) (status : ℕ) → AnswersText (Generate size) (generated size) answer status
      → IsAnswer words left Takes answer status
  generated_answer None Takes answer status answers =
      record { text = []; source = tt; taken = λ is. absurd (not_taken is); allowed = in_mode (Generate size) answer status asks answers }
  generated_answer (Some text) Takes answer status answers =
      record { text = text; source = refl; taken = λ is. absurd (not_taken is); allowed = in_mode (Generate size) answer status asks answers }

-- ---- the module

main_found : (a n : ℕ) (f : Function) → slice_get (map work (range_with_len a n) ++ f ∷ []) n ≡ Some f
main_found a zero f = refl
main_found a (suc n) f = main_found (a + 1) n f

pub main_there : (size : ℕ) → HasEntry (generated_module size) (codes "main")
main_there size = (fn size, main size, record { there = main_found 0 size (main size); named = refl; starts = refl })

-- ---- with which statuses

generated_done : (m : Module) (answer : List ℕ) (status : ℕ) → AnswersGenerated m answer status → status ≡ code_of Done
generated_done m _ _ (both_ran k x y left plain optimised) = refl

module _ (one : SayOneThing) (once : AreSpelledOnce) (law : AreAcceptedWhereNothingIsFound) (numbered : AreGeneratedNumbered) (short : AreGeneratedShort)
    (printed : ArePrintedSpelled) where
  pub generated_exactly : AreGeneratedExactly
  generated_exactly words size text answer status asks answers =
      let few = (size_asked size (words, asks)).1 in
      let spells : Spells (generated_module size) (generated size) = printed (generated_module size) (numbered size few) in
      let told : ((m : Module) × Spells m (generated size) × Accepted m) ↔ (status ≡ code_of Done) =
      answers_exactly one once (Generate size) (code_of Done) Accepted (λ m text spells. accepted_done law m (AnswersGenerated m) (generated_done m))
      (λ e. omega arith, λ e. omega arith) words text answer status asks (short size few) answers in (
        λ all. told.0 (generated_module size, spells, all),
        λ zero. let known = told.1 zero in subst Accepted (once (generated size) (generated_module size) known.0 spells known.1) known.2,
      )

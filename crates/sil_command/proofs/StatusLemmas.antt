-- For the laws on statuses: which texts a mode answers with a status.
use Rattle.std.proofs.Common.{◌≡◌, ◌↔◌, ◌⊎◌, inl, inr, ℕ, ◌≤◌, List, length, refl, sym, subst, ◌∙◌, arith}
use Rattle.std.specs.Prelude.{Bool, true, ⊤}
use Rattle.sil_command_words.specs.inner.Laws.{SayOneThing}
use Rattle.sil_ast.specs.declared.module.Module.{Module}
use Rattle.ownership_lowering_model.specs.LoweredModules.{lowered}
use Rattle.sil_grammar.specs.Spells.{Spells}
use Rattle.sil_grammar.specs.inner.Laws.{AreSpelledOnce}
use Rattle.sil_printer.specs.CanonicalModules.{canonical_text}
use Rattle.sil_rules.specs.declared.limits.TheConstants.{TEXT_BYTES}
use Rattle.sil_command.specs.declared.status.Status.TheVariants.{Done, NotAModule, Limit}
use Rattle.sil_command.specs.Statuses.{code_of}
use Rattle.sil_command.specs.declared.words.Mode.{Mode}
use Rattle.sil_command.specs.declared.words.Mode.TheVariants.{Check, Lower, Optimize, Print}
use Rattle.sil_command_lines.specs.Texts.{accepted_text}
use Rattle.sil_command.specs.Words.{AsksFor}
use Rattle.sil_command.specs.GivenTexts.{text_for}
use Rattle.sil_command.specs.Answers.{Answers, usage, in_mode, AnswersText, too_long, unread, spelled, AnswersModule, AnswersChecked, AnswersWrong}
use Rattle.sil_command.specs.Answers.{limit_passed, refused, wrong, accepted, Writes, WritesOf, written}
use Rattle.sil_command.specs.Laws.{AnswersExactly, AreAcceptedExactly, AreLoweredExactly, AreOptimisedExactly, ArePrintedExactly}
use Rattle.sil_verifier_accepted.specs.AcceptedModules.Findings.{Accepted, limit as found_limit}
use Rattle.sil_verifier_accepted.specs.AcceptedModules.inner.Laws.{AreAcceptedWhereNothingIsFound}
use Rattle.sil_command.proofs.Asked.{asks_for_one}
use Rattle.sil_command.proofs.Unread.{unread_none, unread_status}

-- the answer to words that ask for a mode
pub mode_answers : SayOneThing → (words : List (List ℕ)) (mode : Mode) (text answer : List ℕ) (status : ℕ) → AsksFor words mode → Answers words text answer status
    → AnswersText mode (text_for mode text) answer status
mode_answers one words mode text _ _ asks (usage none) = absurd (none (mode, asks))
mode_answers one words mode text answer status asks (in_mode other _ _ again answers) =
    subst (λ m. AnswersText m (text_for m text) answer status) (asks_for_one one words mode other asks again) answers

-- where the status is none of those of a text that isn't read, it tells of a text what it tells of the module
module _ (one : SayOneThing) (once : AreSpelledOnce) (mode : Mode) (wanted : ℕ) (IsSuch : Module → Type 0)
    (tells : (m : Module) (text : List ℕ) → Spells m text → (answer : List ℕ) (status : ℕ) → AnswersModule mode m answer status → IsSuch m ↔ (status ≡ wanted))
    (of_modules : (wanted ≡ code_of NotAModule → ⊥) × (wanted ≡ code_of Limit → ⊥)) where
  spelled_wanted : (text answer : List ℕ) (status : ℕ) → length text ≤ TEXT_BYTES → AnswersText mode text answer status
      → (m : Module) × Spells m text × IsSuch m → status ≡ wanted
  spelled_wanted text _ _ within (too_long long) known = absurd (omega arith)
  spelled_wanted text answer status within (unread reason _ _ inside refusal line) known = absurd (unread_none text reason answer status refusal line known.0 known.1)
  spelled_wanted text answer status within (spelled m _ _ inside spells answers) known =
      (tells m text spells answer status answers).0 (subst IsSuch (once text m known.0 spells known.1) known.2)

  wanted_spelled : (text answer : List ℕ) (status : ℕ) → AnswersText mode text answer status → status ≡ wanted → (m : Module) × Spells m text × IsSuch m
  wanted_spelled text _ _ (too_long long) is = absurd (of_modules.1 (sym is))
  wanted_spelled text answer status (unread reason _ _ inside refusal line) is = unread_not (unread_status reason answer status line)
    where
      unread_not : (status ≡ code_of NotAModule) ⊎ (status ≡ code_of Limit) → (m : Module) × Spells m text × IsSuch m
      unread_not (inl three) = absurd (of_modules.0 (sym is ∙ three))
      unread_not (inr eight) = absurd (of_modules.1 (sym is ∙ eight))
  wanted_spelled text answer status (spelled m _ _ inside spells answers) is = (m, spells, (tells m text spells answer status answers).1 is)

  pub answers_exactly : AnswersExactly mode wanted IsSuch
  answers_exactly words text answer status asks within answers =
      let of_mode : AnswersText mode (text_for mode text) answer status = mode_answers one words mode text answer status asks answers in
      (spelled_wanted (text_for mode text) answer status within of_mode, wanted_spelled (text_for mode text) answer status of_mode)

pub wrong_done : AreAcceptedWhereNothingIsFound → (m : Module) (answer : List ℕ) (status : ℕ) → AnswersWrong m answer status → Accepted m ↔ (status ≡ code_of Done)
wrong_done law m _ _ (refused x first rule) = (λ known. absurd ((law m).0 known x first.shown), λ zero. absurd (omega arith))
wrong_done law m _ _ (limit_passed what first) = (λ known. absurd ((law m).0 known (found_limit what) first.shown), λ zero. absurd (omega arith))

written_done : (text answer : List ℕ) (status : ℕ) → Writes text answer status → status ≡ code_of Done
written_done text _ _ written = refl

of_done : (text : Module → List ℕ) (optimises : Bool) (m : Module) (answer : List ℕ) (status : ℕ) → WritesOf text optimises m answer status → status ≡ code_of Done
of_done text optimises m answer status (k, left, writes) = written_done (text k) answer status writes

-- where each accepted module is answered with that status
pub accepted_done : AreAcceptedWhereNothingIsFound → (m : Module) (A : List ℕ → ℕ → Type 0) → ((answer : List ℕ) (status : ℕ) → A answer status → status ≡ code_of Done)
    → (answer : List ℕ) (status : ℕ) → AnswersChecked m A answer status → Accepted m ↔ (status ≡ code_of Done)
accepted_done law m A is_done answer status (wrong _ _ answers) = wrong_done law m answer status answers
accepted_done law m A is_done answer status (accepted _ _ all answers) = (λ known. is_done answer status answers, λ zero. all)

printed_done : (m : Module) (answer : List ℕ) (status : ℕ) → Writes (canonical_text m) answer status → ⊤ ↔ (status ≡ code_of Done)
printed_done m answer status answers = (λ known. written_done (canonical_text m) answer status answers, λ zero. tt)

pub accepted_exactly : SayOneThing → AreSpelledOnce → AreAcceptedWhereNothingIsFound → AreAcceptedExactly
accepted_exactly one once law =
    answers_exactly one once Check (code_of Done) Accepted (λ m text spells. accepted_done law m (Writes accepted_text) (written_done accepted_text))
    (λ e. omega arith, λ e. omega arith)

pub printed_exactly : SayOneThing → AreSpelledOnce → ArePrintedExactly
printed_exactly one once = answers_exactly one once Print (code_of Done) (λ m. ⊤) (λ m text spells. printed_done m) (λ e. omega arith, λ e. omega arith)

pub lowered_exactly : SayOneThing → AreSpelledOnce → AreAcceptedWhereNothingIsFound → AreLoweredExactly
lowered_exactly one once law optimises =
    answers_exactly one once (Lower optimises) (code_of Done) Accepted
    (λ m text spells. accepted_done law m (WritesOf (λ k. canonical_text (lowered k)) optimises m) (of_done (λ k. canonical_text (lowered k)) optimises m))
    (λ e. omega arith, λ e. omega arith)

pub optimised_exactly : SayOneThing → AreSpelledOnce → AreAcceptedWhereNothingIsFound → AreOptimisedExactly
optimised_exactly one once law =
    answers_exactly one once Optimize (code_of Done) Accepted
    (λ m text spells. accepted_done law m (WritesOf canonical_text true m) (of_done canonical_text true m)) (λ e. omega arith, λ e. omega arith)

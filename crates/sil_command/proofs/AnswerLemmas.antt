-- How an answer follows from what was read.
use Rattle.std.proofs.Common.{◌≡◌, inl, inr, ℕ, ◌+◌, ◌<◌, ◌≤◌, List, [], ◌++◌, length, refl, sym, ap, subst, ◌∙◌, arith, length-append, Result, Ok, Err}
use Rattle.std.specs.Prelude.{Bool, Option, Some, None, IfSome, IfOk}
use Rattle.std.specs.Io.KnownBytes.{Consumes}
use Rattle.std.proofs.KnownBytes.{Consumes-nil, Consumes-trans}
use Rattle.std.proofs.lemmas.List.{append-nil}
use Rattle.std.proofs.lemmas.Result.{IfOk-weaker}
use Rattle.sil_io.specs.Reading.{Gives, nothing, piece, GivesToEnd}
use Rattle.module_runner.specs.Optimising.{IsOptimisedIf}
use Rattle.sil_ast.specs.declared.module.Module.{Module}
use Rattle.sil_grammar.specs.declared.refusal.ReadRefusal.{ReadRefusal}
use Rattle.sil_grammar.specs.Refusals.{IsRefusalOf}
use Rattle.sil_grammar.specs.Spells.{Spells}
use Rattle.sil_rules.specs.declared.limits.TheConstants.{TEXT_BYTES}
use Rattle.sil_command.specs.declared.status.Status.{Status}
use Rattle.sil_command.specs.declared.status.Status.TheVariants.{Usage, Limit}
use Rattle.sil_command.specs.Statuses.{code_of}
use Rattle.sil_verifier_accepted.specs.AcceptedModules.Findings.{Accepted}
use Rattle.sil_command_lines.specs.Texts.{limit_text, usage_text}
use Rattle.sil_command.specs.declared.answer.Answer.{Answer}
use Rattle.sil_command.specs.declared.words.Mode.{Mode}
use Rattle.sil_command.specs.declared.words.Mode.TheVariants.{Check, Generate, Lower, Optimize, Print, Run}
use Rattle.sil_command.specs.GivenTexts.{TakesSource, text_for}
use Rattle.sil_command.specs.Words.{AsksFor, IsCommandLine}
use Rattle.sil_command.specs.Answers.{AnswersChecked, AnswersModule, AnswersText, AnswersWrong, Writes, WritesOf, usage, in_mode, too_long, unread, spelled, wrong, accepted}
use Rattle.sil_command.specs.Reading.{AnswersRefusal}
use Rattle.sil_command.specs.Ends.{IsAnswer, MayHave, TakesText}

-- words that are no command line have one answer, whatever the source has
pub usage_answer : (words : List (List ℕ)) (left : Option (List ℕ)) (Takes : List ℕ → Type 0) → (IsCommandLine words → ⊥) → IsAnswer words left Takes usage_text (code_of Usage)
usage_answer words None Takes none = record { text = []; source = tt; taken = λ is. absurd (none (is.0, is.1)); allowed = usage none }
usage_answer words (Some text) Takes none = record { text = text; source = refl; taken = λ is. absurd (none (is.0, is.1)); allowed = usage none }

told_text : (left : Option (List ℕ)) (text : List ℕ) → IfSome left (λ all. text ≡ all) → MayHave left text
told_text None text all = tt
told_text (Some told) text all = sym all

-- a mode that takes a source's text answers that
source_text : (mode : Mode) → TakesSource mode → (text : List ℕ) → text_for mode text ≡ text
source_text Check takes text = refl
source_text Print takes text = refl
source_text (Lower optimises) takes text = refl
source_text Optimize takes text = refl
source_text (Run entry turns optimises) takes text = refl
source_text (Generate size) takes text = absurd takes

module _ {S : Type 0} (gave : S → List ℕ → S → Type 0) where
  -- the answer to the bytes that were taken from a source, up to its end
  pub whole_answer : (old new : S) (words : List (List ℕ)) (mode : Mode) (left : Option (List ℕ)) (text bytes answer : List ℕ) (status : ℕ)
      → AsksFor words mode → TakesSource mode → IfSome left (λ all. text ≡ all) → GivesToEnd gave old text new → bytes ≡ text → AnswersText mode bytes answer status
      → IsAnswer words left (TakesText gave old new) answer status
  whole_answer old new words mode left text bytes answer status asks takes all taken same allowed = record {
    text = text;
    source = told_text left text all;
    taken = λ _. inl taken;
    allowed = in_mode mode answer status asks (subst (λ t. AnswersText mode t answer status) (same ∙ sym (source_text mode takes text)) allowed);
  }

  module _ (left_of : S → Option (List ℕ)) (from_left : (old : S) (bytes : List ℕ) (new : S) → gave old bytes new → Consumes (left_of old) (left_of new) bytes) where
    -- takes give the first bytes that were left
    given_from_left : {old new : S} {bytes : List ℕ} → Gives gave old bytes new → Consumes (left_of old) (left_of new) bytes
    given_from_left nothing = Consumes-nil _
    given_from_left (piece given some one) = Consumes-trans _ _ _ _ _ (given_from_left given) (from_left _ _ _ one)

    longer_text : (left rest : Option (List ℕ)) (taken : List ℕ) → Consumes left rest taken
        → (text : List ℕ) × (behind : List ℕ) × MayHave left text × (text ≡ taken ++ behind)
    longer_text None rest taken consumed = (taken, [], tt, sym (append-nil taken))
    longer_text (Some text) None taken consumed = absurd consumed
    longer_text (Some text) (Some rest) taken consumed = (text, rest, refl, consumed)

    -- a source that gave more bytes than the limit had a text that is too long
    pub too_long_answer : (old new : S) (words : List (List ℕ)) (mode : Mode) (taken : List ℕ)
        → AsksFor words mode → TakesSource mode → length taken ≡ TEXT_BYTES + 1 → Gives gave old taken new → IsAnswer words (left_of old) (TakesText gave old new) limit_text (code_of Limit)
    too_long_answer old new words mode taken asks takes long given =
        let text = longer_text (left_of old) (left_of new) taken (given_from_left given) in
        let longer : length text.0 ≡ length taken + length text.1 = ap length text.3 ∙ length-append taken text.1 in
        let past : TEXT_BYTES < length text.0 = omega arith in
        record {
          text = text.0;
          source = text.2;
          taken = λ _. inr (taken, text.1, text.3, long, given);
          allowed = in_mode mode _ _ asks (too_long (subst (λ t. TEXT_BYTES < length t) (sym (source_text mode takes text.0)) past));
        }

-- what is answered to the module is answered to its text
pub read_answer : {A E : Type 0} (r : Result A E) (text_of : A → List ℕ) (status_of : A → ℕ) (mode : Mode) {text : List ℕ} {m : Module} → length text ≤ TEXT_BYTES → Spells m text
    → IfOk r (λ a. AnswersModule mode m (text_of a) (status_of a)) → IfOk r (λ a. AnswersText mode text (text_of a) (status_of a))
read_answer (Ok a) text_of status_of mode {m = m} within spells answer = spelled m _ _ within spells answer
read_answer (Err e) text_of status_of mode within spells answer = tt

-- it is so told of an answer
abbrev Tells : (List ℕ → ℕ → Type 0) → Answer → Type 0
Tells Told a = Told a.text.items (code_of a.status)

-- what a mode answers that checks rules, by what is answered to a module that isn't accepted, and to one that is
module _ (AnswersAccepted : List ℕ → ℕ → Type 0) {E : Type 0} (r : Result Answer E) (m : Module) where
  pub wrong_answer : IfOk r (Tells (AnswersWrong m)) → IfOk r (Tells (AnswersChecked m AnswersAccepted))
  wrong_answer = IfOk-weaker r (Tells (AnswersWrong m)) (Tells (AnswersChecked m AnswersAccepted)) (λ a answers. wrong _ _ answers)

  pub accepted_answer : Accepted m → IfOk r (Tells AnswersAccepted) → IfOk r (Tells (AnswersChecked m AnswersAccepted))
  accepted_answer all = IfOk-weaker r (Tells AnswersAccepted) (Tells (AnswersChecked m AnswersAccepted)) (λ a answers. accepted _ _ all answers)

-- a text of the module that is left is written
pub written_of : (text : Module → List ℕ) (optimises : Bool) (m k : Module) {E : Type 0} (r : Result Answer E) → IsOptimisedIf optimises m k
    → IfOk r (Tells (Writes (text k))) → IfOk r (Tells (WritesOf text optimises m))
written_of text optimises m k r left = IfOk-weaker r (Tells (Writes (text k))) (Tells (WritesOf text optimises m)) (λ a writes. (k, left, writes))

-- what is told of a line and a status is told of a result with that line and that status
pub told_line : {E : Type 0} (Told : List ℕ → ℕ → Type 0) (r : Result Answer E) (status : Status) {text : List ℕ} → Told text (code_of status)
    → IfOk r (λ a. a.text.items ≡ text) → IfOk r (λ a. a.status ≡ status) → IfOk r (λ a. Told a.text.items (code_of a.status))
told_line Told (Ok a) status {text = text} told same status_is =
    subst (λ t. Told t (code_of a.status)) (sym same) (subst (λ s. Told text (code_of s)) (sym status_is) told)
told_line Told (Err e) status told same status_is = tt

-- what is answered to the reason is answered to the text that isn't read
pub unread_answer : {A E : Type 0} (r : Result A E) (text_of : A → List ℕ) (status_of : A → ℕ) (mode : Mode) {text : List ℕ} {reason : ReadRefusal} → length text ≤ TEXT_BYTES
    → IsRefusalOf text reason → IfOk r (λ a. AnswersRefusal reason (text_of a) (status_of a)) → IfOk r (λ a. AnswersText mode text (text_of a) (status_of a))
unread_answer (Ok a) text_of status_of mode {reason = reason} within refusal answer = unread reason _ _ within refusal answer
unread_answer (Err e) text_of status_of mode within refusal answer = tt

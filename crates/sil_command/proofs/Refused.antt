-- For the laws on refusals: what `check` writes of a module, and which texts are answered as no module.
use Rattle.std.proofs.Common.{◌≡◌, ℕ, ◌≤◌, Bool, true, List, length, refl, sym, ap, subst, arith}
use Rattle.sil_command_words.specs.inner.Laws.{SayOneThing}
use Rattle.ownership_lowering_model.specs.LoweredModules.{lowered}
use Rattle.sil_verifier.specs.holder_model.States as ending
use Rattle.sil_verifier.specs.holder_model.States.{Ending}
use Rattle.sil_verifier.specs.holder_model.Faults.{HolderFault}
use Rattle.sil_ast.specs.declared.module.Module.{Module}
use Rattle.sil_grammar.specs.Refusals.{SpellsNone}
use Rattle.sil_grammar.specs.Spells.{Spells}
use Rattle.sil_grammar.specs.inner.Laws.{AreSpelledOnce}
use Rattle.sil_printer.specs.CanonicalModules.{canonical_text}
use Rattle.sil_rules.specs.declared.limits.TheConstants.{TEXT_BYTES}
use Rattle.sil_command.specs.declared.status.Status.{Status}
use Rattle.sil_command.specs.declared.status.Status.TheVariants.{NotAModule}
use Rattle.sil_command.specs.Statuses.{code_of}
use Rattle.sil_command.specs.declared.words.Mode.{Mode}
use Rattle.sil_command.specs.declared.words.Mode.TheVariants.{Check, Generate, Lower, Optimize, Print, Run}
use Rattle.sil_command.specs.Answers.{AnswersChecked, AnswersModule, AnswersRun, AnswersText, AnswersWrong, HasStatus, Writes, WritesOf}
use Rattle.sil_command.specs.Answers.{limit_passed, refused, wrong, accepted, written, no_entry, ran, too_long, unread, spelled}
use Rattle.sil_command.specs.Generated.{AnswersGenerated, both_ran}
use Rattle.sil_command.specs.GivenTexts.{text_for}
use Rattle.sil_command.specs.Laws.{AreRefusedForTheFirst, AreReportedRightly, ChecksRules}
use Rattle.sil_command_lines.specs.RefusalTexts.{refusal_text}
use Rattle.sil_verifier_accepted.specs.AcceptedModules.Findings.{Accepted, Finding, Refusal, limit as found_limit}
use Rattle.sil_command.proofs.StatusLemmas.{mode_answers}
use Rattle.sil_command.proofs.Unread.{unread_none}

-- the answer is what is found first in the module
abbrev WritesFirst : Module → List ℕ → Type 0
WritesFirst m answer = (x : Finding) × Refusal m x × (answer ≡ refusal_text m x)

wrong_written : (m : Module) (answer : List ℕ) (status : ℕ) → AnswersWrong m answer status → WritesFirst m answer
wrong_written m _ _ (refused x first rule) = (x, first, refl)
wrong_written m _ _ (limit_passed what first) = (found_limit what, first, refl)

first_written : (m : Module) (A : List ℕ → ℕ → Type 0) (answer : List ℕ) (status : ℕ) → AnswersChecked m A answer status → (Accepted m → ⊥) → WritesFirst m answer
first_written m A answer status (wrong _ _ answers) not = wrong_written m answer status answers
first_written m A answer status (accepted _ _ all answers) not = absurd (not all)

mode_written : (mode : Mode) → ChecksRules mode → (m : Module) (answer : List ℕ) (status : ℕ) → AnswersModule mode m answer status → (Accepted m → ⊥)
    → WritesFirst m answer
mode_written Check checks m = first_written m _
mode_written Print checks m = absurd checks
mode_written (Lower optimises) checks m = first_written m _
mode_written Optimize checks m = first_written m _
mode_written (Run entry turns optimises) checks m = first_written m _
mode_written (Generate size) checks m = first_written m _

module _ (once : AreSpelledOnce) (mode : Mode) (checks : ChecksRules mode) (m : Module) where
  text_written : (text answer : List ℕ) (status : ℕ) → length text ≤ TEXT_BYTES → AnswersText mode text answer status → Spells m text
      → (Accepted m → ⊥) → WritesFirst m answer
  text_written text _ _ within (too_long long) spells not = absurd (omega (arith, within, long))
  text_written text answer status within (unread reason _ _ inside refusal line) spells not = absurd (unread_none text reason answer status refusal line m spells)
  text_written text answer status within (spelled n _ _ inside known answers) spells not =
      let same : m ≡ n = once text n m known spells in
      subst (λ k. WritesFirst k answer) (sym same) (mode_written mode checks n answer status answers (λ all. not (subst Accepted (sym same) all)))

pub refused_for_the_first : SayOneThing → AreSpelledOnce → AreRefusedForTheFirst
refused_for_the_first one once words mode text answer status checks asks within answers m spells not =
    text_written once mode checks m (text_for mode text) answer status within (mode_answers one words mode text answer status asks answers) spells not

-- a module is never answered as none
wrong_reported : (m : Module) (answer : List ℕ) (status : ℕ) → AnswersWrong m answer status → status ≡ code_of NotAModule → ⊥
wrong_reported m _ _ (refused x first rule) three = omega arith
wrong_reported m _ _ (limit_passed what first) three = omega arith

checked_reported : (m : Module) (A : List ℕ → ℕ → Type 0) → ((answer : List ℕ) (status : ℕ) → A answer status → status ≡ code_of NotAModule → ⊥)
    → (answer : List ℕ) (status : ℕ) → AnswersChecked m A answer status → status ≡ code_of NotAModule → ⊥
checked_reported m A none answer status (wrong _ _ answers) three = wrong_reported m answer status answers three
checked_reported m A none answer status (accepted _ _ all answers) three = none answer status answers three

written_reported : (text answer : List ℕ) (status : ℕ) → Writes text answer status → status ≡ code_of NotAModule → ⊥
written_reported text _ _ written three = omega arith

of_reported : (text : Module → List ℕ) (optimises : Bool) (m : Module) (answer : List ℕ) (status : ℕ) → WritesOf text optimises m answer status
    → status ≡ code_of NotAModule → ⊥
of_reported text optimises m answer status (k, left, writes) = written_reported (text k) answer status writes

ending_reported : (x : Ending HolderFault) (s : Status) → HasStatus x s → code_of s ≡ code_of NotAModule → ⊥
ending_reported (ending.Returned x) s is three = omega (arith, three, ap code_of is)
ending_reported (ending.Trapped t) s is three = omega (arith, three, ap code_of is)
ending_reported ending.OutOfTurns s is three = omega (arith, three, ap code_of is)
ending_reported (ending.Faulted x) s is three = is

run_reported : (m : Module) (name : List ℕ) (bound : ℕ) (optimises : Bool) (answer : List ℕ) (status : ℕ) → AnswersRun m name bound optimises answer status
    → status ≡ code_of NotAModule → ⊥
run_reported m name bound optimises _ _ (no_entry none) three = omega arith
run_reported m name bound optimises _ _ (ran k e f x s left entry ends has never) three = ending_reported x.ending s has three

generated_reported : (m : Module) (answer : List ℕ) (status : ℕ) → AnswersGenerated m answer status → status ≡ code_of NotAModule → ⊥
generated_reported m _ _ (both_ran k x y left plain optimised) three = omega arith

module_reported : (mode : Mode) (m : Module) (answer : List ℕ) (status : ℕ) → AnswersModule mode m answer status → status ≡ code_of NotAModule → ⊥
module_reported Check m = checked_reported m _ (written_reported _)
module_reported Print m = written_reported _
module_reported (Lower optimises) m = checked_reported m _ (of_reported (λ k. canonical_text (lowered k)) optimises m)
module_reported Optimize m = checked_reported m _ (of_reported canonical_text true m)
module_reported (Run entry turns optimises) m = checked_reported m _ (run_reported m entry turns optimises)
module_reported (Generate size) m = checked_reported m _ (generated_reported m)

text_reported : (mode : Mode) (text answer : List ℕ) (status : ℕ) → AnswersText mode text answer status → status ≡ code_of NotAModule → SpellsNone text
text_reported mode text _ _ (too_long long) three = absurd (omega arith)
text_reported mode text answer status (unread reason _ _ inside refusal line) three = unread_none text reason answer status refusal line
text_reported mode text answer status (spelled m _ _ inside spells answers) three = absurd (module_reported mode m answer status answers three)

pub reported_rightly : SayOneThing → AreReportedRightly
reported_rightly one words mode text answer status asks answers three =
    text_reported mode (text_for mode text) answer status (mode_answers one words mode text answer status asks answers) three

-- What the answers of each mode tell of a text.
use Rattle.std.specs.Prelude.{◌≡◌, ◌↔◌, ℕ, ◌≤◌, Bool, List, length, ⊤}
use Rattle.sil_verifier.specs.holder_model.Faults.{HolderFault}
use Rattle.sil_verifier.specs.holder_model.Outcomes.{EndsSo, Outcome}
use Rattle.sil_verifier.specs.holder_model.States.{Ending}
use Rattle.module_runner.specs.Entries.{HasEntry, IsEntry}
use Rattle.module_runner.specs.Optimising.{IsOptimisedIf}
use Rattle.sil_ast.specs.declared.function.Function.{Function}
use Rattle.sil_ast.specs.declared.module.Module.{Module}
use Rattle.sil_ast.specs.declared.place.FuncId.{FuncId}
use Rattle.sil_grammar.specs.Refusals.{SpellsNone}
use Rattle.sil_grammar.specs.Spells.{Spells}
use Rattle.sil_rules.specs.declared.limits.TheConstants.{TEXT_BYTES}
use Rattle.sil_command.specs.declared.status.Status.{Status}
use Rattle.sil_command.specs.declared.status.Status.TheVariants.{Done, NotAModule, NoEntry}
use Rattle.sil_command.specs.Statuses.{code_of}
use Rattle.sil_verifier_accepted.specs.AcceptedModules.Findings.{Accepted, Finding, Refusal}
use Rattle.sil_command_generator.specs.GeneratedModules.{generated_module}
use Rattle.sil_command.specs.declared.words.Mode.{Mode}
use Rattle.sil_command.specs.declared.words.Mode.TheVariants.{Check, Generate, Lower, Optimize, Print, Run}
use Rattle.sil_command.specs.Words.{AsksFor}
use Rattle.sil_command.specs.GivenTexts.{text_for}
use Rattle.sil_command.specs.Answers.{Answers, HasStatus}
use Rattle.sil_command_lines.specs.RefusalTexts.{refusal_text}

-- among texts of a source within the limit, the mode answers with the status just those that spell a module that is such
abbrev pub AnswersExactly : Mode → ℕ → (Module → Type 0) → Type 0
AnswersExactly mode wanted IsSuch =
    (words : List (List ℕ)) (text answer : List ℕ) (status : ℕ) → AsksFor words mode → length (text_for mode text) ≤ TEXT_BYTES
    → Answers words text answer status → ((m : Module) × Spells m (text_for mode text) × IsSuch m) ↔ (status ≡ wanted)

-- `check` answers Done just for the texts that spell an accepted module
abbrev pub AreAcceptedExactly : Type 0
AreAcceptedExactly = AnswersExactly Check (code_of Done) Accepted

-- so does `lower`, optimised or not
abbrev pub AreLoweredExactly : Type 0
AreLoweredExactly = (optimises : Bool) → AnswersExactly (Lower optimises) (code_of Done) Accepted

-- so does `optimize`
abbrev pub AreOptimisedExactly : Type 0
AreOptimisedExactly = AnswersExactly Optimize (code_of Done) Accepted

-- there is an entry function with this name, and the run by holders from there, optimised first where that is asked for, ends with this status
-- for this bound on turns
abbrev pub RunsTo : List ℕ → ℕ → Bool → Status → Module → Type 0
RunsTo name bound optimises s m = (k : Module) × (e : FuncId) × (f : Function) × (x : Outcome HolderFault)
    × IsOptimisedIf optimises m k × IsEntry m name e f × EndsSo k e bound x × HasStatus x.ending s

-- `run` answers with the status of an ending just for the texts that spell an accepted module whose run ends so
abbrev pub AreRunExactly : Type 0
AreRunExactly =
    (name : List ℕ) (bound : ℕ) (optimises : Bool) (x : Ending HolderFault) (s : Status) → HasStatus x s
    → AnswersExactly (Run name bound optimises) (code_of s) (λ m. Accepted m × RunsTo name bound optimises s m)

-- and with NoEntry just for those that spell an accepted module without such a function
abbrev pub HaveNoEntryExactly : Type 0
HaveNoEntryExactly =
    (name : List ℕ) (bound : ℕ) (optimises : Bool)
    → AnswersExactly (Run name bound optimises) (code_of NoEntry) (λ m. Accepted m × (HasEntry m name → ⊥))

-- all modes but `print` check the rules of a module
abbrev pub ChecksRules : Mode → Type 0
ChecksRules Check = ⊤
ChecksRules Print = ⊥
ChecksRules (Lower optimises) = ⊤
ChecksRules Optimize = ⊤
ChecksRules (Run entry turns optimises) = ⊤
ChecksRules (Generate size) = ⊤

-- where a text spells a module that isn't accepted, these modes write the first of all that is wrong with the module
abbrev pub AreRefusedForTheFirst : Type 0
AreRefusedForTheFirst =
    (words : List (List ℕ)) (mode : Mode) (text answer : List ℕ) (status : ℕ) → ChecksRules mode → AsksFor words mode
    → length (text_for mode text) ≤ TEXT_BYTES → Answers words text answer status → (m : Module) → Spells m (text_for mode text) → (Accepted m → ⊥)
    → (x : Finding) × Refusal m x × (answer ≡ refusal_text m x)

-- no mode answers NotAModule for a text that spells a module
abbrev pub AreReportedRightly : Type 0
AreReportedRightly =
    (words : List (List ℕ)) (mode : Mode) (text answer : List ℕ) (status : ℕ) → AsksFor words mode → Answers words text answer status
    → status ≡ code_of NotAModule → SpellsNone (text_for mode text)

-- `generate` answers Done just where the module of the size that is asked for is accepted
abbrev pub AreGeneratedExactly : Type 0
AreGeneratedExactly =
    (words : List (List ℕ)) (size : ℕ) (text answer : List ℕ) (status : ℕ) → AsksFor words (Generate size) → Answers words text answer status
    → Accepted (generated_module size) ↔ (status ≡ code_of Done)

-- `print` answers Done just for the texts that spell a module
abbrev pub ArePrintedExactly : Type 0
ArePrintedExactly = AnswersExactly Print (code_of Done) (λ m. ⊤)

-- what `print` writes with Done spells the module that the text spells
abbrev pub ArePrintedReadBack : Type 0
ArePrintedReadBack =
    (words : List (List ℕ)) (text answer : List ℕ) (status : ℕ) → AsksFor words Print → Answers words text answer status → status ≡ code_of Done
    → (m : Module) × Spells m text × Spells m answer

-- The answer to a command line and a text: the bytes that are written, and the status.
use Rattle.std.specs.Prelude.{◌≡◌, ℕ, ◌<◌, ◌≤◌, Bool, true, List, length}
use Rattle.sil_ast.specs.declared.function.Function.{Function}
use Rattle.sil_ast.specs.declared.module.Module.{Module}
use Rattle.sil_ast.specs.declared.place.FuncId.{FuncId}
use Rattle.sil_grammar.specs.declared.refusal.ReadRefusal.{ReadRefusal}
use Rattle.sil_grammar.specs.Refusals.{IsRefusalOf}
use Rattle.sil_grammar.specs.Spells.{Spells}
use Rattle.sil_verifier.specs.holder_model.Faults.{HolderFault}
use Rattle.sil_verifier.specs.holder_model.Outcomes.{EndsSo, Outcome}
use Rattle.sil_verifier.specs.holder_model.States as ending
use Rattle.sil_verifier.specs.holder_model.States.{Ending}
use Rattle.ownership_lowering_model.specs.LoweredModules.{lowered}
use Rattle.module_runner.specs.LoweredRuns.{LoweredNeverFaults}
use Rattle.module_runner.specs.Entries.{HasEntry, IsEntry}
use Rattle.module_runner.specs.Optimising.{IsOptimisedIf}
use Rattle.sil_verifier.specs.holder_model.RunReport.ReportLines.{report}
use Rattle.sil_types_declarations.specs.TypeDefinitions.Mentions.{given_type}
use Rattle.holder_model_values.specs.RunValues.Shapes.{shape_of}
use Rattle.sil_types_declarations.specs.TypeDefinitions.Declarations.{declarations_of}
use Rattle.sil_printer.specs.CanonicalModules.{canonical_text}
use Rattle.sil_rules.specs.declared.limit_word.LimitWord.{LimitWord}
use Rattle.sil_rules.specs.declared.limits.TheConstants.{TEXT_BYTES}
use Rattle.sil_command.specs.declared.status.Status.{Status}
use Rattle.sil_command.specs.declared.status.Status.TheVariants.{Done, Refused, Usage, Trapped, OutOfTurns, Limit, NoEntry}
use Rattle.sil_command.specs.Statuses.{code_of}
use Rattle.sil_verifier_accepted.specs.AcceptedModules.Findings.{Accepted, Finding, IsLimit, Refusal, limit}
use Rattle.sil_command.specs.declared.words.Mode.{Mode}
use Rattle.sil_command.specs.declared.words.Mode.TheVariants.{Check, Generate, Lower, Optimize, Print, Run}
use Rattle.sil_command.specs.Words.{AsksFor, IsCommandLine}
use Rattle.sil_command.specs.GivenTexts.{text_for}
use Rattle.sil_command.specs.Generated.{AnswersGenerated}
use Rattle.sil_command.specs.Reading.{AnswersRefusal}
use Rattle.sil_command_lines.specs.Texts.{usage_text, limit_text, type_limit_text, accepted_text, no_entry_text}
use Rattle.sil_command_lines.specs.RefusalTexts.{refusal_text}

-- what is answered to a module that isn't accepted: the first that is wrong with it, with a walk that shows it for a rule on walks
pub data AnswersWrong (m : Module) : List ℕ → ℕ → Type 0 where
  refused : (x : Finding) → Refusal m x → (IsLimit x → ⊥) → AnswersWrong m (refusal_text m x) (code_of Refused)
  limit_passed : (what : LimitWord) → Refusal m (limit what) → AnswersWrong m (type_limit_text what) (code_of Limit)

-- what a mode answers that checks the rules of a module, by what it answers to an accepted one
pub data AnswersChecked (m : Module) (AnswersAccepted : List ℕ → ℕ → Type 0) : List ℕ → ℕ → Type 0 where
  wrong : (answer : List ℕ) (status : ℕ) → AnswersWrong m answer status → AnswersChecked m AnswersAccepted answer status
  accepted : (answer : List ℕ) (status : ℕ) → Accepted m → AnswersAccepted answer status → AnswersChecked m AnswersAccepted answer status

-- the text is written, with status 0
pub data Writes (text : List ℕ) : List ℕ → ℕ → Type 0 where
  written : Writes text text (code_of Done)

-- this text of the module is written, or where that is asked for of the optimised module
abbrev pub WritesOf : (Module → List ℕ) → Bool → Module → List ℕ → ℕ → Type 0
WritesOf text optimises m answer status = (k : Module) × IsOptimisedIf optimises m k × Writes (text k) answer status

-- the status of a run, by its ending. A fault has none
abbrev pub HasStatus : Ending HolderFault → Status → Type 0
HasStatus (ending.Returned x) s = s ≡ Done
HasStatus (ending.Trapped t) s = s ≡ Trapped
HasStatus ending.OutOfTurns s = s ≡ OutOfTurns
HasStatus (ending.Faulted x) s = ⊥

-- what `run` answers to an accepted module: the report of its run by holders, optimised first where that is asked for, from the entry function
-- with this name, for this bound on turns; or that it has no such function. That run doesn't end in a fault, and neither does the lowered one
pub data AnswersRun (m : Module) (name : List ℕ) (bound : ℕ) (optimises : Bool) : List ℕ → ℕ → Type 0 where
  no_entry : (HasEntry m name → ⊥) → AnswersRun m name bound optimises (no_entry_text name) (code_of NoEntry)
  ran : (k : Module) (e : FuncId) (f : Function) (x : Outcome HolderFault) (s : Status) → IsOptimisedIf optimises m k → IsEntry m name e f
      → EndsSo k e bound x → HasStatus x.ending s → LoweredNeverFaults k e bound
      → AnswersRun m name bound optimises (report k (shape_of (declarations_of k) (given_type f.signature)) x) (code_of s)

-- what each mode answers to a module: `check` that it is accepted; `print` its canonical text, whatever rules it breaks; `lower` the
-- canonical text of the lowered module, and `run` the report of its run, of the optimised module where that is asked for; `optimize` the
-- canonical text of the optimised module; and `generate` the lines on the runs of both
abbrev pub AnswersModule : Mode → Module → List ℕ → ℕ → Type 0
AnswersModule Check m = AnswersChecked m (Writes accepted_text)
AnswersModule Print m = Writes (canonical_text m)
AnswersModule (Lower optimises) m = AnswersChecked m (WritesOf (λ k. canonical_text (lowered k)) optimises m)
AnswersModule Optimize m = AnswersChecked m (WritesOf canonical_text true m)
AnswersModule (Run entry turns optimises) m = AnswersChecked m (AnswersRun m entry turns optimises)
AnswersModule (Generate size) m = AnswersChecked m (AnswersGenerated m)

-- the answer of a mode to a text; one that is too long or isn't read is answered alike in all modes
pub data AnswersText (mode : Mode) (text : List ℕ) : List ℕ → ℕ → Type 0 where
  too_long : TEXT_BYTES < length text → AnswersText mode text limit_text (code_of Limit)
  unread : (reason : ReadRefusal) (answer : List ℕ) (status : ℕ) → length text ≤ TEXT_BYTES → IsRefusalOf text reason
      → AnswersRefusal reason answer status → AnswersText mode text answer status
  spelled : (m : Module) (answer : List ℕ) (status : ℕ) → length text ≤ TEXT_BYTES → Spells m text → AnswersModule mode m answer status
      → AnswersText mode text answer status

-- the answer to a command line and to the text that a source has
pub data Answers (words : List (List ℕ)) (text : List ℕ) : List ℕ → ℕ → Type 0 where
  usage : (IsCommandLine words → ⊥) → Answers words text usage_text (code_of Usage)
  in_mode : (mode : Mode) (answer : List ℕ) (status : ℕ) → AsksFor words mode → AnswersText mode (text_for mode text) answer status
      → Answers words text answer status

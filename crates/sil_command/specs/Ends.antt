-- How a call of the command ends: from what the source had left and the sink held before it, to what the sink holds after it.
use Rattle.std.specs.Prelude.{◌≡◌, ◌⊎◌, ℕ, ◌+◌, ◌<◌, List, ◌++◌, Option, IfSome, length, take}
use Rattle.std.specs.Io.KnownBytes.{Appends}
use Rattle.sil_io.specs.Count.{MayFail}
use Rattle.sil_io.specs.Reading.{Gives, GivesToEnd}
use Rattle.sil_io.specs.Writing.{Puts, PutsUntilRefused}
use Rattle.sil_rules.specs.declared.limits.TheConstants.{TEXT_BYTES}
use Rattle.sil_command.specs.declared.status.Status.{Status}
use Rattle.sil_command.specs.declared.status.Status.TheVariants.{ReadFault, WriteFault, OutOfMemory}
use Rattle.sil_command.specs.Statuses.{code_of}
use Rattle.sil_command_lines.specs.Texts.{read_fault_text}
use Rattle.sil_command.specs.GivenTexts.{AskForText}
use Rattle.sil_command.specs.Answers.{Answers}

-- the source may have had this text left: where it tells what it has left, that is the text
abbrev pub MayHave : Option (List ℕ) → List ℕ → Type 0
MayHave left text = IfSome left (λ told. told ≡ text)

-- the takes of the source gave this text and then its end, or just the first bytes of it up to the one past the limit
abbrev pub TakesText : {S : Type 0} → (S → List ℕ → S → Type 0) → S → S → List ℕ → Type 0
TakesText gave old new text =
    GivesToEnd gave old text new
    ⊎ ((taken : List ℕ) × (rest : List ℕ) × (text ≡ taken ++ rest) × (length taken ≡ TEXT_BYTES + 1) × Gives gave old taken new)

-- the sink has gained this text: its puts, each given all that was left, took the whole
abbrev pub Gains : {K : Type 0} → (K → Option (List ℕ)) → (K → List ℕ → ℕ → K → Type 0) → K → K → List ℕ → Type 0
Gains held took old new text = Appends (held old) (held new) text × Puts took text old (length text) new

-- the sink has gained the first bytes of this text, and then a put of the others failed
abbrev pub GainsFront : {K : Type 0} → (K → Option (List ℕ)) → (K → List ℕ → ℕ → K → Type 0) → (K → List ℕ → K → Type 0) → K → K → List ℕ → Type 0
GainsFront held took refused old new text = (n : ℕ) × (n < length text)
    × Appends (held old) (held new) (take n text) × PutsUntilRefused took refused old text n new

-- an allowed answer to the words and to the text that the source had, all of which was taken from it where the words ask for a mode that
-- takes it
pub record IsAnswer (words : List (List ℕ)) (left : Option (List ℕ)) (Takes : List ℕ → Type 0) (answer : List ℕ) (status : ℕ) : Type 0 where
  pub text : List ℕ
  pub source : MayHave left text
  pub taken : AskForText words → Takes text
  pub allowed : Answers words text answer status

-- memory ran out before the sink was touched
pub record Exhausts (IsUntouched : Type 0) (status : ℕ) : Type 0 where
  pub status_is : status ≡ code_of OutOfMemory
  pub untouched : IsUntouched

-- the whole text was written
pub record WritesWhole (Gains : List ℕ → Type 0) (text : List ℕ) (wanted status : ℕ) : Type 0 where
  pub status_is : status ≡ wanted
  pub gained : Gains text

-- an allowed answer was written whole
pub record WritesAnswer (words : List (List ℕ)) (left : Option (List ℕ)) (Takes Gains : List ℕ → Type 0) (status : ℕ) : Type 0 where
  pub answer : List ℕ
  pub allowed : IsAnswer words left Takes answer status
  pub gained : Gains answer

-- the front of an allowed answer was written
pub record WritesFrontOfAnswer (words : List (List ℕ)) (left : Option (List ℕ)) (Takes GainsFront : List ℕ → Type 0) : Type 0 where
  pub answer : List ℕ
  pub status : ℕ
  pub allowed : IsAnswer words left Takes answer status
  pub gained : GainsFront answer

-- every status of the command
abbrev pub IsStatus : ℕ → Type 0
IsStatus code = (status : Status) × (code ≡ code_of status)

-- what a call was given and what it left: the words; the bytes that the source had left, the texts that its takes may have given,
-- and its count of faults; the texts that the sink may have gained, and those of which it may have gained a front; whether the
-- sink is as it was; and its count of faults
pub record Call : Type 1 where
  pub words : List (List ℕ)
  pub left : Option (List ℕ)
  pub Takes : List ℕ → Type 0
  pub read_faults : ℕ
  pub new_read_faults : ℕ
  pub Gains : List ℕ → Type 0
  pub GainsFront : List ℕ → Type 0
  pub IsUntouched : Type 0
  pub write_faults : ℕ
  pub new_write_faults : ℕ

-- a call with these words that led the source and the sink from the old ones to the new ones
abbrev pub call_between : {S K : Type 0} → List (List ℕ) → (S → Option (List ℕ)) → (S → List ℕ → S → Type 0) → (S → ℕ) → S → S
    → (K → Option (List ℕ)) → (K → List ℕ → ℕ → K → Type 0) → (K → List ℕ → K → Type 0) → (K → ℕ) → K → K → Call
call_between words left gave read_faults source new_source held took refused write_faults sink new_sink = record {
  words = words;
  left = left source;
  Takes = TakesText gave source new_source;
  read_faults = read_faults source;
  new_read_faults = read_faults new_source;
  Gains = Gains held took sink new_sink;
  GainsFront = GainsFront held took refused sink new_sink;
  IsUntouched = new_sink ≡ sink;
  write_faults = write_faults sink;
  new_write_faults = write_faults new_sink;
}

-- the text was written whole with its status and no fault, or only a front of it, with a fault and the status of a failed write
pub data FinishesText (Gains GainsFront : List ℕ → Type 0) (faults new_faults : ℕ) (text : List ℕ) (wanted : ℕ) : ℕ → Type 0 where
  whole : Gains text → new_faults ≡ faults → FinishesText Gains GainsFront faults new_faults text wanted wanted
  front : GainsFront text → MayFail faults new_faults → FinishesText Gains GainsFront faults new_faults text wanted (code_of WriteFault)

abbrev pub Finishes : Call → List ℕ → ℕ → ℕ → Type 0
Finishes call text wanted status =
    FinishesText call.Gains call.GainsFront call.write_faults call.new_write_faults text wanted status

-- an allowed answer was finished, or the line on a failed read, or memory ran out before the sink was touched
pub data Ends (call : Call) : ℕ → Type 0 where
  answered : (answer : List ℕ) (wanted status : ℕ) → IsAnswer call.words call.left call.Takes answer wanted → call.new_read_faults ≡ call.read_faults
      → Finishes call answer wanted status → Ends call status
  read_failed : (status : ℕ) → MayFail call.read_faults call.new_read_faults → Finishes call read_fault_text (code_of ReadFault) status → Ends call status
  exhausted : call.IsUntouched → call.new_write_faults ≡ call.write_faults → Ends call (code_of OutOfMemory)

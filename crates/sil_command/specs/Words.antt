-- The words of a command line.
use Rattle.std.specs.Prelude.{◌≡◌, ℕ, ◌≤◌, Bool, false, List, Option, Some, None, codes, length, unwrap_or}
use Rattle.std.specs.Str.Parse.{IsNumeral, digits_value}
use Rattle.sil_command_words.specs.CommandLines.{Says}
use Rattle.sil_command.specs.declared.run_words.TheConstants.{BOUND_DIGITS, DEFAULT_TURNS, MOST_TURNS}
use Rattle.sil_command.specs.declared.size_words.TheConstants.{MOST_FUNCTIONS, SIZE_DIGITS}
use Rattle.sil_command.specs.declared.words.Mode.{Mode}
use Rattle.sil_command.specs.declared.words.Mode.TheVariants.{Check, Generate, Lower, Optimize, Print, Run}

abbrev pub word_of : Mode → List ℕ
word_of Check = codes "check"
word_of Print = codes "print"
word_of (Lower optimises) = codes "lower"
word_of Optimize = codes "optimize"
word_of (Run entry turns optimises) = codes "run"
word_of (Generate size) = codes "generate"

-- these digits, at most seven, write a bound on turns, which is from 1 to 1,000,000
pub record IsBound (digits : List ℕ) (bound : ℕ) : Type 0 where
  pub numeral : IsNumeral 10 digits
  pub short : length digits ≤ BOUND_DIGITS
  pub value : digits_value 10 digits ≡ bound
  pub some : 1 ≤ bound
  pub most : bound ≤ MOST_TURNS

-- the bound that `--turns` gives, and the one without it
abbrev pub IsBoundBy : Option (List ℕ) → ℕ → Type 0
IsBoundBy None bound = bound ≡ DEFAULT_TURNS
IsBoundBy (Some digits) bound = IsBound digits bound

-- the name that `--entry` gives, and the one without it
abbrev pub entry_by : Option (List ℕ) → List ℕ
entry_by value = unwrap_or value (codes "main")

-- these digits, at most three, write the size of a generated module, which is from 1 to 500
pub record IsSize (digits : List ℕ) (size : ℕ) : Type 0 where
  pub numeral : IsNumeral 10 digits
  pub short : length digits ≤ SIZE_DIGITS
  pub value : digits_value 10 digits ≡ size
  pub some : 1 ≤ size
  pub most : size ≤ MOST_FUNCTIONS

-- the size that the number gives, which has to be there
abbrev pub IsSizeBy : Option (List ℕ) → ℕ → Type 0
IsSizeBy None size = ⊥
IsSizeBy (Some digits) size = IsSize digits size

-- the mode takes this number, these values of `--turns` and `--entry`, and `--optimize` or not: `run` takes all options, `lower` the flag,
-- `generate` the number, and all others none
abbrev pub Takes : Mode → Option (List ℕ) → Option (List ℕ) → Option (List ℕ) → Bool → Type 0
Takes Check number turns entry flag = (number ≡ None) × (turns ≡ None) × (entry ≡ None) × (flag ≡ false)
Takes Print number turns entry flag = (number ≡ None) × (turns ≡ None) × (entry ≡ None) × (flag ≡ false)
Takes (Lower optimises) number turns entry flag = (number ≡ None) × (turns ≡ None) × (entry ≡ None) × (flag ≡ optimises)
Takes Optimize number turns entry flag = (number ≡ None) × (turns ≡ None) × (entry ≡ None) × (flag ≡ false)
Takes (Run name bound optimises) number turns entry flag = (number ≡ None) × IsBoundBy turns bound × (name ≡ entry_by entry) × (flag ≡ optimises)
Takes (Generate size) number turns entry flag = IsSizeBy number size × (turns ≡ None) × (entry ≡ None) × (flag ≡ false)

-- the words name the mode, and give the number and the options that it takes
pub record AsksFor (words : List (List ℕ)) (mode : Mode) : Type 0 where
  pub number : Option (List ℕ)
  pub turns : Option (List ℕ)
  pub entry : Option (List ℕ)
  pub flag : Bool
  pub says : Says words (word_of mode) number turns entry flag
  pub takes : Takes mode number turns entry flag

-- the words ask for some mode
abbrev pub IsCommandLine : List (List ℕ) → Type 0
IsCommandLine words = (mode : Mode) × AsksFor words mode

-- some words ask for the mode
abbrev pub IsAskedFor : Mode → Type 0
IsAskedFor mode = (words : List (List ℕ)) × AsksFor words mode

-- What the words of a command line say: a mode, maybe a number, the values of options, and whether a flag is there.
use Rattle.std.specs.Prelude.{◌≡◌, ℕ, ◌==◌, ◌||◌, Bool, true, false, not, cond, List, [], ◌∷◌, ◌++◌, length, map, filter, codes, Option, option_to_list}
use Rattle.std.specs.Str.{byte, bytes_eq, chars}

-- what words give a value to: the mode and the number, which stand by themselves, two options, and a flag
pub data Argument : Type 0 where
  mode : Argument
  number : Argument
  turns : Argument
  entry : Argument
  optimize : Argument

abbrev pub name_of : Argument → List ℕ
name_of mode = codes "mode"
name_of number = codes "number"
name_of turns = codes "turns"
name_of entry = codes "entry"
name_of optimize = codes "optimize"

-- its value is a word of the command line, behind its name
abbrev pub is_option : Argument → Bool
is_option mode = false
is_option number = false
is_option turns = true
is_option entry = true
is_option optimize = false

-- `--turns`, `--entry`, `--optimize`
abbrev pub option_word : Argument → List ℕ
option_word a = codes "--" ++ name_of a

-- the word can be a value: no hyphen stands at its front, or no character behind that
abbrev pub is_value : List ℕ → Bool
is_value [] = true
is_value (first ∷ rest) = not (first == byte "-") || length (chars rest) == 0

-- an argument and the value that it is given
abbrev pub Given : Type 0
Given = Argument × List ℕ

-- a flag that is there has this value, which is no word of the command line
abbrev pub as_flag : Given
as_flag = (optimize, codes "true")

-- what words give that stand by themselves, of which the first is this one: each behind it is the number
abbrev pub by_themselves : Argument → List (List ℕ) → List Given
by_themselves next [] = []
by_themselves next (word ∷ words) = (next, word) ∷ by_themselves number words

-- the words give these values, one after another, where the next word that stands by itself is the mode, or the number
pub data Gives : Argument → List (List ℕ) → List Given → Type 0 where
  nothing : (next : Argument) → Gives next [] []
  -- a word by itself
  alone : (next : Argument) (value : List ℕ) (words : List (List ℕ)) (given : List Given) → is_value value ≡ true → Gives number words given
      → Gives next (value ∷ words) ((next, value) ∷ given)
  -- `--turns 5`
  apart : (next a : Argument) (value : List ℕ) (words : List (List ℕ)) (given : List Given) → is_option a ≡ true → is_value value ≡ true
      → Gives next words given → Gives next (option_word a ∷ value ∷ words) ((a, value) ∷ given)
  -- `--turns=5`, where the value may be any text
  joined : (next a : Argument) (value : List ℕ) (words : List (List ℕ)) (given : List Given) → is_option a ≡ true
      → Gives next words given → Gives next ((option_word a ++ codes "=" ++ value) ∷ words) ((a, value) ∷ given)
  -- `--optimize`
  flag : (next : Argument) (words : List (List ℕ)) (given : List Given) → Gives next words given
      → Gives next (option_word optimize ∷ words) (as_flag ∷ given)
  -- behind `--` each word stands by itself, whatever it looks like
  behind : (next : Argument) (words : List (List ℕ)) → Gives next (codes "--" ∷ words) (by_themselves next words)

abbrev pub values_of : Argument → List Given → List (List ℕ)
values_of a given = map (λ g. g.1) (filter (λ g. bytes_eq (name_of g.0) (name_of a)) given)

-- the words give the mode once, the number and each option at most once, and the flag once or not at all
pub record Says (words : List (List ℕ)) (mode_word : List ℕ) (number_word turns_value entry_value : Option (List ℕ)) (optimises : Bool) : Type 0 where
  pub given : List Given
  pub gives : Gives mode words given
  pub mode_once : values_of mode given ≡ mode_word ∷ []
  pub number_at_most_once : values_of number given ≡ option_to_list number_word
  pub turns_at_most_once : values_of turns given ≡ option_to_list turns_value
  pub entry_at_most_once : values_of entry given ≡ option_to_list entry_value
  pub flag_at_most_once : length (values_of optimize given) ≡ cond optimises 1 0

abbrev pub IsCommandLine : List (List ℕ) → Type 0
IsCommandLine words =
    (mode_word : List ℕ) × (number_word : Option (List ℕ)) × (turns_value : Option (List ℕ)) × (entry_value : Option (List ℕ)) × (optimises : Bool)
    × Says words mode_word number_word turns_value entry_value optimises

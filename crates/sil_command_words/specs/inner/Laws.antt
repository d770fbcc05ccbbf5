-- What a user of command lines may rely on.
use Rattle.std.specs.Prelude.{◌≡◌, ℕ, Bool, List, Option}
use Rattle.sil_command_words.specs.CommandLines.{Says}

-- a command line says one thing
abbrev pub SayOneThing : Type 0
SayOneThing =
    (words : List (List ℕ)) (mode_word other_word : List ℕ) (number_word other_number turns_value other_turns entry_value other_entry : Option (List ℕ))
    (optimises other_optimises : Bool) → Says words mode_word number_word turns_value entry_value optimises
    → Says words other_word other_number other_turns other_entry other_optimises
    → (mode_word ≡ other_word) × (number_word ≡ other_number) × (turns_value ≡ other_turns) × (entry_value ≡ other_entry)
    × (optimises ≡ other_optimises)

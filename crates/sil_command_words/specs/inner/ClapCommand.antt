-- The command that `clap` is told of, as what a parse reads of it, and what is read of the matches.
use Rattle.std.specs.Prelude.{◌≡◌, ℕ, Bool, List, true, Option, Some, codes}
use Rattle.clap.specs.Matches.{first_value, one_text}
use Rattle.clap.specs.Simple.{App, new_app, new_rule, on_top, with_rule}
use Rattle.clap.specs.Values.{bool_text}
use Rattle.clap.specs.Walk.{Rule}
use Rattle.clap.specs.declared.builder.action.ArgAction.TheVariants.{SetTrue}
use Rattle.clap.specs.declared.parser.matches.Found.{Found}
use Rattle.sil_command_words.specs.CommandLines.{Argument, number, turns, entry, optimize, name_of}

abbrev pub mode_rule : Rule
mode_rule = record (new_rule (codes "mode")) { required = true }

abbrev pub number_rule : Rule
number_rule = new_rule (name_of number)

abbrev pub option_rule : Argument → Rule
option_rule a = record (new_rule (name_of a)) { long = Some (name_of a) }

abbrev pub flag_rule : Rule
flag_rule = record (option_rule optimize) { action = Some SetTrue }

-- without the program's name among the words, and without a flag for help
abbrev pub bare_app : App
bare_app = on_top (λ s. record s { no_binary_name = true; disable_help_flag = true }) (new_app (codes "sil"))

abbrev pub declared_app : App
declared_app =
    with_rule (with_rule (with_rule (with_rule (with_rule bare_app mode_rule) number_rule) (option_rule turns)) (option_rule entry)) flag_rule

-- the matches have these values
pub record Matches (f : Found) (mode_word : List ℕ) (number_word turns_value entry_value : Option (List ℕ)) (optimises : Bool) : Type 0 where
  pub mode_is : first_value f (codes "mode") ≡ Some mode_word
  pub number_is : first_value f (codes "number") ≡ number_word
  pub turns_are : first_value f (codes "turns") ≡ turns_value
  pub entry_is : first_value f (codes "entry") ≡ entry_value
  pub flag_is : (b : Bool) → one_text f (codes "optimize") ≡ Some (bool_text b) → optimises ≡ b

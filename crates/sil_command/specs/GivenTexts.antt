-- Which text a mode answers.
use Rattle.std.specs.Prelude.{ℕ, List, ⊤}
use Rattle.sil_command_generator.specs.GeneratedModules.{generated}
use Rattle.sil_command.specs.declared.words.Mode.{Mode}
use Rattle.sil_command.specs.declared.words.Mode.TheVariants.{Check, Generate, Lower, Optimize, Print, Run}
use Rattle.sil_command.specs.Words.{AsksFor}

-- the text that a source has, or in the mode `generate` that of the generated module
abbrev pub text_for : Mode → List ℕ → List ℕ
text_for Check text = text
text_for Print text = text
text_for (Lower optimises) text = text
text_for Optimize text = text
text_for (Run entry turns optimises) text = text
text_for (Generate size) text = generated size

-- all modes but `generate` take the text of a source
abbrev pub TakesSource : Mode → Type 0
TakesSource Check = ⊤
TakesSource Print = ⊤
TakesSource (Lower optimises) = ⊤
TakesSource Optimize = ⊤
TakesSource (Run entry turns optimises) = ⊤
TakesSource (Generate size) = ⊥

-- the words ask for such a mode
abbrev pub AskForText : List (List ℕ) → Type 0
AskForText words = (mode : Mode) × AsksFor words mode × TakesSource mode

-- What is known of each module that the program can make by itself.
use Rattle.std.specs.Prelude.{ℕ, ◌≤◌, length}
use Rattle.numbered_form.specs.inner.NumberedForm.{IsNumbered}
use Rattle.sil_rules.specs.declared.limits.TheConstants.{TEXT_BYTES}
use Rattle.sil_command_generator.specs.GeneratedModules.{generated, generated_module}

-- each is in numbered form
abbrev pub AreGeneratedNumbered : Type 0
AreGeneratedNumbered = (n : ℕ) → n ≤ 500 → IsNumbered (generated_module n)

-- the text of each is short enough to be read
abbrev pub AreGeneratedShort : Type 0
AreGeneratedShort = (n : ℕ) → n ≤ 500 → length (generated n) ≤ TEXT_BYTES

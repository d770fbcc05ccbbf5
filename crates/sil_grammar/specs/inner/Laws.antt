-- The laws of what a text spells and why it is refused. No answer rests on them.
use Rattle.std.specs.Prelude.{◌≡◌, ◌≤◌, ℕ, List, ◌++◌, length}
use Rattle.sil_ast.specs.declared.module.Module.{Module}
use Rattle.sil_grammar_classes.specs.declared.classes.Class.{Class}
use Rattle.sil_grammar_shape.specs.declared.steps.Step.{Step}
use Rattle.sil_grammar_shape.specs.Derivation.{Derives, start}
use Rattle.sil_grammar_shape.specs.inner.Values.{takes_of}
use Rattle.numbered_form.specs.inner.NumberedForm.{IsNumbered}
use Rattle.sil_grammar.specs.declared.refusal.ReadRefusal.{ReadRefusal}
use Rattle.sil_grammar.specs.declared.refusal.ReadRefusal.TheVariants as refusal
use Rattle.sil_grammar.specs.Completion.{IsShortestFrom}
use Rattle.sil_grammar.specs.Refusals.{IsRefusalOf}
use Rattle.sil_grammar.specs.Spells.{Spells}

-- two modules that one text spells are equal
abbrev pub AreSpelledOnce : Type 0
AreSpelledOnce = (text : List ℕ) (m other : Module) → Spells m text → Spells other text → other ≡ m

-- a module that a text spells is in numbered form
abbrev pub AreSpelledNumbered : Type 0
AreSpelledNumbered = (m : Module) (text : List ℕ) → Spells m text → IsNumbered m

-- no module that begins with these classes has fewer tokens than the shortest one
abbrev pub HaveFewestTokens : Type 0
HaveFewestTokens = (classes more : List Class) (steps others : List Step) → IsShortestFrom classes steps → Derives start (classes ++ more) others
    → takes_of steps ≤ length (classes ++ more)

-- two refusals of one text, other than for want of memory, are equal
abbrev pub AreRefusedOnce : Type 0
AreRefusedOnce =
    (text : List ℕ) (a b : ReadRefusal) → IsRefusalOf text a → IsRefusalOf text b → (a ≡ refusal.Memory → ⊥) → (b ≡ refusal.Memory → ⊥) → b ≡ a

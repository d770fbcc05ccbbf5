-- What the machine does to its stack and its steps. No definition of the language rests on it.
use Rattle.std.specs.Prelude.{List, [], ◌∷◌, ◌++◌, ◌≡◌, drop, Option, Some, None}
use Rattle.sil_grammar_classes.specs.declared.classes.Class.{Class}
use Rattle.sil_grammar_tables.specs.declared.grammar.Nonterminal.{Nonterminal}
use Rattle.sil_grammar_tables.specs.declared.grammar.Symbol.{Symbol}
use Rattle.sil_grammar_tables.specs.declared.grammar.Symbol.TheVariants.{Read, Part}
use Rattle.sil_grammar_tables.specs.declared.grammar.Production.{Production}
use Rattle.sil_grammar_shape.specs.declared.steps.Step.{Step}
use Rattle.sil_grammar_shape.specs.declared.steps.Step.TheVariants.{Take, Expand}
use Rattle.sil_grammar_shape.specs.Derivation.{Accepts}
use Rattle.sil_grammar_tables.specs.Grammar.{body}
use Rattle.sil_grammar_shape.specs.inner.Choice.{choose}

-- the stack and the steps so far, after some parts that stood first gave way to the bodies that the next token chooses
pub data Turns (l : Option Class) (stack : List Symbol) (steps : List Step) : List Symbol → List Step → Type 0 where
  stay : Turns l stack steps stack steps
  turn : {part : Nonterminal} {ss : List Symbol} {before : List Step}
      → (p : Production) → choose part l ≡ Some p → Turns l stack steps (Part part ∷ ss) before → Turns l stack steps (body p ++ ss) (before ++ Expand p ∷ [])

-- what stood first, if anything, is taken off
abbrev pub Pops : List Symbol → Option Symbol → List Symbol → Type 0
Pops stack None rest = (stack ≡ []) × (rest ≡ [])
Pops stack (Some s) rest = stack ≡ s ∷ rest

-- the part that stood first gave way to the body of a production
pub record Expands (production : Production) (stack : List Symbol) (steps : List Step) (new_stack : List Symbol) (new_steps : List Step) : Type 0 where
  pub stack_is : new_stack ≡ body production ++ drop 1 stack
  pub steps_are : new_steps ≡ steps ++ Expand production ∷ []

-- what stands first, if anything, is a token, or a part for which the next token chooses nothing
abbrev pub IsSettled : Option Class → List Symbol → Type 0
IsSettled l [] = Unit {0}
IsSettled l (Read t ∷ ss) = Unit {0}
IsSettled l (Part part ∷ ss) = choose part l ≡ None

-- parts that stood first gave way until the stack was settled
pub record Settles (l : Option Class) (stack : List Symbol) (steps : List Step) (new_stack : List Symbol) (new_steps : List Step) : Type 0 where
  pub turns : Turns l stack steps new_stack new_steps
  pub settled : IsSettled l new_stack

-- the class suits what stands first
abbrev pub IsAccepted : Class → List Symbol → Type 0
IsAccepted k [] = ⊥
IsAccepted k (s ∷ ss) = Accepts s k

-- the next token does not suit the symbol
abbrev pub IsStuckAt : Option Class → Symbol → Type 0
IsStuckAt l (Part part) = choose part l ≡ None
IsStuckAt None s = Unit {0}
IsStuckAt (Some k) s = Accepts s k → ⊥

-- the machine goes on no further
abbrev pub IsStuck : Option Class → List Symbol → Type 0
IsStuck None [] = ⊥
IsStuck (Some k) [] = Unit {0}
IsStuck l (s ∷ ss) = IsStuckAt l s

-- the token was taken, after some turns
pub record Takes (k : Class) (stack : List Symbol) (steps : List Step) (new_stack : List Symbol) (new_steps : List Step) : Type 0 where
  pub symbol : Symbol
  pub before : List Step
  pub turns : Turns (Some k) stack steps (symbol ∷ new_stack) before
  pub accepted : Accepts symbol k
  pub steps_are : new_steps ≡ before ++ Take ∷ []

-- after some turns the next token suits nothing
pub record Refuses (l : Option Class) (stack : List Symbol) (steps : List Step) (last_stack : List Symbol) (last_steps : List Step) : Type 0 where
  pub turns : Turns l stack steps last_stack last_steps
  pub stuck : IsStuck l last_stack

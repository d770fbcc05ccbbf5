-- What the grammar derives: the lists of classes that have the shape of a module, each by the steps of its leftmost derivation.
use Rattle.std.specs.Prelude.{ℕ, ◌+◌, ◌<◌, ◌≤◌, length, take, List, [], ◌∷◌, ◌++◌, ◌≡◌}
use Rattle.sil_grammar_classes.specs.declared.classes.Class.{Class}
use Rattle.sil_grammar_tables.specs.declared.grammar.Nonterminal.TheVariants.{Module}
use Rattle.sil_grammar_tables.specs.declared.grammar.Symbol.{Symbol}
use Rattle.sil_grammar_tables.specs.declared.grammar.Symbol.TheVariants.{Read, Part}
use Rattle.sil_grammar_tables.specs.declared.grammar.Production.{Production}
use Rattle.sil_grammar_shape.specs.declared.steps.Step.{Step}
use Rattle.sil_grammar_shape.specs.declared.steps.Step.TheVariants.{Take, Expand}
use Rattle.sil_grammar_shape.specs.Accepts.{Suits}
use Rattle.sil_grammar_tables.specs.Grammar.{written, body}

-- a token of this class may stand for the symbol
abbrev pub Accepts : Symbol → Class → Type 0
Accepts (Read t) k = Suits t k
Accepts (Part part) k = ⊥

-- these symbols in a row derive these classes by these steps, each at the symbol that stands first
pub data Derives : List Symbol → List Class → List Step → Type 0 where
  nothing : Derives [] [] []
  token : {s : Symbol} {k : Class} {ss : List Symbol} {ks : List Class} {steps : List Step}
      → Accepts s k → Derives ss ks steps → Derives (s ∷ ss) (k ∷ ks) (Take ∷ steps)
  rule : {ss : List Symbol} {ks : List Class} {steps : List Step}
      → (p : Production) → Derives (body p ++ ss) ks steps → Derives (Part (written p) ∷ ss) ks (Expand p ∷ steps)

-- a whole module is to be derived
abbrev pub start : List Symbol
start = Part Module ∷ []

abbrev pub HasShape : List Class → Type 0
HasShape ks = (steps : List Step) × Derives start ks steps

-- these classes begin some list that has shape
abbrev pub BeginsShape : List Class → Type 0
BeginsShape ks = (more : List Class) × HasShape (ks ++ more)

-- the first class, or the end of the list, such that the classes up to and with it begin no list that has shape
pub record IsFirstBad (classes : List Class) (place : ℕ) : Type 0 where
  pub inside : place ≤ length classes
  pub good : BeginsShape (take place classes)
  pub bad : place < length classes → BeginsShape (take (place + 1) classes) → ⊥
  pub end : place ≡ length classes → HasShape classes → ⊥

-- the steps derive a module from these classes, and no other steps do
pub record IsDerivation (classes : List Class) (steps : List Step) : Type 0 where
  pub derives : Derives start classes steps
  pub only : (others : List Step) → Derives start classes others → others ≡ steps

-- What the steps of a derivation and the tokens that they take stand for, and what is at fault in it: relations over the
-- steps, with one case for a token and one for a production.
use Rattle.std.specs.Prelude.{◌≡◌, List, [], ◌∷◌, ◌++◌, length, drop, true, false}
use Rattle.std.specs.List.{AllByRecursion}
use Rattle.sil_lexer.specs.Lexes.{Lexeme}
use Rattle.sil_grammar_tables.specs.declared.grammar.Production.{Production}
use Rattle.sil_grammar_shape.specs.declared.steps.Step.{Step}
use Rattle.sil_grammar_shape.specs.declared.steps.Step.TheVariants.{Take, Expand}
use Rattle.sil_grammar_tables.specs.Grammar.{body}
use Rattle.sil_grammar_modules.specs.Leaves.{leaf_of}
use Rattle.sil_grammar_values.specs.Opened.{PartValue}
use Rattle.sil_grammar_values.specs.Values.{no_token}
use Rattle.sil_grammar_values.specs.Variants as v
use Rattle.sil_grammar_tree.specs.declared.written_tree.fault.Fault.{Fault}
use Rattle.sil_grammar_tree.specs.WrittenTree.Faults.{comes_before}
use Rattle.sil_grammar.specs.SpelledPartsLaws.Faults.{AreFaultsOf}
use Rattle.sil_grammar.specs.SpelledPartsLaws.Means.{Means}

-- these steps, over these tokens, stand for these values, one for each symbol that they derive
pub data Reads : List Step → List Lexeme → List PartValue → Type 0 where
  nothing : Reads [] [] []
  -- a token stands for what is kept of it
  token : {steps : List Step} {lexemes : List Lexeme} {values : List PartValue}
      → (l : Lexeme) → Reads steps lexemes values → Reads (Take ∷ steps) (l ∷ lexemes) (leaf_of l ∷ values)
  -- a token that the text lacks is empty, and stands behind every token
  lacking : {steps : List Step} {values : List PartValue} → Reads steps [] values → Reads (Take ∷ steps) [] (v.Token no_token ∷ values)
  -- a production stands for what it means by the parts of its body
  production : {steps : List Step} {lexemes : List Lexeme} {value : PartValue} {values : List PartValue}
      → (p : Production) (parts : List PartValue) → Reads steps lexemes (parts ++ values)
      → length parts ≡ length (body p) → Means p parts value → Reads (Expand p ∷ steps) lexemes (value ∷ values)

-- all that is at fault in them: what is at fault in a production by itself, and what is behind it
pub data HasFaults : List Step → List Lexeme → List Fault → Type 0 where
  nothing : HasFaults [] [] []
  token : {steps : List Step} {lexemes : List Lexeme} {faults : List Fault} → HasFaults steps (drop 1 lexemes) faults → HasFaults (Take ∷ steps) lexemes faults
  production : {steps : List Step} {lexemes : List Lexeme}
      → (p : Production) (parts values : List PartValue) (own others : List Fault)
      → Reads steps lexemes (parts ++ values) → length parts ≡ length (body p) → AreFaultsOf p parts own
      → HasFaults steps lexemes others → HasFaults (Expand p ∷ steps) lexemes (own ++ others)

-- of some faults the first by its place, and then by its rank: none comes before it. Of those at one place and of one rank it's
-- the first in the list
pub data IsFirstOf : List Fault → Fault → Type 0 where
  here : {others : List Fault} → (fault : Fault) → AllByRecursion (λ other. comes_before other fault ≡ false) others → IsFirstOf (fault ∷ others) fault
  later : {others : List Fault} {fault : Fault} → (other : Fault) → comes_before fault other ≡ true → IsFirstOf others fault → IsFirstOf (other ∷ others) fault

-- nothing is at fault
abbrev pub AreFaultless : List Step → List Lexeme → Type 0
AreFaultless steps lexemes = HasFaults steps lexemes []

-- this is the first of what is at fault
pub record IsFirstFault (steps : List Step) (lexemes : List Lexeme) (fault : Fault) : Type 0 where
  pub faults : List Fault
  pub all : HasFaults steps lexemes faults
  pub first : IsFirstOf faults fault

-- What a token of a class keeps of its bytes.
use Rattle.std.specs.Prelude.{ℕ, List, ⊤, IsTrue}
use Rattle.std.specs.List.{AllZip}
use Rattle.sil_lexer.specs.Lexes.{Lexeme}
use Rattle.sil_grammar_classes.specs.declared.classes.Class.{Class}
use Rattle.sil_grammar_classes.specs.declared.classes.Class.TheVariants as c
use Rattle.instruction_table.specs.BuiltinNames.BuiltinNames.{is_builtin_name}
use Rattle.sil_grammar_modules.specs.Leaves.{kept_of}
use Rattle.numbered_form.specs.Names.{IsWord, is_at_name, is_quotable}

-- a text between quotes that names a builtin operation
pub record IsBuiltinText (text : List ℕ) : Type 0 where
  pub quotable : IsTrue (is_quotable text)
  pub known : IsTrue (is_builtin_name text)

-- the text may be what a token of the class keeps
abbrev pub IsTextOf : Class → List ℕ → Type 0
IsTextOf (c.Word w) text = IsWord text
IsTextOf (c.At w) text = IsTrue (is_at_name text)
IsTextOf c.BuiltinText text = IsBuiltinText text
IsTextOf c.OtherText text = IsTrue (is_quotable text)
IsTextOf _ text = ⊤

-- the token may have the class
abbrev pub IsOfClass : Class → Lexeme → Type 0
IsOfClass class l = IsTextOf class (kept_of l.kind l.spelling)

-- the tokens may have these classes, one by one
abbrev pub AreOfClasses : List Class → List Lexeme → Type 0
AreOfClasses classes lexemes = AllZip IsOfClass classes lexemes

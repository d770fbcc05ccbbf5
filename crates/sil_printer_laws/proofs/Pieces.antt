-- How a piece of a text reads: the symbols of the grammar that its tokens stand for, with what they write and no fault.
use Rattle.std.proofs.Common.{◌≡◌, ℕ, ◌≤◌, List, [], ◌∷◌, ◌++◌, None, IsTrue, IsFalse}
use Rattle.sil_ast.specs.TextBytes.Bytes.{is_blank, is_name_byte}
use Rattle.sil_lexer.specs.Lexes.{Lexeme}
use Rattle.sil_lexer.specs.Places.{place_before}
use Rattle.sil_lexer.specs.Spelling.{IsSpelled, begins_with, name_length}
use Rattle.sil_lexer.specs.declared.token.TokenKind.{TokenKind}
use Rattle.sil_grammar_tables.specs.declared.grammar.Nonterminal.{Nonterminal}
use Rattle.sil_grammar_tables.specs.declared.grammar.Production.{Production}
use Rattle.sil_grammar_tables.specs.declared.grammar.Symbol.{Symbol}
use Rattle.sil_grammar_tables.specs.declared.grammar.Symbol.TheVariants.{Part}
use Rattle.sil_grammar_shape.specs.Derivation.{Accepts}
use Rattle.sil_grammar_tables.specs.Grammar.{body, written}
use Rattle.sil_grammar_modules.specs.Leaves.{leaf_of}
use Rattle.sil_grammar_values.specs.inner.Meaning.{meaning}
use Rattle.sil_grammar_values.specs.Opened.{PartValue}
use Rattle.sil_grammar_values.specs.inner.PartFaults.{part_fault}
use Rattle.sil_grammar.specs.Classes.{class_by}

-- a token of the text that stands in front of the rest
abbrev pub lexeme_before : List ℕ → TokenKind → List ℕ → List ℕ → Lexeme
lexeme_before text kind spelling rest = record { kind = kind; place = place_before text (spelling ++ rest); spelling = spelling }

-- from some last bytes of the text on, up to others, its tokens read as these symbols, and stand for these values without a fault
pub data Reads (text : List ℕ) : List Symbol → List ℕ → List PartValue → List ℕ → Type 0 where
  nothing : {after : List ℕ} → Reads text [] after [] after
  blank : {ss : List Symbol} {left : List ℕ} {values : List PartValue} {after : List ℕ} → (byte : ℕ) → IsTrue (is_blank byte)
      → Reads text ss left values after → Reads text ss (byte ∷ left) values after
  token : {s : Symbol} {ss : List Symbol} {rest : List ℕ} {values : List PartValue} {after : List ℕ} → (kind : TokenKind) (spelling : List ℕ)
      → Accepts s (class_by kind spelling) → IsSpelled kind spelling rest → name_length kind spelling ≤ 255
      → Reads text ss rest values after
      → Reads text (s ∷ ss) (spelling ++ rest) (leaf_of (lexeme_before text kind spelling rest) ∷ values) after
  rule : {ss : List Symbol} {left middle : List ℕ} {parts values : List PartValue} {after : List ℕ} → (p : Production)
      → Reads text (body p) left parts middle → part_fault p parts ≡ None → Reads text ss middle values after
      → Reads text (Part (written p) ∷ ss) left (meaning p parts ∷ values) after

-- one piece and then another
pub behind : {text : List ℕ} {ss tt : List Symbol} {left middle after : List ℕ} {values others : List PartValue}
    → Reads text ss left values middle → Reads text tt middle others after → Reads text (ss ++ tt) left (values ++ others) after
behind nothing r = r
behind (blank byte h q) r = blank byte h (behind q r)
behind (token kind spelling accepted spelled short q) r = token kind spelling accepted spelled short (behind q r)
behind (rule p inside h q) r = rule p inside h (behind q r)

-- one symbol reads as something of which P holds
pub record ReadsOne (text : List ℕ) (symbol : Symbol) (P : PartValue → Type 0) (left after : List ℕ) : Type 0 where
  pub value : PartValue
  pub stands : P value
  pub reads : Reads text (symbol ∷ []) left (value ∷ []) after

-- a part reads as something of which P holds
abbrev pub Stands : List ℕ → Nonterminal → (PartValue → Type 0) → List ℕ → List ℕ → Type 0
Stands text part P left after = ReadsOne text (Part part) P left after

-- no name or number goes on with what follows
abbrev pub Ends : List ℕ → Type 0
Ends after = IsFalse (begins_with is_name_byte after)

-- these bytes read so, wherever they stand
abbrev pub ReadsAs : List ℕ → Symbol → (PartValue → Type 0) → List ℕ → Type 0
ReadsAs text symbol P written = (after : List ℕ) → Ends after → ReadsOne text symbol P (written ++ after) after

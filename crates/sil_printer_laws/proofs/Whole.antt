-- What reads as a module to its end is spelled.
use Rattle.std.proofs.Common.{◌≡◌, ℕ, List, [], ◌∷◌, ◌++◌, Option, None, IsTrue, subst}
use Rattle.std.proofs.lemmas.List.{append_assoc, append-nil}
use Rattle.sil_ast.specs.TextBytes.Bytes.{is_blank}
use Rattle.sil_lexer.specs.Lexes.{Lexeme, Lexes, Lexes as lexes, Skips as skips}
use Rattle.sil_lexer.specs.declared.token.LexRefusal.{LexRefusal}
use Rattle.sil_grammar_tables.specs.declared.grammar.Symbol.{Symbol}
use Rattle.sil_grammar_shape.specs.Derivation.{start}
use Rattle.sil_grammar_tree.specs.declared.written_tree.written_module.WrittenModule.{WrittenModule}
use Rattle.sil_grammar_values.specs.Opened.{PartValue, module_value}
use Rattle.sil_grammar.specs.SpelledPartsLaws.Stands.{Stands}
use Rattle.sil_grammar.proofs.SpelledPartsLaws.Trees.{Tree, Tree as tree, tree_stands}
use Rattle.sil_grammar.specs.Classes.{token_class}
use Rattle.sil_grammar.specs.Spells.{SpellsWritten}
use Rattle.sil_printer_laws.proofs.Pieces.{Reads, lexeme_before, Reads as reads}

-- the tokens of a piece, whatever stands behind it, and that they stand for its values
record Tokens (text : List ℕ) (ss : List Symbol) (left : List ℕ) (values : List PartValue) (after : List ℕ) : Type 0 where
  lexemes : List Lexeme
  lexed : (others : List Lexeme) (stop : Option LexRefusal) → Lexes text after others stop → Lexes text left (lexemes ++ others) stop
  stood : Tree token_class ss lexemes values

-- a blank in front changes no token
blank_before : {text left : List ℕ} {lexemes : List Lexeme} {stop : Option LexRefusal} → (byte : ℕ) → IsTrue (is_blank byte)
    → Lexes text left lexemes stop → Lexes text (byte ∷ left) lexemes stop
blank_before byte h (lexes.end left s) = lexes.end (byte ∷ left) (skips.blank byte left _ h s)
blank_before byte h (lexes.token left spelling after kind lexemes stop s spelled short l) =
    lexes.token (byte ∷ left) spelling after kind lexemes stop (skips.blank byte left _ h s) spelled short l
blank_before byte h (lexes.stop left rest refusal s stops) = lexes.stop (byte ∷ left) rest refusal (skips.blank byte left _ h s) stops

tokens_of : {text : List ℕ} {ss : List Symbol} {left : List ℕ} {values : List PartValue} {after : List ℕ}
    → Reads text ss left values after → Tokens text ss left values after
tokens_of reads.nothing = record { lexemes = []; lexed = λ others stop l. l; stood = tree.nothing }
tokens_of (reads.blank byte h r) =
    let s = tokens_of r in
    record { lexemes = s.lexemes; lexed = λ others stop l. blank_before byte h (s.lexed others stop l); stood = s.stood }
tokens_of {text = text} (reads.token {rest = rest} kind spelling accepted spelled short r) =
    let s = tokens_of r in
    let here : Lexeme = lexeme_before text kind spelling rest in
    record {
      lexemes = here ∷ s.lexemes;
      lexed = λ others stop l. lexes.token _ spelling rest kind (s.lexemes ++ others) stop (skips.nothing _) spelled short (s.lexed others stop l);
      stood = tree.token here accepted s.stood;
    }
tokens_of (reads.rule p inside h r) =
    let s = tokens_of inside in
    let u = tokens_of r in
    record {
      lexemes = s.lexemes ++ u.lexemes;
      lexed = λ others stop l. rw (append_assoc s.lexemes u.lexemes others) (s.lexed (u.lexemes ++ others) stop (u.lexed others stop l));
      stood = tree.production p s.stood h u.stood;
    }

-- a text that reads as a module from its front to its end is spelled by it
pub spelled_whole : (text : List ℕ) (value : PartValue) (w : WrittenModule) → Reads text start text (value ∷ []) [] → value ≡ module_value w → SpellsWritten w text
spelled_whole text value w r e =
    let s = tokens_of r in
    record {
      lexemes = s.lexemes;
      lexed = rw (append-nil s.lexemes) at (s.lexed [] None (lexes.end [] (skips.nothing [])));
      stands = subst (λ (x : PartValue). Stands token_class start s.lexemes (x ∷ [])) e (tree_stands s.stood);
    }

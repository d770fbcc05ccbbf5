-- A word, a name, and what stands between braces.
use Rattle.std.proofs.Common.{◌≡◌, ℕ, List, [], ◌∷◌, ◌++◌, codes, refl}
use Rattle.std.proofs.lemmas.List.{append_assoc}
use Rattle.sil_printer.specs.Words.{line, opening}
use Rattle.sil_grammar_classes.specs.declared.classes.Keyword.{Keyword}
use Rattle.sil_grammar_classes.specs.declared.classes.Punctuation.TheVariants as m
use Rattle.sil_grammar_tables.specs.declared.grammar.Nonterminal.{Nonterminal}
use Rattle.sil_grammar_tables.specs.declared.grammar.Symbol.TheVariants.{Part, Read}
use Rattle.sil_grammar_tables.specs.declared.grammar.Terminal.TheVariants as t
use Rattle.sil_grammar_tables.specs.Terminals.{punctuation, word}
use Rattle.sil_grammar_classes.specs.Spelling.{punctuation_spelling, spelling}
use Rattle.sil_grammar_modules.specs.Leaves.{kept_of}
use Rattle.sil_grammar_values.specs.Opened.{PartValue}
use Rattle.sil_grammar_values.specs.Values.{token_of}
use Rattle.numbered_form.specs.Names.{IsWord}
use Rattle.sil_printer_laws.proofs.FixedTokens.{any_word, keyword_here, punctuation_here}
use Rattle.sil_printer_laws.proofs.Pieces.{Reads, Stands, Reads as reads}
use Rattle.sil_printer_laws.proofs.ProductionReading.{part_here}
use Rattle.sil_printer_laws.proofs.TextsInFront.{braced_ahead}

-- the five symbols in a row, of which the second names and the fourth stands for what is inside
pub record ReadsBraced (text : List ℕ) (keyword : Keyword) (n : Nonterminal) (name : List ℕ) (inside : PartValue) (left after : List ℕ) : Type 0 where
  pub first : PartValue
  pub token : PartValue
  pub begin : PartValue
  pub end : PartValue
  pub named : (token_of token).text ≡ name
  pub reads : Reads text (Read (word keyword) ∷ Read t.AnyWord ∷ Read (punctuation m.LeftBrace) ∷ Part n ∷ Read (punctuation m.RightBrace) ∷ []) left (first ∷ token ∷ begin ∷ inside ∷ end ∷ []) after

pub braced_reads : {text : List ℕ} {n : Nonterminal} {P : PartValue → Type 0} (keyword : Keyword) (name inside after : List ℕ) → IsWord (spelling keyword) → IsWord name
    → (s : Stands text n P (inside ++ (125 ∷ 10 ∷ after)) (125 ∷ 10 ∷ after))
    → ReadsBraced text keyword n name s.value ((opening (spelling keyword ++ codes " ") name ++ inside ++ line (codes "}")) ++ after) after
unfolding punctuation_spelling kept_of token_of
braced_reads keyword name inside after keyword_spelled spelled s =
    rw (braced_ahead (spelling keyword ++ codes " ") name inside after, append_assoc (spelling keyword) (codes " ") (name ++ (32 ∷ 123 ∷ 10 ∷ (inside ++ (125 ∷ 10 ∷ after)))))
    (record {
      first = _;
      token = _;
      begin = _;
      end = _;
      named = refl;
      reads = keyword_here keyword keyword_spelled refl (reads.blank 32 refl (any_word name spelled refl (reads.blank 32 refl
          (punctuation_here m.LeftBrace 123 refl refl (reads.blank 10 refl (part_here s (punctuation_here m.RightBrace 125 refl refl (reads.blank 10 refl reads.nothing))))))));
    })

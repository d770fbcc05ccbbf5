-- Tokens that spell a word which the grammar knows, and types behind such a word.
use Rattle.std.proofs.Common.{◌≡◌, ℕ, List, [], ◌∷◌, ◌++◌, None, IsTrue, refl, ap, sym}
use Rattle.sil_grammar_classes.specs.declared.classes.AtWord.{AtWord}
use Rattle.sil_grammar_classes.specs.declared.classes.Class.TheVariants as c
use Rattle.sil_grammar_classes.specs.declared.classes.Keyword.{Keyword}
use Rattle.sil_grammar_tables.specs.declared.grammar.Nonterminal.{Nonterminal}
use Rattle.sil_grammar_tables.specs.declared.grammar.Nonterminal.TheVariants as n
use Rattle.sil_grammar_tables.specs.declared.grammar.Production.{Production}
use Rattle.sil_grammar_tables.specs.declared.grammar.Symbol.TheVariants.{Read, Part}
use Rattle.sil_grammar_shape.specs.Accepts.{Suits}
use Rattle.sil_grammar_tables.specs.Grammar.{body, written}
use Rattle.sil_grammar_tables.specs.Terminals.{at, word}
use Rattle.sil_grammar_classes.specs.Spelling.{at_spelling, at_word_of, keyword_of}
use Rattle.sil_grammar_values.specs.inner.Meaning.{meaning}
use Rattle.sil_grammar_values.specs.Opened.{PartValue}
use Rattle.sil_grammar_values.specs.inner.PartFaults.{part_fault}
use Rattle.numbered_form.specs.Names.{is_at_name}
use Rattle.sil_printer_laws.proofs.Commas.{by_rule}
use Rattle.sil_printer_laws.proofs.Pieces.{Reads as reads, Stands}
use Rattle.sil_printer_laws.proofs.Tokens.{at_token}

-- a word is one that is asked for where it spells it
pub word_accepted : (name : List ℕ) (keyword : Keyword) → keyword_of name ≡ keyword → Suits (word keyword) (c.Word (keyword_of name))
word_accepted name keyword e = ap c.Word (sym e)

pub at_accepted : (name : List ℕ) (known : AtWord) → at_word_of name ≡ known → Suits (at known) (c.At (at_word_of name))
at_accepted name known e = ap c.At (sym e)

-- `@owned T`: a word, a blank and a type
pub worded_reads : {text : List ℕ} {part : Nonterminal} {P Q : PartValue → Type 0} {left after : List ℕ} → (rule : Production) (known : AtWord)
    → written rule ≡ part → body rule ≡ Read (at known) ∷ Part n.Type ∷ []
    → IsTrue (is_at_name (at_spelling known)) → at_word_of (at_spelling known) ≡ known
    → ((sigil inside : PartValue) → P inside → Q (meaning rule (sigil ∷ inside ∷ [])))
    → ((sigil inside : PartValue) → P inside → part_fault rule (sigil ∷ inside ∷ []) ≡ None)
    → Stands text n.Type P left after → Stands text part Q (64 ∷ at_spelling known ++ 32 ∷ left) after
worded_reads rule known is_written is_body spelled is_known makes faultless r = record {
  value = _;
  stands = makes _ r.value r.stands;
  reads = by_rule rule is_written is_body (at_token (at_spelling known) spelled (at_accepted (at_spelling known) known is_known) refl (reads.blank 32 refl r.reads))
      (faultless _ r.value r.stands) reads.nothing;
}

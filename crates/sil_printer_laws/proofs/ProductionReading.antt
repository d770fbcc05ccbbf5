-- A part that a production writes, and a part in front of a piece.
use Rattle.std.proofs.Common.{◌≡◌, ℕ, List, ◌∷◌, None, IsTrue}
use Rattle.sil_ast.specs.TextBytes.Bytes.{is_blank}
use Rattle.sil_grammar_tables.specs.declared.grammar.Nonterminal.{Nonterminal}
use Rattle.sil_grammar_tables.specs.declared.grammar.Production.{Production}
use Rattle.sil_grammar_tables.specs.declared.grammar.Symbol.{Symbol}
use Rattle.sil_grammar_tables.specs.declared.grammar.Symbol.TheVariants.{Part}
use Rattle.sil_grammar_tables.specs.Grammar.{body, written}
use Rattle.sil_grammar_values.specs.inner.Meaning.{meaning}
use Rattle.sil_grammar_values.specs.Opened.{PartValue}
use Rattle.sil_grammar_values.specs.inner.PartFaults.{part_fault}
use Rattle.sil_printer_laws.proofs.Pieces.{Reads, Stands, behind, Reads as reads}

-- what the production writes stands for what it makes of its parts
pub stands_by : {text left after : List ℕ} {parts : List PartValue} → (p : Production) (P : PartValue → Type 0)
    → Reads text (body p) left parts after → part_fault p parts ≡ None → P (meaning p parts) → Stands text (written p) P left after
stands_by {parts = parts} p P inside h stands = record { value = meaning p parts; stands = stands; reads = reads.rule p inside h reads.nothing }

-- a part in front of a piece
pub part_here : {text : List ℕ} {n : Nonterminal} {P : PartValue → Type 0} {left middle : List ℕ} {ss : List Symbol} {values : List PartValue} {after : List ℕ}
    → (s : Stands text n P left middle) → Reads text ss middle values after → Reads text (Part n ∷ ss) left (s.value ∷ values) after
part_here s r = behind s.reads r

-- a blank in front changes nothing
pub blank_here : {text : List ℕ} {n : Nonterminal} {P : PartValue → Type 0} {left after : List ℕ} → (byte : ℕ) → IsTrue (is_blank byte)
    → Stands text n P left after → Stands text n P (byte ∷ left) after
blank_here byte h s = record { value = s.value; stands = s.stands; reads = reads.blank byte h s.reads }

-- What an instruction says for a debugger reads as itself.
use Rattle.std.proofs.Common.{◌≡◌, ℕ, ◌≤◌, List, ◌∷◌, ◌++◌, Option, Some, None, Bool, true, false, IsTrue, IfSome, refl, arith, codes, decimal, pos}
use Rattle.std.proofs.lemmas.List.{append_assoc}
use Rattle.sil_ast.specs.declared.debug.Binding.{Binding}
use Rattle.sil_ast.specs.declared.debug.Binding.TheVariants.{Let, Var}
use Rattle.sil_ast.specs.declared.debug.Debug.{Debug}
use Rattle.sil_printer.specs.CanonicalInsts.{binding_text, debug_text, quoted}
use Rattle.sil_printer.specs.Words.{if_set, if_there}
use Rattle.instruction_table.specs.BuiltinNames.BuiltinNames.{is_builtin_name}
use Rattle.sil_grammar_shape.specs.Derivation.{Accepts}
use Rattle.sil_grammar_tables.specs.Grammar.{body, written}
use Rattle.sil_grammar_classes.specs.Spelling.{keyword_of, keywords, known_keyword, punctuation_of, punctuation_spelling, signs, spelling}
use Rattle.sil_grammar_tables.specs.declared.grammar.Nonterminal.{Nonterminal}
use Rattle.sil_grammar_tables.specs.declared.grammar.Nonterminal.TheVariants as n
use Rattle.sil_grammar_tables.specs.declared.grammar.Production.TheVariants as p
use Rattle.sil_grammar_tables.specs.declared.grammar.Symbol.TheVariants.{Read}
use Rattle.sil_grammar_tables.specs.declared.grammar.Terminal.TheVariants as t
use Rattle.sil_grammar_tree.proofs.WrittenNumbers.Printed.{printed_number}
use Rattle.sil_grammar_modules.specs.Leaves.{kept_of}
use Rattle.sil_grammar_values.specs.inner.Meaning.{meaning}
use Rattle.sil_grammar_values.specs.inner.PartFaults.{part_fault}
use Rattle.sil_grammar_values.specs.Values.{debug_of, no_debug, token_of}
use Rattle.numbered_form.specs.Names.{is_quotable}
use Rattle.sil_grammar.specs.Classes.{text_class}
use Rattle.sil_grammar.proofs.NumberedLemmas.{between_quotes}
use Rattle.sil_printer_laws.proofs.NumberReading.{in_range}
use Rattle.sil_printer_laws.proofs.Pieces.{Ends, Reads as reads, Stands}
use Rattle.sil_printer_laws.proofs.ProductionReading.{stands_by}
use Rattle.sil_printer_laws.proofs.Tokens.{punctuation_token, number_token, text_token, word_token}

-- the rest of what is said: nothing, or a comma and a part that stands for it
data ReadsRest (text : List ℕ) (part : Nonterminal) (d : Debug) (after : List ℕ) : List ℕ → Type 0 where
  ended : no_debug ≡ d → ReadsRest text part d after after
  goes_on : {left : List ℕ} → Stands text part (λ x. debug_of x ≡ d) left after → ReadsRest text part d after (44 ∷ 32 ∷ left)

ends_rest : {text : List ℕ} {part : Nonterminal} {d : Debug} {after left : List ℕ} → Ends after → ReadsRest text part d after left → Ends left
ends_rest ends (ended e) = ends
ends_rest ends (goes_on s) = refl

-- any text will do
pub any_text : (known : Bool) → Accepts (Read t.AnyText) (text_class known)
any_text true = refl
any_text false = refl

-- behind a number, a name, a binding, and behind what the instruction is about
after_number : {text : List ℕ} {d : Debug} {after left : List ℕ} → ReadsRest text n.DebugDerefPart d after left → Stands text n.DebugAfterNumber (λ x. debug_of x ≡ d) left after
unfolding body written meaning part_fault debug_of punctuation_of punctuation_spelling signs
after_number (ended e) = stands_by p.DebugAfterNumberNone _ reads.nothing refl e
after_number (goes_on s) = stands_by p.DebugAfterNumberSome _ (punctuation_token 44 refl refl (reads.blank 32 refl s.reads)) refl s.stands

after_name : {text : List ℕ} {d : Debug} {after left : List ℕ} → ReadsRest text n.DebugNumberPart d after left → Stands text n.DebugAfterName (λ x. debug_of x ≡ d) left after
unfolding body written meaning part_fault debug_of punctuation_of punctuation_spelling signs
after_name (ended e) = stands_by p.DebugAfterNameNone _ reads.nothing refl e
after_name (goes_on s) = stands_by p.DebugAfterNameSome _ (punctuation_token 44 refl refl (reads.blank 32 refl s.reads)) refl s.stands

after_binding : {text : List ℕ} {d : Debug} {after left : List ℕ} → ReadsRest text n.DebugNamePart d after left → Stands text n.DebugAfterBinding (λ x. debug_of x ≡ d) left after
unfolding body written meaning part_fault debug_of punctuation_of punctuation_spelling signs
after_binding (ended e) = stands_by p.DebugAfterBindingNone _ reads.nothing refl e
after_binding (goes_on s) = stands_by p.DebugAfterBindingSome _ (punctuation_token 44 refl refl (reads.blank 32 refl s.reads)) refl s.stands

all_said : {text : List ℕ} {d : Debug} {after left : List ℕ} → ReadsRest text n.DebugPart d after left → Stands text n.Debug (λ x. debug_of x ≡ d) left after
unfolding body written meaning part_fault debug_of punctuation_of punctuation_spelling signs
all_said (ended e) = stands_by p.DebugNone _ reads.nothing refl e
all_said (goes_on s) = stands_by p.DebugSome _ (punctuation_token 44 refl refl (reads.blank 32 refl s.reads)) refl s.stands

module _ (text : List ℕ) (after : List ℕ) (ends : Ends after) where
  -- `, expr op_deref`
  abbrev deref_text : Bool → List ℕ
  deref_text deref = if_set (codes ", expr op_deref") deref ++ after

  deref_rest : (deref : Bool) → ReadsRest text n.DebugDerefPart (record no_debug { deref = deref }) after (deref_text deref)
  unfolding body written meaning part_fault debug_of keyword_of known_keyword keywords spelling
  deref_rest true = goes_on (stands_by p.DebugDeref _ (word_token (codes "expr") refl refl refl (reads.blank 32 refl (word_token (codes "op_deref") refl refl ends reads.nothing))) refl refl)
  deref_rest false = ended refl

  -- `, argno 1`
  abbrev number_text : Option ℕ → Bool → List ℕ
  number_text argno deref = if_there (codes ", argno ") decimal argno ++ deref_text deref

  without_number : {d : Debug} {left : List ℕ} → ReadsRest text n.DebugDerefPart d after left → ReadsRest text n.DebugNumberPart d after left
  unfolding body written meaning part_fault debug_of
  without_number (ended e) = ended e
  without_number (goes_on s) = goes_on (stands_by p.DebugNoNumber _ s.reads refl s.stands)

  number_rest : (argno : Option ℕ) (deref : Bool) → IfSome argno (λ n. n ≤ 65535)
      → ReadsRest text n.DebugNumberPart (record no_debug { argno = argno; deref = deref }) after (number_text argno deref)
  unfolding body written meaning part_fault debug_of token_of kept_of keyword_of known_keyword keywords spelling
  number_rest None deref few = without_number (deref_rest deref)
  number_rest (Some k) deref few =
      let rest = after_number (deref_rest deref) in
      let small = printed_number 65535 k (omega arith) few in
      goes_on (stands_by p.DebugNumber _
      (word_token (codes "argno") refl refl refl (reads.blank 32 refl (number_token (pos k) (deref_text deref) (omega arith) (ends_rest ends (deref_rest deref)) rest.reads)))
      (in_range _ k _ small)
      (λ j. record (rest.stands j) { argno = small j }))

  -- `, name "x"`
  abbrev name_text : Option (List ℕ) → Option ℕ → Bool → List ℕ
  name_text name argno deref = if_there (codes ", name ") quoted name ++ number_text argno deref

  without_name : {d : Debug} {left : List ℕ} → ReadsRest text n.DebugNumberPart d after left → ReadsRest text n.DebugNamePart d after left
  unfolding body written meaning part_fault debug_of
  without_name (ended e) = ended e
  without_name (goes_on s) = goes_on (stands_by p.DebugNoName _ s.reads refl s.stands)

  name_rest : (name : Option (List ℕ)) (argno : Option ℕ) (deref : Bool) → IfSome name (λ text. IsTrue (is_quotable text)) → IfSome argno (λ n. n ≤ 65535)
      → ReadsRest text n.DebugNamePart (record no_debug { name = name; argno = argno; deref = deref }) after (name_text name argno deref)
  unfolding body written meaning part_fault debug_of token_of kept_of keyword_of known_keyword keywords spelling
  name_rest None argno deref quotable few = without_name (number_rest argno deref few)
  name_rest (Some x) argno deref quotable few =
      let rest = after_name (number_rest argno deref few) in
      goes_on (stands_by p.DebugName _
      (word_token (codes "name") refl refl refl (reads.blank 32 refl (text_token x (number_text argno deref) quotable (any_text (is_builtin_name x)) rest.reads)))
      refl
      (λ j. record (rest.stands j) { name = Some (between_quotes x j) }))

  -- `, let`
  abbrev said_text : Option Binding → Option (List ℕ) → Option ℕ → Bool → List ℕ
  said_text binding name argno deref = if_there (codes ", ") binding_text binding ++ name_text name argno deref

  without_binding : {d : Debug} {left : List ℕ} → ReadsRest text n.DebugNamePart d after left → ReadsRest text n.DebugPart d after left
  unfolding body written meaning part_fault debug_of
  without_binding (ended e) = ended e
  without_binding (goes_on s) = goes_on (stands_by p.DebugRest _ s.reads refl s.stands)

  said : (binding : Option Binding) (name : Option (List ℕ)) (argno : Option ℕ) (deref : Bool) → IfSome name (λ text. IsTrue (is_quotable text)) → IfSome argno (λ n. n ≤ 65535)
      → ReadsRest text n.DebugPart (record { binding = binding; name = name; argno = argno; deref = deref }) after (said_text binding name argno deref)
  unfolding body written meaning part_fault debug_of keyword_of known_keyword keywords spelling
  said None name argno deref quotable few = without_binding (name_rest name argno deref quotable few)
  said (Some Let) name argno deref quotable few =
      let rest = after_binding (name_rest name argno deref quotable few) in
      goes_on (stands_by p.DebugLet _ (word_token (codes "let") refl refl (ends_rest ends (name_rest name argno deref quotable few)) rest.reads)
      refl (λ j. record (rest.stands j) { binding = Some Let }))
  said (Some Var) name argno deref quotable few =
      let rest = after_binding (name_rest name argno deref quotable few) in
      goes_on (stands_by p.DebugVar _ (word_token (codes "var") refl refl (ends_rest ends (name_rest name argno deref quotable few)) rest.reads)
      refl (λ j. record (rest.stands j) { binding = Some Var }))

  debug_said : (d : Debug) → IfSome d.name (λ text. IsTrue (is_quotable text)) → IfSome d.argno (λ n. n ≤ 65535) → ReadsRest text n.DebugPart d after (debug_text d ++ after)
  debug_said d quotable few =
      let binding = if_there (codes ", ") binding_text d.binding in
      let name = if_there (codes ", name ") quoted d.name in
      let number = if_there (codes ", argno ") decimal d.argno in
      let deref = if_set (codes ", expr op_deref") d.deref in
      rw (append_assoc ((binding ++ name) ++ number) deref after, append_assoc (binding ++ name) number (deref ++ after), append_assoc binding name (number ++ (deref ++ after)))
      (said d.binding d.name d.argno d.deref quotable few)

  pub debug_reads : (d : Debug) → IfSome d.name (λ text. IsTrue (is_quotable text)) → IfSome d.argno (λ n. n ≤ 65535) → Stands text n.Debug (λ x. debug_of x ≡ d) (debug_text d ++ after) after
  debug_reads d quotable few = all_said (debug_said d quotable few)

  pub ends_debug : (d : Debug) → IfSome d.name (λ text. IsTrue (is_quotable text)) → IfSome d.argno (λ n. n ≤ 65535) → Ends (debug_text d ++ after)
  ends_debug d quotable few = ends_rest ends (debug_said d quotable few)

-- Lists of the printed names of values read as themselves.
use Rattle.std.proofs.Common.{ℕ, List, ◌++◌, refl}
use Rattle.std.specs.List.{AllZip}
use Rattle.sil_ast.specs.declared.place.ValueId.{ValueId}
use Rattle.sil_printer.specs.CanonicalInsts.{value_text}
use Rattle.sil_printer.specs.Words.{listed}
use Rattle.sil_grammar_tables.specs.Grammar.{body, written}
use Rattle.sil_grammar_classes.specs.declared.classes.Class.TheVariants as c
use Rattle.sil_grammar_tables.specs.declared.grammar.Nonterminal.TheVariants as n
use Rattle.sil_grammar_tables.specs.declared.grammar.Production.TheVariants as p
use Rattle.sil_grammar_tables.specs.declared.grammar.Symbol.{Symbol}
use Rattle.sil_grammar_tables.specs.declared.grammar.Symbol.TheVariants.{Read}
use Rattle.sil_grammar_tables.specs.declared.grammar.Terminal.TheVariants as t
use Rattle.sil_grammar_modules.specs.Leaves.{kept_of}
use Rattle.sil_grammar_values.specs.inner.Meaning.{meaning}
use Rattle.sil_grammar_values.specs.Opened.{PartValue}
use Rattle.sil_grammar_values.specs.inner.PartFaults.{part_fault}
use Rattle.sil_grammar_values.specs.Values.{token_of, tokens_of}
use Rattle.numbered_form.specs.Lists.{Each}
use Rattle.sil_grammar.proofs.NumberedReadingLaws.ListsAndFaults.{Each-weaker}
use Rattle.sil_printer_laws.proofs.Commas.{AllItems, MoreItems, list_reads}
use Rattle.sil_printer_laws.proofs.Pieces.{Ends, Reads as reads, ReadsAs, Stands}
use Rattle.sil_printer_laws.proofs.Printable.{IsSmallValue}
use Rattle.sil_printer_laws.proofs.Tokens.{value_token}
use Rattle.sil_printer_laws.proofs.Written.{IsValueNamed}

abbrev name_symbol : Symbol
name_symbol = Read (t.Just c.Percent)

-- what is named by a value
module _ {A : Type 0} (value : A → ValueId) where
  abbrev name_text : A → List ℕ
  name_text x = value_text (value x)

  abbrev IsSmallName : A → Type 0
  IsSmallName x = IsSmallValue (value x)

  abbrev IsName : A → PartValue → Type 0
  IsName x part = IsValueNamed (value x) (token_of part)

  abbrev pub AreNames : List A → PartValue → Type 0
  AreNames xs part = AllZip (λ x token. IsValueNamed (value x) token) xs (tokens_of part)

  more_names : MoreItems name_symbol n.MoreNames IsName AreNames
  unfolding body written part_fault meaning tokens_of
  more_names = record {
    again = p.MoreNamesMore;
    end = p.MoreNamesEnd;
    again_is = (refl, refl, λ parts. refl);
    again_makes = λ x xs comma first others is_first are_others. (is_first, are_others);
    end_is = (refl, refl, λ parts. refl);
    end_makes = tt;
  }

  result_names : AllItems name_symbol n.MoreNames n.Names IsName AreNames
  unfolding body written part_fault meaning tokens_of
  result_names = record {
    others = more_names;
    some = p.NamesSome;
    none = p.NamesNone;
    some_is = (refl, refl, λ parts. refl);
    some_makes = λ x xs first others is_first are_others. (is_first, are_others);
    none_is = (refl, refl, λ parts. refl);
    none_makes = tt;
  }

  argument_names : AllItems name_symbol n.MoreNames n.BareNames IsName AreNames
  unfolding body written part_fault meaning tokens_of
  argument_names = record {
    others = more_names;
    some = p.BareNamesSome;
    none = p.BareNamesNone;
    some_is = (refl, refl, λ parts. refl);
    some_makes = λ x xs first others is_first are_others. (is_first, are_others);
    none_is = (refl, refl, λ parts. refl);
    none_makes = tt;
  }

  module _ (text : List ℕ) where
    name_reads : (x : A) → IsSmallName x → ReadsAs text name_symbol (IsName x) (name_text x)
    unfolding token_of kept_of
    name_reads x small after ends = record { value = _; stands = refl; reads = value_token (value x).0 small ends reads.nothing }

    each_reads : (xs : List A) → Each IsSmallName xs → Each (λ x. ReadsAs text name_symbol (IsName x) (name_text x)) xs
    each_reads xs small = Each-weaker IsSmallName (λ x. ReadsAs text name_symbol (IsName x) (name_text x)) name_reads xs small

    -- `%1, %2`, the results of an instruction
    pub result_names_read : (xs : List A) (after : List ℕ) → Each IsSmallName xs → Ends after → Stands text n.Names (AreNames xs) (listed name_text xs ++ after) after
    result_names_read xs after small ends = list_reads text name_symbol n.MoreNames IsName AreNames name_text n.Names result_names xs (each_reads xs small) after ends

    -- the same, the arguments of a call
    pub argument_names_read : (xs : List A) (after : List ℕ) → Each IsSmallName xs → Ends after → Stands text n.BareNames (AreNames xs) (listed name_text xs ++ after) after
    argument_names_read xs after small ends = list_reads text name_symbol n.MoreNames IsName AreNames name_text n.BareNames argument_names xs (each_reads xs small) after ends

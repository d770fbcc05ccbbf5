-- A printed vtable reads as itself.
use Rattle.std.proofs.Common.{◌≡◌, ℕ, ◌<◌, List, ◌∷◌, ◌++◌, length, Option, Some, None, IfSome, codes, refl}
use Rattle.std.proofs.lemmas.List.{append_assoc}
use Rattle.sil_ast.specs.declared.function.Function.{Function}
use Rattle.sil_ast.specs.declared.vtable.DeinitEntry.{DeinitEntry}
use Rattle.sil_ast.specs.declared.vtable.Vtable.{Vtable}
use Rattle.sil_printer.specs.CanonicalInsts.{function_name}
use Rattle.sil_printer.specs.CanonicalModules.{entry_line, vtable_text}
use Rattle.sil_printer.specs.Words.{line_feed}
use Rattle.sil_grammar_classes.specs.declared.classes.Keyword.TheVariants as k
use Rattle.sil_grammar_classes.specs.declared.classes.Punctuation.TheVariants as m
use Rattle.sil_grammar_tables.specs.declared.grammar.Nonterminal.TheVariants as n
use Rattle.sil_grammar_tables.specs.declared.grammar.Production.TheVariants as p
use Rattle.sil_grammar_tables.specs.Grammar.{body, written}
use Rattle.sil_grammar_classes.specs.Spelling.{punctuation_spelling, spelling}
use Rattle.sil_grammar_tree.specs.declared.written_tree.written_module.WrittenItem.TheVariants as item
use Rattle.sil_grammar_modules.specs.Leaves.{kept_of}
use Rattle.sil_grammar_values.specs.inner.Meaning.{meaning}
use Rattle.sil_grammar_values.specs.Opened.{PartValue}
use Rattle.sil_grammar_values.specs.inner.PartFaults.{part_fault}
use Rattle.sil_grammar_values.specs.Values.{entry_of, item_of, token_of}
use Rattle.numbered_form.specs.Lists.{Each}
use Rattle.numbered_form.specs.Names.{IsFunctionSpelled, IsVtableSpelled, IsWord}
use Rattle.numbered_form.specs.Numbering.{IsVtableInRange}
use Rattle.sil_printer_laws.proofs.Items.{IsItem}
use Rattle.sil_printer_laws.proofs.Braced.{braced_reads}
use Rattle.sil_printer_laws.proofs.FixedTokens.{any_at, any_word, keyword_here, punctuation_here}
use Rattle.sil_printer_laws.proofs.FunctionNames.{is_name_at}
use Rattle.sil_printer_laws.proofs.Pieces.{Stands, Reads as reads}
use Rattle.sil_printer_laws.proofs.ProductionReading.{stands_by}
use Rattle.sil_printer_laws.proofs.Written.{AreBoth, IsEntryWritten, IsVtableWritten, name_in}

-- in a module of these functions
pub record IsVtablePrintable (functions : List Function) (v : Vtable) : Type 0 where
  pub spelled : IsVtableSpelled v
  pub in_range : IsVtableInRange (length functions) v
  pub names : Each IsFunctionSpelled functions

entry_ahead : (owner function rest : List ℕ)
    → (codes "  " ++ ((codes "#" ++ owner ++ codes ".deinit!destroyer: " ++ function) ++ line_feed)) ++ rest
    ≡ 32 ∷ 32 ∷ 35 ∷ (owner ++ (codes ".deinit!destroyer: " ++ (function ++ (10 ∷ rest))))
entry_ahead owner function rest = simp append_assoc refl

abbrev pub IsEntryValue : List Function → Option DeinitEntry → PartValue → Type 0
IsEntryValue functions entry x = AreBoth (IsEntryWritten functions) entry (entry_of x)

-- the entry's line, where there is one
entry_reads : (text : List ℕ) (functions : List Function) (entry : Option DeinitEntry) (rest : List ℕ)
    → IfSome entry (λ e. IsWord e.owner) → IfSome entry (λ e. e.function.0 < length functions) → Each IsFunctionSpelled functions
    → Stands text n.VtableEntry (IsEntryValue functions entry) (entry_line functions entry ++ rest) rest
unfolding body written meaning part_fault spelling punctuation_spelling kept_of token_of entry_of
entry_reads text functions None rest spelled inside names = stands_by p.EntryNone (IsEntryValue functions None) reads.nothing refl tt
entry_reads text functions (Some e) rest spelled inside names =
    let name = is_name_at functions e.function inside names in
    rw (entry_ahead e.owner (function_name functions e.function) rest, name.text)
    (stands_by p.EntrySome (IsEntryValue functions (Some e))
    (reads.blank 32 refl (reads.blank 32 refl (punctuation_here m.Hash 35 refl refl (any_word e.owner spelled refl (punctuation_here m.Dot 46 refl refl (keyword_here k.Deinit refl refl
    (punctuation_here m.Bang 33 refl refl (keyword_here k.Destroyer refl refl (punctuation_here m.Colon 58 refl refl (reads.blank 32 refl
    (any_at (name_in functions e.function) name.spelled refl (reads.blank 10 refl reads.nothing)))))))))))) refl
    (record { owner = refl; function = refl }))

pub vtable_reads : (text : List ℕ) (functions : List Function) (v : Vtable) (after : List ℕ) → IsVtablePrintable functions v
    → Stands text n.Item (IsItem item.Vtable (IsVtableWritten functions) v) (vtable_text functions v ++ after) after
unfolding body written meaning part_fault spelling item_of
vtable_reads text functions v after printable =
    let entry = entry_reads text functions v.entry (125 ∷ 10 ∷ after) printable.spelled.owner printable.in_range printable.names in
    let whole = braced_reads k.SilVtable v.class_name (entry_line functions v.entry) after refl printable.spelled.name entry in
    stands_by p.VtableItem (IsItem item.Vtable (IsVtableWritten functions) v) whole.reads refl
    (record { item = _; is_item = refl; stands = record { name = whole.named; entry = entry.stands } })

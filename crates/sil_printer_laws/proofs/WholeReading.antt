-- A printed module reads as itself, where each of its parts may be printed.
use Rattle.std.proofs.Common.{◌≡◌, ℕ, ◌≤◌, suc, List, [], ◌∷◌, ◌++◌, length, map, None, Bool, true, false, codes, refl, ap, sym, ◌∙◌, arith}
use Rattle.std.specs.List.{flat_map}
use Rattle.std.proofs.lemmas.List.{append_assoc, append-nil, length-map}
use Rattle.std.proofs.lemmas.Slice.Zip.{AllZip-long}
use Rattle.sil_ast.specs.declared.module.Imports.{Imports}
use Rattle.sil_ast.specs.declared.module.Module.{Module}
use Rattle.sil_ast.specs.declared.module.Stage.{Stage}
use Rattle.sil_ast.specs.declared.module.Stage.TheVariants as stage
use Rattle.sil_printer.specs.CanonicalDecls.{decl_text}
use Rattle.sil_printer.specs.CanonicalFunctions.{function_text}
use Rattle.sil_printer.specs.CanonicalModules.{canonical_text, imports_by, imports_text, stage_text, vtable_text}
use Rattle.sil_printer.specs.Words.{each_behind, line_feed}
use Rattle.sil_grammar_classes.specs.declared.classes.Keyword.TheVariants as k
use Rattle.sil_grammar_tables.specs.declared.grammar.Nonterminal.TheVariants as n
use Rattle.sil_grammar_tables.specs.declared.grammar.Production.TheVariants as p
use Rattle.sil_grammar_tables.specs.Grammar.{body, written}
use Rattle.sil_grammar_classes.specs.Spelling.{spelling}
use Rattle.sil_rules.specs.declared.limit_word.LimitWord.TheVariants as limit
use Rattle.sil_grammar_tree.specs.declared.written_tree.written_declarations.WrittenDecl.{WrittenDecl}
use Rattle.sil_grammar_tree.specs.declared.written_tree.written_functions.WrittenFunction.{WrittenFunction}
use Rattle.sil_grammar_tree.specs.declared.written_tree.written_module.WrittenItem.{WrittenItem}
use Rattle.sil_grammar_tree.specs.declared.written_tree.written_module.WrittenItem.TheVariants as item
use Rattle.sil_grammar_tree.specs.declared.written_tree.written_module.WrittenModule.{WrittenModule}
use Rattle.sil_grammar_tree.specs.declared.written_tree.written_module.WrittenVtable.{WrittenVtable}
use Rattle.sil_grammar_tree.specs.WrittenTree.Faults.{passed}
use Rattle.sil_grammar_modules.specs.Leaves.{kept_of}
use Rattle.sil_grammar_values.specs.inner.Meaning.{meaning}
use Rattle.sil_grammar_values.specs.Imports.{with_import}
use Rattle.sil_grammar_values.specs.Opened.{PartValue, module_value}
use Rattle.sil_grammar_values.specs.inner.PartFaults.{module_fault, part_fault}
use Rattle.sil_grammar_tree.specs.WrittenTree.Places.{decl_names, function_names, token_place}
use Rattle.sil_grammar_tree.proofs.WrittenTree.FaultOrder.{neither}
use Rattle.sil_grammar_values.specs.Values.{imports_of, items_of, stage_of, token_of}
use Rattle.numbered_form.specs.Lists.{Each}
use Rattle.numbered_form.specs.Names.{IsWord}
use Rattle.sil_printer_laws.proofs.DeclReading.{IsDeclPrintable, decl_reads}
use Rattle.sil_printer_laws.proofs.FixedTokens.{any_word, keyword_here}
use Rattle.sil_printer_laws.proofs.FunctionReading.{IsFunctionPrintable, function_reads}
use Rattle.sil_printer_laws.proofs.Items.{items_in_front, no_items}
use Rattle.sil_printer_laws.proofs.PartLimits.{not_passed}
use Rattle.sil_printer_laws.proofs.Pieces.{Stands, Reads as reads}
use Rattle.sil_printer_laws.proofs.ProductionReading.{blank_here, stands_by, part_here}
use Rattle.sil_printer_laws.proofs.VtableReading.{IsVtablePrintable, vtable_reads}
use Rattle.sil_printer_laws.proofs.Written.{IsDeclWritten, IsFunctionWritten, IsModuleWritten, IsVtableWritten}

-- the value is a module that is written so
pub record IsModuleValue (m : Module) (x : PartValue) : Type 0 where
  pub written : WrittenModule
  pub value : x ≡ module_value written
  pub is_written : IsModuleWritten m written

pub record IsModulePrintable (m : Module) : Type 0 where
  pub decls : Each IsDeclPrintable m.decls
  pub functions : Each (IsFunctionPrintable m.functions) m.functions
  pub vtables : Each (IsVtablePrintable m.functions) m.vtables
  pub few_decls : length m.decls ≤ 1024
  pub few_functions : length m.functions ≤ 1024

-- the stage and the imports

stage_reads : (text : List ℕ) (s : Stage) (rest : List ℕ) → Stands text n.Stage (λ x. stage_of x ≡ s) (stage_text s ++ rest) rest
unfolding body written meaning part_fault spelling stage_of
stage_reads text stage.Raw rest =
    let word = stands_by p.Raw (λ x. stage_of x ≡ stage.Raw) (keyword_here k.Raw refl refl (reads.blank 10 refl reads.nothing)) refl refl in
    stands_by p.StageSome (λ x. stage_of x ≡ stage.Raw) (keyword_here k.SilStage refl refl (reads.blank 32 refl (part_here word reads.nothing))) refl word.stands
stage_reads text stage.Canonical rest =
    let word = stands_by p.Canonical (λ x. stage_of x ≡ stage.Canonical) (keyword_here k.Canonical refl refl (reads.blank 10 refl reads.nothing)) refl refl in
    stands_by p.StageSome (λ x. stage_of x ≡ stage.Canonical) (keyword_here k.SilStage refl refl (reads.blank 32 refl (part_here word reads.nothing))) refl word.stands

abbrev pub AreImports : Imports → PartValue → Type 0
AreImports imports x = imports_of x ≡ imports

abbrev pub imported : Bool → Bool → Imports
imported builtin swift = record { builtin = builtin; swift = swift }

no_imports : (text rest : List ℕ) → Stands text n.Imports (AreImports (imported false false)) rest rest
unfolding body written meaning part_fault imports_of
no_imports text rest = stands_by p.ImportsEnd (AreImports (imported false false)) reads.nothing refl refl

-- the line of one import in front of others
import_reads : (text name : List ℕ) (imports : Imports) (left after : List ℕ) → IsWord name → Stands text n.Imports (AreImports imports) left after
    → Stands text n.Imports (AreImports (with_import name imports)) (codes "import " ++ (name ++ (10 ∷ left))) after
unfolding body written meaning part_fault spelling kept_of token_of imports_of
import_reads text name imports left after spelled others =
    stands_by p.ImportsMore (AreImports (with_import name imports))
    (keyword_here k.Import refl refl (reads.blank 32 refl (any_word name spelled refl (reads.blank 10 refl (part_here others reads.nothing))))) refl
    (ap (with_import name) others.stands)

imports_read : (text : List ℕ) (builtin swift : Bool) (rest : List ℕ)
    → Stands text n.Imports (AreImports (imported builtin swift)) (imports_by builtin swift ++ rest) rest
imports_read text false false rest = no_imports text rest
imports_read text true false rest = blank_here 10 refl (import_reads text (codes "Builtin") (imported false false) rest rest refl (no_imports text rest))
imports_read text false true rest = blank_here 10 refl (import_reads text (codes "Swift") (imported false false) rest rest refl (no_imports text rest))
imports_read text true true rest =
    let swift = import_reads text (codes "Swift") (imported false false) rest rest refl (no_imports text rest) in
    blank_here 10 refl (import_reads text (codes "Builtin") (imported false true) (codes "import Swift" ++ (10 ∷ rest)) rest refl swift)

-- no limit is passed

decl_places : (decls : List WrittenDecl) (functions : List WrittenFunction) (vtables : List WrittenVtable)
    → length (flat_map decl_names (map item.Decl decls ++ map item.Function functions ++ map item.Vtable vtables)) ≡ length decls
decl_places (d ∷ decls) functions vtables = ap suc (decl_places decls functions vtables)
decl_places [] (f ∷ functions) vtables = decl_places [] functions vtables
decl_places [] [] (v ∷ vtables) = decl_places [] [] vtables
decl_places [] [] [] = refl

function_places : (decls : List WrittenDecl) (functions : List WrittenFunction) (vtables : List WrittenVtable)
    → length (flat_map function_names (map item.Decl decls ++ map item.Function functions ++ map item.Vtable vtables)) ≡ length functions
function_places (d ∷ decls) functions vtables = function_places decls functions vtables
function_places [] (f ∷ functions) vtables = ap suc (function_places [] functions vtables)
function_places [] [] (v ∷ vtables) = function_places [] [] vtables
function_places [] [] [] = refl

items_are_good : (items : List WrittenItem) (decls : List WrittenDecl) (functions : List WrittenFunction) (vtables : List WrittenVtable)
    → items ≡ map item.Decl decls ++ map item.Function functions ++ map item.Vtable vtables → length decls ≤ 1024 → length functions ≤ 1024
    → module_fault items ≡ None
items_are_good items decls functions vtables e few_decls few_functions =
    let d : length (map token_place (flat_map decl_names items)) ≡ length decls =
    length-map (flat_map decl_names items) token_place ∙ ap (λ items. length (flat_map decl_names items)) e ∙ decl_places decls functions vtables in
    let f : length (map token_place (flat_map function_names items)) ≡ length functions =
    length-map (flat_map function_names items) token_place ∙ ap (λ items. length (flat_map function_names items)) e ∙ function_places decls functions vtables in
    neither (passed limit.Declarations 1024 (map token_place (flat_map decl_names items))) (passed limit.Functions 1024 (map token_place (flat_map function_names items)))
    (not_passed limit.Declarations 1024 (map token_place (flat_map decl_names items)) (omega (arith, d, few_decls)))
    (not_passed limit.Functions 1024 (map token_place (flat_map function_names items)) (omega (arith, f, few_functions)))

-- the whole

module_ahead : (a b c d e : List ℕ) → a ++ b ++ c ++ d ++ e ≡ a ++ (b ++ (c ++ (d ++ (e ++ []))))
module_ahead a b c d e = simp (append_assoc, append-nil) refl

items_nested : (items a b c rest more : List WrittenItem) → items ≡ a ++ rest → rest ≡ b ++ more → more ≡ c ++ [] → items ≡ a ++ b ++ c
items_nested items a b c rest more e f g = e ∙ ap (λ rest. a ++ rest) (f ∙ ap (λ more. b ++ more) (g ∙ append-nil c)) ∙ sym (append_assoc a b c)

pub whole_reads : (text : List ℕ) (m : Module) → IsModulePrintable m → Stands text n.Module (IsModuleValue m) (canonical_text m) []
unfolding body written meaning part_fault
whole_reads text m printable =
    let vtables_text = each_behind line_feed (vtable_text m.functions) m.vtables in
    let functions_text = each_behind line_feed (function_text m.functions) m.functions in
    let decls_text = each_behind line_feed decl_text m.decls in
    let none = no_items text [] in
    let vtables = items_in_front text item.Vtable (IsVtableWritten m.functions) (vtable_text m.functions) (IsVtablePrintable m.functions) (vtable_reads text m.functions)
    m.vtables printable.vtables [] [] none in
    let functions = items_in_front text item.Function (IsFunctionWritten m.functions) (function_text m.functions) (IsFunctionPrintable m.functions) (function_reads text m.functions)
    m.functions printable.functions (vtables_text ++ []) [] vtables in
    let decls = items_in_front text item.Decl IsDeclWritten decl_text IsDeclPrintable (decl_reads text) m.decls printable.decls (functions_text ++ (vtables_text ++ [])) [] functions in
    let imports = imports_read text m.imports.builtin m.imports.swift (decls_text ++ (functions_text ++ (vtables_text ++ []))) in
    let stage = stage_reads text m.stage (imports_text m.imports ++ (decls_text ++ (functions_text ++ (vtables_text ++ [])))) in
    let items : items_of decls.value ≡ map item.Decl decls.stands.ws ++ map item.Function functions.stands.ws ++ map item.Vtable vtables.stands.ws =
    items_nested (items_of decls.value) (map item.Decl decls.stands.ws) (map item.Function functions.stands.ws) (map item.Vtable vtables.stands.ws)
    (items_of functions.value) (items_of vtables.value) decls.stands.are_items functions.stands.are_items
    (vtables.stands.are_items ∙ ap (λ rest. map item.Vtable vtables.stands.ws ++ rest) none.stands) in
    rw (module_ahead (stage_text m.stage) (imports_text m.imports) decls_text functions_text vtables_text)
    (stands_by p.WholeModule (IsModuleValue m) (part_here stage (part_here imports (part_here decls reads.nothing)))
    (items_are_good (items_of decls.value) decls.stands.ws functions.stands.ws vtables.stands.ws items
    (omega (arith, AllZip-long IsDeclWritten m.decls decls.stands.ws decls.stands.stand, printable.few_decls))
    (omega (arith, AllZip-long (IsFunctionWritten m.functions) m.functions functions.stands.ws functions.stands.stand, printable.few_functions)))
    (record {
      written = _;
      value = refl;
      is_written = record {
        stage = stage.stands;
        imports = imports.stands;
        decls = decls.stands.ws;
        functions = functions.stands.ws;
        vtables = vtables.stands.ws;
        items = items;
        decls_written = decls.stands.stand;
        functions_written = functions.stands.stand;
        vtables_written = vtables.stands.stand;
      };
    }))

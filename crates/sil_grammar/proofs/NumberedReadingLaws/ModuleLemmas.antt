-- A module that is written without a fault is good, with each of its items.
use Rattle.std.proofs.Common.{List, [], ◌∷◌, subst, refl, flat_map}
use Rattle.sil_lexer.specs.Lexes.{Lexeme}
use Rattle.sil_grammar_classes.specs.declared.classes.Class.{Class}
use Rattle.sil_grammar_shape.specs.declared.steps.Step.{Step}
use Rattle.sil_grammar_shape.specs.Derivation.{start}
use Rattle.sil_grammar_tree.specs.declared.written_tree.written_declarations.WrittenDecl.{WrittenDecl}
use Rattle.sil_grammar_tree.specs.declared.written_tree.written_module.WrittenItem.{WrittenItem}
use Rattle.sil_grammar_tree.specs.declared.written_tree.written_module.WrittenItem.TheVariants as item
use Rattle.sil_grammar_tree.specs.declared.written_tree.written_module.WrittenModule.{WrittenModule}
use Rattle.sil_grammar_values.specs.Opened.{module_value}
use Rattle.sil_grammar_names.specs.NameScopes.Names.{decls_of, functions_of, vtables_of}
use Rattle.sil_grammar_names.specs.NameResolution.Resolved.{resolved_decl}
use Rattle.numbered_form.specs.Lists.{Each}
use Rattle.sil_grammar.specs.NumberedReadingLaws.inner.Laws.{IsWritten}
use Rattle.sil_grammar.proofs.NumberedReadingLaws.ListsAndFaults.{Each-flat_map}
use Rattle.sil_grammar.proofs.NumberedReadingLaws.FaultlessParts.{IsGoodDecl, IsGoodFunction, IsGoodItem, IsGoodModule, IsGoodPart, IsGoodVtable}
use Rattle.sil_grammar.proofs.NumberedReadingLaws.ReplayLemmas.{AreGood, good_replay}

module_good : (w : WrittenModule) → AreGood start (module_value w ∷ []) → IsGoodModule w
unfolding IsGoodPart
module_good w g = g.0 w refl

pub good_written : (classes : List Class) (lexemes : List Lexeme) (steps : List Step) (w : WrittenModule) → IsWritten classes lexemes steps w → IsGoodModule w
good_written classes lexemes steps w h = module_good w (subst (AreGood start) h.writes (good_replay h.derived lexemes h.leaves h.no_fault))

abbrev pub WritesGoodDecl : WrittenDecl → Type 0
WritesGoodDecl d = IsGoodDecl (resolved_decl d)

item_decls : (i : WrittenItem) → IsGoodItem i → Each WritesGoodDecl (decls_of i)
item_decls (item.Decl d) g = (g, tt)
item_decls (item.Function f) g = tt
item_decls (item.Vtable t) g = tt

item_functions : (i : WrittenItem) → IsGoodItem i → Each IsGoodFunction (functions_of i)
item_functions (item.Decl d) g = tt
item_functions (item.Function f) g = (g, tt)
item_functions (item.Vtable t) g = tt

item_vtables : (i : WrittenItem) → IsGoodItem i → Each IsGoodVtable (vtables_of i)
item_vtables (item.Decl d) g = tt
item_vtables (item.Function f) g = tt
item_vtables (item.Vtable t) g = (g, tt)

pub good_decls : (items : List WrittenItem) → Each IsGoodItem items → Each WritesGoodDecl (flat_map decls_of items)
good_decls items g = Each-flat_map decls_of IsGoodItem WritesGoodDecl item_decls items g

pub good_functions : (items : List WrittenItem) → Each IsGoodItem items → Each IsGoodFunction (flat_map functions_of items)
good_functions items g = Each-flat_map functions_of IsGoodItem IsGoodFunction item_functions items g

pub good_vtables : (items : List WrittenItem) → Each IsGoodItem items → Each IsGoodVtable (flat_map vtables_of items)
good_vtables items g = Each-flat_map vtables_of IsGoodItem IsGoodVtable item_vtables items g

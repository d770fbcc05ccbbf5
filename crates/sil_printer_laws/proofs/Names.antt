-- The names in the text of a printed module stand for the module's own numbers.
use Rattle.std.proofs.Common.{◌≡◌, List, [], ◌∷◌, ◌++◌, map, None, ap, sym, refl, subst, ◌∙◌, flat_map}
use Rattle.std.proofs.lemmas.Simd.{map-map}
use Rattle.sil_ast.specs.declared.module.Imports.{Imports}
use Rattle.sil_ast.specs.declared.module.Module.{Module}
use Rattle.sil_grammar_tree.specs.declared.written_tree.written_declarations.WrittenDecl.{WrittenDecl}
use Rattle.sil_grammar_tree.specs.declared.written_tree.written_module.WrittenModule.{WrittenModule}
use Rattle.sil_grammar_names.specs.NameScopes.NameFaults.{function_fault, members_fault, name_fault, twice_after}
use Rattle.sil_grammar_tree.specs.WrittenTree.Places.{name_of_decl}
use Rattle.sil_grammar_tree.proofs.WrittenTree.FaultOrder.{neither}
use Rattle.sil_grammar_names.specs.NameScopes.Names.{Name, function_name, member_names, name_of, used_by_item, vtable_name}
use Rattle.sil_grammar_names.specs.NameResolution.Resolved.{resolved, resolved_decl, resolved_function, resolved_vtable}
use Rattle.numbered_form.specs.Lists.{Each}
use Rattle.numbered_form.specs.Names.{AreMembersOnce, AreOnce}
use Rattle.sil_ast.specs.Imports.{reserved}
use Rattle.numbered_form.specs.Names as spelled
use Rattle.numbered_form.specs.inner.NumberedForm.{IsNumbered}
use Rattle.sil_grammar.proofs.NumberedReadingLaws.OnceLemmas.{decl_kept, members_kept, names_kept}
use Rattle.sil_printer_laws.proofs.NoFaults.{IsKnown, never_twice, never_unknown, none_of_each}
use Rattle.sil_printer_laws.proofs.ResolvedFunctions.{IsFunctionRead, function_is, no_function_fault}
use Rattle.sil_printer_laws.proofs.ResolvedModules.{decls_are, decls_read, functions_are, functions_named, functions_read, names_written, used_known, vtables_are, vtables_read}
use Rattle.sil_printer_laws.proofs.SideBySide.{zip_each, zip_read, zip_same, zip_weaker}
use Rattle.sil_printer_laws.proofs.Written.{IsModuleWritten, IsVtableWritten}

decls_once : (m : Module) (w : WrittenModule) → IsNumbered m → (r : IsModuleWritten m w) → twice_after (reserved w.imports) (map name_of_decl r.decls) ≡ None
decls_once m w n r =
    let names : map name_of (map name_of_decl r.decls) ≡ map spelled.decl_name m.decls =
    names_kept resolved_decl spelled.decl_name name_of_decl decl_kept r.decls ∙ ap (map spelled.decl_name) (sym (decls_read m w r)) in
    never_twice (reserved w.imports) (map name_of_decl r.decls)
    (subst (λ (ns : List Name). AreOnce (reserved w.imports ++ ns)) (sym names) (subst (λ (i : Imports). AreOnce (reserved i ++ map spelled.decl_name m.decls)) (sym r.imports) n.once.declarations))

functions_once : (m : Module) (w : WrittenModule) → IsNumbered m → (r : IsModuleWritten m w) → twice_after [] (map function_name r.functions) ≡ None
functions_once m w n r = never_twice [] (map function_name r.functions) (subst AreOnce (sym (map-map name_of function_name r.functions)) (functions_named m w n r).once)

vtables_once : (m : Module) (w : WrittenModule) → IsNumbered m → (r : IsModuleWritten m w) → twice_after [] (map vtable_name r.vtables) ≡ None
vtables_once m w n r =
    let names : map name_of (map vtable_name r.vtables) ≡ map spelled.class_name m.vtables =
    map-map name_of vtable_name r.vtables ∙ zip_same spelled.class_name (λ t. name_of (vtable_name t)) m.vtables r.vtables
    (zip_weaker (IsVtableWritten m.functions) (λ t u. u.class_name.text ≡ t.class_name) (λ t u h. h.name) m.vtables r.vtables r.vtables_written) in
    never_twice [] (map vtable_name r.vtables) (subst AreOnce (sym names) n.once.vtables)

members_once : (ds : List WrittenDecl) → Each AreMembersOnce (map resolved_decl ds) → Each (λ d. members_fault d ≡ None) ds
members_once [] e = tt
members_once (d ∷ ds) e = (never_twice [] (member_names d) (subst AreOnce (sym (members_kept d)) e.0), members_once ds e.1)

pub no_name_fault : (m : Module) (w : WrittenModule) → IsNumbered m → IsModuleWritten m w → name_fault w ≡ None
unfolding name_fault
no_name_fault m w n r =
    let named : map name_of (map function_name r.functions) ≡ names_written m w r = map-map name_of function_name r.functions in
    let known : Each (IsKnown (map name_of (map function_name r.functions))) (flat_map used_by_item w.items) =
    subst (λ (names : List Name). Each (IsKnown names) (flat_map used_by_item w.items)) (sym named) (used_known m w n r) in
    let members : Each (λ d. members_fault d ≡ None) r.decls = members_once r.decls (subst (Each AreMembersOnce) (decls_read m w r) n.once.members) in
    let functions : Each (λ f. function_fault f ≡ None) r.functions =
    zip_each (IsFunctionRead m.functions (names_written m w r)) (λ f. function_fault f ≡ None) (no_function_fault m.functions (names_written m w r)) m.functions r.functions (functions_read m w n r) in
    rw (decls_are m w r, functions_are m w r, vtables_are m w r)
    (neither _ _ (decls_once m w n r)
    (neither _ _ (functions_once m w n r)
    (neither _ _ (vtables_once m w n r)
    (neither _ _ (never_unknown (map function_name r.functions) (flat_map used_by_item w.items) known)
    (neither _ _ (none_of_each members_fault r.decls members)
    (neither _ _ (none_of_each function_fault r.functions functions)
    refl))))))

pub stands_for : (m : Module) (w : WrittenModule) → IsNumbered m → IsModuleWritten m w → m ≡ resolved w
unfolding resolved
stands_for m w n r =
    let names : List Name = names_written m w r in
    let functions : m.functions ≡ map (resolved_function names) r.functions =
    zip_read (resolved_function names) m.functions r.functions
    (zip_weaker (IsFunctionRead m.functions names) (λ f g. f ≡ resolved_function names g) (function_is m.functions names) m.functions r.functions (functions_read m w n r)) in
    let vtables : m.vtables ≡ map (resolved_vtable names) r.vtables = vtables_read m w n r in
    let decls : m.decls ≡ map resolved_decl r.decls = decls_read m w r in
    rw (decls_are m w r, functions_are m w r, vtables_are m w r)
    (λ k. record { stage = sym r.stage k; imports = sym r.imports k; decls = decls k; functions = functions k; vtables = vtables k })

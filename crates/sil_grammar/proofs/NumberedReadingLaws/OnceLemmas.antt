-- No name of a module that is read is given twice.
use Rattle.std.proofs.Common.{◌≡◌, List, [], ◌∷◌, ◌++◌, map, None, Bool, true, false, if◌then◌else◌, ◌||◌, Contains, ap, sym}
use Rattle.std.proofs.Common.{refl, subst, ◌∙◌, codes, flat_map, append_assoc, append-nil, true≢false, ⊎_elim, ap₂}
use Rattle.std.specs.List.{list_any}
use Rattle.std.specs.Str.{bytes_eq}
use Rattle.std.proofs.lemmas.List.Elements.{Contains-push_cases}
use Rattle.std.proofs.lemmas.List.Folds.{list_any_at}
use Rattle.std.proofs.lemmas.Slice.Eq.{bytes_eq-Decides}
use Rattle.sil_ast.specs.declared.module.Imports.{Imports}
use Rattle.sil_grammar_tree.specs.declared.written_tree.fault.FaultKind.TheVariants.{Twice}
use Rattle.sil_grammar_tree.specs.declared.written_tree.written_declarations.WrittenDecl.{WrittenDecl}
use Rattle.sil_grammar_tree.specs.declared.written_tree.written_declarations.WrittenDecl.TheVariants as decl
use Rattle.sil_grammar_tree.specs.declared.written_tree.written_declarations.WrittenToken.{WrittenToken}
use Rattle.sil_grammar_tree.specs.declared.written_tree.written_functions.WrittenFunction.{WrittenFunction}
use Rattle.sil_grammar_tree.specs.declared.written_tree.written_module.WrittenModule.{WrittenModule}
use Rattle.sil_grammar_tree.specs.declared.written_tree.written_module.WrittenVtable.{WrittenVtable}
use Rattle.sil_grammar_tree.specs.WrittenTree.Faults.{earliest, fault}
use Rattle.sil_grammar_tree.specs.WrittenTree.Places.{name_of_decl}
use Rattle.sil_grammar_tree.proofs.WrittenTree.FaultOrder.{no_first, no_second}
use Rattle.sil_grammar_names.specs.NameScopes.NameFaults.{is_among, members_fault, name_fault, twice_after}
use Rattle.sil_grammar_names.specs.NameScopes.Names.{Name, decls_of, functions_of, name_of, vtables_of}
use Rattle.sil_grammar_names.specs.NameScopes.Names as written
use Rattle.sil_grammar_names.specs.NameResolution.Resolved.{resolved, resolved_case, resolved_decl, resolved_field, resolved_function, resolved_vtable}
use Rattle.numbered_form.specs.Lists.{Each}
use Rattle.numbered_form.specs.Names.{AreMembersOnce, AreNamesOnce, AreOnce, case_name, class_name, decl_name, field_name, function_name, member_names}
use Rattle.sil_ast.specs.Imports.{reserved, swift_names}
use Rattle.sil_grammar.proofs.NumberedReadingLaws.ListsAndFaults.{not_there}

pub same_name : (name : Name) → bytes_eq name name ≡ true
same_name name = (bytes_eq-Decides name name).1 refl

first_false : (a b : Bool) → (a || b) ≡ false → a ≡ false
first_false true b e = e
first_false false b e = refl

second_false : (a b : Bool) → (a || b) ≡ false → b ≡ false
second_false true b e = absurd (true≢false e)
second_false false b e = e

-- a name that no test finds isn't there
not_contained : (names : List Name) (name : Name) → list_any (bytes_eq name) names ≡ false → Contains names name → ⊥
not_contained names name e found =
    let there : list_any (bytes_eq name) names ≡ true = list_any_at (bytes_eq name) names found.0 name found.1 (ap (bytes_eq name) found.2 ∙ same_name name) in
    true≢false (sym there ∙ e)

once_push : (names : List Name) (name : Name) → AreOnce names → list_any (bytes_eq name) names ≡ false → AreOnce (names ++ name ∷ [])
once_push [] name once e = (not_contained [] name refl, tt)
once_push (x ∷ names) name once e = (
  λ found. ⊎_elim once.0 (λ (same : name ≡ x). true≢false (sym (ap (bytes_eq name) (sym same) ∙ same_name name) ∙ first_false (bytes_eq name x) (list_any (bytes_eq name) names) e))
      (Contains-push_cases names name x found),
  once_push names name once.1 (second_false (bytes_eq name x) (list_any (bytes_eq name) names) e),
)

-- no token has the name of one before it
once_after : (names : List Name) (tokens : List WrittenToken) → AreOnce names → twice_after names tokens ≡ None → AreOnce (names ++ map name_of tokens)
once_after names [] once e = rw append-nil once
once_after names (token ∷ tokens) once e =
    let new : is_among names token ≡ false = not_there (is_among names token) (fault Twice token.place) (no_first _ _ e) in
    let rest : AreOnce ((names ++ token.text ∷ []) ++ map name_of tokens) = once_after (names ++ token.text ∷ []) tokens (once_push names token.text once new) (no_second _ _ e) in
    rw append_assoc at rest

once_reserved : (imports : Imports) (swift : Bool) → imports.swift ≡ swift → AreOnce (codes "Builtin" ∷ swift_names swift)
once_reserved imports true e = (
  not_contained (swift_names true) _ refl,
  (not_contained (codes "Bool" ∷ codes "Optional" ∷ []) _ refl, (not_contained (codes "Optional" ∷ []) _ refl, (not_contained [] _ refl, tt))),
)
once_reserved imports false e = (not_contained (swift_names false) _ refl, tt)

-- names are kept

pub names_kept : {A B : Type 0} (f : A → B) (name : B → Name) (token : A → WrittenToken) → ((x : A) → name (f x) ≡ (token x).text) → (xs : List A) → map name_of (map token xs) ≡ map name (map f xs)
names_kept f name token e [] = refl
names_kept f name token e (x ∷ xs) = ap₂ (λ n ns. n ∷ ns) (sym (e x)) (names_kept f name token e xs)

pub decl_kept : (d : WrittenDecl) → decl_name (resolved_decl d) ≡ (name_of_decl d).text
decl_kept (decl.Class name superclass fields) = refl
decl_kept (decl.Struct name fields) = refl
decl_kept (decl.Enum name cases) = refl

pub members_kept : (d : WrittenDecl) → map name_of (written.member_names d) ≡ member_names (resolved_decl d)
members_kept (decl.Class name superclass fields) = names_kept resolved_field field_name written.field_name (λ f. refl) fields
members_kept (decl.Struct name fields) = names_kept resolved_field field_name written.field_name (λ f. refl) fields
members_kept (decl.Enum name cases) = names_kept resolved_case case_name written.case_name (λ c. refl) cases

members_once : (decls : List WrittenDecl) → earliest (map members_fault decls) ≡ None → Each AreMembersOnce (map resolved_decl decls)
members_once [] e = tt
members_once (d ∷ decls) e =
    (subst AreOnce (members_kept d) (once_after [] (written.member_names d) tt (no_first _ _ e)), members_once decls (no_second _ _ e))

once_kept : {A B : Type 0} (f : A → B) (name : B → Name) (token : A → WrittenToken) → ((x : A) → name (f x) ≡ (token x).text)
    → (front : List Name) (xs : List A) → AreOnce front → twice_after front (map token xs) ≡ None → AreOnce (front ++ map name (map f xs))
once_kept f name token e front xs once none = subst (λ (names : List Name). AreOnce (front ++ names)) (names_kept f name token e xs) (once_after front (map token xs) once none)

pub read_once : (w : WrittenModule) → name_fault w ≡ None → AreNamesOnce (resolved w)
unfolding resolved name_fault
read_once w e =
    let decls : List WrittenDecl = flat_map decls_of w.items in
    let functions : List WrittenFunction = flat_map functions_of w.items in
    let vtables : List WrittenVtable = flat_map vtables_of w.items in
    let names : List Name = map (λ f. name_of (written.function_name f)) functions in
    let behind_decls = no_second _ _ e in
    let behind_functions = no_second _ _ behind_decls in
    let behind_vtables = no_second _ _ behind_functions in
    let behind_uses = no_second _ _ behind_vtables in
    record {
      declarations = once_kept resolved_decl decl_name name_of_decl decl_kept (reserved w.imports) decls (once_reserved w.imports w.imports.swift refl) (no_first _ _ e);
      members = members_once decls (no_first _ _ behind_uses);
      functions = once_kept (resolved_function names) function_name written.function_name (λ f. refl) [] functions tt (no_first _ _ behind_decls);
      vtables = once_kept (resolved_vtable names) class_name written.vtable_name (λ t. refl) [] vtables tt (no_first _ _ behind_functions);
    }

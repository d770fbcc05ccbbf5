-- The parts of a printed module beside what is written of them.
use Rattle.std.proofs.Common.{◌≡◌, ◌<◌, List, [], ◌∷◌, ◌++◌, length, map, Option, Some, None, IfSome, ap, ap₂, sym, refl, subst, ◌∙◌, flat_map, append-nil}
use Rattle.std.specs.List.{AllZip}
use Rattle.std.specs.Option.{option_map, option_to_list}
use Rattle.std.proofs.lemmas.Grind.{flat_map-append}
use Rattle.sil_ast.specs.declared.function.Function.{Function}
use Rattle.sil_ast.specs.declared.module.Module.{Module}
use Rattle.sil_ast.specs.declared.vtable.DeinitEntry.{DeinitEntry}
use Rattle.sil_grammar_tree.specs.declared.written_tree.written_declarations.WrittenDecl.{WrittenDecl}
use Rattle.sil_grammar_tree.specs.declared.written_tree.written_module.WrittenEntry.{WrittenEntry}
use Rattle.sil_grammar_tree.specs.declared.written_tree.written_module.WrittenItem.{WrittenItem}
use Rattle.sil_grammar_tree.specs.declared.written_tree.written_module.WrittenItem.TheVariants as item
use Rattle.sil_grammar_tree.specs.declared.written_tree.written_module.WrittenModule.{WrittenModule}
use Rattle.sil_grammar_names.specs.NameScopes.Names.{Name, decls_of, entry_function, function_name, functions_of, name_of, used_by_item, vtables_of}
use Rattle.sil_grammar_names.specs.NameResolution.Resolved.{resolved_decl, resolved_entry, resolved_vtable}
use Rattle.numbered_form.specs.Lists.{Each}
use Rattle.numbered_form.specs.inner.Functions.{IsFormed}
use Rattle.numbered_form.specs.inner.Limits.{IsFunctionInLimits}
use Rattle.numbered_form.specs.Names as spelled
use Rattle.numbered_form.specs.Numbering.{IsFunctionNumbered, IsVtableInRange}
use Rattle.numbered_form.specs.inner.NumberedForm.{IsNumbered}
use Rattle.numbered_form.specs.inner.Parts.{FunctionHasParts}
use Rattle.sil_grammar.proofs.NumberedReadingLaws.ListsAndFaults.{Each-append, Each-flat_map, Each-map}
use Rattle.sil_printer_laws.proofs.Namings.{IsNaming, known, named_functions, placed}
use Rattle.sil_printer_laws.proofs.NoFaults.{IsKnown}
use Rattle.sil_printer_laws.proofs.ResolvedFunctions.{IsFunctionRead, IsSound, calls_known}
use Rattle.sil_printer_laws.proofs.SideBySide.{with_each, zip_each, zip_read, zip_same, zip_weaker}
use Rattle.sil_printer_laws.proofs.UsedNames.{nth_name}
use Rattle.sil_printer_laws.proofs.Written.{AreBoth, IsDeclWritten, IsEntryWritten, IsFunctionWritten, IsModuleWritten, IsVtableWritten}

-- items of one kind

flat_map-three : {A B : Type 0} (f : A → List B) (xs ys zs : List A) → flat_map f (xs ++ ys ++ zs) ≡ flat_map f xs ++ flat_map f ys ++ flat_map f zs
flat_map-three f xs ys zs = flat_map-append f (xs ++ ys) zs ∙ ap (λ front. front ++ flat_map f zs) (flat_map-append f xs ys)

of_kind : {A B : Type 0} (f : B → List A) (g : A → B) → ((x : A) → f (g x) ≡ x ∷ []) → (xs : List A) → flat_map f (map g xs) ≡ xs
of_kind f g h [] = refl
of_kind f g h (x ∷ xs) = ap₂ (λ a rest. a ++ rest) (h x) (of_kind f g h xs)

of_no_kind : {A B C : Type 0} (f : B → List C) (g : A → B) → ((x : A) → f (g x) ≡ []) → (xs : List A) → flat_map f (map g xs) ≡ []
of_no_kind f g h [] = refl
of_no_kind f g h (x ∷ xs) = ap₂ (λ a rest. a ++ rest) (h x) (of_no_kind f g h xs)

pub decls_are : (m : Module) (w : WrittenModule) → (r : IsModuleWritten m w) → flat_map decls_of w.items ≡ r.decls
decls_are m w r =
    ap (flat_map decls_of) r.items ∙ flat_map-three decls_of (map item.Decl r.decls) (map item.Function r.functions) (map item.Vtable r.vtables)
    ∙ ap₂ (λ a b. a ++ b) (ap₂ (λ a b. a ++ b) (of_kind decls_of item.Decl (λ d. refl) r.decls) (of_no_kind decls_of item.Function (λ f. refl) r.functions) ∙ append-nil r.decls)
    (of_no_kind decls_of item.Vtable (λ t. refl) r.vtables) ∙ append-nil r.decls

pub functions_are : (m : Module) (w : WrittenModule) → (r : IsModuleWritten m w) → flat_map functions_of w.items ≡ r.functions
functions_are m w r =
    ap (flat_map functions_of) r.items ∙ flat_map-three functions_of (map item.Decl r.decls) (map item.Function r.functions) (map item.Vtable r.vtables)
    ∙ ap₂ (λ a b. a ++ b) (ap₂ (λ a b. a ++ b) (of_no_kind functions_of item.Decl (λ d. refl) r.decls) (of_kind functions_of item.Function (λ f. refl) r.functions))
    (of_no_kind functions_of item.Vtable (λ t. refl) r.vtables) ∙ append-nil r.functions

pub vtables_are : (m : Module) (w : WrittenModule) → (r : IsModuleWritten m w) → flat_map vtables_of w.items ≡ r.vtables
vtables_are m w r =
    ap (flat_map vtables_of) r.items ∙ flat_map-three vtables_of (map item.Decl r.decls) (map item.Function r.functions) (map item.Vtable r.vtables)
    ∙ ap₂ (λ a b. a ++ b) (ap₂ (λ a b. a ++ b) (of_no_kind vtables_of item.Decl (λ d. refl) r.decls) (of_no_kind vtables_of item.Function (λ f. refl) r.functions))
    (of_kind vtables_of item.Vtable (λ t. refl) r.vtables)

-- declarations

pub decls_read : (m : Module) (w : WrittenModule) → (r : IsModuleWritten m w) → m.decls ≡ map resolved_decl r.decls
decls_read m w r = zip_read resolved_decl m.decls r.decls (zip_weaker IsDeclWritten (λ d w. d ≡ resolved_decl w) (λ d w e. sym e) m.decls r.decls r.decls_written)

-- functions

abbrev pub names_written : (m : Module) (w : WrittenModule) → IsModuleWritten m w → List Name
names_written m w r = map (λ f. name_of (function_name f)) r.functions

pub functions_named : (m : Module) (w : WrittenModule) → IsNumbered m → (r : IsModuleWritten m w) → IsNaming (length m.functions) (nth_name m.functions) (names_written m w r)
functions_named m w n r =
    let same : names_written m w r ≡ map spelled.function_name m.functions =
    zip_same spelled.function_name (λ f. name_of (function_name f)) m.functions r.functions
    (zip_weaker (IsFunctionWritten m.functions) (λ f w. w.name.text ≡ f.name) (λ f w is. is.name) m.functions r.functions r.functions_written) in
    subst (IsNaming (length m.functions) (nth_name m.functions)) (sym same) (named_functions m.functions n.once.functions)

all_sound : (functions fs : List Function) → Each (IsFunctionNumbered (length functions)) fs → Each FunctionHasParts fs → Each IsFormed fs → Each IsFunctionInLimits fs → Each (IsSound functions) fs
all_sound functions [] n p f l = tt
all_sound functions (g ∷ fs) n p f l = (record { numbered = n.0; parts = p.0; formed = f.0; limits = l.0 }, all_sound functions fs n.1 p.1 f.1 l.1)

pub functions_read : (m : Module) (w : WrittenModule) → IsNumbered m → (r : IsModuleWritten m w) → AllZip (IsFunctionRead m.functions (names_written m w r)) m.functions r.functions
functions_read m w n r =
    zip_weaker (λ f w. IsSound m.functions f × IsFunctionWritten m.functions f w) (IsFunctionRead m.functions (names_written m w r))
    (λ f g h. record { sound = h.0; is_written = h.1; named = functions_named m w n r }) m.functions r.functions
    (with_each (IsSound m.functions) (IsFunctionWritten m.functions) m.functions r.functions
    (all_sound m.functions m.functions n.numbering.functions n.parts n.functions n.limits.each) r.functions_written)

-- vtables

entry_known : (functions : List Function) (names : List Name) → IsNaming (length functions) (nth_name functions) names → (e : Option DeinitEntry) (w : Option WrittenEntry)
    → IfSome e (λ e. e.function.0 < length functions) → AreBoth (IsEntryWritten functions) e w → Each (IsKnown names) (map entry_function (option_to_list w))
entry_known functions names n None None below both = tt
entry_known functions names n None (Some w) below both = absurd both
entry_known functions names n (Some e) None below both = absurd both
entry_known functions names n (Some e) (Some w) below both = (known n e.function.0 w.function below both.function, tt)

entry_is : (functions : List Function) (names : List Name) → IsNaming (length functions) (nth_name functions) names → (e : Option DeinitEntry) (w : Option WrittenEntry)
    → IfSome e (λ e. e.function.0 < length functions) → AreBoth (IsEntryWritten functions) e w → e ≡ option_map (resolved_entry names) w
entry_is functions names n None None below both = refl
entry_is functions names n None (Some w) below both = absurd both
entry_is functions names n (Some e) None below both = absurd both
entry_is functions names n (Some e) (Some w) below both = λ k. Some (record { owner = sym both.owner k; function = record { 0 = sym (placed n e.function.0 w.function below both.function) k } })

vtables_beside : (m : Module) (w : WrittenModule) → IsNumbered m → (r : IsModuleWritten m w)
    → AllZip (λ t u. IsVtableInRange (length m.functions) t × IsVtableWritten m.functions t u) m.vtables r.vtables
vtables_beside m w n r = with_each (IsVtableInRange (length m.functions)) (IsVtableWritten m.functions) m.vtables r.vtables n.numbering.vtables r.vtables_written

pub vtables_read : (m : Module) (w : WrittenModule) → IsNumbered m → (r : IsModuleWritten m w) → m.vtables ≡ map (resolved_vtable (names_written m w r)) r.vtables
vtables_read m w n r =
    let names : List Name = names_written m w r in
    zip_read (resolved_vtable names) m.vtables r.vtables
    (zip_weaker (λ t u. IsVtableInRange (length m.functions) t × IsVtableWritten m.functions t u) (λ t u. t ≡ resolved_vtable names u)
    (λ t u h. let entry = entry_is m.functions names (functions_named m w n r) t.entry u.entry h.0 h.1.entry in
    λ k. record { class_name = sym h.1.name k; entry = entry k }) m.vtables r.vtables (vtables_beside m w n r))

-- the functions that items use

pub used_known : (m : Module) (w : WrittenModule) → IsNumbered m → (r : IsModuleWritten m w) → Each (IsKnown (names_written m w r)) (flat_map used_by_item w.items)
used_known m w n r =
    let names : List Name = names_written m w r in
    let P : WrittenItem → Type 0 = λ i. Each (IsKnown names) (used_by_item i) in
    let functions : Each (λ f. P (item.Function f)) r.functions =
    zip_each (IsFunctionRead m.functions names) (λ f. P (item.Function f)) (λ f g h. calls_known m.functions names f g h) m.functions r.functions (functions_read m w n r) in
    let vtables : Each (λ t. P (item.Vtable t)) r.vtables =
    zip_each (λ t u. IsVtableInRange (length m.functions) t × IsVtableWritten m.functions t u) (λ t. P (item.Vtable t))
    (λ t u h. entry_known m.functions names (functions_named m w n r) t.entry u.entry h.0 h.1.entry) m.vtables r.vtables (vtables_beside m w n r) in
    let items : Each P (map item.Decl r.decls ++ map item.Function r.functions ++ map item.Vtable r.vtables) =
    Each-append P (map item.Decl r.decls ++ map item.Function r.functions) (map item.Vtable r.vtables)
    (Each-append P (map item.Decl r.decls) (map item.Function r.functions) (no_uses names r.decls) (Each-map item.Function (λ f. P (item.Function f)) P (λ f h. h) r.functions functions))
    (Each-map item.Vtable (λ t. P (item.Vtable t)) P (λ t h. h) r.vtables vtables) in
    Each-flat_map used_by_item P (IsKnown names) (λ i h. h) w.items (subst (Each P) (sym r.items) items)
  where
    no_uses : (names : List Name) (decls : List WrittenDecl) → Each (λ i. Each (IsKnown names) (used_by_item i)) (map item.Decl decls)
    no_uses names [] = tt
    no_uses names (d ∷ decls) = (tt, no_uses names decls)

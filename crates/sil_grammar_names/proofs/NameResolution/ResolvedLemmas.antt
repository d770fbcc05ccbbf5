-- What is resolved, in parts.
use Rattle.std.proofs.Common.{◌≡◌, ℕ, ◌+◌, ◌<◌, List, [], ◌∷◌, ◌++◌, length, get_or, take, map, refl, sym, ap, ◌∙◌, add_assoc, append_assoc, length-append, arith}
use Rattle.std.specs.Prelude.{Option, None}
use Rattle.std.specs.List.{flat_map}
use Rattle.std.proofs.lemmas.List.{append-nil, length-take-le, map-append, take_more}
use Rattle.sil_grammar_names.specs.NameResolution.inner.Items.{with_items}
use Rattle.sil_ast.specs.declared.module.Module.{Module}
use Rattle.sil_grammar_tree.specs.declared.written_tree.written_module.WrittenItem.{WrittenItem}
use Rattle.sil_ast.specs.declared.place.ValueId.{ValueId}
use Rattle.sil_grammar_names.specs.NameScopes.Names.{Name, decls_of, functions_of, vtables_of}
use Rattle.sil_grammar_names.specs.NameResolution.Resolved.{counted, resolved_decl, resolved_function, resolved_vtable}

-- the numbers behind those of an element and of what follows it
behind : {X : Type 0} (first : ℕ) (xs ys : List X) → (first + length xs) + length ys ≡ first + length (xs ++ ys)
behind first xs ys = add_assoc first (length xs) (length ys) ∙ ap (λ n. first + n) (sym (length-append xs ys))

none_behind : (first : ℕ) → first ≡ first + 0
none_behind first = omega arith

pub counted_append : (first : ℕ) (xs ys : List (Option Name)) → counted first (xs ++ ys) ≡ counted first xs ++ counted (first + length xs) ys
counted_append first [] ys = ap (λ n. counted n ys) (none_behind first)
counted_append first (x ∷ xs) ys =
    ap (λ (l : List ValueId). record { 0 = first } ∷ l)
    (counted_append (first + 1) xs ys
    ∙ ap (λ n. counted (first + 1) xs ++ counted n ys) (behind first (x ∷ []) xs))

-- one number on
pub counted_more : (first i : ℕ) (values : List (Option Name)) → i < length values → counted first (take (i + 1) values) ≡ counted first (take i values) ++ record { 0 = first + i } ∷ []
counted_more first i values inside =
    ap (counted first) (take_more values i None inside)
    ∙ counted_append first (take i values) (get_or values i None ∷ [])
    ∙ ap (λ n. counted first (take i values) ++ record { 0 = first + n } ∷ []) (length-take-le i values (omega arith))

-- as many of each kind, one by one
pub mapped_more : {X Y Z : Type 0} (h : Y → Z) (f : X → List Y) (built : List Z) (x : X) (rest : List X)
    → (built ++ map h (flat_map f (x ∷ []))) ++ map h (flat_map f rest) ≡ built ++ map h (flat_map f (x ∷ rest))
mapped_more h f built x rest =
    append_assoc built (map h (f x ++ [])) (map h (flat_map f rest))
    ∙ ap (λ l. built ++ (map h l ++ map h (flat_map f rest))) (append-nil (f x))
    ∙ ap (λ l. built ++ l) (sym (map-append h (f x) (flat_map f rest)))

pub items_more : (names : List Name) (m : Module) (x : WrittenItem) (rest : List WrittenItem) → with_items names (with_items names m (x ∷ [])) rest ≡ with_items names m (x ∷ rest)
items_more names m x rest =
    rw (mapped_more resolved_decl decls_of m.decls x rest, mapped_more (resolved_function names) functions_of m.functions x rest, mapped_more (resolved_vtable names) vtables_of m.vtables x rest) refl

pub items_done : (names : List Name) (m : Module) → with_items names m [] ≡ m
items_done names m = rw (append-nil m.decls, append-nil m.functions, append-nil m.vtables) refl

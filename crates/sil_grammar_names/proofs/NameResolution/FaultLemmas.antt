-- The first faults so far, in parts, and the first of a module.
use Rattle.std.proofs.Common.{◌≡◌, List, [], ◌∷◌, ◌++◌, map, refl, sym, ap, ◌∙◌}
use Rattle.std.specs.Prelude.{Option, None}
use Rattle.std.specs.List.{flat_map}
use Rattle.std.proofs.lemmas.List.{append-nil, map-append}
use Rattle.std.proofs.lemmas.List.Concat.{flat_map-append}
use Rattle.sil_grammar_tree.specs.declared.written_tree.fault.Fault.{Fault}
use Rattle.sil_grammar_tree.specs.declared.written_tree.written_declarations.WrittenToken.{WrittenToken}
use Rattle.sil_grammar_tree.specs.declared.written_tree.written_instructions.WrittenEdge.{WrittenEdge}
use Rattle.sil_grammar_tree.specs.declared.written_tree.written_instructions.WrittenInst.{WrittenInst}
use Rattle.sil_grammar_tree.specs.declared.written_tree.written_functions.WrittenBlock.{WrittenBlock}
use Rattle.sil_grammar_tree.specs.declared.written_tree.written_functions.WrittenFunction.{WrittenFunction}
use Rattle.sil_grammar_tree.specs.declared.written_tree.written_declarations.WrittenDecl.{WrittenDecl}
use Rattle.sil_grammar_tree.specs.declared.written_tree.written_module.WrittenItem.{WrittenItem}
use Rattle.sil_grammar_tree.specs.declared.written_tree.written_module.WrittenItem.TheVariants as item
use Rattle.sil_grammar_tree.specs.declared.written_tree.written_module.WrittenVtable.{WrittenVtable}
use Rattle.sil_grammar_tree.specs.declared.written_tree.written_module.WrittenModule.{WrittenModule}
use Rattle.sil_grammar_tree.specs.WrittenTree.Faults.{earlier, earliest}
use Rattle.sil_grammar_tree.specs.WrittenTree.Places.{name_of_decl}
use Rattle.sil_grammar_tree.proofs.WrittenTree.FaultOrder.{earlier-assoc, earlier-none}
use Rattle.sil_grammar_names.specs.declared.name_resolution.first_faults.CodeFaults.{CodeFaults}
use Rattle.sil_grammar_names.specs.declared.name_resolution.first_faults.ItemFaults.{ItemFaults}
use Rattle.sil_grammar_names.specs.NameResolution.inner.FirstFaults.{Known, body_fault, known_in, with_body, with_code, with_edges, with_faults}
use Rattle.sil_grammar_names.specs.NameScopes.NameFaults.{function_fault, members_fault, name_fault, twice_after, unknown_among}
use Rattle.sil_grammar_names.specs.NameScopes.Names.{Name, code_of, decls_of, edge_label, edge_values, function_name, functions_of, functions_used, insts_of, label_of}
use Rattle.sil_grammar_names.specs.NameScopes.Names.{labels_used, used_by_item, values_defined, values_used, vtable_name, vtables_of}
use Rattle.sil_ast.specs.Imports.{reserved}
use Rattle.sil_grammar_names.specs.NameScopes.inner.Symbols.{Symbols, labels_in, names_in, numbered_by, unknown_of, values_in}
use Rattle.sil_grammar_names.proofs.NameScopes.DefinedNames.{fault_of_labels, fault_of_values, twice_of_numbered, unknown_of_numbered}
use Rattle.sil_grammar_names.proofs.NameResolution.FaultOrder.{earliest_append, unknown_more}

uses_more : {X : Type 0} (names : List Name) (used : X → List WrittenToken) (first : Option Fault) (xs ys : List X)
    → earlier (earlier first (unknown_of names (flat_map used xs))) (unknown_of names (flat_map used ys)) ≡ earlier first (unknown_of names (flat_map used (xs ++ ys)))
uses_more names used first xs ys = unknown_more names first (flat_map used xs) (flat_map used ys) ∙ ap (λ l. earlier first (unknown_of names l)) (sym (flat_map-append used xs ys))

faults_more : {X Y : Type 0} (fault_of : Y → Option Fault) (parts : X → List Y) (first : Option Fault) (xs ys : List X)
    → earlier (earlier first (earliest (map fault_of (flat_map parts xs)))) (earliest (map fault_of (flat_map parts ys))) ≡ earlier first (earliest (map fault_of (flat_map parts (xs ++ ys))))
faults_more fault_of parts first xs ys =
    earlier-assoc first (earliest (map fault_of (flat_map parts xs))) (earliest (map fault_of (flat_map parts ys)))
    ∙ ap (earlier first)
    (sym (earliest_append (map fault_of (flat_map parts xs)) (map fault_of (flat_map parts ys)))
    ∙ ap earliest (sym (map-append fault_of (flat_map parts xs) (flat_map parts ys)))
    ∙ ap (λ l. earliest (map fault_of l)) (sym (flat_map-append parts xs ys)))

pub code_more : (k : Known) (c : CodeFaults) (xs ys : List WrittenInst) → with_code k (with_code k c xs) ys ≡ with_code k c (xs ++ ys)
unfolding with_code
code_more k c xs ys =
    rw (uses_more k.functions functions_used c.functions xs ys, uses_more k.labels labels_used c.labels xs ys, uses_more k.values values_used c.values xs ys) refl

pub code_done : (k : Known) (c : CodeFaults) → with_code k c [] ≡ c
unfolding with_code
code_done k c = rw (earlier-none c.functions, earlier-none c.labels, earlier-none c.values) refl

pub insts_more : (k : Known) (c : CodeFaults) (x : WrittenInst) (rest : List WrittenInst) → with_code k (with_code k c (x ∷ [])) rest ≡ with_code k c (x ∷ rest)
insts_more k c x rest = code_more k c (x ∷ []) rest

pub blocks_more : (k : Known) (c : CodeFaults) (x : WrittenBlock) (rest : List WrittenBlock)
    → with_code k (with_code k c (code_of x)) (flat_map code_of rest) ≡ with_code k c (flat_map code_of (x ∷ rest))
blocks_more k c x rest = code_more k c (code_of x) (flat_map code_of rest)

pub edges_more : (k : Known) (c : CodeFaults) (x : WrittenEdge) (rest : List WrittenEdge) → with_edges k (with_edges k c (x ∷ [])) rest ≡ with_edges k c (x ∷ rest)
unfolding with_edges
edges_more k c x rest =
    rw (unknown_more k.labels c.labels (edge_label x ∷ []) (map edge_label rest), uses_more k.values edge_values c.values (x ∷ []) rest) refl

pub edges_done : (k : Known) (c : CodeFaults) → with_edges k c [] ≡ c
unfolding with_edges
edges_done k c = rw (earlier-none c.labels, earlier-none c.values) refl

pub item_faults_more : (names : List Name) (i : ItemFaults) (x : WrittenItem) (rest : List WrittenItem) → with_faults names (with_faults names i (x ∷ [])) rest ≡ with_faults names i (x ∷ rest)
unfolding with_faults
item_faults_more names i x rest =
    rw (uses_more names used_by_item i.functions (x ∷ []) rest, faults_more members_fault decls_of i.members (x ∷ []) rest, faults_more function_fault functions_of i.bodies (x ∷ []) rest) refl

pub item_faults_done : (names : List Name) (i : ItemFaults) → with_faults names i [] ≡ i
unfolding with_faults
item_faults_done names i = rw (earlier-none i.functions, earlier-none i.members, earlier-none i.bodies) refl

-- the faults of a function's code begin with the labels and values that are defined twice
pub body_done : (functions : Symbols) (blocks : List WrittenBlock) (i : ItemFaults) (code : CodeFaults)
    → code ≡ with_code (known_in functions (labels_in blocks) (values_in blocks))
    (record { functions = i.functions; labels = (labels_in blocks).twice; values = (values_in blocks).twice }) (flat_map code_of blocks)
    → record { functions = code.functions; members = i.members; bodies = earlier i.bodies (earlier code.labels code.values) } ≡ with_body (names_in functions) i blocks
unfolding with_code
body_done functions blocks i code is =
    let insts : List WrittenInst = flat_map code_of blocks in
    ap (λ (c : CodeFaults). record { functions = c.functions; members = i.members; bodies = earlier i.bodies (earlier c.labels c.values) }) is
    ∙ rw (fault_of_labels blocks (flat_map labels_used insts), fault_of_values blocks (flat_map values_used insts)) refl

fault_of_body : (f : WrittenFunction) → body_fault f.blocks ≡ function_fault f
fault_of_body f =
    let insts : List WrittenInst = insts_of f in
    let labels : Option Fault = twice_after [] (map label_of f.blocks) in
    let unknown_labels : Option Fault = unknown_among (map label_of f.blocks) (flat_map labels_used insts) in
    let values : Option Fault = twice_after [] (flat_map values_defined f.blocks) in
    let unknown_values : Option Fault = unknown_among (flat_map values_defined f.blocks) (flat_map values_used insts) in
    earlier-assoc labels unknown_labels (earlier values unknown_values)
    ∙ ap (λ last. earlier labels (earlier unknown_labels (earlier values last))) (sym (earlier-none unknown_values))

-- a function is one more item
pub function_faults : (names : List Name) (i : ItemFaults) (f : WrittenFunction) → with_body names i f.blocks ≡ with_faults names i (item.Function f ∷ [])
unfolding with_faults
function_faults names i f =
    let used : List WrittenToken = flat_map functions_used (insts_of f) in
    ap (λ l. record { functions = earlier i.functions (unknown_of names l); members = i.members; bodies = earlier i.bodies (body_fault f.blocks) }) (sym (append-nil used))
    ∙ ap (λ members. record { functions = earlier i.functions (unknown_of names (used ++ [])); members = members; bodies = earlier i.bodies (body_fault f.blocks) }) (sym (earlier-none i.members))
    ∙ ap (λ fault. record { functions = earlier i.functions (unknown_of names (used ++ [])); members = earlier i.members None; bodies = earlier i.bodies fault }) (fault_of_body f
    ∙ sym (earlier-none (function_fault f)))

-- so is a declaration
pub decl_faults : (names : List Name) (i : ItemFaults) (d : WrittenDecl)
    → record { functions = i.functions; members = earlier i.members (members_fault d); bodies = i.bodies } ≡ with_faults names i (item.Decl d ∷ [])
unfolding with_faults
decl_faults names i d =
    ap (λ functions. record { functions = functions; members = earlier i.members (members_fault d); bodies = i.bodies }) (sym (earlier-none i.functions))
    ∙ ap (λ fault. record { functions = earlier i.functions None; members = earlier i.members fault; bodies = i.bodies }) (sym (earlier-none (members_fault d)))
    ∙ ap (λ bodies. record { functions = earlier i.functions None; members = earlier i.members (earlier (members_fault d) None); bodies = bodies }) (sym (earlier-none i.bodies))

-- and a vtable
pub vtable_faults : (names : List Name) (i : ItemFaults) (t : WrittenVtable)
    → record { functions = earlier i.functions (unknown_of names (used_by_item (item.Vtable t))); members = i.members; bodies = i.bodies } ≡ with_faults names i (item.Vtable t ∷ [])
unfolding with_faults
vtable_faults names i t =
    let used : List WrittenToken = used_by_item (item.Vtable t) in
    ap (λ l. record { functions = earlier i.functions (unknown_of names l); members = i.members; bodies = i.bodies }) (sym (append-nil used))
    ∙ ap (λ members. record { functions = earlier i.functions (unknown_of names (used ++ [])); members = members; bodies = i.bodies }) (sym (earlier-none i.members))
    ∙ ap (λ bodies. record { functions = earlier i.functions (unknown_of names (used ++ [])); members = earlier i.members None; bodies = bodies }) (sym (earlier-none i.bodies))

-- the faults of all parts of a module
pub fault_of_parts : (w : WrittenModule) (functions : List WrittenToken) → functions ≡ map function_name (flat_map functions_of w.items)
    → (faults : ItemFaults) → faults ≡ with_faults (names_in (numbered_by functions)) (record { functions = None; members = None; bodies = None }) w.items
    → earlier
    (earlier (twice_after (reserved w.imports) (map name_of_decl (flat_map decls_of w.items))) (earlier (numbered_by functions).twice (twice_after [] (map vtable_name (flat_map vtables_of w.items)))))
    (earlier faults.functions (earlier faults.members faults.bodies))
    ≡ name_fault w
unfolding earlier with_faults name_fault
fault_of_parts w functions same faults is =
    let decls : Option Fault = twice_after (reserved w.imports) (map name_of_decl (flat_map decls_of w.items)) in
    let twice : Option Fault = twice_after [] (map function_name (flat_map functions_of w.items)) in
    let vtables : Option Fault = twice_after [] (map vtable_name (flat_map vtables_of w.items)) in
    let unknown : Option Fault = unknown_among (map function_name (flat_map functions_of w.items)) (flat_map used_by_item w.items) in
    let members : Option Fault = earliest (map members_fault (flat_map decls_of w.items)) in
    let bodies : Option Fault = earliest (map function_fault (flat_map functions_of w.items)) in
    ap (λ (i : ItemFaults). earlier (earlier decls (earlier (numbered_by functions).twice vtables)) (earlier i.functions (earlier i.members i.bodies))) is
    ∙ ap (λ fs. earlier (earlier decls (earlier (numbered_by fs).twice vtables)) (earlier (unknown_of (names_in (numbered_by fs)) (flat_map used_by_item w.items)) (earlier members bodies))) same
    ∙ ap (λ fault. earlier (earlier decls (earlier fault vtables)) (earlier
    (unknown_of (names_in (numbered_by (map function_name (flat_map functions_of w.items)))) (flat_map used_by_item w.items)) (earlier members bodies)))
    (twice_of_numbered (map function_name (flat_map functions_of w.items)))
    ∙ ap (λ fault. earlier (earlier decls (earlier twice vtables)) (earlier fault (earlier members bodies)))
    (unknown_of_numbered (map function_name (flat_map functions_of w.items)) (flat_map used_by_item w.items))
    ∙ earlier-assoc decls (earlier twice vtables) (earlier unknown (earlier members bodies))
    ∙ ap (earlier decls) (earlier-assoc twice vtables (earlier unknown (earlier members bodies)))
    ∙ ap (λ last. earlier decls (earlier twice (earlier vtables (earlier unknown (earlier members last))))) (sym (earlier-none bodies))

-- What a module uses is there, since every name that is used is defined.
use Rattle.std.proofs.Common.{◌≡◌, ℕ, ◌+◌, ◌<◌, ◌≤◌, suc, List, [], ◌∷◌, ◌++◌, length, map, position, unwrap_or, Option, Some, None, Bool, true, false, cond}
use Rattle.std.proofs.Common.{if◌then◌else◌, nat_lt, IfSome, sym, refl, subst, ◌∙◌, arith, flat_map, length-append, append-nil, true≢false, ltb-true}
use Rattle.std.specs.List.{list_any, position_or_len}
use Rattle.std.specs.Option.{option_map, option_to_list}
use Rattle.std.specs.Str.{bytes_eq}
use Rattle.std.proofs.lemmas.List.{length-map}
use Rattle.sil_ast.specs.declared.function.Block.{Block}
use Rattle.instruction_table.specs.declared.op.Op.{Op}
use Rattle.sil_grammar_tree.specs.declared.written_tree.fault.FaultKind.TheVariants.{UnknownName}
use Rattle.sil_grammar_tree.specs.declared.written_tree.written_declarations.WrittenToken.{WrittenToken}
use Rattle.sil_grammar_tree.specs.declared.written_tree.written_functions.WrittenBlock.{WrittenBlock}
use Rattle.sil_grammar_tree.specs.declared.written_tree.written_functions.WrittenFunction.{WrittenFunction}
use Rattle.sil_grammar_tree.specs.declared.written_tree.written_instructions.WrittenEdge.{WrittenEdge}
use Rattle.sil_grammar_tree.specs.declared.written_tree.written_instructions.WrittenInst.{WrittenInst}
use Rattle.sil_grammar_tree.specs.declared.written_tree.written_instructions.WrittenOperand.{WrittenOperand}
use Rattle.sil_grammar_tree.specs.declared.written_tree.written_module.WrittenEntry.{WrittenEntry}
use Rattle.sil_grammar_tree.specs.declared.written_tree.written_module.WrittenItem.{WrittenItem}
use Rattle.sil_grammar_tree.specs.declared.written_tree.written_module.WrittenItem.TheVariants as item
use Rattle.sil_grammar_tree.specs.declared.written_tree.written_module.WrittenVtable.{WrittenVtable}
use Rattle.sil_grammar_tree.specs.declared.written_tree.written_module.WrittenModule.{WrittenModule}
use Rattle.sil_grammar_tree.specs.WrittenTree.Faults.{earliest, fault}
use Rattle.sil_grammar_tree.proofs.WrittenTree.FaultOrder.{no_first, no_second}
use Rattle.sil_grammar_names.specs.NameScopes.NameFaults.{function_fault, is_among, name_fault, unknown_among, unknown_in}
use Rattle.sil_grammar_names.specs.NameScopes.Names.{Name, code_of, edge_label, edge_values, entry_function, function_name, functions_of, vtables_of, functions_used}
use Rattle.sil_grammar_names.specs.NameScopes.Names.{label_of, labels_used, name_of, operand_name, results_of, used_by_item, values_defined, values_used}
use Rattle.sil_grammar_names.specs.NameScopes.Names as written
use Rattle.sil_grammar_names.specs.NameResolution.Resolved.{Scope, defined_by, defined_by_arg, defined_by_inst, defined_in, function_of, place_among, resolved, resolved_block, resolved_blocks}
use Rattle.sil_grammar_names.specs.NameResolution.Resolved.{resolved_edge, resolved_function, resolved_inst, resolved_operand, scope_of, value_of, values_of, resolved_entry, resolved_vtable}
use Rattle.numbered_form.specs.Lists.{Each}
use Rattle.numbered_form.specs.Insts.{EachInBlock}
use Rattle.numbered_form.specs.Numbering.{AreNumbered, IsEdgeInRange, IsFunctionNumbered, IsInstInRange, IsValueBelow, IsVtableInRange}
use Rattle.numbered_form.specs.Numbering as numbering
use Rattle.sil_grammar.proofs.NumberedReadingLaws.ListsAndFaults.{Each-flat_map, Each-map}
use Rattle.sil_grammar.proofs.NumberedReadingLaws.BlockLemmas.{Each-blocks, Each-insts, length-blocks}
use Rattle.sil_grammar.proofs.NumberedReadingLaws.FaultlessParts.{IsGoodBlock, IsGoodFunction, IsGoodModule}
use Rattle.sil_grammar.proofs.NumberedReadingLaws.ModuleLemmas.{good_functions}
use Rattle.sil_grammar.proofs.NumberedReadingLaws.NumberingLemmas.{blocks_counted, blocks_length}

-- inside lists of tokens

pub Each-split : {A : Type 0} (P : A → Type 0) (xs ys : List A) → Each P (xs ++ ys) → Each P xs × Each P ys
Each-split P [] ys e = (tt, e)
Each-split P (x ∷ xs) ys e = let rest = Each-split P xs ys e.1 in ((e.0, rest.0), rest.1)

Each-unflat : {A B : Type 0} (f : A → List B) (Q : B → Type 0) (xs : List A) → Each Q (flat_map f xs) → Each (λ x. Each Q (f x)) xs
Each-unflat f Q [] e = tt
Each-unflat f Q (x ∷ xs) e = let parts = Each-split Q (f x) (flat_map f xs) e in (parts.0, Each-unflat f Q xs parts.1)

-- a name that is found stands somewhere

below_cases : (found : Bool) (k n : ℕ) → nat_lt k n ≡ found → 0 < n → unwrap_or (cond found (Some k) None) 0 < n
below_cases true k n e some = ltb-true k n e
below_cases false k n e some = some

found_below : {A : Type 0} (test : A → Bool) (xs : List A) → 0 < length xs → unwrap_or (position test xs) 0 < length xs
found_below test xs some = below_cases (nat_lt (position_or_len test xs) (length xs)) (position_or_len test xs) (length xs) refl some

some_found : {A : Type 0} (test : A → Bool) (xs : List A) → list_any test xs ≡ true → 0 < length xs
some_found test [] e = absurd (true≢false (sym e))
some_found test (x ∷ xs) e = let n : length (x ∷ xs) ≡ suc (length xs) = refl in omega arith

-- there are some to be used
abbrev pub HasSome : ℕ → WrittenToken → Type 0
HasSome count token = 0 < count

known : (names : List Name) (token : WrittenToken) (found : Bool) → is_among names token ≡ found → (if found then None else Some (fault UnknownName token.place)) ≡ None → 0 < length names
known names token true is e = some_found (bytes_eq token.text) names is
known names token false is e = absurd (cc)

all_known : (names : List Name) (used : List WrittenToken) → earliest (map (unknown_in names) used) ≡ None → Each (HasSome (length names)) used
all_known names [] e = tt
all_known names (token ∷ used) e = (known names token (is_among names token) refl (no_first _ _ e), all_known names used (no_second _ _ e))

used_there : {A : Type 0} (token : A → WrittenToken) (xs : List A) (used : List WrittenToken) → unknown_among (map token xs) used ≡ None → Each (HasSome (length xs)) used
used_there token xs used e =
    let n : length (map name_of (map token xs)) ≡ length xs = length-map (map token xs) name_of ∙ length-map xs token in
    subst (λ (count : ℕ). Each (HasSome count) used) n (all_known (map name_of (map token xs)) used e)

values_there : (defined used : List WrittenToken) → unknown_among defined used ≡ None → Each (HasSome (length defined)) used
values_there defined used e = subst (λ (count : ℕ). Each (HasSome count) used) (length-map defined name_of) (all_known (map name_of defined) used e)

more_there : (few many : ℕ) → few ≤ many → (used : List WrittenToken) → Each (HasSome few) used → Each (HasSome many) used
more_there few many h [] g = tt
more_there few many h (token ∷ used) g = (omega arith, more_there few many h used g.1)

-- values are no fewer than their names

names_of_inst : (o : Op) (tokens : List WrittenToken) → length tokens ≤ length (defined_by o tokens)
names_of_inst o [] = omega arith
names_of_inst o (token ∷ tokens) = rw length-map (omega arith)

names_of_code : (ws : List WrittenInst) (last : WrittenInst) → last.results ≡ [] → length (flat_map results_of (ws ++ last ∷ [])) ≤ length (flat_map defined_by_inst ws)
names_of_code [] last e = rw (append-nil, e) (omega arith)
names_of_code (w ∷ ws) last e =
    let one : length w.results ≤ length (defined_by_inst w) = names_of_inst w.op w.results in
    let rest : length (flat_map results_of (ws ++ last ∷ [])) ≤ length (flat_map defined_by_inst ws) = names_of_code ws last e in
    let named : length (flat_map results_of (w ∷ ws ++ last ∷ [])) ≡ length w.results + length (flat_map results_of (ws ++ last ∷ [])) =
    length-append w.results (flat_map results_of (ws ++ last ∷ [])) in
    let defined : length (flat_map defined_by_inst (w ∷ ws)) ≡ length (defined_by_inst w) + length (flat_map defined_by_inst ws) = length-append (defined_by_inst w) (flat_map defined_by_inst ws) in
    omega arith

names_of_block : (b : WrittenBlock) → IsGoodBlock b → length (values_defined b) ≤ length (defined_in b)
names_of_block b g =
    let code : length (flat_map results_of (code_of b)) ≤ length (flat_map defined_by_inst b.insts) = names_of_code b.insts b.terminator g.terminator.no_results in
    let named : length (values_defined b) ≡ length (map written.arg_name b.args) + length (flat_map results_of (code_of b)) =
    length-append (map written.arg_name b.args) (flat_map results_of (code_of b)) in
    let defined : length (defined_in b) ≡ length (map defined_by_arg b.args) + length (flat_map defined_by_inst b.insts) =
    length-append (map defined_by_arg b.args) (flat_map defined_by_inst b.insts) in
    let args : length (map written.arg_name b.args) ≡ length (map defined_by_arg b.args) = length-map b.args written.arg_name ∙ sym (length-map b.args defined_by_arg) in
    omega arith

names_of_blocks : (bs : List WrittenBlock) → Each IsGoodBlock bs → length (flat_map values_defined bs) ≤ length (flat_map defined_in bs)
names_of_blocks [] g = omega arith
names_of_blocks (b ∷ bs) g =
    let one : length (values_defined b) ≤ length (defined_in b) = names_of_block b g.0 in
    let rest : length (flat_map values_defined bs) ≤ length (flat_map defined_in bs) = names_of_blocks bs g.1 in
    let named : length (flat_map values_defined (b ∷ bs)) ≡ length (values_defined b) + length (flat_map values_defined bs) = length-append (values_defined b) (flat_map values_defined bs) in
    let defined : length (flat_map defined_in (b ∷ bs)) ≡ length (defined_in b) + length (flat_map defined_in bs) = length-append (defined_in b) (flat_map defined_in bs) in
    omega arith

-- what an instruction uses is there, in a function with some values and blocks, of a module with some functions
record UsesThere (values blocks functions : ℕ) (w : WrittenInst) : Type 0 where
  used_values : Each (HasSome values) (values_used w)
  used_labels : Each (HasSome blocks) (labels_used w)
  used_functions : Each (HasSome functions) (functions_used w)

-- a scope with this many values, blocks and functions
record HasCounts (s : Scope) (values blocks functions : ℕ) : Type 0 where
  values_are : values ≡ length s.values
  blocks_are : blocks ≡ length s.blocks
  functions_are : functions ≡ length s.functions

value_below : (s : Scope) (values : ℕ) (token : WrittenToken) → values ≡ length s.values → 0 < values → (value_of s.values token).0 < values
value_below s values token e some = rw e (found_below _ s.values (subst (λ (n : ℕ). 0 < n) e some))

place_below : (names : List Name) (count : ℕ) (token : WrittenToken) → count ≡ length names → 0 < count → place_among names token < count
place_below names count token e some = rw e (found_below (bytes_eq token.text) names (subst (λ (n : ℕ). 0 < n) e some))

operands_below : (s : Scope) (values : ℕ) (os : List WrittenOperand) → values ≡ length s.values → Each (HasSome values) (map operand_name os) → Each (IsValueBelow values) (map (resolved_operand s) os)
operands_below s values [] e g = tt
operands_below s values (o ∷ os) e g = (value_below s values o.name e g.0, operands_below s values os e g.1)

edges_below : (s : Scope) (values blocks : ℕ) (es : List WrittenEdge) → values ≡ length s.values → blocks ≡ length s.blocks
    → Each (HasSome values) (flat_map edge_values es) → Each (HasSome blocks) (map edge_label es) → Each (IsEdgeInRange values blocks) (map (resolved_edge s) es)
edges_below s values blocks [] v b g h = tt
edges_below s values blocks (e ∷ es) v b g h =
    let parts = Each-split (HasSome values) (edge_values e) (flat_map edge_values es) g in
    (record { block = place_below s.blocks blocks e.label b h.0; args = operands_below s values e.args v parts.0 }, edges_below s values blocks es v b parts.1 h.1)

callee_below : (s : Scope) (functions : ℕ) (callee : Option WrittenToken) → functions ≡ length s.functions
    → Each (HasSome functions) (option_to_list callee) → IfSome (option_map (function_of s) callee) (λ f. f.0 < functions)
callee_below s functions None e g = tt
callee_below s functions (Some token) e g = place_below s.functions functions token e g.0

inst_in_range : (s : Scope) (values blocks functions : ℕ) → HasCounts s values blocks functions → (first : ℕ) (w : WrittenInst)
    → UsesThere values blocks functions w → IsInstInRange values blocks functions (resolved_inst s first w)
inst_in_range s values blocks functions c first w u =
    let parts = Each-split (HasSome values) (map operand_name w.operands) (flat_map edge_values w.edges) u.used_values in
    record {
      operands = operands_below s values w.operands c.values_are parts.0;
      edges = edges_below s values blocks w.edges c.values_are c.blocks_are parts.1 u.used_labels;
      function = callee_below s functions w.function c.functions_are u.used_functions;
    }

block_in_range : (s : Scope) (values blocks functions : ℕ) → HasCounts s values blocks functions → (first : ℕ) (b : WrittenBlock)
    → Each (UsesThere values blocks functions) (code_of b) → EachInBlock (IsInstInRange values blocks functions) (resolved_block s first b)
block_in_range s values blocks functions c first b g =
    let uses : WrittenInst → Type 0 = UsesThere values blocks functions in
    let parts = Each-split uses b.insts (b.terminator ∷ []) g in (
      Each-insts s uses (IsInstInRange values blocks functions) (inst_in_range s values blocks functions c) _ b.insts parts.0,
      inst_in_range s values blocks functions c _ b.terminator parts.1.0,
    )

-- functions

each_use : (values blocks functions : ℕ) (ws : List WrittenInst) → Each (HasSome values) (flat_map values_used ws)
    → Each (HasSome blocks) (flat_map labels_used ws) → Each (HasSome functions) (flat_map functions_used ws)
    → Each (UsesThere values blocks functions) ws
each_use values blocks functions [] v b f = tt
each_use values blocks functions (w ∷ ws) v b f =
    let vs = Each-split (HasSome values) (values_used w) (flat_map values_used ws) v in
    let bs = Each-split (HasSome blocks) (labels_used w) (flat_map labels_used ws) b in
    let fs = Each-split (HasSome functions) (functions_used w) (flat_map functions_used ws) f in
    (record { used_values = vs.0; used_labels = bs.0; used_functions = fs.0 }, each_use values blocks functions ws vs.1 bs.1 fs.1)

function_numbered : (names : List Name) (f : WrittenFunction) → IsGoodFunction f → function_fault f ≡ None
    → Each (HasSome (length names)) (flat_map functions_used (written.insts_of f)) → IsFunctionNumbered (length names) (resolved_function names f)
function_numbered names f g e calls =
    let s : Scope = scope_of names f in
    let rs : List Block = resolved_blocks s 0 f.blocks in
    let values : ℕ = length (numbering.values_of rs) in
    let blocks : ℕ = length rs in
    let behind_labels = no_second _ _ e in
    let behind_edges = no_second _ _ behind_labels in
    let behind_values = no_second _ _ behind_edges in
    let values_is : values ≡ length (values_of f) = blocks_length s 0 f.blocks g.blocks in
    let blocks_is : blocks ≡ length f.blocks = length-blocks s 0 f.blocks in
    let names_is : length s.blocks ≡ length f.blocks = length-map f.blocks _ in
    let labels : Each (HasSome (length f.blocks)) (flat_map labels_used (written.insts_of f)) = used_there label_of f.blocks _ (no_first _ _ behind_labels) in
    let named : Each (HasSome (length (flat_map values_defined f.blocks))) (flat_map values_used (written.insts_of f)) =
    values_there (flat_map values_defined f.blocks) _ (no_first _ _ behind_values) in
    let fewer : length (flat_map values_defined f.blocks) ≤ values = (let h : length (flat_map values_defined f.blocks) ≤ length (values_of f) = names_of_blocks f.blocks g.blocks in rw values_is h) in
    let there : Each (HasSome values) (flat_map values_used (written.insts_of f)) = more_there _ values fewer _ named in
    let counts : HasCounts s values blocks (length names) = record { values_are = values_is; blocks_are = blocks_is ∙ sym names_is; functions_are = refl } in
    let uses : Each (UsesThere values blocks (length names)) (written.insts_of f) =
    each_use values blocks (length names) (written.insts_of f) there (subst (λ (n : ℕ). Each (HasSome n) (flat_map labels_used (written.insts_of f))) (sym blocks_is) labels) calls in
    record {
      values = blocks_counted s 0 f.blocks g.blocks;
      used = Each-blocks s (λ b. Each (UsesThere values blocks (length names)) (code_of b)) (EachInBlock (IsInstInRange values blocks (length names)))
          (block_in_range s values blocks (length names) counts) 0 f.blocks (Each-unflat code_of (UsesThere values blocks (length names)) f.blocks uses);
    }

-- modules

abbrev pub CallsThere : ℕ → WrittenFunction → Type 0
CallsThere functions f = Each (HasSome functions) (flat_map functions_used (written.insts_of f))

abbrev pub EntryThere : ℕ → WrittenVtable → Type 0
EntryThere functions t = Each (HasSome functions) (map entry_function (option_to_list t.entry))

item_calls : (functions : ℕ) (i : WrittenItem) → Each (HasSome functions) (used_by_item i) → Each (CallsThere functions) (functions_of i)
item_calls functions (item.Decl d) g = tt
item_calls functions (item.Function f) g = (g, tt)
item_calls functions (item.Vtable t) g = tt

item_entries : (functions : ℕ) (i : WrittenItem) → Each (HasSome functions) (used_by_item i) → Each (EntryThere functions) (vtables_of i)
item_entries functions (item.Decl d) g = tt
item_entries functions (item.Function f) g = tt
item_entries functions (item.Vtable t) g = (g, tt)

functions_numbered : (names : List Name) (fs : List WrittenFunction) → Each IsGoodFunction fs → earliest (map function_fault fs) ≡ None
    → Each (CallsThere (length names)) fs → Each (IsFunctionNumbered (length names)) (map (resolved_function names) fs)
functions_numbered names [] g e calls = tt
functions_numbered names (f ∷ fs) g e calls = (function_numbered names f g.0 (no_first _ _ e) calls.0, functions_numbered names fs g.1 (no_second _ _ e) calls.1)

entry_in_range : (names : List Name) (entry : Option WrittenEntry) → Each (HasSome (length names)) (map entry_function (option_to_list entry))
    → IfSome (option_map (resolved_entry names) entry) (λ e. e.function.0 < length names)
entry_in_range names None g = tt
entry_in_range names (Some entry) g = place_below names (length names) entry.function refl g.0

pub read_numbering : (w : WrittenModule) → IsGoodModule w → name_fault w ≡ None → AreNumbered (resolved w)
unfolding resolved name_fault
read_numbering w g e =
    let functions : List WrittenFunction = flat_map functions_of w.items in
    let names : List Name = map (λ f. name_of (function_name f)) functions in
    let behind_vtables = no_second _ _ (no_second _ _ (no_second _ _ e)) in
    let behind_members = no_second _ _ (no_second _ _ behind_vtables) in
    let names_is : length names ≡ length functions = length-map functions _ in
    let count_is : length names ≡ length (map (resolved_function names) functions) = names_is ∙ sym (length-map functions (resolved_function names)) in
    let used : Each (HasSome (length functions)) (flat_map used_by_item w.items) = used_there function_name functions _ (no_first _ _ behind_vtables) in
    let there : Each (HasSome (length names)) (flat_map used_by_item w.items) = subst (λ (n : ℕ). Each (HasSome n) (flat_map used_by_item w.items)) (sym names_is) used in
    let by_item = Each-unflat used_by_item (HasSome (length names)) w.items there in
    let calls : Each (CallsThere (length names)) functions =
    Each-flat_map functions_of (λ i. Each (HasSome (length names)) (used_by_item i)) (CallsThere (length names)) (item_calls (length names)) w.items by_item in
    let entries : Each (EntryThere (length names)) (flat_map vtables_of w.items) =
    Each-flat_map vtables_of (λ i. Each (HasSome (length names)) (used_by_item i)) (EntryThere (length names)) (item_entries (length names)) w.items by_item in
    let numbered : Each (IsFunctionNumbered (length names)) (map (resolved_function names) functions) =
    functions_numbered names functions (good_functions w.items g.items) (no_first _ _ behind_members) calls in
    let in_range : Each (IsVtableInRange (length names)) (map (resolved_vtable names) (flat_map vtables_of w.items)) =
    Each-map (resolved_vtable names) (EntryThere (length names)) (IsVtableInRange (length names)) (λ t h. entry_in_range names t.entry h) (flat_map vtables_of w.items) entries in
    record {
      functions = subst (λ (n : ℕ). Each (IsFunctionNumbered n) (map (resolved_function names) functions)) count_is numbered;
      vtables = subst (λ (n : ℕ). Each (IsVtableInRange n) (map (resolved_vtable names) (flat_map vtables_of w.items))) count_is in_range;
    }

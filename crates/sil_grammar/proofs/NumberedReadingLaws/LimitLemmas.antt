-- A good module, once it is resolved, is within the limits.
use Rattle.std.proofs.Common.{◌≡◌, ℕ, ◌+◌, ◌≤◌, suc, List, [], ◌∷◌, ◌++◌, length, map, filter, Option, Some, None, Bool, true, false, cond, not}
use Rattle.std.proofs.Common.{if◌then◌else◌, ap, sym, refl, ◌∙◌, arith, flat_map, count_by, length-append, ap₂, true≢false}
use Rattle.std.proofs.lemmas.List.{length-map}
use Rattle.std.proofs.lemmas.List.Sums.{sum_by-append, sum_by-cons}
use Rattle.std.proofs.lemmas.Bool.{and_parts}
use Rattle.sil_ast.specs.declared.function.Block.{Block}
use Rattle.sil_ast.specs.declared.inst.Inst.{Inst}
use Rattle.sil_ast.specs.declared.inst.Qualifier.{Qualifier}
use Rattle.sil_ast.specs.declared.inst.Qualifier.TheVariants as qualifier
use Rattle.instruction_table.specs.declared.op.Op.{Op}
use Rattle.instruction_table.specs.declared.entries.ExtraValue.{ExtraValue}
use Rattle.instruction_table.specs.declared.entries.ExtraValue.TheVariants as extra
use Rattle.sil_ast.specs.declared.place.Place.{Place}
use Rattle.sil_grammar_tree.specs.declared.written_tree.written_declarations.WrittenToken.{WrittenToken}
use Rattle.sil_grammar_tree.specs.declared.written_tree.written_functions.WrittenBlock.{WrittenBlock}
use Rattle.sil_grammar_tree.specs.declared.written_tree.written_functions.WrittenFunction.{WrittenFunction}
use Rattle.sil_grammar_tree.specs.declared.written_tree.written_instructions.WrittenInst.{WrittenInst}
use Rattle.sil_grammar_tree.specs.declared.written_tree.written_module.WrittenItem.{WrittenItem}
use Rattle.sil_grammar_tree.specs.declared.written_tree.written_module.WrittenItem.TheVariants as item
use Rattle.sil_grammar_tree.specs.declared.written_tree.written_module.WrittenModule.{WrittenModule}
use Rattle.sil_grammar_tree.specs.WrittenTree.Places.{arg_place, attribute_places, decl_names, extra_places, extra_places_by, function_names, is_kept}
use Rattle.sil_grammar_tree.specs.WrittenTree.Places.{mnemonic_place, mnemonics_of, result_places, token_place, value_places_of, values_of_block}
use Rattle.sil_grammar_names.specs.NameScopes.Names.{Name, decls_of, functions_of, name_of}
use Rattle.sil_grammar_names.specs.NameResolution.Resolved.{Scope, counted, defined_by, defined_by_inst, defined_in, resolved, resolved_block, resolved_blocks}
use Rattle.sil_grammar_names.specs.NameResolution.Resolved.{resolved_decl, resolved_function, resolved_inst, resolved_insts, scope_of}
use Rattle.numbered_form.specs.Lists.{Each}
use Rattle.numbered_form.specs.Insts.{insts_in, insts_of}
use Rattle.numbered_form.specs.inner.Limits.{AreLimitsKept, IsBlockInLimits, IsDeclInLimits, IsFunctionInLimits, inst_takes_value, takes_value, takes_value_by, value_count}
use Rattle.numbered_form.specs.Numbering.{results_of, value_of, values_of}
use Rattle.numbered_form.specs.Numbering as numbering
use Rattle.instruction_table.specs.Forms.{extra_value_of, has_one_result, is_terminator}
use Rattle.sil_grammar.proofs.NumberedReadingLaws.BlockLemmas.{Each-blocks, block_limits, end_defines_none, length-args, length-blocks}
use Rattle.sil_grammar.proofs.NumberedReadingLaws.FieldLemmas.{in_decls, in_functions}
use Rattle.sil_grammar.proofs.NumberedReadingLaws.FaultlessParts.{IsGoodBlock, IsGoodEnd, IsGoodFunction, IsGoodModule}
use Rattle.sil_grammar.proofs.NumberedReadingLaws.ResultLemmas.{length-counted}
use Rattle.sil_grammar.proofs.NumberedReadingLaws.RowRules.{ends_alone, takes_none}

-- how many

pub length-insts : (s : Scope) (first : ℕ) (ws : List WrittenInst) → length (resolved_insts s first ws) ≡ length ws
length-insts s first [] = refl
length-insts s first (w ∷ ws) = ap suc (length-insts s (first + length (defined_by_inst w)) ws)

pub both_lengths : {A B : Type 0} (a b : List A) (c d : List B) → length a ≡ length c → length b ≡ length d → length (a ++ b) ≡ length (c ++ d)
both_lengths a b c d e f = length-append a b ∙ ap₂ (λ m n. m + n) e f ∙ sym (length-append c d)

block_insts : (s : Scope) (first : ℕ) (b : WrittenBlock) → length (insts_of (resolved_block s first b)) ≡ length (mnemonics_of b)
block_insts s first b =
    let r : Block = resolved_block s first b in
    both_lengths r.insts (r.terminator ∷ []) (map mnemonic_place b.insts) (b.terminator.mnemonic ∷ []) (length-insts s (first + length b.args) b.insts ∙ sym (length-map b.insts mnemonic_place)) refl

inst_count_is : (s : Scope) (first : ℕ) (bs : List WrittenBlock) → length (insts_in (resolved_blocks s first bs)) ≡ length (flat_map mnemonics_of bs)
inst_count_is s first [] = refl
inst_count_is s first (b ∷ bs) =
    both_lengths (insts_of (resolved_block s first b)) (insts_in (resolved_blocks s (first + length (defined_in b)) bs)) (mnemonics_of b) (flat_map mnemonics_of bs)
    (block_insts s first b) (inst_count_is s (first + length (defined_in b)) bs)

-- the values that an instruction counts for

no_name : Option Name
no_name = None

unnamed_places : (one : Bool) (mnemonic : Place) → length (if one then mnemonic ∷ [] else []) ≡ length (if one then no_name ∷ [] else [])
unnamed_places true mnemonic = refl
unnamed_places false mnemonic = refl

pub result_count : (o : Op) (mnemonic : Place) (tokens : List WrittenToken) → length (result_places o mnemonic tokens) ≡ length (defined_by o tokens)
unfolding no_name
result_count o mnemonic [] = unnamed_places (has_one_result o) mnemonic
result_count o mnemonic (token ∷ tokens) = length-map (token ∷ tokens) token_place ∙ sym (length-map (token ∷ tokens) (λ name. Some (name_of name)))

extra_count_by : (e : ExtraValue) (mnemonic : Place) (q : Qualifier) (place : Place) → length (extra_places_by e mnemonic q place) ≡ cond (takes_value_by e q) 1 0
extra_count_by extra.Never mnemonic q place = refl
extra_count_by extra.WhereAssigned mnemonic qualifier.Assign place = refl
extra_count_by extra.WhereAssigned mnemonic _ place = refl
extra_count_by extra.Always mnemonic q place = refl

pub extra_count : (o : Op) (mnemonic : Place) (q : Qualifier) (place : Place) → length (extra_places o mnemonic q place) ≡ cond (takes_value o q) 1 0
unfolding extra_places
extra_count o mnemonic q place = extra_count_by (extra_value_of o) mnemonic q place

-- the results of some instructions, with those that lowering takes more
unfoldable pub values_with : List Inst → ℕ
values_with insts = length (flat_map results_of insts) + count_by inst_takes_value insts

pub values_with-cons : (i : Inst) (insts : List Inst) → values_with (i ∷ insts) ≡ (length i.results + cond (inst_takes_value i) 1 0) + values_with insts
unfolding values_with
values_with-cons i insts =
    let c : count_by inst_takes_value (i ∷ insts) ≡ cond (inst_takes_value i) 1 0 + count_by inst_takes_value insts = sum_by-cons (λ i. cond (inst_takes_value i) 1 0) i insts in
    let l : length (flat_map results_of (i ∷ insts)) ≡ length i.results + length (flat_map results_of insts) = length-append i.results (flat_map results_of insts) in
    omega arith

inst_values : (s : Scope) (first : ℕ) (w : WrittenInst) → length (resolved_inst s first w).results + cond (inst_takes_value (resolved_inst s first w)) 1 0 ≡ length (value_places_of w)
inst_values s first w =
    let results : List Place = result_places w.op w.mnemonic w.results in
    let extra : List Place = extra_places w.op w.mnemonic w.qualifier.word w.qualifier.place in
    let n : length (counted first (defined_by w.op w.results)) ≡ length results = length-counted first (defined_by w.op w.results) ∙ sym (result_count w.op w.mnemonic w.results) in
    ap₂ (λ a b. a + b) n (sym (extra_count w.op w.mnemonic w.qualifier.word w.qualifier.place)) ∙ sym (length-append results extra)

insts_values : (s : Scope) (first : ℕ) (last : Inst) (ws : List WrittenInst) → values_with (last ∷ []) ≡ 0 → values_with (resolved_insts s first ws ++ last ∷ []) ≡ length (flat_map value_places_of ws)
insts_values s first last [] e = e
insts_values s first last (w ∷ ws) e =
    let next : ℕ = first + length (defined_by_inst w) in
    values_with-cons (resolved_inst s first w) (resolved_insts s next ws ++ last ∷ [])
    ∙ ap₂ (λ a b. a + b) (inst_values s first w) (insts_values s next last ws e)
    ∙ sym (length-append (value_places_of w) (flat_map value_places_of ws))

never_taken : (e : ExtraValue) (q : Qualifier) → takes_none e ≡ true → takes_value_by e q ≡ false
never_taken extra.Never q e = refl
never_taken extra.WhereAssigned q e = absurd (true≢false (sym e))
never_taken extra.Always q e = absurd (true≢false (sym e))

pub ends_take_none : (o : Op) (q : Qualifier) → is_terminator o ≡ true → takes_value o q ≡ false
ends_take_none o q e = never_taken (extra_value_of o) q (and_parts (not (has_one_result o)) (takes_none (extra_value_of o)) (ends_alone o e)).1

end_values : (s : Scope) (first : ℕ) (w : WrittenInst) → IsGoodEnd w → values_with (resolved_inst s first w ∷ []) ≡ 0
unfolding values_with
end_values s first w g =
    let none : (resolved_inst s first w).results ≡ [] = ap (counted first) (end_defines_none w g) in
    let takes : takes_value w.op w.qualifier.word ≡ false = ends_take_none w.op w.qualifier.word g.ends in
    rw (none, takes) refl

block_values : (s : Scope) (first : ℕ) (b : WrittenBlock) → IsGoodBlock b
    → length (numbering.defined_in (resolved_block s first b)) + count_by inst_takes_value (insts_of (resolved_block s first b)) ≡ length (values_of_block b)
unfolding values_with
block_values s first b g =
    let r : Block = resolved_block s first b in
    let args : length (map value_of r.args) ≡ length (map arg_place b.args) = length-map r.args value_of ∙ length-args first b.args ∙ sym (length-map b.args arg_place) in
    let insts : values_with (insts_of r) ≡ length (flat_map value_places_of b.insts) =
    insts_values s (first + length b.args) r.terminator b.insts (end_values s (first + length (defined_in b)) b.terminator g.terminator) in
    let whole : length (numbering.defined_in r) ≡ length (map value_of r.args) + length (flat_map results_of (insts_of r)) = length-append (map value_of r.args) (flat_map results_of (insts_of r)) in
    let places : length (values_of_block b) ≡ length (map arg_place b.args) + length (flat_map value_places_of b.insts) = length-append (map arg_place b.args) (flat_map value_places_of b.insts) in
    omega arith

value_count_is : (s : Scope) (first : ℕ) (bs : List WrittenBlock) → Each IsGoodBlock bs → value_count (resolved_blocks s first bs) ≡ length (flat_map values_of_block bs)
value_count_is s first [] g = refl
value_count_is s first (b ∷ bs) g =
    let next : ℕ = first + length (defined_in b) in
    let r : Block = resolved_block s first b in
    let rs : List Block = resolved_blocks s next bs in
    let one : length (numbering.defined_in r) + count_by inst_takes_value (insts_of r) ≡ length (values_of_block b) = block_values s first b g.0 in
    let rest : length (values_of rs) + count_by inst_takes_value (insts_in rs) ≡ length (flat_map values_of_block bs) = value_count_is s next bs g.1 in
    let values : length (values_of (r ∷ rs)) ≡ length (numbering.defined_in r) + length (values_of rs) = length-append (numbering.defined_in r) (values_of rs) in
    let taken : count_by inst_takes_value (insts_of r ++ insts_in rs) ≡ count_by inst_takes_value (insts_of r) + count_by inst_takes_value (insts_in rs) =
    sum_by-append (λ i. cond (inst_takes_value i) 1 0) (insts_of r) (insts_in rs) in
    let places : length (flat_map values_of_block (b ∷ bs)) ≡ length (values_of_block b) + length (flat_map values_of_block bs) = length-append (values_of_block b) (flat_map values_of_block bs) in
    omega arith

function_limits : (names : List Name) (f : WrittenFunction) → IsGoodFunction f → IsFunctionInLimits (resolved_function names f)
function_limits names f g =
    let s : Scope = scope_of names f in
    let kept : length (map name_of (filter is_kept f.attributes)) ≡ length (attribute_places f.attributes) = length-map (filter is_kept f.attributes) name_of
    ∙ sym (length-map (filter is_kept f.attributes) token_place) in
    record {
      attributes = rw kept g.attribute_count;
      signature = g.signature.limits;
      blocks = rw (length-blocks s 0 f.blocks) g.block_count;
      insts = rw (inst_count_is s 0 f.blocks) g.inst_count;
      values = rw (value_count_is s 0 f.blocks g.blocks) g.value_count;
      each = Each-blocks s IsGoodBlock IsBlockInLimits (block_limits s) 0 f.blocks g.blocks;
    }

-- declarations and functions

item_declarations : (i : WrittenItem) → length (decls_of i) ≡ length (decl_names i)
item_declarations (item.Decl d) = refl
item_declarations (item.Function f) = refl
item_declarations (item.Vtable t) = refl

item_functions : (i : WrittenItem) → length (functions_of i) ≡ length (function_names i)
item_functions (item.Decl d) = refl
item_functions (item.Function f) = refl
item_functions (item.Vtable t) = refl

flat_lengths : {A B C : Type 0} (f : A → List B) (h : A → List C) → ((x : A) → length (f x) ≡ length (h x)) → (xs : List A) → length (flat_map f xs) ≡ length (flat_map h xs)
flat_lengths f h e [] = refl
flat_lengths f h e (x ∷ xs) = both_lengths (f x) (flat_map f xs) (h x) (flat_map h xs) (e x) (flat_lengths f h e xs)

few_declarations : (w : WrittenModule) → IsGoodModule w → length (resolved w).decls ≤ 1024
unfolding resolved
few_declarations w g = rw (length-map (flat_map decls_of w.items) resolved_decl, flat_lengths decls_of decl_names item_declarations w.items) g.declarations

few_functions : (w : WrittenModule) → IsGoodModule w → length (resolved w).functions ≤ 1024
unfolding resolved
few_functions w g = rw (length-map, flat_lengths functions_of function_names item_functions w.items) g.functions

pub read_limits : (w : WrittenModule) → IsGoodModule w → AreLimitsKept (resolved w)
read_limits w g = record {
  declarations = few_declarations w g;
  members = in_decls IsDeclInLimits (λ d k. k.limits) w g;
  functions = few_functions w g;
  each = in_functions IsFunctionInLimits function_limits w g;
}

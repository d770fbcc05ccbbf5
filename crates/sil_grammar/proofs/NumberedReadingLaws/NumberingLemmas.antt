-- The values of a module that is read are numbered in order, and what it uses is there.
use Rattle.std.proofs.Common.{◌≡◌, ℕ, ◌+◌, suc, List, [], ◌∷◌, ◌++◌, length, map, Option, ap, ap₂, sym, refl, subst, ◌∙◌, arith, flat_map, length-append, append-nil}
use Rattle.std.proofs.lemmas.List.{length-map}
use Rattle.sil_ast.specs.declared.function.Block.{Block}
use Rattle.sil_ast.specs.declared.inst.Inst.{Inst}
use Rattle.sil_ast.specs.declared.place.ValueId.{ValueId}
use Rattle.sil_grammar_tree.specs.declared.written_tree.written_functions.WrittenArg.{WrittenArg}
use Rattle.sil_grammar_tree.specs.declared.written_tree.written_functions.WrittenBlock.{WrittenBlock}
use Rattle.sil_grammar_tree.specs.declared.written_tree.written_instructions.WrittenInst.{WrittenInst}
use Rattle.sil_grammar_names.specs.NameScopes.Names.{Name}
use Rattle.sil_grammar_names.specs.NameResolution.Resolved.{Scope, counted, defined_by_arg, defined_by_inst, defined_in, resolved_args, resolved_block, resolved_blocks, resolved_insts}
use Rattle.numbered_form.specs.Lists.{Each}
use Rattle.numbered_form.specs.Numbering.{AreCountedFrom}
use Rattle.numbered_form.specs.Numbering as numbering
use Rattle.sil_grammar.proofs.NumberedReadingLaws.BlockLemmas.{end_defines_none, length-args}
use Rattle.sil_grammar.proofs.NumberedReadingLaws.FaultlessParts.{IsGoodBlock}
use Rattle.sil_grammar.proofs.NumberedReadingLaws.ResultLemmas.{length-counted}

-- counting

counted_from : (n : ℕ) (values : List (Option Name)) → AreCountedFrom n (counted n values)
counted_from n [] = tt
counted_from n (value ∷ values) = (refl, counted_from (n + 1) values)

counted_on : (n k : ℕ) (xs ys : List ValueId) → length xs ≡ k → AreCountedFrom n xs → AreCountedFrom (n + k) ys → AreCountedFrom n (xs ++ ys)
counted_on n k [] ys e c d = let same : n + k ≡ n = omega arith in subst (λ (m : ℕ). AreCountedFrom m ys) same d
counted_on n k (x ∷ xs) ys e c d =
    let here : length (x ∷ xs) ≡ suc (length xs) = refl in
    let same : n + k ≡ (n + 1) + length xs = omega arith in
    (c.0, counted_on (n + 1) (length xs) xs ys refl c.1 (subst (λ (m : ℕ). AreCountedFrom m ys) same d))

args_counted : (n : ℕ) (args : List WrittenArg) → AreCountedFrom n (map numbering.value_of (resolved_args n args))
args_counted n [] = tt
args_counted n (a ∷ args) = (refl, args_counted (n + 1) args)

insts_length : (s : Scope) (n : ℕ) (ws : List WrittenInst) → length (flat_map numbering.results_of (resolved_insts s n ws)) ≡ length (flat_map defined_by_inst ws)
insts_length s n [] = refl
insts_length s n (w ∷ ws) =
    let next : ℕ = n + length (defined_by_inst w) in
    length-append (counted n (defined_by_inst w)) (flat_map numbering.results_of (resolved_insts s next ws))
    ∙ ap₂ (λ a b. a + b) (length-counted n (defined_by_inst w)) (insts_length s next ws)
    ∙ sym (length-append (defined_by_inst w) (flat_map defined_by_inst ws))

insts_counted : (s : Scope) (n : ℕ) (ws : List WrittenInst) → AreCountedFrom n (flat_map numbering.results_of (resolved_insts s n ws))
insts_counted s n [] = tt
insts_counted s n (w ∷ ws) =
    let k : ℕ = length (defined_by_inst w) in
    counted_on n k (counted n (defined_by_inst w)) (flat_map numbering.results_of (resolved_insts s (n + k) ws))
    (length-counted n (defined_by_inst w)) (counted_from n (defined_by_inst w)) (insts_counted s (n + k) ws)

-- the results of a block are those of its instructions, since a terminator has none
pub with_end : (is : List Inst) (last : Inst) → last.results ≡ [] → flat_map numbering.results_of (is ++ last ∷ []) ≡ flat_map numbering.results_of is
with_end [] last e = append-nil last.results ∙ e
with_end (i ∷ is) last e = ap (λ rest. i.results ++ rest) (with_end is last e)

block_is : (s : Scope) (n : ℕ) (b : WrittenBlock) → IsGoodBlock b
    → numbering.defined_in (resolved_block s n b) ≡ map numbering.value_of (resolved_args n b.args) ++ flat_map numbering.results_of (resolved_insts s (n + length b.args) b.insts)
block_is s n b g =
    let r : Block = resolved_block s n b in
    let none : r.terminator.results ≡ [] = ap (counted _) (end_defines_none b.terminator g.terminator) in
    ap (λ rest. map numbering.value_of r.args ++ rest) (with_end r.insts r.terminator none)

args_length : (n : ℕ) (args : List WrittenArg) → length (map numbering.value_of (resolved_args n args)) ≡ length args
args_length n args = length-map (resolved_args n args) numbering.value_of ∙ length-args n args

block_length : (s : Scope) (n : ℕ) (b : WrittenBlock) → IsGoodBlock b → length (numbering.defined_in (resolved_block s n b)) ≡ length (defined_in b)
block_length s n b g =
    ap length (block_is s n b g)
    ∙ length-append (map numbering.value_of (resolved_args n b.args)) (flat_map numbering.results_of (resolved_insts s (n + length b.args) b.insts))
    ∙ ap₂ (λ a c. a + c) (args_length n b.args ∙ sym (length-map b.args defined_by_arg)) (insts_length s (n + length b.args) b.insts)
    ∙ sym (length-append (map defined_by_arg b.args) (flat_map defined_by_inst b.insts))

block_counted : (s : Scope) (n : ℕ) (b : WrittenBlock) → IsGoodBlock b → AreCountedFrom n (numbering.defined_in (resolved_block s n b))
block_counted s n b g =
    let c : AreCountedFrom n (map numbering.value_of (resolved_args n b.args) ++ flat_map numbering.results_of (resolved_insts s (n + length b.args) b.insts)) =
    counted_on n (length b.args) (map numbering.value_of (resolved_args n b.args)) (flat_map numbering.results_of (resolved_insts s (n + length b.args) b.insts))
    (args_length n b.args) (args_counted n b.args) (insts_counted s (n + length b.args) b.insts) in
    subst (AreCountedFrom n) (sym (block_is s n b g)) c

pub blocks_counted : (s : Scope) (n : ℕ) (bs : List WrittenBlock) → Each IsGoodBlock bs → AreCountedFrom n (numbering.values_of (resolved_blocks s n bs))
blocks_counted s n [] g = tt
blocks_counted s n (b ∷ bs) g =
    let k : ℕ = length (defined_in b) in
    counted_on n k (numbering.defined_in (resolved_block s n b)) (numbering.values_of (resolved_blocks s (n + k) bs))
    (block_length s n b g.0) (block_counted s n b g.0) (blocks_counted s (n + k) bs g.1)

pub blocks_length : (s : Scope) (n : ℕ) (bs : List WrittenBlock) → Each IsGoodBlock bs → length (numbering.values_of (resolved_blocks s n bs)) ≡ length (flat_map defined_in bs)
blocks_length s n [] g = refl
blocks_length s n (b ∷ bs) g =
    let k : ℕ = length (defined_in b) in
    length-append (numbering.defined_in (resolved_block s n b)) (numbering.values_of (resolved_blocks s (n + k) bs))
    ∙ ap₂ (λ a c. a + c) (block_length s n b g.0) (blocks_length s (n + k) bs g.1)
    ∙ sym (length-append (defined_in b) (flat_map defined_in bs))

-- The written blocks of a function have as many instructions and values as the blocks themselves.
use Rattle.std.proofs.Common.{◌≡◌, ℕ, ◌+◌, List, [], ◌∷◌, ◌++◌, length, map, cond, IsTrue, ap, sym, refl, ◌∙◌, arith, flat_map, count_by, length-append, ap₂}
use Rattle.std.specs.List.{AllZip, enumerate_from}
use Rattle.std.proofs.lemmas.List.{length-map}
use Rattle.std.proofs.lemmas.List.FromFn.{length-enumerate_from}
use Rattle.std.proofs.lemmas.List.Sums.{sum_by-append}
use Rattle.std.proofs.lemmas.Slice.Zip.{AllZip-long}
use Rattle.sil_ast.specs.declared.function.Block.{Block}
use Rattle.sil_ast.specs.declared.function.Function.{Function}
use Rattle.sil_ast.specs.declared.inst.Inst.{Inst}
use Rattle.sil_grammar_tree.specs.declared.written_tree.written_functions.WrittenBlock.{WrittenBlock}
use Rattle.sil_grammar_tree.specs.declared.written_tree.written_instructions.WrittenInst.{WrittenInst}
use Rattle.sil_grammar_tree.specs.WrittenTree.Places.{arg_place, extra_places, mnemonic_place, mnemonics_of, result_places, value_places_of, values_of_block}
use Rattle.sil_grammar_names.specs.NameResolution.Resolved.{defined_by}
use Rattle.numbered_form.specs.Lists.{Each}
use Rattle.numbered_form.specs.Insts.{insts_in, insts_of}
use Rattle.numbered_form.specs.inner.Limits.{inst_takes_value, takes_value, value_count}
use Rattle.numbered_form.specs.Numbering.{defined_in, results_of, value_of, values_of}
use Rattle.numbered_form.specs.inner.Parts.{has_results}
use Rattle.sil_grammar.proofs.NumberedReadingLaws.LimitLemmas.{both_lengths, ends_take_none, extra_count, result_count, values_with, values_with-cons}
use Rattle.sil_printer_laws.proofs.BlockReading.{IsBlockPrintable, IsEndPrintable, IsInsidePrintable}
use Rattle.sil_printer_laws.proofs.ResultNames.{IsDefinedAs, results_defined}
use Rattle.sil_printer_laws.proofs.Written.{AreBlocksWritten, IsArgWritten, IsBlockWritten, IsInstWritten}

pub length_blocks : (functions : List Function) (k : ℕ) (bs : List Block) (ws : List WrittenBlock) → AreBlocksWritten functions k bs ws → length ws ≡ length bs
length_blocks functions k bs ws written = AllZip-long _ (enumerate_from k bs) ws written ∙ length-enumerate_from k bs

-- instructions

block_insts : (functions : List Function) (k : ℕ) (b : Block) (w : WrittenBlock) → IsBlockWritten functions k b w → length (mnemonics_of w) ≡ length (insts_of b)
block_insts functions k b w written =
    both_lengths (map mnemonic_place w.insts) (w.terminator.mnemonic ∷ []) b.insts (b.terminator ∷ [])
    (length-map w.insts mnemonic_place ∙ AllZip-long (IsInstWritten functions) b.insts w.insts written.insts) refl

pub inst_count_is : (functions : List Function) (k : ℕ) (bs : List Block) (ws : List WrittenBlock) → AreBlocksWritten functions k bs ws
    → length (flat_map mnemonics_of ws) ≡ length (insts_in bs)
inst_count_is functions k [] [] written = refl
inst_count_is functions k [] (w ∷ ws) written = absurd written
inst_count_is functions k (b ∷ bs) [] written = absurd written
inst_count_is functions k (b ∷ bs) (w ∷ ws) written =
    both_lengths (mnemonics_of w) (flat_map mnemonics_of ws) (insts_of b) (insts_in bs) (block_insts functions k b w written.0) (inst_count_is functions (k + 1) bs ws written.1)

-- values

inst_values : (functions : List Function) (i : Inst) (w : WrittenInst) → IsInstWritten functions i w → IsTrue (has_results i.op i.results)
    → length (value_places_of w) ≡ length i.results + cond (inst_takes_value i) 1 0
inst_values functions i w written there =
    let results : length (result_places w.op w.mnemonic w.results) ≡ length i.results =
    ap (λ o. length (result_places o w.mnemonic w.results)) written.op ∙ result_count i.op w.mnemonic w.results
    ∙ AllZip-long IsDefinedAs i.results (defined_by i.op w.results) (results_defined i.op i.results w.results there written.results) in
    let extra : length (extra_places w.op w.mnemonic w.qualifier.word w.qualifier.place) ≡ cond (inst_takes_value i) 1 0 =
    extra_count w.op w.mnemonic w.qualifier.word w.qualifier.place ∙ ap₂ (λ o q. cond (takes_value o q) 1 0) written.op written.qualifier in
    length-append (result_places w.op w.mnemonic w.results) (extra_places w.op w.mnemonic w.qualifier.word w.qualifier.place) ∙ ap₂ (λ m n. m + n) results extra

end_values : (functions : List Function) (last : Inst) → IsEndPrintable functions last → values_with (last ∷ []) ≡ 0
unfolding values_with
end_values functions last end = rw (end.unnamed, ends_take_none last.op last.qualifier end.ends) refl

insts_values : (functions : List Function) (last : Inst) (insts : List Inst) (ws : List WrittenInst) → values_with (last ∷ []) ≡ 0
    → AllZip (IsInstWritten functions) insts ws → Each (IsInsidePrintable functions) insts → length (flat_map value_places_of ws) ≡ values_with (insts ++ last ∷ [])
insts_values functions last [] [] e written printable = sym e
insts_values functions last [] (w ∷ ws) e written printable = absurd written
insts_values functions last (i ∷ insts) [] e written printable = absurd written
insts_values functions last (i ∷ insts) (w ∷ ws) e written printable =
    length-append (value_places_of w) (flat_map value_places_of ws)
    ∙ ap₂ (λ m n. m + n) (inst_values functions i w written.0 printable.0.printable.parts.results) (insts_values functions last insts ws e written.1 printable.1)
    ∙ sym (values_with-cons i (insts ++ last ∷ []))

block_values : (functions : List Function) (k : ℕ) (b : Block) (w : WrittenBlock) → IsBlockWritten functions k b w → IsBlockPrintable functions b
    → length (values_of_block w) ≡ length (defined_in b) + count_by inst_takes_value (insts_of b)
unfolding values_with
block_values functions k b w written printable =
    let args : length (map arg_place w.args) ≡ length (map value_of b.args) = length-map w.args arg_place ∙ AllZip-long IsArgWritten b.args w.args written.args ∙ sym (length-map b.args value_of) in
    let insts : length (flat_map value_places_of w.insts) ≡ values_with (insts_of b) =
    insts_values functions b.terminator b.insts w.insts (end_values functions b.terminator printable.terminator) written.insts printable.insts in
    let whole : length (defined_in b) ≡ length (map value_of b.args) + length (flat_map results_of (insts_of b)) = length-append (map value_of b.args) (flat_map results_of (insts_of b)) in
    let places : length (values_of_block w) ≡ length (map arg_place w.args) + length (flat_map value_places_of w.insts) = length-append (map arg_place w.args) (flat_map value_places_of w.insts) in
    omega arith

pub value_count_is : (functions : List Function) (k : ℕ) (bs : List Block) (ws : List WrittenBlock) → AreBlocksWritten functions k bs ws → Each (IsBlockPrintable functions) bs
    → length (flat_map values_of_block ws) ≡ value_count bs
value_count_is functions k [] [] written printable = refl
value_count_is functions k [] (w ∷ ws) written printable = absurd written
value_count_is functions k (b ∷ bs) [] written printable = absurd written
value_count_is functions k (b ∷ bs) (w ∷ ws) written printable =
    let one : length (values_of_block w) ≡ length (defined_in b) + count_by inst_takes_value (insts_of b) = block_values functions k b w written.0 printable.0 in
    let rest : length (flat_map values_of_block ws) ≡ length (values_of bs) + count_by inst_takes_value (insts_in bs) = value_count_is functions (k + 1) bs ws written.1 printable.1 in
    let values : length (values_of (b ∷ bs)) ≡ length (defined_in b) + length (values_of bs) = length-append (defined_in b) (values_of bs) in
    let taken : count_by inst_takes_value (insts_of b ++ insts_in bs) ≡ count_by inst_takes_value (insts_of b) + count_by inst_takes_value (insts_in bs) =
    sum_by-append (λ i. cond (inst_takes_value i) 1 0) (insts_of b) (insts_in bs) in
    let places : length (flat_map values_of_block (w ∷ ws)) ≡ length (values_of_block w) + length (flat_map values_of_block ws) = length-append (values_of_block w) (flat_map values_of_block ws) in
    omega arith

-- The printed blocks of a function stand for themselves.
use Rattle.std.proofs.Common.{◌≡◌, ℕ, ◌+◌, List, [], ◌∷◌, ◌++◌, length, map, ap₂, sym, refl, subst, ◌∙◌, flat_map}
use Rattle.std.specs.List.{AllZip}
use Rattle.std.proofs.lemmas.List.{length-map}
use Rattle.std.proofs.lemmas.Slice.Zip.{AllZip-long}
use Rattle.sil_ast.specs.declared.function.Block.{Block}
use Rattle.sil_ast.specs.declared.function.BlockArg.{BlockArg}
use Rattle.sil_ast.specs.declared.inst.Inst.{Inst}
use Rattle.sil_ast.specs.declared.place.ValueId.{ValueId}
use Rattle.sil_grammar_tree.specs.declared.written_tree.written_functions.WrittenArg.{WrittenArg}
use Rattle.sil_grammar_tree.specs.declared.written_tree.written_functions.WrittenBlock.{WrittenBlock}
use Rattle.sil_grammar_tree.specs.declared.written_tree.written_instructions.WrittenInst.{WrittenInst}
use Rattle.sil_grammar_names.specs.NameResolution.Resolved.{defined_by_inst, defined_in, resolved_args, resolved_block, resolved_blocks, resolved_inst, resolved_insts}
use Rattle.numbered_form.specs.Numbering.{AreCountedFrom}
use Rattle.numbered_form.specs.Numbering as numbering
use Rattle.sil_grammar.proofs.NumberedReadingLaws.NumberingLemmas.{with_end}
use Rattle.sil_printer_laws.proofs.WrittenCode.{Counts, IsBlockRead, IsInstRead, block_defined, inst_defined}
use Rattle.sil_printer_laws.proofs.ResolvedInsts.{counted_split, inst_is, scope_with}
use Rattle.sil_printer_laws.proofs.ResultNames.{IsDefinedAs}
use Rattle.sil_printer_laws.proofs.UsedNames.{AreNamesOf, Names}
use Rattle.sil_printer_laws.proofs.Written.{IsArgWritten}

args_are : (first : ℕ) (args : List BlockArg) (ws : List WrittenArg) → AllZip IsArgWritten args ws → AreCountedFrom first (map numbering.value_of args) → args ≡ resolved_args first ws
args_are first [] [] z count = refl
args_are first [] (w ∷ ws) z count = absurd z
args_are first (a ∷ args) [] z count = absurd z
args_are first (a ∷ args) (w ∷ ws) z count =
    let value : a.value ≡ record { 0 = first } = (λ k. record { 0 = count.0 k }) in
    let arg : a ≡ record { value = record { 0 = first }; kind = w.kind; ty = w.ty } = (λ k. record { value = value k; kind = sym z.0.kind k; ty = sym z.0.ty k }) in
    ap₂ (λ a rest. a ∷ rest) arg (args_are (first + 1) args ws z.1 count.1)

insts_are : (c : Counts) (names : Names) → AreNamesOf c names → (first : ℕ) (is : List Inst) (ws : List WrittenInst)
    → AllZip (IsInstRead c) is ws → AreCountedFrom first (flat_map numbering.results_of is)
    → is ≡ resolved_insts (scope_with names) first ws
insts_are c names n first [] [] z count = refl
insts_are c names n first [] (w ∷ ws) z count = absurd z
insts_are c names n first (i ∷ is) [] z count = absurd z
insts_are c names n first (i ∷ is) (w ∷ ws) z count =
    let parts = counted_split first i.results (flat_map numbering.results_of is) count in
    let long : length (defined_by_inst w) ≡ length i.results = AllZip-long IsDefinedAs i.results (defined_by_inst w) (inst_defined c i w z.0) in
    let rest : AreCountedFrom (first + length (defined_by_inst w)) (flat_map numbering.results_of is) =
    subst (λ (k : ℕ). AreCountedFrom (first + k) (flat_map numbering.results_of is)) (sym long) parts.1 in
    ap₂ (λ a rest. a ∷ rest) (inst_is c names n first i w z.0 parts.0) (insts_are c names n (first + length (defined_by_inst w)) is ws z.1 rest)

block_is : (c : Counts) (names : Names) → AreNamesOf c names → (first : ℕ) (b : Block) (w : WrittenBlock) → IsBlockRead c b w → AreCountedFrom first (numbering.defined_in b)
    → b ≡ resolved_block (scope_with names) first w
block_is c names n first b w r count =
    let inside : AreCountedFrom first (map numbering.value_of b.args ++ flat_map numbering.results_of b.insts) =
    subst (λ (results : List ValueId). AreCountedFrom first (map numbering.value_of b.args ++ results)) (with_end b.insts b.terminator r.no_results) count in
    let parts = counted_split first (map numbering.value_of b.args) (flat_map numbering.results_of b.insts) inside in
    let long : length (map numbering.value_of b.args) ≡ length w.args = length-map b.args numbering.value_of ∙ sym (AllZip-long IsArgWritten b.args w.args r.args) in
    let behind : AreCountedFrom (first + length w.args) (flat_map numbering.results_of b.insts) = subst (λ (k : ℕ). AreCountedFrom (first + k) (flat_map numbering.results_of b.insts)) long parts.1 in
    let args : b.args ≡ resolved_args first w.args = args_are first b.args w.args r.args parts.0 in
    let insts : b.insts ≡ resolved_insts (scope_with names) (first + length w.args) w.insts = insts_are c names n (first + length w.args) b.insts w.insts r.insts behind in
    let last : ℕ = first + length (defined_in w) in
    let terminator : b.terminator ≡ resolved_inst (scope_with names) last w.terminator =
    inst_is c names n last b.terminator w.terminator r.terminator (subst (AreCountedFrom last) (sym r.no_results) tt) in
    λ k. record { args = args k; insts = insts k; terminator = terminator k }

pub blocks_are : (c : Counts) (names : Names) → AreNamesOf c names → (first : ℕ) (bs : List Block) (ws : List WrittenBlock)
    → AllZip (IsBlockRead c) bs ws → AreCountedFrom first (numbering.values_of bs)
    → bs ≡ resolved_blocks (scope_with names) first ws
blocks_are c names n first [] [] z count = refl
blocks_are c names n first [] (w ∷ ws) z count = absurd z
blocks_are c names n first (b ∷ bs) [] z count = absurd z
blocks_are c names n first (b ∷ bs) (w ∷ ws) z count =
    let parts = counted_split first (numbering.defined_in b) (numbering.values_of bs) count in
    let long : length (defined_in w) ≡ length (numbering.defined_in b) = AllZip-long IsDefinedAs (numbering.defined_in b) (defined_in w) (block_defined c b w z.0) in
    let rest : AreCountedFrom (first + length (defined_in w)) (numbering.values_of bs) = subst (λ (k : ℕ). AreCountedFrom (first + k) (numbering.values_of bs)) (sym long) parts.1 in
    ap₂ (λ a rest. a ∷ rest) (block_is c names n first b w z.0 parts.0) (blocks_are c names n (first + length (defined_in w)) bs ws z.1 rest)

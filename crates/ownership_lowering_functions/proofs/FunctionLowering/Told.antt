-- What drafts stand for, part by part.
use Rattle.std.proofs.Common.{◌≡◌, ℕ, ◌+◌, ◌<◌, List, [], ◌∷◌, ◌++◌, length, map, get_or, drop, refl, sym, ap, ap₂, ◌∙◌, append_assoc, arith}
use Rattle.std.specs.List.{flat_map}
use Rattle.std.proofs.lemmas.List.{append-nil, drop_more, length-append}
use Rattle.std.proofs.lemmas.List.Concat.{flat_map-append}
use Rattle.sil_ast.specs.declared.function.Block.{Block}
use Rattle.sil_ast.specs.declared.inst.Inst.{Inst}
use Rattle.sil_ast.specs.declared.place.ValueId.{ValueId}
use Rattle.numbered_form.specs.Insts.{insts_in}
use Rattle.numbered_form.specs.Numbering.{defined_in, results_of, value_of}
use Rattle.ownership_kinds_chains.specs.declared.ownership_chains.definition.Definition.{Definition}
use Rattle.sil_types_declarations.specs.TypeDefinitions.Declarations.{Declarations}
use Rattle.ownership_lowering_model.specs.LoweredBlocks.{args_become, block_becomes, insts_become}
use Rattle.ownership_lowering_functions.specs.declared.function_lowering.draft.Draft.{Draft}
use Rattle.ownership_lowering_functions.specs.FunctionLowering.inner.Drafts.{results_told, told_insts}

results_are : (drafts : List Draft) → flat_map results_told drafts ≡ flat_map results_of (told_insts drafts)
results_are [] = refl
results_are (d ∷ drafts) = ap (λ r. results_told d ++ r) (results_are drafts)

-- the values of a block behind others: its arguments, the results of its drafts, those of its terminator
pub block_values : (d : Declarations) (renamings : List Definition) (spare : ℕ) (b : Block) (drafts : List Draft) (before with_args with_results : List ValueId)
    → told_insts drafts ≡ insts_become d renamings spare b.insts → with_args ≡ before ++ map value_of (args_become renamings b.args)
    → with_results ≡ with_args ++ flat_map results_told drafts
    → with_results ++ b.terminator.results ≡ before ++ defined_in (block_becomes d renamings spare b)
block_values d renamings spare b drafts before with_args with_results drafted args results =
    let own : List ValueId = map value_of (args_become renamings b.args) in
    let becomes : List Inst = insts_become d renamings spare b.insts in
    let given : List ValueId = flat_map results_of becomes in
    let last : List ValueId = b.terminator.results in
    ap (λ xs. xs ++ last) (results ∙ ap₂ (λ xs ys. xs ++ ys) args (results_are drafts ∙ ap (λ is. flat_map results_of is) drafted))
    ∙ append_assoc (before ++ own) given last
    ∙ append_assoc before own (given ++ last)
    ∙ ap (λ xs. before ++ (own ++ xs)) (ap (λ xs. given ++ xs) (sym (append-nil last)) ∙ sym (flat_map-append results_of becomes (b.terminator ∷ [])))

-- the room that the instructions of one block take
pub room_next : (blocks : List Block) (k : ℕ) (b : Block) → k < length blocks → b ≡ get_or blocks k b
    → length (insts_in (drop k blocks)) ≡ length b.insts + 1 + length (insts_in (drop (k + 1) blocks))
room_next blocks k b lt is =
    let split : drop k blocks ≡ b ∷ drop (k + 1) blocks = drop_more blocks k b lt ∙ ap (λ y. y ∷ drop (k + 1) blocks) (sym is) in
    let rest : List Inst = insts_in (drop (k + 1) blocks) in
    let inner = length-append b.insts (b.terminator ∷ []) in
    let outer = length-append (b.insts ++ b.terminator ∷ []) rest in
    let all : length (insts_in (drop k blocks)) ≡ length ((b.insts ++ b.terminator ∷ []) ++ rest) = ap (λ bs. length (insts_in bs)) split in
    omega arith

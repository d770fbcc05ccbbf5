-- Blocks with the new numbers of a function's values are those of its lowering.
use Rattle.std.proofs.Common.{◌≡◌, List, length, ap, ◌∙◌}
use Rattle.std.proofs.Math.Path.{fun_ext}
use Rattle.sil_ast.specs.declared.function.Block.{Block}
use Rattle.sil_ast.specs.declared.function.Function.{Function}
use Rattle.sil_ast.specs.declared.place.ValueId.{ValueId}
use Rattle.ownership_kinds_chains.specs.declared.ownership_chains.definition.Definition.{Definition}
use Rattle.ownership_kinds_origins.proofs.Counts.{are_of_values}
use Rattle.ownership_kinds_origins.specs.Renamings.{renamings_of}
use Rattle.sil_types_declarations.specs.TypeDefinitions.Declarations.{Declarations}
use Rattle.ownership_lowering_model.specs.LoweredBlocks.{blocks_become, lowered_blocks}
use Rattle.ownership_lowering_model.specs.Numbers.{new_number, numbering_of, renumbered}
use Rattle.ownership_lowering_functions.specs.ValueRenumbering.inner.NewNumbers.{number_in}
use Rattle.ownership_lowering_functions.specs.declared.value_renumbering.new_numbers.NewNumbers.{NewNumbers}

-- by the function's own renamings, its blocks become the lowered ones
pub own_become : (d : Declarations) (f : Function) (renamings : List Definition) (blocks : List Block) → blocks ≡ f.blocks → renamings ≡ renamings_of f
    → blocks_become d renamings (length renamings) blocks ≡ lowered_blocks d f
own_become d f renamings blocks are own =
    ap (blocks_become d renamings (length renamings)) are
    ∙ ap (λ r. blocks_become d r (length r) f.blocks) own
    ∙ ap (λ n. blocks_become d (renamings_of f) n f.blocks) (are_of_values d f).1

pub renumbered_so : (d : Declarations) (f : Function) (blocks : List Block) (numbers : NewNumbers) → blocks ≡ lowered_blocks d f
    → ((v : ValueId) → number_in numbers v ≡ new_number (numbering_of d f) v)
    → renumbered (number_in numbers) blocks ≡ renumbered (new_number (numbering_of d f)) (lowered_blocks d f)
renumbered_so d f blocks numbers are same =
    ap (λ number. renumbered number blocks) (fun_ext same) ∙ ap (renumbered (new_number (numbering_of d f))) are

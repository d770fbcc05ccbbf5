-- Where lowered code stands: one instruction becomes none to three, or one for each member of what is taken apart.
use Rattle.std.specs.Prelude.{ℕ, List, [], Option, Some, None, length, slice_get, take}
use Rattle.sil_ast.specs.declared.function.Block.{Block}
use Rattle.sil_ast.specs.declared.function.Function.{Function}
use Rattle.sil_ast.specs.declared.inst.Inst.{Inst}
use Rattle.sil_ast.specs.declared.place.PointId.{PointId}
use Rattle.sil_types_declarations.specs.TypeDefinitions.Declarations.{Declarations}
use Rattle.sil_verifier_runs.specs.ownership_kinds_origins.Renamings.{renamings_of}
use Rattle.ownership_lowering_laws.specs.ownership_lowering_model.LoweredBlocks.{insts_become}

abbrev pub insts_of : Option Block → List Inst
insts_of None = []
insts_of (Some b) = b.insts

-- the instructions of the block before a point
abbrev pub insts_before : Function → PointId → List Inst
insts_before f p = take p.index (insts_of (slice_get f.blocks p.block.0))

-- how many instructions these become. Which spare values they have makes no difference
abbrev pub lowered_length : Declarations → Function → List Inst → ℕ
lowered_length d f is = length (insts_become d (renamings_of f) 0 is)

-- the point in the lowered function that is behind what became of the instructions before this one
abbrev pub lowered_point : Declarations → Function → PointId → PointId
lowered_point d f p = record p { index = lowered_length d f (insts_before f p) }

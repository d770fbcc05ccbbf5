-- The arguments of a function's blocks.
use Rattle.std.specs.Prelude.{ℕ, List, [], Option, Some, None, slice_get}
use Rattle.sil_ast.specs.declared.function.Block.{Block}
use Rattle.sil_ast.specs.declared.function.BlockArg.{BlockArg}
use Rattle.sil_ast.specs.declared.function.Function.{Function}

abbrev pub args_in : Option Block → List BlockArg
args_in None = []
args_in (Some b) = b.args

-- the arguments of the block with this number, and none where the function doesn't have it
abbrev pub args_of : Function → ℕ → List BlockArg
args_of f b = args_in (slice_get f.blocks b)

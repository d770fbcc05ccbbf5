-- The instructions of a module, terminators among them.
use Rattle.std.specs.Prelude.{List, [], ◌∷◌, ◌++◌}
use Rattle.std.specs.List.{flat_map}
use Rattle.sil_ast.specs.declared.function.Block.{Block}
use Rattle.sil_ast.specs.declared.function.Function.{Function}
use Rattle.sil_ast.specs.declared.inst.Inst.{Inst}
use Rattle.sil_ast.specs.declared.module.Module.{Module}
use Rattle.numbered_form.specs.Lists.{Each}

-- the instructions of a block, its terminator last
abbrev pub insts_of : Block → List Inst
insts_of b = b.insts ++ b.terminator ∷ []

-- the instructions of some blocks, in order
abbrev pub insts_in : List Block → List Inst
insts_in blocks = flat_map insts_of blocks

-- P holds of each instruction of a block, and of its terminator
abbrev pub EachInBlock : (Inst → Type 0) → Block → Type 0
EachInBlock P b = Each P b.insts × P b.terminator

abbrev pub EachInFunction : (Inst → Type 0) → Function → Type 0
EachInFunction P f = Each (EachInBlock P) f.blocks

-- P holds of each instruction of the module, and of each terminator
abbrev pub EachInst : (Inst → Type 0) → Module → Type 0
EachInst P m = Each (EachInFunction P) m.functions

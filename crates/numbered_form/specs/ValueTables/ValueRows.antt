-- What a table tells of each value of a function, by the values' numbers.
use Rattle.std.specs.Prelude.{ℕ, ◌+◌, List, [], ◌∷◌, ◌++◌}
use Rattle.std.specs.List.{flat_map}
use Rattle.sil_ast.specs.declared.function.Block.{Block}
use Rattle.sil_ast.specs.declared.function.BlockArg.{BlockArg}
use Rattle.sil_ast.specs.declared.function.Function.{Function}
use Rattle.sil_ast.specs.declared.inst.Inst.{Inst}
use Rattle.numbered_form.specs.Insts.{insts_of}

-- of the values of the block with this number: of its arguments, then of the results of its instructions
abbrev pub block_rows : {A : Type 0} → (ℕ → List BlockArg → List A) → (Inst → List A) → ℕ → Block → List A
block_rows args results n b = args n b.args ++ flat_map results (insts_of b)

abbrev pub rows_from : {A : Type 0} → (ℕ → List BlockArg → List A) → (Inst → List A) → ℕ → List Block → List A
rows_from args results n [] = []
rows_from args results n (b ∷ bs) = block_rows args results n b ++ rows_from args results (n + 1) bs

-- of all values of a function, block by block, where `args` tells of the arguments of a block and `results` of the results of an instruction
abbrev pub value_rows : {A : Type 0} → (ℕ → List BlockArg → List A) → (Inst → List A) → Function → List A
value_rows args results f = rows_from args results 0 f.blocks

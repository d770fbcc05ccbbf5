-- What the builder of a graph asks of a function.
use Rattle.std.specs.Prelude.{◌≡◌, ◌≢◌, ⊤, ℕ, All, length}
use Rattle.instruction_table.specs.Forms.{ending_of}
use Rattle.instruction_table.specs.declared.entries.Ending.{Ending}
use Rattle.instruction_table.specs.declared.entries.Ending.TheVariants as ending
use Rattle.sil_ast.specs.Blocks.{args_of}
use Rattle.sil_ast.specs.declared.function.Block.{Block}
use Rattle.sil_ast.specs.declared.function.Function.{Function}
use Rattle.sil_ast.specs.declared.inst.Edge.{Edge}
use Rattle.numbered_form.specs.Numbering.{IsFunctionNumbered}
use Rattle.sil_cfg.specs.inner.Build.{HasGraph}

-- the edge goes to another block than the entry
abbrev pub AvoidsEntry : Edge → Type 0
AvoidsEntry e = e.block.0 ≢ 0

-- the edge has as many arguments as the block that it goes to
abbrev pub FitsBlock : Function → Edge → Type 0
FitsBlock f e = length e.args ≡ length (args_of f e.block.0)

abbrev pub FitsBlockBy : Ending → Function → Edge → Type 0
FitsBlockBy ending.Inside f e = ⊤
FitsBlockBy ending.OneBranch f e = FitsBlock f e
FitsBlockBy ending.TwoBranches f e = FitsBlock f e
FitsBlockBy ending.Cases f e = ⊤
FitsBlockBy ending.Return f e = ⊤
FitsBlockBy ending.Unreachable f e = ⊤

-- no edge of the block goes to the entry, and each of a `br` or `cond_br` has as many arguments as the block that it goes to
pub record HasFittingEdges (f : Function) (b : Block) : Type 0 where
  pub entry : All AvoidsEntry b.terminator.edges
  pub arguments : All (FitsBlockBy (ending_of b.terminator.op) f) b.terminator.edges

-- what the builder of a graph asks of a function, in a module of this many functions
pub record IsReadyForGraph (functions : ℕ) (f : Function) : Type 0 where
  pub graph : HasGraph f
  pub numbered : IsFunctionNumbered functions f
  pub edges : All (HasFittingEdges f) f.blocks

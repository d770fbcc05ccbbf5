-- What is known of a body before its points are judged.
use Rattle.std.specs.Prelude.{◌≡◌, ◌<◌, ◌^◌, List, length}
use Rattle.sil_ast.specs.declared.function.Block.{Block}
use Rattle.sil_ast.specs.declared.function.Function.{Function}
use Rattle.sil_ast.specs.declared.inst.Inst.{Inst}
use Rattle.numbered_form.specs.Insts.{EachInBlock}
use Rattle.numbered_form.specs.inner.Limits.{IsDeclInLimits}
use Rattle.numbered_form.specs.Lists.{Each}
use Rattle.numbered_form.specs.Numbering.{IsEdgeInRange, values_of}
use Rattle.sil_types.specs.sil_types_declarations.TypeDefinitions.Declarations.{declarations_of}
use Rattle.type_check.specs.inner.Facts.{AreFactsOf}
use Rattle.type_check.specs.declared.body.Body.{Body}

-- the table is the module's and within the limits, and the facts are the function's
pub record IsBody (b : Body) : Type 0 where
  pub table : b.table.now ≡ declarations_of b.module.now
  pub members : Each IsDeclInLimits b.table.now.decls
  pub facts : AreFactsOf b.table.now b.function.now b.facts.now

-- the edges of the instruction go to blocks of the function, with its values
abbrev pub AreEdgesInRange : Function → Inst → Type 0
AreEdgesInRange f i = Each (IsEdgeInRange (length (values_of f.blocks)) (length f.blocks)) i.edges

-- so do those of a block, whose instructions can be counted
pub record IsBlockInRange (f : Function) (b : Block) : Type 0 where
  pub edges : EachInBlock (AreEdgesInRange f) b
  pub size : length b.insts < 2 ^ 32

abbrev pub AreBlocksInRange : Function → List Block → Type 0
AreBlocksInRange f blocks = Each (IsBlockInRange f) blocks

-- the function's blocks and their instructions can be counted, and its edges go to blocks
pub record HasBodyInRange (f : Function) : Type 0 where
  pub blocks : AreBlocksInRange f f.blocks
  pub size : length f.blocks < 2 ^ 32

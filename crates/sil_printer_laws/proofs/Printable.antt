-- What the printer and the grammar ask of an instruction: the bullets of numbered form, for one instruction of a function.
use Rattle.std.proofs.Common.{◌<◌, List, length, IfSome}
use Rattle.sil_ast.specs.declared.function.Function.{Function}
use Rattle.sil_ast.specs.declared.inst.Edge.{Edge}
use Rattle.sil_ast.specs.declared.inst.Inst.{Inst}
use Rattle.sil_ast.specs.declared.operands.Operand.{Operand}
use Rattle.sil_ast.specs.declared.place.ValueId.{ValueId}
use Rattle.numbered_form.specs.Lists.{Each}
use Rattle.numbered_form.specs.inner.Limits.{IsInstInLimits}
use Rattle.numbered_form.specs.inner.Literals.{HasLiterals}
use Rattle.numbered_form.specs.Names.{IsFunctionSpelled, IsInstSpelled}
use Rattle.numbered_form.specs.inner.Parts.{HasItsParts}
use Rattle.numbered_form.specs.inner.Types.{HasInstTypes}
use Rattle.sil_printer_laws.proofs.Tokens.{IsSmall}

abbrev pub IsSmallValue : ValueId → Type 0
IsSmallValue v = IsSmall v.0

abbrev pub IsSmallOperand : Operand → Type 0
IsSmallOperand o = IsSmall o.value.0

pub record IsSmallEdge (e : Edge) : Type 0 where
  pub block : IsSmall e.block.0
  pub args : Each IsSmallOperand e.args

-- in a module of these functions
pub record IsInstPrintable (functions : List Function) (i : Inst) : Type 0 where
  pub parts : HasItsParts i
  pub literals : HasLiterals i
  pub spelled : IsInstSpelled i
  pub types : HasInstTypes i
  pub limits : IsInstInLimits i
  pub results : Each IsSmallValue i.results
  pub operands : Each IsSmallOperand i.operands
  pub edges : Each IsSmallEdge i.edges
  pub function : IfSome i.function (λ f. f.0 < length functions)
  pub names : Each IsFunctionSpelled functions

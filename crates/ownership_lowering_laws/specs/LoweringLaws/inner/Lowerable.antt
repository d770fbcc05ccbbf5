-- What lowering asks of a function: what one of an accepted module has.
use Rattle.std.specs.Prelude.{◌≡◌, ℕ, true, length}
use Rattle.instruction_table.specs.Forms.{results_of}
use Rattle.sil_ast.specs.declared.function.Block.{Block}
use Rattle.sil_ast.specs.declared.function.Function.{Function}
use Rattle.sil_ast.specs.declared.inst.Inst.{Inst}
use Rattle.sil_ast.specs.declared.module.Module.{Module}
use Rattle.numbered_form.specs.Lists.{Each}
use Rattle.numbered_form.specs.Numbering.{IsFunctionNumbered}
use Rattle.numbered_form.specs.inner.Parts.{IsInside, IsTerminator}
use Rattle.ownership_kinds_chains.specs.OwnershipChains.Chains.{HasNoRing, IsInRange}
use Rattle.ownership_kinds.specs.ownership_kinds_origins.Renamings.{renamings_of}
use Rattle.holder_model_typing.specs.sil_types.Typing.ResultCounts.{is_count_by}
use Rattle.holder_model_typing.specs.sil_types.Typing.RowTypes.{keeps_row, row_types}
use Rattle.sil_types_declarations.specs.TypeDefinitions.Declarations.{Declarations}

-- the instruction ends no block, has the types that its row asks for, and as many results
pub record IsLowerableInst (d : Declarations) (i : Inst) : Type 0 where
  pub inside : IsInside i
  pub keeps : keeps_row d i ≡ true
  pub results : is_count_by (results_of i.op) (row_types d i) (length i.results) ≡ true

pub record IsLowerableBlock (d : Declarations) (b : Block) : Type 0 where
  pub insts : Each (IsLowerableInst d) b.insts
  pub terminator : IsTerminator b.terminator

-- names lead on to values of the function, and none leads back to itself
pub record HaveEnds (f : Function) : Type 0 where
  pub range : IsInRange (renamings_of f)
  pub none : HasNoRing (renamings_of f)

-- in a module of this many functions
pub record IsLowerable (functions : ℕ) (d : Declarations) (f : Function) : Type 0 where
  pub numbered : IsFunctionNumbered functions f
  pub blocks : Each (IsLowerableBlock d) f.blocks
  pub ends : HaveEnds f

abbrev pub HasNoRingIn : Function → Type 0
HasNoRingIn f = HasNoRing (renamings_of f)

-- no value of the module is another name of itself
abbrev pub HasNoRings : Module → Type 0
HasNoRings m = Each HasNoRingIn m.functions

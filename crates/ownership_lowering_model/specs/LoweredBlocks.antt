-- The blocks of a lowered function, in the old names of values.
use Rattle.std.specs.Prelude.{ℕ, ◌+◌, List, [], ◌∷◌, ◌++◌, Bool, not, map, filter, length}
use Rattle.sil_ast.specs.declared.function.ArgKind.TheVariants as kind
use Rattle.sil_ast.specs.declared.function.Block.{Block}
use Rattle.sil_ast.specs.declared.function.BlockArg.{BlockArg}
use Rattle.sil_ast.specs.declared.function.Function.{Function}
use Rattle.sil_ast.specs.declared.inst.Inst.{Inst}
use Rattle.sil_ast.specs.declared.place.ValueId.{ValueId}
use Rattle.numbered_form.specs.Numbering.{values_of}
use Rattle.ownership_kinds_origins.specs.ownership_kinds_chains.declared.ownership_chains.definition.Definition.{Definition}
use Rattle.ownership_kinds_origins.specs.Renamings.{renamings_of}
use Rattle.sil_types_declarations.specs.TypeDefinitions.Declarations.{Declarations}
use Rattle.ownership_lowering_model.specs.LoweredInsts.{becomes}
use Rattle.ownership_lowering_model.specs.Names.{is_other_name}

abbrev pub value_with : ℕ → ValueId
value_with n = record { 0 = n }

-- arguments

abbrev pub without_annotation : BlockArg → BlockArg
without_annotation a = record a { kind = kind.Plain }

abbrev pub has_own_name : List Definition → BlockArg → Bool
has_own_name renamings a = not (is_other_name renamings a.value)

-- the argument of a default's block goes: it is another name for what is switched
abbrev pub args_become : List Definition → List BlockArg → List BlockArg
args_become renamings args = map without_annotation (filter (has_own_name renamings) args)

-- instructions

module _ (d : Declarations) (renamings : List Definition) where
  -- each instruction has a spare value of its own, be it needed or not. The first one's has this number
  abbrev pub insts_become : ℕ → List Inst → List Inst
  insts_become spare [] = []
  insts_become spare (i ∷ is) = becomes d (value_with spare) i ++ insts_become (spare + 1) is

  -- the terminator stays
  abbrev pub block_becomes : ℕ → Block → Block
  block_becomes spare b = record {
    args = args_become renamings b.args;
    insts = insts_become spare b.insts;
    terminator = b.terminator;
  }

  abbrev pub blocks_become : ℕ → List Block → List Block
  blocks_become spare [] = []
  blocks_become spare (b ∷ bs) = block_becomes spare b ∷ blocks_become (spare + length b.insts) bs

-- the lowered blocks of a function. The numbers of spare values begin behind those of its own
abbrev pub lowered_blocks : Declarations → Function → List Block
lowered_blocks d f = blocks_become d (renamings_of f) (length (values_of f.blocks)) f.blocks

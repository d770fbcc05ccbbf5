-- The values of a lowered function, numbered anew.
use Rattle.std.specs.Prelude.{List, map}
use Rattle.std.specs.List.{position_or_len}
use Rattle.sil_ast.specs.declared.function.Block.{Block}
use Rattle.sil_ast.specs.declared.function.BlockArg.{BlockArg}
use Rattle.sil_ast.specs.declared.function.Function.{Function}
use Rattle.sil_ast.specs.declared.inst.Edge.{Edge}
use Rattle.sil_ast.specs.declared.inst.Inst.{Inst}
use Rattle.sil_ast.specs.declared.operands.Operand.{Operand}
use Rattle.sil_ast.specs.declared.place.ValueId.{ValueId}
use Rattle.numbered_form.specs.Numbering.{is_value, values_of}
use Rattle.ownership_kinds_origins.specs.ownership_kinds_chains.declared.ownership_chains.definition.Definition.{Definition}
use Rattle.ownership_kinds_origins.specs.Renamings.{renamings_of}
use Rattle.sil_types_declarations.specs.TypeDefinitions.Declarations.{Declarations}
use Rattle.ownership_lowering_model.specs.LoweredBlocks.{lowered_blocks, value_with}
use Rattle.ownership_lowering_model.specs.Names.{stands_for}

-- what the new number of a value depends on: the function's renamings, and the values that its lowered blocks define, in order
pub record Numbering : Type 0 where
  pub renamings : List Definition
  pub defined : List ValueId

-- the value's place among those that are defined, which is its number (asked only of these)
abbrev pub place_among : List ValueId → ValueId → ValueId
place_among defined v = value_with (position_or_len (is_value v) defined)

-- the new number of an old value: that of the value for which it stands. A spare value stands for itself
abbrev pub new_number : Numbering → ValueId → ValueId
new_number n v = place_among n.defined (stands_for n.renamings v)

-- how the values of a function are numbered anew
abbrev pub numbering_of : Declarations → Function → Numbering
numbering_of d f = record { renamings = renamings_of f; defined = values_of (lowered_blocks d f) }

-- new numbers in the places of old ones

module _ (number : ValueId → ValueId) where
  abbrev pub renumbered_operand : Operand → Operand
  renumbered_operand o = record o { value = number o.value }

  abbrev pub renumbered_edge : Edge → Edge
  renumbered_edge e = record e { args = map renumbered_operand e.args }

  abbrev pub renumbered_inst : Inst → Inst
  renumbered_inst i = record i {
    results = map number i.results;
    operands = map renumbered_operand i.operands;
    edges = map renumbered_edge i.edges;
  }

  abbrev pub renumbered_arg : BlockArg → BlockArg
  renumbered_arg a = record a { value = number a.value }

  abbrev pub renumbered_block : Block → Block
  renumbered_block b = record {
    args = map renumbered_arg b.args;
    insts = map renumbered_inst b.insts;
    terminator = renumbered_inst b.terminator;
  }

  abbrev pub renumbered : List Block → List Block
  renumbered bs = map renumbered_block bs

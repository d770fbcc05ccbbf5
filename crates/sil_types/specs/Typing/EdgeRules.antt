-- 203, 210 and 211: what edges bring to blocks.
use Rattle.std.specs.Prelude.{List, Bool, false, not, ◌==◌, drop, map}
use Rattle.std.specs.List.{list_all, list_any}
use Rattle.sil_ast.specs.instruction_table.declared.op.Op.{Op}
use Rattle.sil_ast.specs.instruction_table.declared.op.Op.TheVariants as op
use Rattle.sil_ast.specs.Blocks.{args_of}
use Rattle.sil_ast.specs.declared.function.Block.{Block}
use Rattle.sil_ast.specs.declared.function.BlockArg.{BlockArg}
use Rattle.sil_ast.specs.declared.function.Function.{Function}
use Rattle.sil_ast.specs.declared.inst.Edge.{Edge}
use Rattle.sil_ast.specs.declared.inst.Inst.{Inst}
use Rattle.sil_types.specs.Typing.RowTypes.{all_written}
use Rattle.sil_types.specs.Typing.Same.{are_same_types}
use Rattle.sil_types.specs.Typing.Shapes.{is_address}
use Rattle.sil_types.specs.Typing.Values.{arg_type}

-- the edge's arguments have the types of its block's, in order; in numbered form each of them has its type written
abbrev pub has_block_types : Function → Edge → Bool
has_block_types f e = are_same_types (all_written e.args) (map arg_type (args_of f e.block.0))

abbrev pub have_wrong_arguments_by : Op → Function → List Edge → Bool
have_wrong_arguments_by op.Br f es = not (list_all (has_block_types f) es)
have_wrong_arguments_by op.CondBr f es = not (list_all (has_block_types f) es)
have_wrong_arguments_by _ f es = false

-- 203: an edge of `br` or `cond_br` has other arguments than its block, in number or type
unfoldable pub has_wrong_edge_arguments : Function → Inst → Bool
has_wrong_edge_arguments f i = have_wrong_arguments_by i.op f i.edges

abbrev pub has_address_type : BlockArg → Bool
has_address_type a = is_address a.ty

abbrev pub takes_address : Block → Bool
takes_address b = list_any has_address_type b.args

-- 210: an argument of a block other than the entry has an address type
unfoldable pub lets_address_escape : Function → Bool
lets_address_escape f = list_any takes_address (drop 1 f.blocks)

abbrev pub is_to_entry : Edge → Bool
is_to_entry e = e.block.0 == 0

-- 211: an edge goes to the entry
unfoldable pub goes_to_entry : Inst → Bool
goes_to_entry i = list_any is_to_entry i.edges

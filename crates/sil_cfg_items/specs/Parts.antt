-- The parts of a function that belong to an item.
use Rattle.std.specs.Prelude.{ℕ, List, [], Option, Some, None, slice_get}
use Rattle.sil_ast.specs.Blocks.{args_of}
use Rattle.sil_ast.specs.declared.function.Block.{Block}
use Rattle.sil_ast.specs.declared.function.BlockArg.{BlockArg}
use Rattle.sil_ast.specs.declared.function.Function.{Function}
use Rattle.sil_ast.specs.declared.inst.Edge as edge
use Rattle.sil_ast.specs.declared.inst.Inst as inst
use Rattle.sil_ast.specs.declared.operands.Operand.{Operand}
use Rattle.sil_ast.specs.declared.place.EdgeId.{EdgeId}
use Rattle.sil_ast.specs.declared.place.PointId.{PointId}
use Rattle.sil_ast.specs.declared.place.ValueId.{ValueId}
use Rattle.sil_cfg.specs.declared.item.Item.{Item}
use Rattle.sil_cfg.specs.declared.item.Item.TheVariants.{Entry, Inst, Edge, Exit}

abbrev pub inst_in : Option Block → ℕ → Option inst.Inst
inst_in None k = None
inst_in (Some b) k = slice_get b.insts k

abbrev pub terminator_in : Option Block → Option inst.Inst
terminator_in None = None
terminator_in (Some b) = Some b.terminator

abbrev pub edge_in : Option inst.Inst → ℕ → Option edge.Edge
edge_in None k = None
edge_in (Some i) k = slice_get i.edges k

abbrev pub operands_in : Option inst.Inst → List Operand
operands_in None = []
operands_in (Some i) = i.operands

abbrev pub results_in : Option inst.Inst → List ValueId
results_in None = []
results_in (Some i) = i.results

abbrev pub handover_in : Option edge.Edge → List Operand
handover_in None = []
handover_in (Some e) = e.args

-- the instruction at a point; a terminator isn't at one
abbrev pub inst_at : Function → PointId → Option inst.Inst
inst_at f p = inst_in (slice_get f.blocks p.block.0) p.index

-- the terminator of the block with this number
abbrev pub terminator_of : Function → ℕ → Option inst.Inst
terminator_of f b = terminator_in (slice_get f.blocks b)

abbrev pub edge_at : Function → EdgeId → Option edge.Edge
edge_at f e = edge_in (terminator_of f e.block.0) e.index

-- the arguments of the block to which an edge goes
abbrev pub args_behind : Function → Option edge.Edge → List BlockArg
args_behind f None = []
args_behind f (Some e) = args_of f e.block.0

-- the instruction of an item: a terminator for its edges and its exit
abbrev pub item_inst : Function → Item → Option inst.Inst
item_inst f Entry = None
item_inst f (Inst p) = inst_at f p
item_inst f (Edge e) = terminator_of f e.block.0
item_inst f (Exit p) = terminator_of f p.block.0

-- the edge of an item
abbrev pub item_edge : Function → Item → Option edge.Edge
item_edge f Entry = None
item_edge f (Inst p) = None
item_edge f (Edge e) = edge_at f e
item_edge f (Exit p) = None

-- the operands of the item's instruction
abbrev pub item_operands : Function → Item → List Operand
item_operands f item = operands_in (item_inst f item)

-- what the item's edge hands over: one operand for each of the arguments that begin with the item
abbrev pub item_handover : Function → Item → List Operand
item_handover f item = handover_in (item_edge f item)

-- the results of the item's instruction; a terminator makes none
abbrev pub item_results : Function → Item → List ValueId
item_results f Entry = []
item_results f (Inst p) = results_in (inst_at f p)
item_results f (Edge e) = []
item_results f (Exit p) = []

-- the arguments that begin with the item: those of the entry, or of the block to which its edge goes
abbrev pub item_arguments : Function → Item → List BlockArg
item_arguments f Entry = args_of f 0
item_arguments f (Inst p) = []
item_arguments f (Edge e) = args_behind f (edge_at f e)
item_arguments f (Exit p) = []

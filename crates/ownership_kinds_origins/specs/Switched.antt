-- The switch that goes to a block.
use Rattle.std.specs.Prelude.{ℕ, List, [], ◌==◌, Option, None, is_none, option_map, slice_get, if◌then◌else◌}
use Rattle.std.specs.List.{filter_map, flat_map}
use Rattle.instruction_table.specs.Forms.{ending_of}
use Rattle.instruction_table.specs.declared.entries.Ending.{Ending}
use Rattle.instruction_table.specs.declared.entries.Ending.TheVariants as ending
use Rattle.sil_ast.specs.declared.function.Block.{Block}
use Rattle.sil_ast.specs.declared.function.Function.{Function}
use Rattle.sil_ast.specs.declared.inst.Edge.{Edge}
use Rattle.sil_ast.specs.declared.inst.Inst.{Inst}
use Rattle.sil_ast.specs.declared.place.ValueId.{ValueId}
use Rattle.numbered_form.specs.ValueTables.FirstValue.{first_value}
use Rattle.ownership_kinds_origins.specs.declared.switched.Switched.{Switched}

abbrev pub switched_by : Edge → ValueId → Switched
switched_by e v = record { operand = v; is_default = is_none e.case_of }

abbrev pub edge_to : ℕ → Inst → Edge → Option Switched
edge_to block i e = if e.block.0 == block then option_map (switched_by e) (first_value i) else None

abbrev pub switches_by : Ending → ℕ → Inst → List Switched
switches_by ending.Inside block i = []
switches_by ending.OneBranch block i = []
switches_by ending.TwoBranches block i = []
switches_by ending.Cases block i = filter_map (edge_to block i) i.edges
switches_by ending.Return block i = []
switches_by ending.Unreachable block i = []

abbrev pub switches_from : ℕ → Block → List Switched
switches_from block b = switches_by (ending_of b.terminator.op) block b.terminator

-- the switch that goes to the block with this number, by its first edge to it; a typed function has at most one
abbrev pub switch_to : Function → ℕ → Option Switched
switch_to f block = slice_get (flat_map (switches_from block) f.blocks) 0

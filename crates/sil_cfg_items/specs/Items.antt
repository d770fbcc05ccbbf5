-- What an item takes, and the values that it defines.
use Rattle.std.specs.Prelude.{List, [], ◌++◌, Option, Some, None, map}
use Rattle.sil_ast.specs.declared.function.BlockArg.{BlockArg}
use Rattle.sil_ast.specs.declared.function.Function.{Function}
use Rattle.sil_ast.specs.declared.inst.Edge.{Edge}
use Rattle.sil_ast.specs.declared.inst.Inst.{Inst}
use Rattle.sil_ast.specs.declared.place.ValueId.{ValueId}
use Rattle.sil_cfg.specs.declared.item.Item.{Item}
use Rattle.sil_cfg_items.specs.Parts.{item_arguments, item_edge, item_inst, item_results}
use Rattle.sil_cfg_items.specs.Roles.{taken_along, taken_by}
use Rattle.sil_cfg_items.specs.declared.taken.Taken.{Taken}

abbrev pub arg_value : BlockArg → ValueId
arg_value a = a.value

abbrev pub taken_in : Option Inst → List Taken
taken_in None = []
taken_in (Some i) = taken_by i

abbrev pub taken_along_in : Option Edge → List Taken
taken_along_in None = []
taken_along_in (Some e) = taken_along e

-- what an item takes: the operands of its instruction, and then what its edge hands over
abbrev pub item_taken : Function → Item → List Taken
item_taken f item = taken_in (item_inst f item) ++ taken_along_in (item_edge f item)

-- the values that an item defines: the results of its instruction, or the arguments that begin with it
abbrev pub item_defined : Function → Item → List ValueId
item_defined f item = item_results f item ++ map arg_value (item_arguments f item)

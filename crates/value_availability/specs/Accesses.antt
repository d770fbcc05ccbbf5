-- What an item does to the values: it uses what it takes, and then defines what it makes. A value's switch is on while it is defined.
use Rattle.std.specs.Prelude.{List, ◌++◌, map}
use Rattle.sil_ast.specs.declared.place.ValueId.{ValueId}
use Rattle.sil_ast.specs.declared.operands.Operand.{Operand}
use Rattle.sil_ast.specs.declared.function.Function.{Function}
use Rattle.sil_ast.specs.declared.function.BlockArg.{BlockArg}
use Rattle.sil_cfg.specs.declared.item.Item.{Item}
use Rattle.sil_rules.specs.declared.rule.Rule.TheVariants as rule
use Rattle.sil_cfg_items.specs.Parts.{item_arguments, item_handover, item_operands, item_results}
use Rattle.reach_engine_marks.specs.PathPatterns.Marks.{needs_on, turns_on}
use Rattle.reach_engine_marks.specs.declared.path_checks.entry.Entry.{Entry}

-- an operand needs its value defined
abbrev pub used : Operand → Entry
used o = record { subject = o.value.0; mark = needs_on rule.Undefined }

-- a result and an argument define their value
abbrev pub defined : ValueId → Entry
defined v = record { subject = v.0; mark = turns_on rule.Undefined }

abbrev pub begun : BlockArg → Entry
begun a = defined a.value

-- what the item does to the values of the function: operands, what its edge hands over, results, and arguments that begin with it
abbrev pub accesses_of : Function → Item → List Entry
accesses_of f item = map used (item_operands f item) ++ map used (item_handover f item) ++ map defined (item_results f item)
    ++ map begun (item_arguments f item)

-- Which items are a `return`.
use Rattle.std.specs.Prelude.{Bool, true, false, slice_get, Option, Some, None}
use Rattle.instruction_table.specs.Forms.{ending_of}
use Rattle.instruction_table.specs.declared.entries.Ending.{Ending}
use Rattle.instruction_table.specs.declared.entries.Ending.TheVariants as ending
use Rattle.sil_ast.specs.declared.function.Block.{Block}
use Rattle.sil_ast.specs.declared.function.Function.{Function}
use Rattle.sil_cfg.specs.declared.item.Item.{Item}
use Rattle.sil_cfg.specs.declared.item.Item.TheVariants.{Entry, Inst, Edge, Exit}

abbrev pub returns_by : Ending → Bool
returns_by ending.Inside = false
returns_by ending.OneBranch = false
returns_by ending.TwoBranches = false
returns_by ending.Cases = false
returns_by ending.Return = true
returns_by ending.Unreachable = false

abbrev pub returns_in : Option Block → Bool
returns_in None = false
returns_in (Some b) = returns_by (ending_of b.terminator.op)

-- the item is a `return`
abbrev pub is_return : Function → Item → Bool
is_return f Entry = false
is_return f (Inst p) = false
is_return f (Edge e) = false
is_return f (Exit p) = returns_in (slice_get f.blocks p.block.0)

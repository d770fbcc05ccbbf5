-- The items of a function.
use Rattle.std.specs.Prelude.{◌≡◌, ℕ, zero, suc, ◌<◌, List, [], ◌∷◌, ◌++◌, length, map, slice_get, Option, Some, None, Bool, true, false, IsTrue, IsSomeAnd}
use Rattle.sil_ast.specs.declared.place.PointId.{PointId}
use Rattle.instruction_table.specs.declared.op.Op.{Op}
use Rattle.instruction_table.specs.declared.entries.Ending.{Ending}
use Rattle.instruction_table.specs.declared.entries.Ending.TheVariants as ending
use Rattle.instruction_table.specs.Forms.{ending_of}
use Rattle.sil_ast.specs.declared.inst.Inst as inst
use Rattle.sil_ast.specs.declared.function.Function.{Function}
use Rattle.sil_ast.specs.declared.function.Block.{Block}
use Rattle.sil_cfg.specs.declared.item.Item.{Item}
use Rattle.sil_cfg.specs.declared.item.Item.TheVariants.{Entry, Inst, Edge, Exit}
use Rattle.sil_cfg.specs.Flow.{Flow, IsEdge}

-- control leaves the function there
abbrev pub leaves_function : Ending → Bool
leaves_function ending.Inside = false
leaves_function ending.OneBranch = false
leaves_function ending.TwoBranches = false
leaves_function ending.Cases = false
leaves_function ending.Return = true
leaves_function ending.Unreachable = true

-- the instruction ends the function: `return` and `unreachable`
abbrev pub ends_function : Op → Bool
ends_function o = leaves_function (ending_of o)

abbrev pub point_at : ℕ → ℕ → PointId
point_at b k = record { block = record { 0 = b }; index = k }

-- the items of a block's instructions, the first of which has index k
abbrev pub insts_from : ℕ → ℕ → List inst.Inst → List Item
insts_from b k [] = []
insts_from b k (x ∷ insts) = Inst (point_at b k) ∷ insts_from b (suc k) insts

-- the entry item stands in the entry block
abbrev pub entry_of : ℕ → List Item
entry_of zero = Entry ∷ []
entry_of (suc b) = []

-- the exit item of a terminator at a point
abbrev pub exit_of : PointId → Bool → List Item
exit_of p true = Exit p ∷ []
exit_of p false = []

-- a block's items in order: the entry item, its instructions, its exit item
abbrev pub own_items : ℕ → Block → List Item
own_items b block =
    entry_of b ++ (insts_from b 0 block.insts ++ exit_of (point_at b (length block.insts)) (ends_function block.terminator.op))

abbrev pub items_in : ℕ → Option Block → List Item
items_in b None = []
items_in b (Some block) = own_items b block

abbrev pub targets_in : Option Block → List ℕ
targets_in None = []
targets_in (Some block) = map (λ e. e.block.0) block.terminator.edges

abbrev pub last_in : Option Block → ℕ
last_in None = 0
last_in (Some block) = length block.insts

-- the flow of a function
abbrev pub flow_of : Function → Flow Item
flow_of f = record {
  count = length f.blocks;
  items = λ b. items_in b (slice_get f.blocks b);
  targets = λ b. targets_in (slice_get f.blocks b);
  last = λ b. last_in (slice_get f.blocks b);
  item_of = λ e. Edge e;
}

-- the point is that of the block's terminator, which ends the function
abbrev pub IsExit : PointId → Block → Type 0
IsExit p block = (p.index ≡ length block.insts) × IsTrue (ends_function block.terminator.op)

-- the function has a body
abbrev pub HasBlocks : Function → Type 0
HasBlocks f = 0 < length f.blocks

-- the items of a function: its entry item, its instructions, each terminator with one of its edges, each `return` or `unreachable`
abbrev pub IsItem : Function → Item → Type 0
IsItem f Entry = 0 < length f.blocks
IsItem f (Inst p) = IsSomeAnd (slice_get f.blocks p.block.0) (λ block. p.index < length block.insts)
IsItem f (Edge e) = IsEdge (flow_of f) e
IsItem f (Exit p) = IsSomeAnd (slice_get f.blocks p.block.0) (IsExit p)

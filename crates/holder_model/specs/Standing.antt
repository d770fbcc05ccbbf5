-- Where a frame stands: its point, and its slots.
use Rattle.std.specs.Prelude.{ℕ, suc, ◌==◌, ◌&&◌, List, [], ◌∷◌, Bool, true, false, not, Option, Some, None}
use Rattle.holder_model_values.specs.RunValues.Places.{Home, Inside, OnStack, Place}
use Rattle.sil_ast.specs.declared.function.Function.{Function}
use Rattle.sil_ast.specs.declared.inst.Edge as edge
use Rattle.sil_ast.specs.declared.place.PointId.{PointId}
use Rattle.memory_rules_accesses.specs.sil_cfg.declared.item.Item.{Item}
use Rattle.memory_rules_accesses.specs.sil_cfg.declared.item.Item.TheVariants as item
use Rattle.memory_rules_accesses.specs.sil_cfg_items.Parts.{edge_at}

abbrev pub first_point : ℕ → PointId
first_point b = record { block = record { 0 = b }; index = 0 }

abbrev pub point_behind : PointId → PointId
point_behind p = record p { index = suc p.index }

abbrev pub target_of : Option edge.Edge → ℕ
target_of None = 0
target_of (Some e) = e.block.0

-- the point behind an item
abbrev pub behind : Function → Item → PointId
behind f item.Entry = first_point 0
behind f (item.Inst p) = point_behind p
behind f (item.Edge e) = first_point (target_of (edge_at f e))
behind f (item.Exit p) = p

-- the point where a frame stands
abbrev pub stands_at : Function → List Item → PointId
stands_at f [] = first_point 0
stands_at f (newest ∷ older) = behind f newest

abbrev pub on_stack : Home → Bool
on_stack OnStack = true
on_stack (Inside o) = false

-- the place is the slot itself
abbrev pub is_slot : Place → Place → Bool
is_slot p slot = on_stack p.home && (not p.is_part && p.first == slot.first)

-- Which edge of a block is taken, and what it carries.
use Rattle.std.specs.Prelude.{ℕ, ◌==◌, List, [], ◌∷◌, Bool, false, cond, drop, length, Option, Some, None, is_none, option_map, option_and_then}
use Rattle.std.specs.Prelude.{position, unwrap_or}
use Rattle.std.specs.Option.{option_or}
use Rattle.instruction_table.specs.Forms.{ending_of}
use Rattle.instruction_table.specs.declared.entries.Ending.{Ending}
use Rattle.instruction_table.specs.declared.entries.Ending.TheVariants as ending
use Rattle.sil_ast.specs.declared.function.Function.{Function}
use Rattle.sil_ast.specs.declared.inst.Edge.{Edge}
use Rattle.sil_ast.specs.declared.place.EdgeId.{EdgeId}
use Rattle.sil_ast.specs.declared.place.PointId.{PointId}
use Rattle.memory_rules_accesses.specs.sil_cfg_items.Parts.{args_behind, edge_at, item_operands, terminator_of}
use Rattle.memory_rules_accesses.specs.sil_cfg.declared.item.Item.TheVariants as item
use Rattle.holder_model_values.specs.RunValues.Shapes.{Shape}
use Rattle.holder_model_values.specs.RunValues.Values.{Value, case_of, integer_of}
use Rattle.holder_model.specs.Builtins.{is_set}
use Rattle.holder_model.specs.Data.{Datum, ValueOf, as_value}
use Rattle.holder_model.specs.ModuleShapes.{case_place}

abbrev pub edge_of : PointId → ℕ → EdgeId
edge_of p k = record { block = p.block; index = k }

-- a set bit chooses the first edge
abbrev pub branch_of : Value → Option ℕ
branch_of x = option_map (λ n. cond (is_set n) 0 1) (integer_of x)

abbrev pub is_at : ℕ → Option ℕ → Bool
is_at k None = false
is_at k (Some j) = k == j

-- the edge of a `switch_enum` names the case at this place; a default names none
abbrev pub is_for : Shape → ℕ → Edge → Bool
is_for s k e = is_at k (case_place s e.case_of)

abbrev pub is_default : Edge → Bool
is_default e = is_none e.case_of

-- the edge of the value's case, or the default. The shape is that of the operand
abbrev pub edge_for : Shape → List Edge → ℕ → Option ℕ
edge_for s edges k = option_or (position (is_for s k) edges) (position is_default edges)

abbrev pub case_edge : Shape → List Edge → Value → Option ℕ
case_edge s edges x = option_and_then (λ c. edge_for s edges c.index) (case_of x)

-- a `switch_enum` hands a case's payload to its block, and the whole value to the default's, where that takes it
abbrev pub payload_data : Value → List Datum
payload_data x = unwrap_or (option_map (λ c. unwrap_or (option_map (λ v. ValueOf v ∷ []) c.payload) []) (case_of x)) []

abbrev pub switched_data : Edge → ℕ → Value → List Datum
switched_data e count x = cond (is_default e) (cond (count == 0) [] (ValueOf x ∷ [])) (payload_data x)

abbrev pub first_value_of : List Datum → Option Value
first_value_of [] = None
first_value_of (x ∷ xs) = as_value x

-- what the edge carries, by the data of all that its item takes: behind the operands of the terminator stand those that are handed over
abbrev pub carried_by : Ending → Function → EdgeId → Edge → List Datum → Option (List Datum)
carried_by ending.Inside f e taken xs = None
carried_by ending.OneBranch f e taken xs = Some (drop (length (item_operands f (item.Edge e))) xs)
carried_by ending.TwoBranches f e taken xs = Some (drop (length (item_operands f (item.Edge e))) xs)
carried_by ending.Cases f e taken xs = option_map (switched_data taken (length (args_behind f (Some taken)))) (first_value_of xs)
carried_by ending.Return f e taken xs = None
carried_by ending.Unreachable f e taken xs = None

abbrev pub carried_along : Function → EdgeId → List Datum → Option (List Datum)
carried_along f e xs =
    option_and_then (λ i. option_and_then (λ taken. carried_by (ending_of i.op) f e taken xs) (edge_at f e)) (terminator_of f e.block.0)

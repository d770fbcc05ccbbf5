-- The states of a run of lowered code, and what its steps are made of.
use Rattle.std.specs.Prelude.{◌+◌, ◌==◌, List, [], ◌∷◌, ◌++◌, cond, map, length, Option, Some, None, Ok, Err}
use Rattle.std.specs.declared.result.Result.{Result}
use Rattle.sil_ast.specs.declared.function.Function.{Function}
use Rattle.sil_ast.specs.declared.place.FuncId.{FuncId}
use Rattle.sil_ast.specs.declared.place.ObjectId.{ObjectId}
use Rattle.sil_ast.specs.declared.place.ValueId.{ValueId}
use Rattle.memory_rules_accesses.specs.sil_cfg.declared.item.Item.{Item}
use Rattle.memory_rules_accesses.specs.sil_cfg_items.Items.{item_taken}
use Rattle.memory_rules_accesses.specs.sil_cfg_items.declared.taken.Taken.{Taken}
use Rattle.holder_model_values.specs.RunValues.Memory.{Memory, is_dead}
use Rattle.holder_model_values.specs.RunValues.Places.{Place}
use Rattle.holder_model.specs.Data.{Datum}
use Rattle.holder_model.specs.Effects.{ClosesSlot, OpensSlot, SameSlots, SlotChange}
use Rattle.holder_model.specs.Outcomes.{Numbers}
use Rattle.holder_model.specs.Standing.{first_point, is_slot}
use Rattle.holder_model.specs.States.{Ends, Faulted, Next, State}
use Rattle.holder_model.specs.declared.lowered_run.low_fault.LowFault.{LowFault}
use Rattle.holder_model.specs.declared.lowered_run.low_fault.LowFault.TheVariants as fault
use Rattle.holder_model.specs.LoweredRun.LowFrames.{LowFrame}
use Rattle.holder_model.specs.LoweredRun.Stored.{changed, new_numbers, one_more}

abbrev pub LowState : Type 0
LowState = State LowFrame (List Numbers)

abbrev pub LowNext : Type 0
LowNext = Next LowFault LowState

abbrev pub fails : LowState → LowFault → LowNext
fails s x = Ends (Faulted x) s

-- what no typed function does
abbrev pub misfits : LowState → LowNext
misfits s = fails s (fault.Missing (record { 0 = 0 }))

abbrev pub on_ok : {A : Type 0} → LowState → (A → LowNext) → Result A LowFault → LowNext
on_ok s go (Ok x) = go x
on_ok s go (Err x) = fails s x

abbrev pub on_some : {A : Type 0} → LowState → (A → LowNext) → Option A → LowNext
on_some s go None = misfits s
on_some s go (Some x) = go x

abbrev pub slots_behind : SlotChange → List Place → Result (List Place) LowFault
slots_behind SameSlots slots = Ok slots
slots_behind (OpensSlot p) slots = Ok (p ∷ slots)
slots_behind (ClosesSlot p) [] = Err fault.Slot
slots_behind (ClosesSlot p) (slot ∷ slots) = cond (is_slot p slot) (Ok slots) (Err fault.Slot)

abbrev pub taken_value : Taken → ValueId
taken_value t = t.value

-- what the item takes, in order
abbrev pub values_taken : Function → Item → List ValueId
values_taken f i = map taken_value (item_taken f i)

-- one reference more of each object, one after another; a dead one is a fault
abbrev pub retains_each : List ObjectId → LowState → (LowState → LowNext) → LowNext
retains_each [] s go = go s
retains_each (o ∷ os) s go =
    cond (is_dead s.memory o) (fails s (fault.Dead o))
    (retains_each os (record s { numbers = changed one_more s.numbers o; retains = s.retains + 1 }) go)

-- a new object brings its numbers
abbrev pub numbers_for : Memory → List Numbers → List Numbers
numbers_for m stored = cond (length stored == length m.objects) stored (stored ++ new_numbers ∷ [])

abbrev pub new_frame : FuncId → List (Option Datum) → LowFrame
new_frame g values = record { function = g; at = first_point 0; values = values; slots = [] }

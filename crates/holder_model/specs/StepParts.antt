-- What the steps of a run by holders are made of.
use Rattle.std.specs.Prelude.{ℕ, List, [], ◌∷◌, cond, Option, Some, None, Ok, Err, slice_get, option_map, option_and_then, unwrap_or}
use Rattle.std.specs.declared.result.Result.{Result}
use Rattle.sil_ast.specs.declared.inst.Inst as inst
use Rattle.sil_ast.specs.declared.place.FuncId.{FuncId}
use Rattle.memory_rules_accesses.specs.sil_cfg.declared.item.Item.TheVariants as item
use Rattle.holder_model_values.specs.RunValues.Places.{Place}
use Rattle.holder_model_values.specs.RunValues.Shapes.{Shape, Unknown}
use Rattle.holder_model_values.specs.RunValues.Values.{Value}
use Rattle.holder_model.specs.Data.{Datum, as_value}
use Rattle.holder_model.specs.Effects.{ClosesSlot, OpensSlot, SameSlots, SlotChange}
use Rattle.holder_model.specs.Faults.{HolderFault, NoEntry, NotLastSlot, WrongShape}
use Rattle.holder_model.specs.Frames.{Entry, Frame, datum_in, entry_at}
use Rattle.holder_model.specs.HolderStates.{HolderNext, HolderState}
use Rattle.holder_model.specs.ModuleShapes.{shape_at}
use Rattle.holder_model.specs.Standing.{is_slot}
use Rattle.holder_model.specs.States.{Ends, Faulted}

abbrev pub fault : HolderState → HolderFault → HolderNext
fault s x = Ends (Faulted x) s

abbrev pub on_ok : {A : Type 0} → HolderState → (A → HolderNext) → Result A HolderFault → HolderNext
on_ok s go (Ok x) = go x
on_ok s go (Err x) = fault s x

abbrev pub on_some : {A : Type 0} → HolderState → (A → HolderNext) → Option A → HolderNext
on_some s go None = fault s WrongShape
on_some s go (Some x) = go x

-- a slot that goes is the newest of the frame
abbrev pub slots_behind : SlotChange → List Place → Result (List Place) HolderFault
slots_behind SameSlots slots = Ok slots
slots_behind (OpensSlot p) slots = Ok (p ∷ slots)
slots_behind (ClosesSlot p) [] = Err NotLastSlot
slots_behind (ClosesSlot p) (slot ∷ slots) = cond (is_slot p slot) (Ok slots) (Err NotLastSlot)

abbrev pub chosen_edge : HolderState → (Value → Option ℕ) → (ℕ → HolderNext) → Option Datum → HolderNext
chosen_edge s choose go None = fault s NoEntry
chosen_edge s choose go (Some x) = on_some s go (option_and_then choose (as_value x))

abbrev pub chosen_by : HolderState → (Value → Option ℕ) → (ℕ → HolderNext) → Option Entry → HolderNext
chosen_by s choose go None = fault s WrongShape
chosen_by s choose go (Some e) = chosen_edge s choose go (datum_in e)

-- the edge that the terminator's operand chooses
abbrev pub with_chosen : HolderState → Frame → inst.Inst → (Value → Option ℕ) → (ℕ → HolderNext) → HolderNext
with_chosen s frame i choose go = chosen_by s choose go (option_map (λ o. entry_at frame.entries o.value) (slice_get i.operands 0))

abbrev pub new_frame : FuncId → List Entry → Frame
new_frame g entries = record { function = g; trail = item.Entry ∷ []; entries = entries; slots = []; lent = [] }

abbrev pub switched_shape : List Shape → inst.Inst → Shape
switched_shape values i = unwrap_or (option_map (λ o. shape_at values o.value) (slice_get i.operands 0)) Unknown

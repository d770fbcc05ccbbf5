-- What places hold, and how they are written and emptied.
use Rattle.std.specs.Prelude.{ℕ, ◌+◌, ◌==◌, List, Bool, true, false, cond, Option, Some, None, take, drop, length, nat_le, set, slice_get, option_and_then}
use Rattle.count_heap.specs.HeapModel.HeapCalls.{changed, with_field, with_field_of, with_part}
use Rattle.count_heap.specs.HeapModel.HeapViews.{HeapView, field_in, is_dead_in, leaves_at}
use Rattle.count_machine_model.specs.MachineSteps.Operands.{laid_over}
use Rattle.holder_model.specs.holder_model_values.declared.run_values.leaf.Leaf.{Leaf}
use Rattle.sil_ast.specs.declared.place.ObjectId.{ObjectId}
use Rattle.count_machine_model.specs.declared.machine_steps.address.Address.{Address}
use Rattle.count_machine_model.specs.declared.machine_steps.address.Home.{Home}
use Rattle.count_machine_model.specs.declared.machine_steps.address.Home.TheVariants as home
use Rattle.count_machine_model.specs.declared.machine_steps.address.OpenSlot.{OpenSlot}
use Rattle.count_machine_model.specs.MachineSteps.Views.{MachineView}

-- its slot is gone; its object is dead; it is empty; or it has these leaves
pub data Held : Type 0 where
  Gone : Held
  OfDead : (o : ObjectId) → Held
  Empty : Held
  Full : (ls : List Leaf) → Held

abbrev pub if_serial : ℕ → OpenSlot → Option OpenSlot
if_serial serial s = cond (s.serial == serial) (Some s) None

-- the slot that an address names, if it is still open
abbrev pub slot_in : MachineView → ℕ → ℕ → Option OpenSlot
slot_in st index serial = option_and_then (if_serial serial) (slice_get st.slots index)

abbrev pub held_in_slot : MachineView → ℕ → ℕ → Option OpenSlot → Held
held_in_slot st from size None = Gone
held_in_slot st from size (Some s) = cond s.is_full (Full (take size (drop (s.from + from) st.slot_leaves))) Empty

abbrev pub held_in_field : ℕ → ℕ → Option (List Leaf) → Held
held_in_field from size None = Empty
held_in_field from size (Some ls) = Full (take size (drop from ls))

abbrev pub held_by : MachineView → ℕ → ℕ → Home → Held
held_by st from size (home.Slot index serial) = held_in_slot st from size (slot_in st index serial)
held_by st from size (home.Field o k) = cond (is_dead_in st.heap o) (OfDead o) (held_in_field from size (field_in st.heap o k))

-- what a place of so many leaves holds
abbrev pub held_at : MachineView → Address → ℕ → Held
held_at st a size = held_by st a.from size a.home

-- writing

abbrev pub write_slot : MachineView → ℕ → ℕ → List Leaf → Option OpenSlot → MachineView
write_slot st index from ls None = st
write_slot st index from ls (Some s) = record st {
  slots = set st.slots index (record s { is_full = true });
  slot_leaves = laid_over (s.from + from) ls st.slot_leaves;
}

-- a part is written where the field has it, and a whole field where it has as many leaves: nothing else comes up in a run
abbrev pub has_room : ℕ → ℕ → Option (List Leaf) → Bool
has_room from size None = false
has_room from size (Some old) = nat_le (from + size) (length old)

abbrev pub has_size : ℕ → Option ℕ → Bool
has_size size None = false
has_size size (Some n) = n == size

abbrev pub write_field : Bool → ObjectId → ℕ → ℕ → List Leaf → HeapView → HeapView
write_field true o k from ls h = cond (has_room from (length ls) (field_in h o k)) (with_part h o k from ls) h
write_field false o k from ls h = cond (has_size (length ls) (leaves_at h o k)) (with_field h o k ls) h

abbrev pub write_by : MachineView → Address → List Leaf → Home → MachineView
write_by st a ls (home.Slot index serial) = write_slot st index a.from ls (slot_in st index serial)
write_by st a ls (home.Field o k) = record st { heap = write_field a.is_part o k a.from ls st.heap }

-- the place has these leaves
abbrev pub write_at : MachineView → Address → List Leaf → MachineView
write_at st a ls = write_by st a ls a.home

-- emptying

abbrev pub empty_slot : MachineView → ℕ → Option OpenSlot → MachineView
empty_slot st index None = st
empty_slot st index (Some s) = record st { slots = set st.slots index (record s { is_full = false }) }

abbrev pub without_field : HeapView → ObjectId → ℕ → HeapView
without_field h o k = changed (with_field_of k None) h o

abbrev pub empty_by : MachineView → Home → MachineView
empty_by st (home.Slot index serial) = empty_slot st index (slot_in st index serial)
empty_by st (home.Field o k) = record st { heap = without_field st.heap o k }

abbrev pub empty_at : MachineView → Address → MachineView
empty_at st a = empty_by st a.home

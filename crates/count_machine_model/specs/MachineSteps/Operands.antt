-- How a frame reads its operands and puts its results.
use Rattle.std.specs.Prelude.{ℕ, ◌+◌, ◌-◌, List, [], ◌∷◌, ◌++◌, length, Bool, true, false, not, Option, Some, None, take, drop, set, slice_get, unwrap_or, find}
use Rattle.std.specs.List.{flat_map}
use Rattle.holder_model.specs.declared.lowered_run.low_fault.LowFault.{LowFault}
use Rattle.holder_model.specs.declared.lowered_run.low_fault.LowFault.TheVariants as fault
use Rattle.count_machine_model.specs.declared.ready_code.local.Local.{Local}
use Rattle.count_machine_model.specs.declared.ready_code.local.LocalAddress.{LocalAddress}
use Rattle.holder_model.specs.holder_model_values.declared.run_values.leaf.Leaf.{Leaf}
use Rattle.holder_model.specs.holder_model_values.declared.run_values.leaf.Leaf.TheVariants as leaf
use Rattle.sil_ast.specs.declared.place.ObjectId.{ObjectId}
use Rattle.sil_ast.specs.declared.place.ValueId.{ValueId}
use Rattle.std.specs.Prelude.{ℤ, pos}
use Rattle.count_machine_model.specs.declared.machine_steps.address.Address.{Address}
use Rattle.count_machine_model.specs.declared.machine_steps.address.Home.TheVariants as home
use Rattle.count_machine_model.specs.declared.machine_steps.frame.Frame.{Frame}
use Rattle.count_machine_model.specs.declared.machine_steps.frame.Task.{Task}
use Rattle.count_machine_model.specs.declared.machine_steps.frame.Task.TheVariants.{Runs}
use Rattle.count_machine_model.specs.declared.machine_steps.run_end.RunEnd.TheVariants as end
use Rattle.count_machine_model.specs.MachineSteps.Views.{Goes, MachineView, Stops, Went}

-- leaves

abbrev pub object_in_leaf : Leaf → List ObjectId
object_in_leaf (leaf.Int n) = []
object_in_leaf (leaf.Object o) = o ∷ []
object_in_leaf (leaf.Tag k) = []
object_in_leaf leaf.Blank = []

-- the objects among leaves, in order
abbrev pub objects_among : List Leaf → List ObjectId
objects_among ls = flat_map object_in_leaf ls

abbrev pub int_in_leaf : Leaf → ℤ
int_in_leaf (leaf.Int n) = n
int_in_leaf (leaf.Object o) = pos 0
int_in_leaf (leaf.Tag k) = pos 0
int_in_leaf leaf.Blank = pos 0

abbrev pub first_leaf : List Leaf → Leaf
first_leaf [] = leaf.Blank
first_leaf (l ∷ ls) = l

-- the integer that these leaves are
abbrev pub int_among : List Leaf → ℤ
int_among ls = int_in_leaf (first_leaf ls)

-- reading

abbrev pub faults : LowFault → MachineView → Went
faults x st = Stops (end.Fault x) st

abbrev pub is_there_in : MachineView → Frame → ValueId → Bool
is_there_in st fr v = unwrap_or (slice_get st.there (fr.values + v.0)) false

abbrev pub is_missing : MachineView → Frame → ValueId → Bool
is_missing st fr v = not (is_there_in st fr v)

abbrev pub unless_missing : Option ValueId → MachineView → Went → Went
unless_missing None st w = w
unless_missing (Some v) st w = faults (fault.Missing v) st

-- where all these values are there
abbrev pub with_all : MachineView → Frame → List ValueId → Went → Went
with_all st fr vs w = unless_missing (find (is_missing st fr) vs) st w

abbrev pub contents : MachineView → Frame → Local → List Leaf
contents st fr l = take l.size (drop (fr.leaves + l.at) st.leaves)

abbrev pub no_address : Address
no_address = record { home = home.Slot 0 0; from = 0; is_part = false }

abbrev pub address_in : MachineView → Frame → LocalAddress → Address
address_in st fr a = unwrap_or (slice_get st.addresses (fr.addresses + a.at)) no_address

-- putting

-- the list with these laid over it from a place on, as far as it goes
abbrev pub laid_over : {A : Type 0} → ℕ → List A → List A → List A
laid_over from xs old = take from old ++ take (length old - from) xs ++ drop (from + length xs) old

abbrev pub put_there : MachineView → Frame → ValueId → MachineView
put_there st fr v = record st { there = set st.there (fr.values + v.0) true }

abbrev pub put : MachineView → Frame → Local → List Leaf → MachineView
put st fr l ls = put_there (record st { leaves = laid_over (fr.leaves + l.at) ls st.leaves }) fr l.value

abbrev pub put_address : MachineView → Frame → LocalAddress → Address → MachineView
put_address st fr a x = put_there (record st { addresses = set st.addresses (fr.addresses + a.at) x }) fr a.value

-- going on

abbrev pub behind_op : Frame → Frame
behind_op fr = record fr { index = fr.index + 1 }

abbrev pub go_on : MachineView → Frame → List Task → Went
go_on st fr rest = Goes (record st { tasks = Runs (behind_op fr) ∷ rest })

abbrev pub gives : MachineView → Frame → List Task → Local → List Leaf → Went
gives st fr rest l ls = go_on (put st fr l ls) fr rest

abbrev pub gives_address : MachineView → Frame → List Task → LocalAddress → Address → Went
gives_address st fr rest a x = go_on (put_address st fr a x) fr rest

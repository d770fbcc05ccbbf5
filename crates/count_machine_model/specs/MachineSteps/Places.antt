-- What the machine does at places, to storage, and with the parts of values.
use Rattle.std.specs.Prelude.{ℕ, ◌+◌, ◌==◌, List, [], ◌∷◌, ◌++◌, Bool, true, false, ◌&&◌, cond, Option, Some, None}
use Rattle.std.specs.Prelude.{find, length, nat_le, replicate, take, ◌-◌}
use Rattle.std.specs.List.{flat_map}
use Rattle.instruction_table.specs.declared.builtin_names.names.Operation.TheVariants as o
use Rattle.count_heap.specs.HeapModel.HeapCalls.{retained}
use Rattle.count_heap.specs.HeapModel.HeapViews.{HeapView, is_dead_in, phase_in}
use Rattle.holder_model.specs.declared.lowered_run.low_fault.LowFault.TheVariants as fault
use Rattle.count_machine_model.specs.declared.ready_code.local.Local.{Local}
use Rattle.count_machine_model.specs.declared.ready_code.local.LocalAddress.{LocalAddress}
use Rattle.count_machine_model.specs.declared.ready_code.op.ReadyOp.{ReadyOp}
use Rattle.count_machine_model.specs.declared.ready_code.op.ReadyOp.TheVariants as op
use Rattle.holder_model.specs.holder_model_values.RunValues.Memory.{is_live_phase}
use Rattle.holder_model.specs.holder_model_values.declared.run_values.leaf.Leaf.{Leaf}
use Rattle.holder_model.specs.holder_model_values.declared.run_values.leaf.Leaf.TheVariants as leaf
use Rattle.sil_ast.specs.declared.decl.Storage.{Storage}
use Rattle.sil_ast.specs.declared.decl.Storage.TheVariants as storage
use Rattle.sil_ast.specs.declared.place.ObjectId.{ObjectId}
use Rattle.count_machine_model.specs.declared.machine_steps.address.Address.{Address}
use Rattle.count_machine_model.specs.declared.machine_steps.address.Home.{Home}
use Rattle.count_machine_model.specs.declared.machine_steps.address.Home.TheVariants as home
use Rattle.count_machine_model.specs.declared.machine_steps.address.OpenSlot.{OpenSlot}
use Rattle.count_machine_model.specs.declared.machine_steps.frame.Frame.{Frame}
use Rattle.count_machine_model.specs.declared.machine_steps.frame.Task.{Task}
use Rattle.count_machine_model.specs.declared.machine_steps.frame.Task.TheVariants as task
use Rattle.count_machine_model.specs.declared.machine_steps.run_end.RunEnd.TheVariants as end
use Rattle.count_machine_model.specs.MachineSteps.Held.{Empty, Full, Gone, Held, OfDead, empty_at, slot_in, write_at}
use Rattle.count_machine_model.specs.MachineSteps.Naming.{leaf_named, leaf_unnamed, none_leaves, some_leaves}
use Rattle.count_machine_model.specs.MachineSteps.Operands.{behind_op, contents, faults, first_leaf, gives, gives_address, go_on, object_in_leaf}
use Rattle.count_machine_model.specs.MachineSteps.Turning.{dropping}
use Rattle.count_machine_model.specs.MachineSteps.Views.{Goes, MachineView, Stops, Went}

module _ (st : MachineView) (fr : Frame) (rest : List Task) where
  -- places

  abbrev pub loads : Local → Held → Went
  loads to Gone = faults fault.Slot st
  loads to (OfDead o) = faults (fault.Dead o) st
  loads to Empty = faults fault.Empty st
  loads to (Full ls) = gives st fr rest to ls

  abbrev pub stores : Address → List Leaf → Held → Went
  stores a ls Gone = faults fault.Slot st
  stores a ls (OfDead o) = faults (fault.Dead o) st
  stores a ls Empty = cond a.is_part (faults fault.Empty st) (go_on (write_at st a ls) fr rest)
  stores a ls (Full old) = go_on (write_at st a ls) fr rest

  -- the newest slot of the frame goes
  abbrev pub removes_slot : ℕ → Option OpenSlot → Went
  removes_slot index None = faults fault.Slot st
  removes_slot index (Some s) =
      cond (index + 1 == length st.slots && nat_le fr.slots index)
      (go_on (record st { slots = take index st.slots; slot_leaves = take s.from st.slot_leaves }) fr rest)
      (faults fault.Slot st)

  abbrev pub removes_home : Bool → Home → Went
  removes_home true h = faults fault.Slot st
  removes_home false (home.Slot index serial) = removes_slot index (slot_in st index serial)
  removes_home false (home.Field x k) = faults fault.Slot st

  abbrev pub new_slot : OpenSlot
  new_slot = record { serial = st.serials; from = length st.slot_leaves; is_full = false }

  abbrev pub with_slot : ℕ → MachineView
  with_slot size = record st {
    slots = st.slots ++ new_slot ∷ [];
    slot_leaves = st.slot_leaves ++ replicate size leaf.Blank;
    serials = st.serials + 1;
  }

  abbrev pub slot_address : Address
  slot_address = record { home = home.Slot (length st.slots) st.serials; from = 0; is_part = false }

  -- storage

  abbrev pub is_live_in : ObjectId → Bool
  is_live_in x = is_live_phase (phase_in st.heap x)

  abbrev pub retained_and : MachineView → Local → List Leaf → ObjectId → Went
  retained_and after to ls x = gives (record after { heap = retained after.heap x }) fr rest to ls

  abbrev pub weak_given : MachineView → Local → List ObjectId → Went
  weak_given after to [] = gives after fr rest to none_leaves
  weak_given after to (x ∷ xs) = cond (is_live_in x) (retained_and after to (some_leaves x) x) (gives after fr rest to none_leaves)

  -- where the program traps, the storage stays as it was
  abbrev pub unowned_given : MachineView → Local → List ObjectId → Went
  unowned_given after to [] = Stops end.Unowned st
  unowned_given after to (x ∷ xs) = cond (is_live_in x) (retained_and after to (leaf.Object x ∷ []) x) (Stops end.Unowned st)

  abbrev pub given : Storage → MachineView → Local → List ObjectId → Went
  given storage.Strong after to xs = faults fault.Empty st
  given storage.Weak after to xs = weak_given after to xs
  given storage.Unowned after to xs = unowned_given after to xs

  -- the storage is emptied, and names its object no longer
  abbrev pub forgotten : Storage → Address → Leaf → MachineView
  forgotten w a l = empty_at (record st { heap = leaf_unnamed w l st.heap }) a

  abbrev pub loads_name : Storage → Bool → Address → Local → Held → Went
  loads_name w takes a to Gone = faults fault.Slot st
  loads_name w takes a to (OfDead x) = faults (fault.Dead x) st
  loads_name w takes a to Empty = faults fault.Empty st
  loads_name w takes a to (Full ls) = given w (cond takes (forgotten w a (first_leaf ls)) st) to (object_in_leaf (first_leaf ls))

  abbrev pub named_anew : Storage → Address → Leaf → HeapView → Went
  named_anew w a l h = go_on (write_at (record st { heap = leaf_named w l h }) a (l ∷ [])) fr rest

  abbrev pub stores_name_alive : Storage → Bool → Address → Leaf → Held → Went
  stores_name_alive w first a l Gone = faults fault.Slot st
  stores_name_alive w first a l (OfDead x) = faults (fault.Dead x) st
  stores_name_alive w first a l Empty = cond first (named_anew w a l st.heap) (faults fault.Empty st)
  stores_name_alive w first a l (Full old) = named_anew w a l (cond first st.heap (leaf_unnamed w (first_leaf old) st.heap))

  abbrev pub unless_dead : Option ObjectId → Went → Went
  unless_dead None w = w
  unless_dead (Some x) w = faults (fault.Dead x) st

  abbrev pub stores_name : Storage → Bool → Address → Leaf → Held → Went
  stores_name w first a l Gone = faults fault.Slot st
  stores_name w first a l (OfDead x) = unless_dead (find (is_dead_in st.heap) (object_in_leaf l)) (stores_name_alive w first a l (OfDead x))
  stores_name w first a l Empty = unless_dead (find (is_dead_in st.heap) (object_in_leaf l)) (stores_name_alive w first a l Empty)
  stores_name w first a l (Full old) = unless_dead (find (is_dead_in st.heap) (object_in_leaf l)) (stores_name_alive w first a l (Full old))

  abbrev pub forgets_name : Storage → Address → Held → Went
  forgets_name w a Gone = faults fault.Slot st
  forgets_name w a (OfDead x) = faults (fault.Dead x) st
  forgets_name w a Empty = faults fault.Empty st
  forgets_name w a (Full ls) = go_on (forgotten w a (first_leaf ls)) fr rest

  -- objects

  abbrev pub made_object : ℕ → ObjectId
  made_object class = record { 0 = length st.heap.objects }

  abbrev pub field_address : ℕ → List ObjectId → LocalAddress → Went
  field_address k [] to = faults fault.Empty st
  field_address k (x ∷ xs) to =
      cond (is_dead_in st.heap x) (faults (fault.Dead x) st)
      (gives_address st fr rest to (record { home = home.Field x k; from = 0; is_part = false }))

  -- the references that the operand has wait to be dropped, and the frame goes on behind them
  abbrev pub drops : List ObjectId → Went
  drops os = Goes (dropping os (record st { tasks = task.Runs (behind_op fr) ∷ rest }))

  -- groups

  abbrev pub all_contents : List Local → List Leaf
  all_contents ls = flat_map (contents st fr) ls

  abbrev pub payload_contents : Option Local → List Leaf
  payload_contents None = []
  payload_contents (Some l) = contents st fr l

  abbrev pub chosen_leaves : ℕ → ℕ → List Leaf → List Leaf
  chosen_leaves size k ls = leaf.Tag k ∷ ls ++ replicate (size - (1 + length ls)) leaf.Blank

-- What the machine does for each instruction.
use Rattle.std.specs.Prelude.{ℕ, ◌+◌, true, List, [], ◌∷◌, ◌++◌, cond, is_some, Option, Some, None, map, slice_get, take, drop}
use Rattle.std.specs.Option.{option_to_list}
use Rattle.holder_model.specs.sil_types_declarations.TypeDefinitions.Lookups.{class_at}
use Rattle.holder_model.specs.Builtins.{is_set}
use Rattle.holder_model.specs.declared.event.Event.TheVariants as event
use Rattle.count_heap.specs.HeapModel.HeapCalls.{allocated_in}
use Rattle.holder_model.specs.declared.lowered_run.low_fault.LowFault.TheVariants as fault
use Rattle.count_machine_model.specs.declared.ready_code.function.ReadyFunction.{ReadyFunction}
use Rattle.count_machine_model.specs.declared.ready_code.function.ReadyModule.{ReadyModule}
use Rattle.count_machine_model.specs.declared.ready_code.local.Carry.{Carry}
use Rattle.count_machine_model.specs.declared.ready_code.local.CarryAddress.{CarryAddress}
use Rattle.count_machine_model.specs.declared.ready_code.local.Local.{Local}
use Rattle.count_machine_model.specs.declared.ready_code.op.ReadyOp.{ReadyOp}
use Rattle.count_machine_model.specs.declared.ready_code.op.ReadyOp.TheVariants as op
use Rattle.holder_model.specs.holder_model_values.declared.run_values.leaf.Leaf.TheVariants as leaf
use Rattle.sil_ast.specs.declared.place.FuncId.{FuncId}
use Rattle.sil_ast.specs.declared.place.PointId.{PointId}
use Rattle.sil_ast.specs.declared.place.ValueId.{ValueId}
use Rattle.holder_model.specs.sil_types.Typing.Builtins.{bits}
use Rattle.count_machine_model.specs.declared.machine_steps.frame.Frame.{Frame}
use Rattle.count_machine_model.specs.declared.machine_steps.frame.Task.{Task}
use Rattle.count_machine_model.specs.declared.machine_steps.run_end.RunEnd.TheVariants as end
use Rattle.count_machine_model.specs.MachineSteps.Calling.{addresses_carried, carried, enter, new_frame, with_frame}
use Rattle.count_machine_model.specs.MachineSteps.Computing.{computed_leaves}
use Rattle.count_machine_model.specs.MachineSteps.Held.{held_at}
use Rattle.count_machine_model.specs.MachineSteps.Naming.{name_of}
use Rattle.count_machine_model.specs.MachineSteps.Operands.{address_in, contents, faults, gives, gives_address, go_on, int_among, objects_among, put_there}
use Rattle.count_machine_model.specs.MachineSteps.Operands.{with_all}
use Rattle.count_machine_model.specs.MachineSteps.Places.{all_contents, chosen_leaves, drops, field_address, forgets_name, loads, loads_name, made_object}
use Rattle.count_machine_model.specs.MachineSteps.Places.{payload_contents}
use Rattle.count_machine_model.specs.MachineSteps.Places.{removes_home, slot_address, stores, stores_name, with_slot}
use Rattle.count_machine_model.specs.MachineSteps.Turning.{retains_all, turn}
use Rattle.count_machine_model.specs.MachineSteps.Views.{Goes, MachineView, Stops, Went}

-- a frame of the callee, with its arguments. What no ready module calls is a fault
abbrev pub entered : MachineView → Frame → FuncId → List Carry → List CarryAddress → Option ReadyFunction → Went
entered st fr g values addresses None = faults fault.Slot st
entered st fr g values addresses (Some f) =
    Goes (addresses_carried (carried (with_frame st g f) fr (new_frame st g) values) fr (new_frame st g) addresses)

abbrev pub value_of : Local → ValueId
value_of l = l.value

module _ (ready : ReadyModule) (bound : ℕ) (st : MachineView) (fr : Frame) (rest : List Task) where
  abbrev pub point : PointId
  point = record { block = record { 0 = fr.block }; index = fr.index }

  abbrev pub calls_in : FuncId → List Carry → List CarryAddress → Went
  calls_in g values addresses = enter bound st (λ after. entered after fr g values addresses (slice_get ready.functions g.0))

  abbrev pub calls_out : FuncId → List Local → Local → Went
  calls_out g args to = turn bound st (λ after. gives (record after {
    events = after.events ++ event.Call g (map (λ l. int_among (contents st fr l)) args) ∷ [];
  }) fr rest to [])

  -- the values that the instruction reads, in order
  abbrev pub read_by : ReadyOp → List ValueId
  read_by (op.Look v) = v ∷ []
  read_by (op.Literal n to) = []
  read_by (op.Function to) = []
  read_by (op.Compute o w left right other to) = left.value ∷ right.value ∷ option_to_list other
  read_by (op.TrapWhereSet l) = l.value ∷ []
  read_by (op.MakeObject k to) = []
  read_by (op.MakeSlot size to) = []
  read_by (op.RemoveSlot a) = a.value ∷ []
  read_by (op.Same from to) = from.value ∷ []
  read_by (op.Retain l) = l.value ∷ []
  read_by (op.Drop l) = l.value ∷ []
  read_by (op.Load a to) = a.value ∷ []
  read_by (op.Store from a) = from.value ∷ a.value ∷ []
  read_by (op.LoadName w takes a to) = a.value ∷ []
  read_by (op.StoreName w first from a) = from.value ∷ a.value ∷ []
  read_by (op.ForgetName w a) = a.value ∷ []
  read_by (op.Group ls to) = map value_of ls
  read_by (op.Choose k payload to) = map value_of (option_to_list payload)
  read_by (op.Member l from to) = l.value ∷ []
  read_by (op.MemberAddress a from to) = a.value ∷ []
  read_by (op.FieldAddress l k to) = l.value ∷ []
  read_by (op.Call g operands values addresses to) = operands
  read_by (op.CallOut g operands args to) = operands

  -- what it does, where these are there
  abbrev pub does : ReadyOp → Went
  does (op.Look v) = go_on st fr rest
  does (op.Literal n to) = gives st fr rest to (leaf.Int n ∷ [])
  does (op.Function to) = go_on (put_there st fr to) fr rest
  does (op.Compute o w left right other to) =
      gives st fr rest to (computed_leaves o (bits w) (int_among (contents st fr left)) (int_among (contents st fr right)))
  does (op.TrapWhereSet l) = cond (is_set (int_among (contents st fr l))) (Stops (end.CondFail fr.function point) st) (go_on st fr rest)
  does (op.MakeObject k to) =
      cond (is_some (class_at st.heap.declarations k))
      (gives (record st { heap = allocated_in st.heap k }) fr rest to (leaf.Object (made_object st fr rest k) ∷ []))
      (faults fault.Slot st)
  does (op.MakeSlot size to) = gives_address (with_slot st fr rest size) fr rest to (slot_address st fr rest)
  does (op.RemoveSlot a) = removes_home st fr rest (address_in st fr a).is_part (address_in st fr a).home
  does (op.Same from to) = gives st fr rest to (contents st fr from)
  does (op.Retain l) = retains_all (objects_among (contents st fr l)) st (λ after. go_on after fr rest)
  does (op.Drop l) = drops st fr rest (objects_among (contents st fr l))
  does (op.Load a to) = loads st fr rest to (held_at st (address_in st fr a) to.size)
  does (op.Store from a) = stores st fr rest (address_in st fr a) (contents st fr from) (held_at st (address_in st fr a) from.size)
  does (op.LoadName w takes a to) = loads_name st fr rest w takes (address_in st fr a) to (held_at st (address_in st fr a) 1)
  does (op.StoreName w first from a) =
      stores_name st fr rest w first (address_in st fr a) (name_of w (contents st fr from)) (held_at st (address_in st fr a) 1)
  does (op.ForgetName w a) = forgets_name st fr rest w (address_in st fr a) (held_at st (address_in st fr a) 1)
  does (op.Group ls to) = gives st fr rest to (all_contents st fr rest ls)
  does (op.Choose k payload to) = gives st fr rest to (chosen_leaves st fr rest to.size k (payload_contents st fr rest payload))
  does (op.Member l from to) = gives st fr rest to (take to.size (drop from (contents st fr l)))
  does (op.MemberAddress a from to) =
      gives_address st fr rest to (record (address_in st fr a) { from = (address_in st fr a).from + from; is_part = true })
  does (op.FieldAddress l k to) = field_address st fr rest k (objects_among (contents st fr l)) to
  does (op.Call g operands values addresses to) = calls_in g values addresses
  does (op.CallOut g operands args to) = calls_out g args to

  abbrev pub performs : ReadyOp → Went
  performs o = with_all st fr (read_by o) (does o)

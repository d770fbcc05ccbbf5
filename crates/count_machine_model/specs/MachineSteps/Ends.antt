-- What the machine does for each terminator.
use Rattle.std.specs.Prelude.{ℕ, ◌==◌, List, [], ◌∷◌, ◌++◌, cond, Option, Some, None, drop, find, length, map, option_and_then, slice_get, take}
use Rattle.holder_model.specs.Builtins.{is_set}
use Rattle.count_heap.specs.HeapModel.HeapViews.{is_dead_in}
use Rattle.holder_model.specs.declared.lowered_run.low_fault.LowFault.TheVariants as fault
use Rattle.count_machine_model.specs.declared.ready_code.block.ReadyBlock.{ReadyBlock}
use Rattle.count_machine_model.specs.declared.ready_code.block.ReadyCase.{ReadyCase}
use Rattle.count_machine_model.specs.declared.ready_code.block.ReadyEdge.{ReadyEdge}
use Rattle.count_machine_model.specs.declared.ready_code.block.ReadyEnd.{ReadyEnd}
use Rattle.count_machine_model.specs.declared.ready_code.block.ReadyEnd.TheVariants as ready_end
use Rattle.count_machine_model.specs.declared.ready_code.function.ReadyFunction.{ReadyFunction}
use Rattle.count_machine_model.specs.declared.ready_code.function.ReadyModule.{ReadyModule}
use Rattle.count_machine_model.specs.declared.ready_code.local.Carry.{Carry}
use Rattle.count_machine_model.specs.declared.ready_code.local.Local.{Local}
use Rattle.count_machine_model.specs.declared.ready_code.op.ReadyOp.{ReadyOp}
use Rattle.count_machine_model.specs.declared.ready_code.op.ReadyOp.TheVariants as op
use Rattle.holder_model.specs.holder_model_values.declared.run_values.leaf.Leaf.{Leaf}
use Rattle.holder_model.specs.holder_model_values.declared.run_values.leaf.Leaf.TheVariants as leaf
use Rattle.sil_ast.specs.declared.place.FuncId.{FuncId}
use Rattle.sil_ast.specs.declared.place.ObjectId.{ObjectId}
use Rattle.sil_ast.specs.declared.place.ValueId.{ValueId}
use Rattle.count_machine_model.specs.declared.machine_steps.frame.Frame.{Frame}
use Rattle.count_machine_model.specs.declared.machine_steps.frame.Task.{Task}
use Rattle.count_machine_model.specs.declared.machine_steps.frame.Task.TheVariants as task
use Rattle.count_machine_model.specs.declared.machine_steps.run_end.RunEnd.TheVariants as end
use Rattle.count_machine_model.specs.MachineSteps.Calling.{carried, without_frame}
use Rattle.count_machine_model.specs.MachineSteps.Operands.{contents, faults, first_leaf, gives, int_among, objects_among, put, with_all}
use Rattle.count_machine_model.specs.MachineSteps.Turning.{turn}
use Rattle.count_machine_model.specs.MachineSteps.Views.{Goes, MachineView, Stops, Went}

abbrev pub tag_in_leaf : Leaf → ℕ
tag_in_leaf (leaf.Int n) = 0
tag_in_leaf (leaf.Object o) = 0
tag_in_leaf (leaf.Tag k) = k
tag_in_leaf leaf.Blank = 0

abbrev pub block_in : Option ReadyFunction → ℕ → Option ReadyBlock
block_in None b = None
block_in (Some f) b = slice_get f.blocks b

abbrev pub block_at : ReadyModule → FuncId → ℕ → Option ReadyBlock
block_at ready g b = block_in (slice_get ready.functions g.0) b

abbrev pub op_at : ReadyModule → Frame → Option ReadyOp
op_at ready fr = option_and_then (λ b. slice_get b.ops fr.index) (block_at ready fr.function fr.block)

-- where a call puts what the callee returns
abbrev pub awaited_by : ReadyOp → Option Local
awaited_by (op.Look v) = None
awaited_by (op.Literal n to) = None
awaited_by (op.Function to) = None
awaited_by (op.Compute o w left right other to) = None
awaited_by (op.TrapWhereSet l) = None
awaited_by (op.MakeObject k to) = None
awaited_by (op.MakeSlot size to) = None
awaited_by (op.RemoveSlot a) = None
awaited_by (op.Same from to) = None
awaited_by (op.Retain l) = None
awaited_by (op.Drop l) = None
awaited_by (op.Load a to) = None
awaited_by (op.Store from a) = None
awaited_by (op.LoadName w takes a to) = None
awaited_by (op.StoreName w first from a) = None
awaited_by (op.ForgetName w a) = None
awaited_by (op.Group ls to) = None
awaited_by (op.Choose k payload to) = None
awaited_by (op.Member l from to) = None
awaited_by (op.MemberAddress a from to) = None
awaited_by (op.FieldAddress l k to) = None
awaited_by (op.Call g operands values addresses to) = Some to
awaited_by (op.CallOut g operands args to) = None

abbrev pub awaited : ReadyModule → Frame → Option Local
awaited ready fr = option_and_then awaited_by (op_at ready fr)

abbrev pub carried_value : Carry → ValueId
carried_value c = c.from.value

abbrev pub in_block : Frame → ℕ → Frame
in_block fr b = record fr { block = b; index = 0 }

module _ (ready : ReadyModule) (bound : ℕ) (st : MachineView) (fr : Frame) (rest : List Task) where
  abbrev pub with_top : MachineView → Frame → MachineView
  with_top after top = record after { tasks = task.Runs top ∷ rest }

  -- an edge is taken: a turn, and its values become the arguments of its block
  abbrev pub takes_edge : ReadyEdge → Went
  takes_edge e = with_all st fr (map carried_value e.values) (turn bound st (λ after. Goes (with_top (carried after fr fr e.values) (in_block fr e.block))))

  abbrev pub put_payload : Option Local → List Leaf → MachineView → MachineView
  put_payload None ls after = after
  put_payload (Some to) ls after = put after fr to (take to.size (drop 1 ls))

  abbrev pub takes_case : List Leaf → Option ReadyCase → Went
  takes_case ls None = faults fault.Empty st
  takes_case ls (Some c) = turn bound st (λ after. Goes (with_top (put_payload c.payload ls after) (in_block fr c.block)))

  -- the run's first frame returns
  abbrev pub leaves_run : Local → Option ObjectId → Went
  leaves_run l None = Stops (end.Returned l) (record st { tasks = [] })
  leaves_run l (Some o) = faults (fault.Dead o) st

  abbrev pub given_back : List Leaf → Frame → List Task → Option Local → Went
  given_back ls caller below None = faults fault.Empty st
  given_back ls caller below (Some to) = gives (without_frame st fr rest) caller below to ls

  abbrev pub returns_to : Local → List Task → Went
  returns_to l [] = leaves_run l (find (is_dead_in st.heap) (objects_among (contents st fr l)))
  returns_to l (task.Runs caller ∷ below) = given_back (contents st fr l) caller below (awaited ready caller)
  returns_to l (task.Drops from ∷ below) = Goes (without_frame st fr rest)
  returns_to l (task.Finishes o called ∷ below) = Goes (without_frame st fr rest)

  abbrev pub returns : Local → Went
  returns l = cond (length st.slots == fr.slots) (returns_to l rest) (faults fault.Slot st)

  abbrev pub ends_with : ReadyEnd → Went
  ends_with (ready_end.Jump e) = takes_edge e
  ends_with (ready_end.Branch l set clear) = with_all st fr (l.value ∷ []) (cond (is_set (int_among (contents st fr l))) (takes_edge set) (takes_edge clear))
  ends_with (ready_end.Switch l cases) =
      with_all st fr (l.value ∷ []) (takes_case (contents st fr l) (slice_get cases (tag_in_leaf (first_leaf (contents st fr l)))))
  ends_with (ready_end.Return l) = with_all st fr (l.value ∷ []) (returns l)
  ends_with ready_end.Unreachable = Stops end.Unreachable st

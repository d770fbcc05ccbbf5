-- A step that stops the machine leaves the objects of its heap as they are, but for strong numbers.
use Rattle.std.proofs.Common.{◌+◌, ◌-◌, ◌==◌, ◌&&◌, ℕ, List, [], ◌∷◌, ◌++◌, Bool, true, false, not, cond, Option, Some, None, length, nat_lt, take}
use Rattle.std.specs.Prelude.{find, is_some, map, nat_le, slice_get}
use Rattle.count_heap.specs.HeapModel.HeapCalls.{released, retained, takes_last}
use Rattle.count_heap.specs.HeapModel.HeapViews.{HeapView, is_dead_in, phase_in, strong_in}
use Rattle.count_machine_model.specs.holder_model.Builtins.{is_set}
use Rattle.count_machine_model.specs.holder_model.declared.event.Event.TheVariants as event
use Rattle.count_machine_model.specs.holder_model.declared.lowered_run.low_fault.LowFault.TheVariants as fault
use Rattle.count_machine_model.specs.declared.ready_code.block.ReadyBlock.{ReadyBlock}
use Rattle.count_machine_model.specs.declared.ready_code.block.ReadyCase.{ReadyCase}
use Rattle.count_machine_model.specs.declared.ready_code.block.ReadyEdge.{ReadyEdge}
use Rattle.count_machine_model.specs.declared.ready_code.block.ReadyEnd.{ReadyEnd}
use Rattle.count_machine_model.specs.declared.ready_code.block.ReadyEnd.TheVariants as ready_end
use Rattle.count_machine_model.specs.declared.ready_code.function.ReadyFunction.{ReadyFunction}
use Rattle.count_machine_model.specs.declared.ready_code.function.ReadyModule.{ReadyModule}
use Rattle.count_machine_model.specs.declared.ready_code.local.Carry.{Carry}
use Rattle.count_machine_model.specs.declared.ready_code.local.CarryAddress.{CarryAddress}
use Rattle.count_machine_model.specs.declared.ready_code.local.Local.{Local}
use Rattle.count_machine_model.specs.declared.ready_code.local.LocalAddress.{LocalAddress}
use Rattle.count_machine_model.specs.declared.ready_code.op.ReadyOp.{ReadyOp}
use Rattle.count_machine_model.specs.declared.ready_code.op.ReadyOp.TheVariants as op
use Rattle.count_machine_model.specs.declared.machine_steps.address.Address.{Address}
use Rattle.count_machine_model.specs.declared.machine_steps.address.Home.{Home}
use Rattle.count_machine_model.specs.declared.machine_steps.address.Home.TheVariants as home
use Rattle.count_machine_model.specs.declared.machine_steps.address.OpenSlot.{OpenSlot}
use Rattle.count_machine_model.specs.declared.machine_steps.frame.Frame.{Frame}
use Rattle.count_machine_model.specs.declared.machine_steps.frame.Task.{Task}
use Rattle.count_machine_model.specs.declared.machine_steps.frame.Task.TheVariants as task
use Rattle.count_machine_model.specs.MachineSteps.Calling.{carried}
use Rattle.count_machine_model.specs.MachineSteps.Ends as ends
use Rattle.count_machine_model.specs.MachineSteps.Held.{Empty, Full, Gone, Held, OfDead, held_at, slot_in}
use Rattle.count_machine_model.specs.MachineSteps.Naming.{name_of}
use Rattle.count_machine_model.specs.MachineSteps.Operands.{address_in, contents, faults, first_leaf, gives, go_on, int_among, object_in_leaf, objects_among}
use Rattle.count_machine_model.specs.MachineSteps.Places as places
use Rattle.count_machine_model.specs.MachineSteps.Rows as rows
use Rattle.count_machine_model.specs.MachineSteps.Steps as steps
use Rattle.count_machine_model.specs.MachineSteps.Turning.{retains_all}
use Rattle.count_machine_model.specs.MachineSteps.Views.{Goes, MachineView, Went}
use Rattle.holder_model_values.specs.declared.run_values.leaf.Leaf.{Leaf}
use Rattle.sil_ast.specs.declared.decl.Storage.{Storage}
use Rattle.sil_ast.specs.declared.decl.Storage.TheVariants as storage
use Rattle.sil_ast.specs.declared.place.FuncId.{FuncId}
use Rattle.sil_ast.specs.declared.place.ObjectId.{ObjectId}
use Rattle.sil_types_declarations.specs.TypeDefinitions.Lookups.{class_at}
use Rattle.count_machine_laws.proofs.StrongsAlone.{StopsAlone, StrongsAlone, released_alone, retained_alone, stops_cond, stops_enter, stops_turn, stops_with_all, strongs_itself, strongs_then}

module _ (ready : ReadyModule) (bound : ℕ) (st : MachineView) (fr : Frame) (rest : List Task) where
  abbrev Alone : Went → Type 0
  Alone w = StopsAlone st.heap w

  same : StrongsAlone st.heap st.heap
  same = strongs_itself st.heap

  -- objects

  retains : (os : List ObjectId) (h : HeapView) → StrongsAlone st.heap h → Alone (retains_all os (record st { heap = h }) (λ after. go_on after fr rest))
  retains [] h so_far = tt
  retains (o ∷ os) h so_far =
      stops_cond st.heap (is_dead_in h o) (faults (fault.Dead o) (record st { heap = h })) (retains_all os (record st { heap = retained h o }) (λ after. go_on after fr rest))
      so_far (retains os (retained h o) (strongs_then so_far (retained_alone h o)))

  drops : (os : List ObjectId) → Alone (places.drops st fr rest os)
  drops [] = tt
  drops (o ∷ os) = tt

  field : (k : ℕ) (os : List ObjectId) (to : LocalAddress) → Alone (places.field_address st fr rest k os to)
  field k [] to = same
  field k (x ∷ xs) to = stops_cond st.heap (is_dead_in st.heap x) _ _ same tt

  -- places

  loads : (to : Local) (h : Held) → Alone (places.loads st fr rest to h)
  loads to Gone = same
  loads to (OfDead o) = same
  loads to Empty = same
  loads to (Full ls) = tt

  stores : (a : Address) (ls : List Leaf) (h : Held) → Alone (places.stores st fr rest a ls h)
  stores a ls Gone = same
  stores a ls (OfDead o) = same
  stores a ls Empty = stops_cond st.heap a.is_part _ _ same tt
  stores a ls (Full old) = tt

  removes_slot : (index : ℕ) (s : Option OpenSlot) → Alone (places.removes_slot st fr rest index s)
  removes_slot index None = same
  removes_slot index (Some s) = stops_cond st.heap (index + 1 == length st.slots && nat_le fr.slots index) _ _ tt same

  removes_home : (is_part : Bool) (h : Home) → Alone (places.removes_home st fr rest is_part h)
  removes_home true h = same
  removes_home false (home.Slot index serial) = removes_slot index (slot_in st index serial)
  removes_home false (home.Field o k) = same

  -- storage

  weak_given : (after : MachineView) (to : Local) (xs : List ObjectId) → Alone (places.weak_given st fr rest after to xs)
  weak_given after to [] = tt
  weak_given after to (x ∷ xs) = stops_cond st.heap (places.is_live_in st fr rest x) _ _ tt tt

  unowned_given : (after : MachineView) (to : Local) (xs : List ObjectId) → Alone (places.unowned_given st fr rest after to xs)
  unowned_given after to [] = same
  unowned_given after to (x ∷ xs) = stops_cond st.heap (places.is_live_in st fr rest x) _ _ tt same

  given : (w : Storage) (after : MachineView) (to : Local) (xs : List ObjectId) → Alone (places.given st fr rest w after to xs)
  given storage.Strong after to xs = same
  given storage.Weak after to xs = weak_given after to xs
  given storage.Unowned after to xs = unowned_given after to xs

  loads_name : (w : Storage) (takes : Bool) (a : Address) (to : Local) (h : Held) → Alone (places.loads_name st fr rest w takes a to h)
  loads_name w takes a to Gone = same
  loads_name w takes a to (OfDead o) = same
  loads_name w takes a to Empty = same
  loads_name w takes a to (Full ls) = given w (cond takes (places.forgotten st fr rest w a (first_leaf ls)) st) to (object_in_leaf (first_leaf ls))

  stores_name_alive : (w : Storage) (first : Bool) (a : Address) (l : Leaf) (h : Held) → Alone (places.stores_name_alive st fr rest w first a l h)
  stores_name_alive w first a l Gone = same
  stores_name_alive w first a l (OfDead o) = same
  stores_name_alive w first a l Empty = stops_cond st.heap first _ _ tt same
  stores_name_alive w first a l (Full old) = tt

  unless_dead : (o : Option ObjectId) (w : Went) → Alone w → Alone (places.unless_dead st fr rest o w)
  unless_dead None w h = h
  unless_dead (Some o) w h = same

  stores_name : (w : Storage) (first : Bool) (a : Address) (l : Leaf) (h : Held) → Alone (places.stores_name st fr rest w first a l h)
  stores_name w first a l Gone = same
  stores_name w first a l (OfDead o) =
      unless_dead (find (is_dead_in st.heap) (object_in_leaf l)) (places.stores_name_alive st fr rest w first a l (OfDead o)) (stores_name_alive w first a l (OfDead o))
  stores_name w first a l Empty =
      unless_dead (find (is_dead_in st.heap) (object_in_leaf l)) (places.stores_name_alive st fr rest w first a l Empty) (stores_name_alive w first a l Empty)
  stores_name w first a l (Full old) =
      unless_dead (find (is_dead_in st.heap) (object_in_leaf l)) (places.stores_name_alive st fr rest w first a l (Full old)) (stores_name_alive w first a l (Full old))

  forgets_name : (w : Storage) (a : Address) (h : Held) → Alone (places.forgets_name st fr rest w a h)
  forgets_name w a Gone = same
  forgets_name w a (OfDead o) = same
  forgets_name w a Empty = same
  forgets_name w a (Full ls) = tt

  -- calls

  called : (g : FuncId) (values : List Carry) (addresses : List CarryAddress) (f : Option ReadyFunction)
      → Alone (rows.entered (record st { turns = st.turns + 1 }) fr g values addresses f)
  called g values addresses None = same
  called g values addresses (Some f) = tt

  calls : (g : FuncId) (values : List Carry) (addresses : List CarryAddress) → Alone (rows.calls_in ready bound st fr rest g values addresses)
  calls g values addresses =
      stops_enter bound st (λ after. rows.entered after fr g values addresses (slice_get ready.functions g.0)) (called g values addresses (slice_get ready.functions g.0))

  -- all instructions

  does : (o : ReadyOp) → Alone (rows.does ready bound st fr rest o)
  does (op.Look v) = tt
  does (op.Literal n to) = tt
  does (op.Function to) = tt
  does (op.Compute o w left right other to) = tt
  does (op.TrapWhereSet l) = stops_cond st.heap (is_set (int_among (contents st fr l))) _ _ same tt
  does (op.MakeObject k to) = stops_cond st.heap (is_some (class_at st.heap.declarations k)) _ _ tt same
  does (op.MakeSlot size to) = tt
  does (op.RemoveSlot a) = removes_home (address_in st fr a).is_part (address_in st fr a).home
  does (op.Same from to) = tt
  does (op.Retain l) = retains (objects_among (contents st fr l)) st.heap same
  does (op.Drop l) = drops (objects_among (contents st fr l))
  does (op.Load a to) = loads to (held_at st (address_in st fr a) to.size)
  does (op.Store from a) = stores (address_in st fr a) (contents st fr from) (held_at st (address_in st fr a) from.size)
  does (op.LoadName w takes a to) = loads_name w takes (address_in st fr a) to (held_at st (address_in st fr a) 1)
  does (op.StoreName w first from a) = stores_name w first (address_in st fr a) (name_of w (contents st fr from)) (held_at st (address_in st fr a) 1)
  does (op.ForgetName w a) = forgets_name w (address_in st fr a) (held_at st (address_in st fr a) 1)
  does (op.Group ls to) = tt
  does (op.Choose k payload to) = tt
  does (op.Member l from to) = tt
  does (op.MemberAddress a from to) = tt
  does (op.FieldAddress l k to) = field k (objects_among (contents st fr l)) to
  does (op.Call g operands values addresses to) = calls g values addresses
  does (op.CallOut g operands args to) =
      stops_turn bound st (λ after. gives (record after { events = after.events ++ event.Call g (map (λ l. int_among (contents st fr l)) args) ∷ [] }) fr rest to []) tt

  performs : (o : ReadyOp) → Alone (rows.performs ready bound st fr rest o)
  performs o = stops_with_all st fr (rows.read_by ready bound st fr rest o) (rows.does ready bound st fr rest o) (does o)

  -- terminators

  takes_edge : (e : ReadyEdge) → Alone (ends.takes_edge ready bound st fr rest e)
  takes_edge e =
      stops_with_all st fr (map ends.carried_value e.values) _
      (stops_turn bound st (λ after. Goes (ends.with_top ready bound st fr rest (carried after fr fr e.values) (ends.in_block fr e.block))) tt)

  takes_case : (ls : List Leaf) (c : Option ReadyCase) → Alone (ends.takes_case ready bound st fr rest ls c)
  takes_case ls None = same
  takes_case ls (Some c) =
      stops_turn bound st (λ after. Goes (ends.with_top ready bound st fr rest (ends.put_payload ready bound st fr rest c.payload ls after) (ends.in_block fr c.block))) tt

  leaves_run : (l : Local) (o : Option ObjectId) → Alone (ends.leaves_run ready bound st fr rest l o)
  leaves_run l None = same
  leaves_run l (Some o) = same

  given_back : (ls : List Leaf) (caller : Frame) (below : List Task) (to : Option Local) → Alone (ends.given_back ready bound st fr rest ls caller below to)
  given_back ls caller below None = same
  given_back ls caller below (Some to) = tt

  returns_to : (l : Local) (tasks : List Task) → Alone (ends.returns_to ready bound st fr rest l tasks)
  returns_to l [] = leaves_run l (find (is_dead_in st.heap) (objects_among (contents st fr l)))
  returns_to l (task.Runs caller ∷ below) = given_back (contents st fr l) caller below (ends.awaited ready caller)
  returns_to l (task.Drops from ∷ below) = tt
  returns_to l (task.Finishes o called ∷ below) = tt

  ends_with : (e : ReadyEnd) → Alone (ends.ends_with ready bound st fr rest e)
  ends_with (ready_end.Jump e) = takes_edge e
  ends_with (ready_end.Branch l set clear) =
      stops_with_all st fr (l.value ∷ []) _ (stops_cond st.heap (is_set (int_among (contents st fr l))) _ _ (takes_edge set) (takes_edge clear))
  ends_with (ready_end.Switch l cases) =
      stops_with_all st fr (l.value ∷ []) _ (takes_case (contents st fr l) (slice_get cases (ends.tag_in_leaf (first_leaf (contents st fr l)))))
  ends_with (ready_end.Return l) =
      stops_with_all st fr (l.value ∷ []) _ (stops_cond st.heap (length st.slots == fr.slots) _ _ (returns_to l rest) same)
  ends_with ready_end.Unreachable = same

  -- a frame

  acts : (b : ReadyBlock) (o : Option ReadyOp) → Alone (steps.acts ready bound st fr rest b o)
  acts b None = ends_with b.end
  acts b (Some o) = performs o

  runs_block : (b : Option ReadyBlock) → Alone (steps.runs_block ready bound st fr rest b)
  runs_block None = same
  runs_block (Some b) = acts b (slice_get b.ops fr.index)

  runs : Alone (steps.runs ready bound st fr rest)
  runs = runs_block (ends.block_at ready fr.function fr.block)

module _ (ready : ReadyModule) (bound : ℕ) (st : MachineView) where
  -- drops

  drops_last : (from : ℕ) (rest : List Task) (left : ℕ) (o : Option ObjectId) → StopsAlone st.heap (steps.drops_last ready bound st from rest left o)
  drops_last from rest left None = tt
  drops_last from rest left (Some o) =
      let dropped : MachineView = record st { waiting = take left st.waiting; tasks = steps.still_dropping ready bound from left rest } in
      stops_cond st.heap (is_dead_in st.heap o) _ _ (strongs_itself st.heap)
      (stops_cond st.heap (strong_in st.heap o == 0) _ _ (strongs_itself st.heap)
      (stops_cond st.heap (takes_last st.heap o) (steps.deinitialises ready bound (record dropped { heap = released st.heap o }) o)
      (Goes (record dropped { heap = released st.heap o })) (stops_cond st.heap (nat_lt st.turns bound) _ _ tt (released_alone st.heap o)) tt))

  -- deinitialisation

  deinit_entered : (g : FuncId) (o : ObjectId) (after : MachineView) (f : Option ReadyFunction) → StopsAlone after.heap (steps.deinit_entered ready bound g o after f)
  deinit_entered g o after None = strongs_itself after.heap
  deinit_entered g o after (Some f) = tt

  finishes : (o : ObjectId) (rest : List Task) → StopsAlone st.heap (steps.finishes ready bound (record st { tasks = rest }) o)
  finishes o rest =
      stops_cond st.heap (not (strong_in st.heap o == 0)) _ _ (strongs_itself st.heap)
      (stops_cond st.heap (steps.is_deiniting (phase_in st.heap o)) _ _ tt (strongs_itself st.heap))

  deinit_step : (o : ObjectId) (called : ℕ) (rest : List Task) (g : Option FuncId) → StopsAlone st.heap (steps.deinit_step ready bound st o called rest g)
  deinit_step o called rest None = finishes o rest
  deinit_step o called rest (Some g) =
      stops_enter bound (record st { tasks = task.Finishes o (called + 1) ∷ rest })
      (λ after. steps.deinit_entered ready bound g o after (slice_get ready.functions g.0))
      (deinit_entered g o (record st { tasks = task.Finishes o (called + 1) ∷ rest; turns = st.turns + 1 }) (slice_get ready.functions g.0))

  task_step : (tasks : List Task) → StopsAlone st.heap (steps.task_step ready bound st tasks)
  task_step [] = strongs_itself st.heap
  task_step (task.Runs fr ∷ rest) = runs ready bound st fr rest
  task_step (task.Drops from ∷ rest) = drops_last from rest (length st.waiting - 1) (slice_get st.waiting (length st.waiting - 1))
  task_step (task.Finishes o called ∷ rest) = deinit_step o called rest (slice_get (steps.class_of ready st.heap o).deinits called)

  -- whichever step it is
  pub stops_alone : StopsAlone st.heap (steps.machine_step ready bound st)
  stops_alone = task_step st.tasks

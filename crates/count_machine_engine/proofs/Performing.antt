-- Where an instruction leads: behind it, with or without a turn, before drops, or to a frame that it calls.
use Rattle.std.proofs.Common.{◌≡◌, ℕ, ◌+◌, ◌<◌, ◌==◌, Bool, true, false, ◌&&◌, cond, List, [], ◌∷◌, ◌++◌, Option, Some, None, length, refl, ◌∙◌}
use Rattle.std.specs.Prelude.{find, is_some, map, nat_le, slice_get}
use Rattle.count_heap.specs.HeapModel.HeapCalls.{retained}
use Rattle.count_heap.specs.HeapModel.HeapViews.{HeapView, is_dead_in}
use Rattle.holder_model.specs.Builtins.{is_set}
use Rattle.holder_model.specs.declared.event.Event.TheVariants as event
use Rattle.holder_model.specs.declared.lowered_run.low_fault.LowFault.TheVariants as fault
use Rattle.count_machine_model.specs.declared.ready_code.function.ReadyFunction.{ReadyFunction}
use Rattle.count_machine_model.specs.declared.ready_code.function.ReadyModule.{ReadyModule}
use Rattle.count_machine_model.specs.declared.ready_code.local.Carry.{Carry}
use Rattle.count_machine_model.specs.declared.ready_code.local.CarryAddress.{CarryAddress}
use Rattle.count_machine_model.specs.declared.ready_code.local.Local.{Local}
use Rattle.count_machine_model.specs.declared.ready_code.op.ReadyOp.{ReadyOp}
use Rattle.count_machine_model.specs.declared.ready_code.op.ReadyOp.TheVariants as op
use Rattle.holder_model_values.specs.declared.run_values.leaf.Leaf.{Leaf}
use Rattle.sil_ast.specs.declared.decl.Storage.{Storage}
use Rattle.sil_ast.specs.declared.decl.Storage.TheVariants as storage
use Rattle.sil_ast.specs.declared.place.FuncId.{FuncId}
use Rattle.sil_ast.specs.declared.place.ObjectId.{ObjectId}
use Rattle.sil_types_declarations.specs.TypeDefinitions.Lookups.{class_at}
use Rattle.count_machine_model.specs.declared.machine_steps.address.Address.{Address}
use Rattle.count_machine_model.specs.declared.machine_steps.address.Home.{Home}
use Rattle.count_machine_model.specs.declared.machine_steps.address.Home.TheVariants as home
use Rattle.count_machine_model.specs.declared.machine_steps.address.OpenSlot.{OpenSlot}
use Rattle.count_machine_model.specs.declared.machine_steps.frame.Frame.{Frame}
use Rattle.count_machine_model.specs.declared.machine_steps.frame.Task.{Task}
use Rattle.count_machine_model.specs.declared.machine_steps.frame.Task.TheVariants as task
use Rattle.count_machine_model.specs.MachineSteps.Calling.{addresses_carried, carried, new_frame, put_all, with_frame}
use Rattle.count_machine_model.specs.MachineSteps.Held.{Empty, Full, Gone, Held, OfDead, empty_by, empty_slot, held_at, slot_in, write_by, write_slot}
use Rattle.count_machine_model.specs.MachineSteps.Operands.{address_in, behind_op, contents, faults, gives, go_on, first_leaf, int_among, object_in_leaf, objects_among, put, put_address}
use Rattle.count_machine_model.specs.MachineSteps.Naming.{leaf_unnamed, name_of}
use Rattle.count_machine_model.specs.MachineSteps.Places as p
use Rattle.count_machine_model.specs.MachineSteps.Rows.{calls_in, does, entered, performs, read_by}
use Rattle.count_machine_model.specs.MachineSteps.Turning.{retains_all}
use Rattle.count_machine_model.specs.MachineSteps.Views.{MachineView, Went}
use Rattle.count_machine_engine.proofs.Onward.{OnGoing, on-cond, on-enter, on-turn, on-with_all}

-- values that are carried touch neither tasks nor turns

put_all-tasks : (st : MachineView) (to : Frame) (cs : List Carry) (lss : List (List Leaf)) → (put_all st to cs lss).tasks ≡ st.tasks
put_all-tasks st to [] lss = refl
put_all-tasks st to (c ∷ cs) [] = refl
put_all-tasks st to (c ∷ cs) (ls ∷ lss) = put_all-tasks (put st to c.to ls) to cs lss

put_all-turns : (st : MachineView) (to : Frame) (cs : List Carry) (lss : List (List Leaf)) → (put_all st to cs lss).turns ≡ st.turns
put_all-turns st to [] lss = refl
put_all-turns st to (c ∷ cs) [] = refl
put_all-turns st to (c ∷ cs) (ls ∷ lss) = put_all-turns (put st to c.to ls) to cs lss

pub carried-tasks : (st : MachineView) (from to : Frame) (cs : List Carry) → (carried st from to cs).tasks ≡ st.tasks
carried-tasks st from to cs = put_all-tasks st to cs (map (λ c. contents st from c.from) cs)

pub carried-turns : (st : MachineView) (from to : Frame) (cs : List Carry) → (carried st from to cs).turns ≡ st.turns
carried-turns st from to cs = put_all-turns st to cs (map (λ c. contents st from c.from) cs)

addresses_carried-tasks : (st : MachineView) (from to : Frame) (cs : List CarryAddress) → (addresses_carried st from to cs).tasks ≡ st.tasks
addresses_carried-tasks st from to [] = refl
addresses_carried-tasks st from to (c ∷ cs) = addresses_carried-tasks (put_address st to c.to (address_in st from c.from)) from to cs

addresses_carried-turns : (st : MachineView) (from to : Frame) (cs : List CarryAddress) → (addresses_carried st from to cs).turns ≡ st.turns
addresses_carried-turns st from to [] = refl
addresses_carried-turns st from to (c ∷ cs) = addresses_carried-turns (put_address st to c.to (address_in st from c.from)) from to cs

module _ (ready : ReadyModule) (bound : ℕ) (st : MachineView) (fr : Frame) (rest : List Task) (P : MachineView → Type 0)
    (behind : (after : MachineView) → after.turns ≡ st.turns → after.tasks ≡ task.Runs (behind_op fr) ∷ rest → P after)
    (before_drops : (after : MachineView) (from : ℕ) → after.turns ≡ st.turns → after.tasks ≡ task.Drops from ∷ task.Runs (behind_op fr) ∷ rest → P after)
    (behind_turn : (after : MachineView) → st.turns < bound → after.turns ≡ st.turns + 1 → after.tasks ≡ task.Runs (behind_op fr) ∷ rest → P after)
    (in_callee : (after : MachineView) (callee : Frame) → st.turns < bound → after.turns ≡ st.turns + 1 → after.tasks ≡ task.Runs callee ∷ st.tasks → P after)
  where
    -- objects

    retains : (os : List ObjectId) (h : HeapView) → OnGoing P (retains_all os (record st { heap = h }) (λ after. go_on after fr rest))
    retains [] h = behind _ refl refl
    retains (o ∷ os) h =
        on-cond P (is_dead_in h o) (faults (fault.Dead o) (record st { heap = h })) (retains_all os (record st { heap = retained h o }) (λ after. go_on after fr rest))
        (λ _. tt) (λ _. retains os (retained h o))

    drops : (os : List ObjectId) → OnGoing P (p.drops st fr rest os)
    drops [] = behind _ refl refl
    drops (o ∷ os) = before_drops _ (length st.waiting) refl refl

    field : (k : ℕ) (os : List ObjectId) (to : _) → OnGoing P (p.field_address st fr rest k os to)
    field k [] to = tt
    field k (x ∷ xs) to = on-cond P (is_dead_in st.heap x) _ _ (λ _. tt) (λ _. behind _ refl refl)

    -- places

    loads : (to : Local) (h : Held) → OnGoing P (p.loads st fr rest to h)
    loads to Gone = tt
    loads to (OfDead o) = tt
    loads to Empty = tt
    loads to (Full ls) = behind _ refl refl

    slot-kept : (index from : ℕ) (ls : List Leaf) (s : Option OpenSlot) (h : HeapView) → OnGoing P (go_on (write_slot (record st { heap = h }) index from ls s) fr rest)
    slot-kept index from ls None h = behind _ refl refl
    slot-kept index from ls (Some s) h = behind _ refl refl

    written : (h : HeapView) (a : Address) (ls : List Leaf) (at : Home) → OnGoing P (go_on (write_by (record st { heap = h }) a ls at) fr rest)
    written h a ls (home.Slot index serial) = slot-kept index a.from ls (slot_in st index serial) h
    written h a ls (home.Field o k) = behind _ refl refl

    stores : (a : Address) (ls : List Leaf) (h : Held) → OnGoing P (p.stores st fr rest a ls h)
    stores a ls Gone = tt
    stores a ls (OfDead o) = tt
    stores a ls Empty = on-cond P a.is_part _ _ (λ _. tt) (λ _. written st.heap a ls a.home)
    stores a ls (Full old) = written st.heap a ls a.home

    removes_slot : (index : ℕ) (s : Option OpenSlot) → OnGoing P (p.removes_slot st fr rest index s)
    removes_slot index None = tt
    removes_slot index (Some s) = on-cond P (index + 1 == length st.slots && nat_le fr.slots index) _ _ (λ _. behind _ refl refl) (λ _. tt)

    removes_home : (is_part : Bool) (h : Home) → OnGoing P (p.removes_home st fr rest is_part h)
    removes_home true h = tt
    removes_home false (home.Slot index serial) = removes_slot index (slot_in st index serial)
    removes_home false (home.Field o k) = tt

    -- storage

    weak_given : (after : MachineView) → after.turns ≡ st.turns → (to : Local) (xs : List ObjectId) → OnGoing P (p.weak_given st fr rest after to xs)
    weak_given after e to [] = behind _ e refl
    weak_given after e to (x ∷ xs) = on-cond P (p.is_live_in st fr rest x) _ _ (λ _. behind _ e refl) (λ _. behind _ e refl)

    unowned_given : (after : MachineView) → after.turns ≡ st.turns → (to : Local) (xs : List ObjectId) → OnGoing P (p.unowned_given st fr rest after to xs)
    unowned_given after e to [] = tt
    unowned_given after e to (x ∷ xs) = on-cond P (p.is_live_in st fr rest x) _ _ (λ _. behind _ e refl) (λ _. tt)

    given : (w : Storage) (after : MachineView) → after.turns ≡ st.turns → (to : Local) (xs : List ObjectId) → OnGoing P (p.given st fr rest w after to xs)
    given storage.Strong after e to xs = tt
    given storage.Weak after e to xs = weak_given after e to xs
    given storage.Unowned after e to xs = unowned_given after e to xs

    emptied_slot-turns : (after : MachineView) (index : ℕ) (s : Option OpenSlot) → (empty_slot after index s).turns ≡ after.turns
    emptied_slot-turns after index None = refl
    emptied_slot-turns after index (Some s) = refl

    emptied-turns : (after : MachineView) (at : Home) → (empty_by after at).turns ≡ after.turns
    emptied-turns after (home.Slot index serial) = emptied_slot-turns after index (slot_in after index serial)
    emptied-turns after (home.Field o k) = refl

    forgotten-turns : (w : Storage) (a : Address) (l : Leaf) → (p.forgotten st fr rest w a l).turns ≡ st.turns
    forgotten-turns w a l = emptied-turns (record st { heap = leaf_unnamed w l st.heap }) a.home

    perhaps_forgotten-turns : (takes : Bool) (w : Storage) (a : Address) (l : Leaf) → (cond takes (p.forgotten st fr rest w a l) st).turns ≡ st.turns
    perhaps_forgotten-turns true w a l = forgotten-turns w a l
    perhaps_forgotten-turns false w a l = refl

    loads_name : (w : Storage) (takes : Bool) (a : Address) (to : Local) (h : Held) → OnGoing P (p.loads_name st fr rest w takes a to h)
    loads_name w takes a to Gone = tt
    loads_name w takes a to (OfDead o) = tt
    loads_name w takes a to Empty = tt
    loads_name w takes a to (Full ls) =
        given w (cond takes (p.forgotten st fr rest w a (first_leaf ls)) st) (perhaps_forgotten-turns takes w a (first_leaf ls)) to (object_in_leaf (first_leaf ls))

    stores_name_alive : (w : Storage) (first : Bool) (a : Address) (l : Leaf) (h : Held) → OnGoing P (p.stores_name_alive st fr rest w first a l h)
    stores_name_alive w first a l Gone = tt
    stores_name_alive w first a l (OfDead o) = tt
    stores_name_alive w first a l Empty = on-cond P first _ _ (λ _. written _ a (l ∷ []) a.home) (λ _. tt)
    stores_name_alive w first a l (Full old) = written _ a (l ∷ []) a.home

    unless_dead : (o : Option ObjectId) (w : Went) → OnGoing P w → OnGoing P (p.unless_dead st fr rest o w)
    unless_dead None w h = h
    unless_dead (Some o) w h = tt

    stores_name : (w : Storage) (first : Bool) (a : Address) (l : Leaf) (h : Held) → OnGoing P (p.stores_name st fr rest w first a l h)
    stores_name w first a l Gone = tt
    stores_name w first a l (OfDead o) = unless_dead (find (is_dead_in st.heap) (object_in_leaf l)) (p.stores_name_alive st fr rest w first a l (OfDead o)) tt
    stores_name w first a l Empty =
        unless_dead (find (is_dead_in st.heap) (object_in_leaf l)) (p.stores_name_alive st fr rest w first a l Empty) (stores_name_alive w first a l Empty)
    stores_name w first a l (Full old) =
        unless_dead (find (is_dead_in st.heap) (object_in_leaf l)) (p.stores_name_alive st fr rest w first a l (Full old)) (stores_name_alive w first a l (Full old))

    forgets_name : (w : Storage) (a : Address) (h : Held) → OnGoing P (p.forgets_name st fr rest w a h)
    forgets_name w a Gone = tt
    forgets_name w a (OfDead o) = tt
    forgets_name w a Empty = tt
    forgets_name w a (Full ls) = behind _ (forgotten-turns w a (first_leaf ls)) refl

    -- calls

    called : st.turns < bound → (g : FuncId) (values : List Carry) (addresses : List CarryAddress) (f : Option ReadyFunction) →
        OnGoing P (entered (record st { turns = st.turns + 1 }) fr g values addresses f)
    called lt g values addresses None = tt
    called lt g values addresses (Some f) =
        let turned : MachineView = record st { turns = st.turns + 1 } in
        let at = new_frame turned g in
        let framed = with_frame turned g f in
        let filled = carried framed fr at values in
        in_callee _ at lt (addresses_carried-turns filled fr at addresses ∙ carried-turns framed fr at values)
        (addresses_carried-tasks filled fr at addresses ∙ carried-tasks framed fr at values)

    calls : (g : FuncId) (values : List Carry) (addresses : List CarryAddress) → OnGoing P (calls_in ready bound st fr rest g values addresses)
    calls g values addresses = on-enter P bound st (λ after. entered after fr g values addresses (slice_get ready.functions g.0)) (λ lt. called lt g values addresses (slice_get ready.functions g.0))

    -- all instructions

    on-does : (o : ReadyOp) → OnGoing P (does ready bound st fr rest o)
    on-does (op.Look v) = behind _ refl refl
    on-does (op.Literal n to) = behind _ refl refl
    on-does (op.Function to) = behind _ refl refl
    on-does (op.Compute o w left right other to) = behind _ refl refl
    on-does (op.TrapWhereSet l) = on-cond P (is_set (int_among (contents st fr l))) _ _ (λ _. tt) (λ _. behind _ refl refl)
    on-does (op.MakeObject k to) = on-cond P (is_some (class_at st.heap.declarations k)) _ _ (λ _. behind _ refl refl) (λ _. tt)
    on-does (op.MakeSlot size to) = behind _ refl refl
    on-does (op.RemoveSlot a) = removes_home (address_in st fr a).is_part (address_in st fr a).home
    on-does (op.Same from to) = behind _ refl refl
    on-does (op.Retain l) = retains (objects_among (contents st fr l)) st.heap
    on-does (op.Drop l) = drops (objects_among (contents st fr l))
    on-does (op.Load a to) = loads to (held_at st (address_in st fr a) to.size)
    on-does (op.Store from a) = stores (address_in st fr a) (contents st fr from) (held_at st (address_in st fr a) from.size)
    on-does (op.LoadName w takes a to) = loads_name w takes (address_in st fr a) to (held_at st (address_in st fr a) 1)
    on-does (op.StoreName w first from a) = stores_name w first (address_in st fr a) (name_of w (contents st fr from)) (held_at st (address_in st fr a) 1)
    on-does (op.ForgetName w a) = forgets_name w (address_in st fr a) (held_at st (address_in st fr a) 1)
    on-does (op.Group ls to) = behind _ refl refl
    on-does (op.Choose k payload to) = behind _ refl refl
    on-does (op.Member l from to) = behind _ refl refl
    on-does (op.MemberAddress a from to) = behind _ refl refl
    on-does (op.FieldAddress l k to) = field k (objects_among (contents st fr l)) to
    on-does (op.Call g operands values addresses to) = calls g values addresses
    on-does (op.CallOut g operands args to) = on-turn P bound st
        (λ after. gives (record after { events = after.events ++ event.Call g (map (λ l. int_among (contents st fr l)) args) ∷ [] }) fr rest to [])
        (λ lt. behind_turn _ lt refl refl)

    pub on-performs : (o : ReadyOp) → OnGoing P (performs ready bound st fr rest o)
    on-performs o = on-with_all P st fr (read_by ready bound st fr rest o) (does ready bound st fr rest o) (on-does o)

-- Storage that is emptied, and what it gives.
use Rattle.std.proofs.Common.{◌≡◌, ℕ, Bool, true, false, cond, List, [], ◌∷◌, Option, Some, None, refl, ap, ◌∙◌}
use Rattle.std.specs.Prelude.{IfSome, is_none}
use Rattle.count_machine_model.specs.count_heap.HeapModel.HeapViews.{HeapView, is_dead_in, phase_in}
use Rattle.count_machine_model.specs.MachineSteps.Held.{empty_by, empty_slot, slot_in}
use Rattle.count_machine_model.specs.MachineSteps.Naming.{leaf_unnamed, none_leaves, some_leaves}
use Rattle.count_machine_model.specs.MachineSteps.Operands.{gives, object_in_leaf}
use Rattle.count_machine_model.specs.MachineSteps.Places.{forgotten, given, retained_and}
use Rattle.count_machine_model.specs.MachineSteps.Views.{MachineView, Stops}
use Rattle.count_machine_model.specs.declared.machine_steps.address.Address.{Address}
use Rattle.count_machine_model.specs.declared.machine_steps.address.Home.{Home}
use Rattle.count_machine_model.specs.declared.machine_steps.address.Home.TheVariants as home
use Rattle.count_machine_model.specs.declared.machine_steps.address.OpenSlot.{OpenSlot}
use Rattle.count_machine_model.specs.declared.machine_steps.frame.Frame.{Frame}
use Rattle.count_machine_model.specs.declared.machine_steps.frame.Task.{Task}
use Rattle.count_machine_model.specs.declared.machine_steps.run_end.RunEnd.TheVariants as end
use Rattle.count_machine_model.specs.declared.ready_code.local.Local.{Local}
use Rattle.holder_model_values.specs.RunValues.Memory.{is_dead_phase, is_live_phase}
use Rattle.holder_model_values.specs.declared.run_values.leaf.Leaf.{Leaf}
use Rattle.holder_model_values.specs.declared.run_values.leaf.Leaf.TheVariants as leaf
use Rattle.holder_model_values.specs.declared.run_values.phase.Phase.{Phase}
use Rattle.holder_model_values.specs.declared.run_values.phase.Phase.TheVariants as phase
use Rattle.sil_ast.specs.declared.decl.Storage.{Storage}
use Rattle.sil_ast.specs.declared.decl.Storage.TheVariants as storage
use Rattle.sil_ast.specs.declared.place.ObjectId.{ObjectId}
use Rattle.count_machine_state.specs.inner.NameHeld.{is_live_in, live_of}
use Rattle.count_machine_rows.specs.inner.LiveGiven.{is_strong, live_given, traps_at, unowned_by, weak_by}
use Rattle.count_machine_rows.proofs.Phases.{leaf_unnamed-phase, without_field-phase}

-- the tasks stay, and the phases of objects

emptied_slot-tasks : (st : MachineView) (index : ℕ) (s : Option OpenSlot) → (empty_slot st index s).tasks ≡ st.tasks
emptied_slot-tasks st index None = refl
emptied_slot-tasks st index (Some s) = refl

emptied_slot-heap : (st : MachineView) (index : ℕ) (s : Option OpenSlot) → (empty_slot st index s).heap ≡ st.heap
emptied_slot-heap st index None = refl
emptied_slot-heap st index (Some s) = refl

emptied-tasks : (st : MachineView) (h : Home) → (empty_by st h).tasks ≡ st.tasks
emptied-tasks st (home.Slot index serial) = emptied_slot-tasks st index (slot_in st index serial)
emptied-tasks st (home.Field o k) = refl

emptied-phase : (st : MachineView) (h : Home) (x : ObjectId) → phase_in (empty_by st h).heap x ≡ phase_in st.heap x
emptied-phase st (home.Slot index serial) x = ap (λ (h : HeapView). phase_in h x) (emptied_slot-heap st index (slot_in st index serial))
emptied-phase st (home.Field o k) x = without_field-phase x st.heap o k

module _ (st : MachineView) (fr : Frame) (rest : List Task) (w : Storage) (a : Address) (l : Leaf) where
  abbrev unnamed : MachineView
  unnamed = record st { heap = leaf_unnamed w l st.heap }

  abbrev after : Bool → MachineView
  after takes = cond takes (forgotten st fr rest w a l) st

  pub after-tasks : (takes : Bool) → (after takes).tasks ≡ st.tasks
  after-tasks true = emptied-tasks unnamed a.home
  after-tasks false = refl

  after-phase : (takes : Bool) (x : ObjectId) → phase_in (after takes).heap x ≡ phase_in st.heap x
  after-phase true x = emptied-phase unnamed a.home x ∙ leaf_unnamed-phase x w l st.heap
  after-phase false x = refl

  live_alive : (p : Phase) → is_live_phase p ≡ true → is_dead_phase p ≡ false
  live_alive phase.Live e = refl
  live_alive phase.Deiniting e = refl
  live_alive phase.Dead e = cc

  -- a live object of the leaf isn't dead then

  found_alive : (takes : Bool) (x : ObjectId) (b : Bool) → is_live_in st.heap x ≡ b → IfSome (cond b (Some x) None) (λ o. is_dead_in (after takes).heap o ≡ false)
  found_alive takes x true e = ap is_dead_phase (after-phase takes x) ∙ live_alive (phase_in st.heap x) e
  found_alive takes x false e = tt

  alive_by : (takes : Bool) (k : Leaf) → IfSome (live_of st.heap k) (λ o. is_dead_in (after takes).heap o ≡ false)
  alive_by takes (leaf.Int n) = tt
  alive_by takes (leaf.Object x) = found_alive takes x (is_live_in st.heap x) refl
  alive_by takes (leaf.Tag k) = tt
  alive_by takes leaf.Blank = tt

  pub live_still : (takes : Bool) → IfSome (live_of st.heap l) (λ o. is_dead_in (after takes).heap o ≡ false)
  live_still takes = alive_by takes l

-- what storage gives, by the live object of its leaf
module _ (st : MachineView) (fr : Frame) (rest : List Task) (next : MachineView) (to : Local) where
  weak_told : (b : Bool) (x : ObjectId) →
      cond b (retained_and st fr rest next to (some_leaves x) x) (gives next fr rest to none_leaves) ≡ weak_by next fr to (cond b (Some x) None) rest
  weak_told true x = refl
  weak_told false x = refl

  unowned_told : (b : Bool) (x : ObjectId) → is_none (cond b (Some x) None) ≡ false →
      cond b (retained_and st fr rest next to (leaf.Object x ∷ []) x) (Stops end.Unowned st) ≡ unowned_by next fr to (cond b (Some x) None) rest
  unowned_told true x e = refl
  unowned_told false x e = cc

  pub given_told : (w : Storage) (l : Leaf) → is_strong w ≡ false → traps_at w (live_of st.heap l) ≡ false
      → given st fr rest w next to (object_in_leaf l) ≡ live_given w next fr to (live_of st.heap l) rest
  given_told storage.Strong l e goes = cc
  given_told storage.Weak (leaf.Int n) e goes = refl
  given_told storage.Weak (leaf.Object x) e goes = weak_told (is_live_in st.heap x) x
  given_told storage.Weak (leaf.Tag k) e goes = refl
  given_told storage.Weak leaf.Blank e goes = refl
  given_told storage.Unowned (leaf.Int n) e goes = cc
  given_told storage.Unowned (leaf.Object x) e goes = unowned_told (is_live_in st.heap x) x goes
  given_told storage.Unowned (leaf.Tag k) e goes = cc
  given_told storage.Unowned leaf.Blank e goes = cc

  -- where the program traps
  trapped_told : (b : Bool) (x : ObjectId) → is_none (cond b (Some x) None) ≡ true →
      cond b (retained_and st fr rest next to (leaf.Object x ∷ []) x) (Stops end.Unowned st) ≡ Stops end.Unowned st
  trapped_told true x e = cc
  trapped_told false x e = refl

  pub traps_told : (w : Storage) (l : Leaf) → traps_at w (live_of st.heap l) ≡ true → given st fr rest w next to (object_in_leaf l) ≡ Stops end.Unowned st
  traps_told storage.Strong l traps = cc
  traps_told storage.Weak l traps = cc
  traps_told storage.Unowned (leaf.Int n) traps = refl
  traps_told storage.Unowned (leaf.Object x) traps = trapped_told (is_live_in st.heap x) x traps
  traps_told storage.Unowned (leaf.Tag k) traps = refl
  traps_told storage.Unowned leaf.Blank traps = refl

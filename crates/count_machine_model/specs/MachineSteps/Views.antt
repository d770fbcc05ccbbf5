-- The state of the counting machine.
use Rattle.std.specs.Prelude.{ℕ, List, Bool}
use Rattle.holder_model.specs.declared.event.Event.{Event}
use Rattle.count_heap.specs.HeapModel.HeapViews.{HeapView}
use Rattle.holder_model.specs.holder_model_values.declared.run_values.leaf.Leaf.{Leaf}
use Rattle.sil_ast.specs.declared.place.ObjectId.{ObjectId}
use Rattle.count_machine_model.specs.declared.machine_steps.address.Address.{Address}
use Rattle.count_machine_model.specs.declared.machine_steps.address.OpenSlot.{OpenSlot}
use Rattle.count_machine_model.specs.declared.machine_steps.frame.Task.{Task}
use Rattle.count_machine_model.specs.declared.machine_steps.run_end.RunEnd.{RunEnd}

pub record MachineView : Type 0 where
  -- the one that goes on comes first
  pub tasks : List Task
  -- of all frames, the newest behind: which values are there, their leaves, and their addresses
  pub there : List Bool
  pub leaves : List Leaf
  pub addresses : List Address
  -- the open slots of all frames, and their leaves
  pub slots : List OpenSlot
  pub slot_leaves : List Leaf
  -- references that wait to be dropped, the next one last
  pub waiting : List ObjectId
  pub heap : HeapView
  pub events : List Event
  pub turns : ℕ
  -- how many slots there were
  pub serials : ℕ

-- a step leads on, or stops the machine
pub data Went : Type 0 where
  Goes : (st : MachineView) → Went
  Stops : (end : RunEnd) (st : MachineView) → Went

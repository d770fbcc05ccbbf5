-- What a change of memory leaves: memory and the machine agree, what was made is there still, and the frames are untouched.
use Rattle.std.proofs.Common.{◌≡◌, ◌<◌, List, length, map}
use Rattle.count_machine_model.specs.holder_model.Outcomes.{Numbers}
use Rattle.count_machine_model.specs.MachineSteps.Views.{MachineView}
use Rattle.holder_model_values.specs.RunValues.Memory.{Memory, object_at}
use Rattle.sil_ast.specs.declared.module.Module.{Module}
use Rattle.sil_ast.specs.declared.place.ObjectId.{ObjectId}
use Rattle.count_machine_laws.proofs.Grows.{Grows}
use Rattle.count_machine_laws.proofs.GrowsBy.{serial_of}
use Rattle.count_machine_laws.proofs.Memories.{MemoryAgrees}
use Rattle.count_machine_laws.proofs.Slots.{Made}

-- all but slots and objects is the same in the machine
pub record SameFrames (st st' : MachineView) : Type 0 where
  pub tasks : st'.tasks ≡ st.tasks
  pub there : st'.there ≡ st.there
  pub leaves : st'.leaves ≡ st.leaves
  pub addresses : st'.addresses ≡ st.addresses
  pub waiting : st'.waiting ≡ st.waiting
  pub events : st'.events ≡ st.events
  pub turns : st'.turns ≡ st.turns
  pub retains : st'.heap.retains ≡ st.heap.retains
  pub releases : st'.heap.releases ≡ st.heap.releases

pub record Changes (m : Module) (made : List Made) (mem : Memory) (st : MachineView) (mem' : Memory) (numbers' : List Numbers) (st' : MachineView) : Type 0 where
  pub made' : List Made
  pub agrees : MemoryAgrees m made' mem' numbers' st'
  pub grows : Grows m made mem st.slots made' mem' st'.slots
  pub phases : (o : ObjectId) → o.0 < length mem.objects → (object_at mem' o).phase ≡ (object_at mem o).phase
  pub frames : SameFrames st st'

-- the slots of the machine are the same, but for whether they are full
abbrev pub SameSlots : MachineView → MachineView → Type 0
SameSlots st st' = map serial_of st'.slots ≡ map serial_of st.slots

pub record HasChanged (m : Module) (made : List Made) (mem : Memory) (st : MachineView) (mem' : Memory) (numbers' : List Numbers) (st' : MachineView) : Type 0 where
  pub changes : Changes m made mem st mem' numbers' st'
  pub slots : SameSlots st st'

-- The memory of a run of lowered code with its stored numbers, and that of the machine.
use Rattle.std.proofs.Common.{◌≡◌, ℕ, List, length}
use Rattle.count_machine_model.specs.holder_model.Outcomes.{Numbers}
use Rattle.count_machine_model.specs.declared.machine_steps.address.Address.{Address}
use Rattle.count_machine_model.specs.declared.machine_steps.address.Home.TheVariants as home
use Rattle.count_machine_model.specs.declared.machine_steps.address.OpenSlot.{OpenSlot}
use Rattle.count_machine_model.specs.MachineSteps.Views.{MachineView}
use Rattle.holder_model_values.specs.RunValues.Memory.{Memory}
use Rattle.holder_model_values.specs.RunValues.Places.{Place}
use Rattle.sil_ast.specs.declared.module.Module.{Module}
use Rattle.sil_ast.specs.declared.place.ObjectId.{ObjectId}
use Rattle.sil_types_declarations.specs.TypeDefinitions.Declarations.{declarations_of}
use Rattle.count_machine_laws.proofs.Objects.{NamesField, ObjectsAgree, is_of_class}
use Rattle.count_machine_laws.proofs.Slots.{Made, NamesSlot, SlotsAgree, stack_of}

-- the memory, with the slots that were made so far
pub record MemoryAgrees (m : Module) (made : List Made) (mem : Memory) (numbers : List Numbers) (st : MachineView) : Type 0 where
  pub stack : mem.stack ≡ stack_of made
  pub serials : st.serials ≡ length made
  pub slots : SlotsAgree (is_of_class m mem) made st.slots st.slot_leaves
  pub objects : ObjectsAgree m (is_of_class m mem) mem.objects numbers st.heap.objects
  pub declared : st.heap.declarations ≡ declarations_of m

-- an address names a place
pub data NamesPlace (m : Module) (made : List Made) (slots : List OpenSlot) (mem : Memory) (a : Address) (p : Place) : Type 0 where
  in_slot : (index serial : ℕ) → a.home ≡ home.Slot index serial → NamesSlot made slots index serial a p → NamesPlace m made slots mem a p
  in_field : (o : ObjectId) (k : ℕ) → a.home ≡ home.Field o k → NamesField m mem o k a p → NamesPlace m made slots mem a p
